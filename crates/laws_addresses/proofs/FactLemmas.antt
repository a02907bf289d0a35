-- The facts on addresses are kept where each that holds an address held it, or makes a machine with those that it is
-- wanted with.
use Rattle.std.proofs.Common.{◌≡◌, ℕ, Bool, true, false, ◌==◌, ◌&&◌, Some, None, refl, ap, sym, ◌∙◌, inl, inr, arith}
use Rattle.std.specs.Prelude.{◌⊎◌, not, ◌||◌, eqb}
use Rattle.std.specs.List.{list_any}
use Rattle.std.specs.Str.{bytes_eq}
use Rattle.std.proofs.lemmas.Bool.Decides.{eqb_tells}
use Rattle.bosh_base.specs.declared.inst.Inst.{Inst}
use Rattle.bosh_base.specs.declared.make.Make.{Make}
use Rattle.laws_facts.specs.Addresses.{AddressFacts, Holder, Recorded, Machine, Wanted, Free, dep_of_holder, has_each_once, holds_address, is_of_one_deployment, is_one_recorded, is_one_wanted, make_held, may_take_over}
use Rattle.laws_facts.specs.Owners.{works}
use Rattle.laws_row_facts.specs.Words.{where_any}
use Rattle.bosh_history.specs.Goals.{is_in}
use Rattle.bosh_history.specs.Moments.{Moment}
use Rattle.bosh_history.specs.Sound.{addrs, has_addr}
use Rattle.bosh_rows.specs.SoundSnapshot.{are_distinct}
use Rattle.bosh_rows.proofs.SameLemmas.{same_inst_tells}
use Rattle.bosh_rows.specs.Same.{same_inst}

-- ---- where an address comes from

-- what one holds now, another held before, in the same deployment
pub record ComesFrom (old new : Moment) (x from : Holder) : Type 0 where
  pub held : (a : ℕ) → holds_address new x a ≡ true → holds_address old from a ≡ true
  pub once : has_each_once old from ≡ true → has_each_once new x ≡ true
  pub dep : (a : ℕ) → holds_address new x a ≡ true → dep_of_holder new.known x ≡ dep_of_holder old.known from

-- with the same make it holds the same
pub as_was : (old new : Moment) (x from : Holder) → make_held new x ≡ make_held old from
    → dep_of_holder new.known x ≡ dep_of_holder old.known from → ComesFrom old new x from
as_was old new x from make dep = record {
  held = λ a is. (λ i. has_addr a (sym make i)) ∙ is;
  once = λ is. (λ i. where_any (λ it. are_distinct eqb (addrs it)) (make i)) ∙ is;
  dep = λ a is. dep;
}

-- with a make of the same addresses too
pub as_addrs : (old new : Moment) (x from : Holder) (made make : Make) → make_held new x ≡ Some made
    → make_held old from ≡ Some make → addrs made ≡ addrs make
    → dep_of_holder new.known x ≡ dep_of_holder old.known from → ComesFrom old new x from
as_addrs old new x from made make now then same dep = record {
  held = λ a is.
      (λ i. has_addr a (then i)) ∙ (λ i. list_any (λ b. b == a) (sym same i)) ∙ sym (λ i. has_addr a (now i)) ∙ is;
  once = λ is.
      (λ i. where_any (λ it. are_distinct eqb (addrs it)) (now i))
      ∙ (λ i. are_distinct eqb (same i))
      ∙ sym (λ i. where_any (λ it. are_distinct eqb (addrs it)) (then i))
      ∙ is;
  dep = λ a is. dep;
}

-- with none it holds nothing
pub none_now : (old new : Moment) (x from : Holder) → make_held new x ≡ None → ComesFrom old new x from
none_now old new x from none = record {
  held = λ a is. absurd (grind (arith, sym (λ i. has_addr a (none i)) ∙ is));
  once = λ is. (λ i. where_any (λ it. are_distinct eqb (addrs it)) (none i));
  dep = λ a is. absurd (grind (arith, sym (λ i. has_addr a (none i)) ∙ is));
}

-- a machine is made for an instance: it has the addresses of the row of the goal, and nobody else's is recorded with
-- one
pub record TakesRow (old new : Moment) (i : Inst) : Type 0 where
  pub comes : ComesFrom old new (Recorded i) (Wanted i)
  pub alone : (a : ℕ) (y : Holder) → holds_address old (Wanted i) a ≡ true → holds_address old y a ≡ true
      → is_one_recorded (Recorded i) y ≡ true

-- each holds what it held, or what it was wanted with
pub record Comes (old new : Moment) : Type 0 where
  pub rows : (i : Inst) → ComesFrom old new (Recorded i) (Recorded i) ⊎ TakesRow old new i
  pub slots : (t s : ℕ) → ComesFrom old new (Machine t s) (Machine t s) ⊎ ComesFrom old new (Machine t s) (Free t s)
  pub wanted : (i : Inst) → ComesFrom old new (Wanted i) (Wanted i)
  pub free : (t s : ℕ) → ComesFrom old new (Free t s) (Free t s)
  pub works : (a t s : ℕ) → holds_address old (Machine t s) a ≡ true → works new t ≡ true → works old t ≡ true
  pub stays : (i : Inst) → is_in (new.known.goal i.dep) i ≡ true → is_in (old.known.goal i.dep) i ≡ true

-- ---- one recorded, the other way round

numbers_flip : (t s other slot : ℕ) → (t == other && s == slot) ≡ true → (other == t && slot == s) ≡ true
numbers_flip t s other slot is = grind (
  arith,
  is,
  eqb_tells t other,
  eqb_tells s slot,
  eqb_tells other t,
  eqb_tells slot s,
)

inst_flip : (i j : Inst) → same_inst i j ≡ true → same_inst j i ≡ true
inst_flip i j is = grind (arith, is, same_inst_tells i j, same_inst_tells j i)

module _ (old new : Moment) (facts : AddressFacts old) (comes : Comes old new) where
  -- the one that had the address
  origin : (x : Holder) → (from : Holder) × ComesFrom old new x from
  origin (Recorded i) = by (comes.rows i)
    where
      by : ComesFrom old new (Recorded i) (Recorded i) ⊎ TakesRow old new i
          → (from : Holder) × ComesFrom old new (Recorded i) from
      by (inl same) = (Recorded i, same)
      by (inr takes) = (Wanted i, takes.comes)
  origin (Machine t s) = by (comes.slots t s)
    where
      by : ComesFrom old new (Machine t s) (Machine t s) ⊎ ComesFrom old new (Machine t s) (Free t s)
          → (from : Holder) × ComesFrom old new (Machine t s) from
      by (inl same) = (Machine t s, same)
      by (inr takes) = (Free t s, takes)
  origin (Wanted i) = (Wanted i, comes.wanted i)
  origin (Free t s) = (Free t s, comes.free t s)

  -- no holder has an address twice
  once_now : (x : Holder) → has_each_once new x ≡ true
  once_now x = (origin x).1.once (facts.each_once (origin x).0)

  -- the holders of an address are of one deployment
  deployment_now : (a : ℕ) (x y : Holder) → holds_address new x a ≡ true → holds_address new y a ≡ true
      → is_of_one_deployment new.known x y ≡ true
  deployment_now a x y here there =
      (λ i. bytes_eq ((origin x).1.dep a here i) ((origin y).1.dep a there i))
      ∙ facts.one_deployment a (origin x).0 (origin y).0 ((origin x).1.held a here) ((origin y).1.held a there)

  -- one at most is recorded
  rows_apart : (a : ℕ) (i j : Inst) → ComesFrom old new (Recorded i) (Recorded i) ⊎ TakesRow old new i
      → ComesFrom old new (Recorded j) (Recorded j) ⊎ TakesRow old new j
      → holds_address new (Recorded i) a ≡ true → holds_address new (Recorded j) a ≡ true → same_inst i j ≡ true
  rows_apart a i j (inl one) (inl two) here there =
      facts.one_recorded a (Recorded i) (Recorded j) (one.held a here) (two.held a there)
  rows_apart a i j (inl one) (inr two) here there =
      inst_flip j i (two.alone a (Recorded i) (two.comes.held a there) (one.held a here))
  rows_apart a i j (inr one) (inl two) here there =
      one.alone a (Recorded j) (one.comes.held a here) (two.held a there)
  rows_apart a i j (inr one) (inr two) here there =
      facts.one_wanted a (Wanted i) (Wanted j) (one.comes.held a here) (two.comes.held a there)

  row_and_slot : (a : ℕ) (i : Inst) (t s : ℕ) → ComesFrom old new (Recorded i) (Recorded i) ⊎ TakesRow old new i
      → ComesFrom old new (Machine t s) (Machine t s) ⊎ ComesFrom old new (Machine t s) (Free t s)
      → holds_address new (Recorded i) a ≡ true → holds_address new (Machine t s) a ≡ true → false ≡ true
  row_and_slot a i t s (inl one) (inl two) here there =
      facts.one_recorded a (Recorded i) (Machine t s) (one.held a here) (two.held a there)
  row_and_slot a i t s (inl one) (inr two) here there =
      facts.take_over a (Recorded i) (Free t s) (one.held a here) (two.held a there)
  row_and_slot a i t s (inr one) (inl two) here there =
      one.alone a (Machine t s) (one.comes.held a here) (two.held a there)
  row_and_slot a i t s (inr one) (inr two) here there =
      facts.one_wanted a (Wanted i) (Free t s) (one.comes.held a here) (two.held a there)

  slots_apart : (a t s other slot : ℕ)
      → ComesFrom old new (Machine t s) (Machine t s) ⊎ ComesFrom old new (Machine t s) (Free t s)
      → ComesFrom old new (Machine other slot) (Machine other slot)
      ⊎ ComesFrom old new (Machine other slot) (Free other slot)
      → holds_address new (Machine t s) a ≡ true → holds_address new (Machine other slot) a ≡ true
      → (t == other && s == slot) ≡ true
  slots_apart a t s other slot (inl one) (inl two) here there =
      facts.one_recorded a (Machine t s) (Machine other slot) (one.held a here) (two.held a there)
  slots_apart a t s other slot (inl one) (inr two) here there =
      facts.take_over a (Machine t s) (Free other slot) (one.held a here) (two.held a there)
  slots_apart a t s other slot (inr one) (inl two) here there =
      numbers_flip other slot t s
      (facts.take_over a (Machine other slot) (Free t s) (two.held a there) (one.held a here))
  slots_apart a t s other slot (inr one) (inr two) here there =
      facts.one_wanted a (Free t s) (Free other slot) (one.held a here) (two.held a there)

  recorded_now : (a : ℕ) (x y : Holder) → holds_address new x a ≡ true → holds_address new y a ≡ true
      → is_one_recorded x y ≡ true
  recorded_now a (Recorded i) (Recorded j) here there = rows_apart a i j (comes.rows i) (comes.rows j) here there
  recorded_now a (Recorded i) (Machine t s) here there =
      row_and_slot a i t s (comes.rows i) (comes.slots t s) here there
  recorded_now a (Recorded i) (Wanted j) here there = refl
  recorded_now a (Recorded i) (Free t s) here there = refl
  recorded_now a (Machine t s) (Recorded i) here there =
      row_and_slot a i t s (comes.rows i) (comes.slots t s) there here
  recorded_now a (Machine t s) (Machine other slot) here there =
      slots_apart a t s other slot (comes.slots t s) (comes.slots other slot) here there
  recorded_now a (Machine t s) (Wanted j) here there = refl
  recorded_now a (Machine t s) (Free other slot) here there = refl
  recorded_now a (Wanted i) y here there = refl
  recorded_now a (Free t s) y here there = refl

  -- one at most is wanted
  wanted_now : (a : ℕ) (x y : Holder) → holds_address new x a ≡ true → holds_address new y a ≡ true
      → is_one_wanted x y ≡ true
  wanted_now a (Wanted i) (Wanted j) here there =
      facts.one_wanted a (Wanted i) (Wanted j) ((comes.wanted i).held a here) ((comes.wanted j).held a there)
  wanted_now a (Wanted i) (Free t s) here there =
      facts.one_wanted a (Wanted i) (Free t s) ((comes.wanted i).held a here) ((comes.free t s).held a there)
  wanted_now a (Free t s) (Wanted i) here there =
      facts.one_wanted a (Free t s) (Wanted i) ((comes.free t s).held a here) ((comes.wanted i).held a there)
  wanted_now a (Free t s) (Free other slot) here there =
      facts.one_wanted a (Free t s) (Free other slot) ((comes.free t s).held a here)
      ((comes.free other slot).held a there)
  wanted_now a (Wanted i) (Recorded j) here there = refl
  wanted_now a (Wanted i) (Machine t s) here there = refl
  wanted_now a (Free t s) (Recorded j) here there = refl
  wanted_now a (Free t s) (Machine other slot) here there = refl
  wanted_now a (Recorded i) y here there = refl
  wanted_now a (Machine t s) y here there = refl

  -- an address is taken over only from one that goes before
  row_takes : (a : ℕ) (i j : Inst) → ComesFrom old new (Recorded i) (Recorded i) ⊎ TakesRow old new i
      → holds_address new (Recorded i) a ≡ true → holds_address new (Wanted j) a ≡ true
      → (same_inst i j || not (is_in (new.known.goal i.dep) i)) ≡ true
  row_takes a i j (inl one) here there =
      grind (
        arith,
        facts.take_over a (Recorded i) (Wanted j) (one.held a here) ((comes.wanted j).held a there),
        comes.stays i,
      )
  row_takes a i j (inr one) here there =
      grind (
        arith,
        facts.one_wanted a (Wanted i) (Wanted j) (one.comes.held a here) ((comes.wanted j).held a there),
      )

  row_no_slot : (a : ℕ) (i : Inst) (t s : ℕ) → ComesFrom old new (Recorded i) (Recorded i) ⊎ TakesRow old new i
      → holds_address new (Recorded i) a ≡ true → holds_address new (Free t s) a ≡ true → false ≡ true
  row_no_slot a i t s (inl one) here there =
      facts.take_over a (Recorded i) (Free t s) (one.held a here) ((comes.free t s).held a there)
  row_no_slot a i t s (inr one) here there =
      facts.one_wanted a (Wanted i) (Free t s) (one.comes.held a here) ((comes.free t s).held a there)

  slot_takes : (a t s other slot : ℕ)
      → ComesFrom old new (Machine t s) (Machine t s) ⊎ ComesFrom old new (Machine t s) (Free t s)
      → holds_address new (Machine t s) a ≡ true → holds_address new (Free other slot) a ≡ true
      → (t == other && s == slot) ≡ true
  slot_takes a t s other slot (inl one) here there =
      facts.take_over a (Machine t s) (Free other slot) (one.held a here) ((comes.free other slot).held a there)
  slot_takes a t s other slot (inr one) here there =
      facts.one_wanted a (Free t s) (Free other slot) (one.held a here) ((comes.free other slot).held a there)

  slot_rests : (a t s : ℕ) (j : Inst)
      → ComesFrom old new (Machine t s) (Machine t s) ⊎ ComesFrom old new (Machine t s) (Free t s)
      → holds_address new (Machine t s) a ≡ true → holds_address new (Wanted j) a ≡ true
      → not (works new t) ≡ true
  slot_rests a t s j (inl one) here there = by (works new t) refl
    where
      was : not (works old t) ≡ true
      was = facts.take_over a (Machine t s) (Wanted j) (one.held a here) ((comes.wanted j).held a there)

      by : (b : Bool) → works new t ≡ b → not (works new t) ≡ true
      by true is = absurd (grind (arith, (λ i. not (sym (comes.works a t s (one.held a here) is) i)) ∙ was))
      by false is = ap not is
  slot_rests a t s j (inr one) here there =
      absurd (grind
      (arith, facts.one_wanted a (Free t s) (Wanted j) (one.held a here) ((comes.wanted j).held a there)))

  take_now : (a : ℕ) (x y : Holder) → holds_address new x a ≡ true → holds_address new y a ≡ true
      → may_take_over new x y ≡ true
  take_now a (Recorded i) (Wanted j) here there = row_takes a i j (comes.rows i) here there
  take_now a (Recorded i) (Free t s) here there = row_no_slot a i t s (comes.rows i) here there
  take_now a (Machine t s) (Free other slot) here there = slot_takes a t s other slot (comes.slots t s) here there
  take_now a (Machine t s) (Wanted j) here there = slot_rests a t s j (comes.slots t s) here there
  take_now a (Recorded i) (Recorded j) here there = refl
  take_now a (Recorded i) (Machine t s) here there = refl
  take_now a (Machine t s) (Recorded j) here there = refl
  take_now a (Machine t s) (Machine other slot) here there = refl
  take_now a (Wanted i) y here there = refl
  take_now a (Free t s) y here there = refl

  pub facts_now : AddressFacts new
  facts_now = record {
    each_once = once_now;
    one_deployment = deployment_now;
    one_recorded = recorded_now;
    one_wanted = wanted_now;
    take_over = take_now;
  }
