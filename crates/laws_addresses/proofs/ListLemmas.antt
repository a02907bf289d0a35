-- Lists of addresses: what is among them, and that none stands twice.
use Rattle.std.proofs.Common.{None, Option, ◌≡◌, ℕ, ◌+◌, Bool, true, false, ◌==◌, Some, List, [], ◌∷◌, ◌++◌, refl, ap, sym, ◌∙◌, inl, inr, arith}
use Prim.Native.Nat.{zero, suc}
use Rattle.std.specs.Prelude.{eqb, find, ◌||◌}
use Rattle.std.specs.List.{list_any, list_all, flat_map}
use Rattle.std.proofs.lemmas.Bool.Decides.{eqb_tells}
use Rattle.std.proofs.lemmas.List.Folds.{list_any-append}
use Rattle.bosh_base.specs.declared.goal.GoalRow.{GoalRow}
use Rattle.bosh_base.specs.declared.inst.Inst.{Inst}
use Rattle.bosh_base.specs.declared.make.Make.{Make}
use Rattle.bosh_base.specs.declared.view.Held.{Held}
use Rattle.laws_facts.proofs.ListLemmas.{Tells}
use Rattle.laws_row_facts.specs.Words.{where_any}
use Rattle.bosh_history.specs.Held.{numbered}
use Rattle.bosh_history.specs.Sound.{addrs}
use Rattle.bosh_history.specs.Steps.{nth}
use Rattle.bosh_history.specs.Words.{is_among}
use Rattle.bosh_rows.specs.SoundSnapshot.{are_distinct}
use Rattle.bosh_rows.proofs.SameLemmas.{same_inst_tells}
use Rattle.bosh_rows.specs.Same.{same_inst}

-- the address is among them
abbrev pub has : ℕ → List ℕ → Bool
has a items = list_any (λ b. b == a) items

-- ---- appended and mapped lists

pub has_append : (a : ℕ) (xs ys : List ℕ) → has a (xs ++ ys) ≡ (has a xs || has a ys)
has_append a xs ys = list_any-append (λ b. b == a) xs ys

pub all_has : (p : ℕ → Bool) (a : ℕ) (items : List ℕ) → list_all p items ≡ true → has a items ≡ true → p a ≡ true
all_has p a [] all there = absurd cc
all_has p a (b ∷ items) all there = grind (arith, all, there, eqb_tells b a, all_has p a items)

pub any_left : {A : Type 0} (p : A → Bool) (xs ys : List A) → list_any p xs ≡ true → list_any p (xs ++ ys) ≡ true
any_left p xs ys is = list_any-append p xs ys ∙ grind (arith, is)

pub any_right : {A : Type 0} (p : A → Bool) (xs ys : List A) → list_any p ys ≡ true → list_any p (xs ++ ys) ≡ true
any_right p xs ys is = list_any-append p xs ys ∙ grind (arith, is)

module _ {A : Type 0} (same : A → A → Bool) (tells : (a b : A) → Tells same a b) where
  pub any_in : (p : A → Bool) (x : A) (items : List A) → is_among same x items ≡ true → p x ≡ true
      → list_any p items ≡ true
  any_in p x [] there is = absurd cc
  any_in p x (b ∷ items) there is = grind (arith, there, is, tells x b, any_in p x items)

  -- what one of them gives is among what all give
  pub any_flat : {B : Type 0} (p : B → Bool) (f : A → List B) (x : A) (items : List A)
      → is_among same x items ≡ true → list_any p (f x) ≡ true → list_any p (flat_map f items) ≡ true
  any_flat p f x [] there is = absurd cc
  any_flat p f x (b ∷ items) there is = by (tells x b) (any_flat p f x items)
    where
      by : Tells same x b
          → (is_among same x items ≡ true → list_any p (f x) ≡ true → list_any p (flat_map f items) ≡ true)
          → list_any p (flat_map f (b ∷ items)) ≡ true
      by (inl equal) more =
          any_left p (f b) (flat_map f items) (sym (λ i. list_any p (f (equal.1 i))) ∙ is)
      by (inr apart) more = any_right p (f b) (flat_map f items) (more (grind (arith, there, apart)) is)

-- ---- no address stands twice

pub record Apart (xs ys : List ℕ) : Type 0 where
  pub left : are_distinct eqb xs ≡ true
  pub right : are_distinct eqb ys ≡ true
  pub none : (a : ℕ) → has a xs ≡ true → has a ys ≡ false

among_has : (a : ℕ) (items : List ℕ) → is_among eqb a items ≡ has a items
among_has a [] = refl
among_has a (b ∷ items) = grind (arith, among_has a items, eqb_tells a b, eqb_tells b a)

pub apart_of : (xs ys : List ℕ) → are_distinct eqb (xs ++ ys) ≡ true → Apart xs ys
apart_of [] ys is = record { left = refl; right = is; none = λ a there. absurd cc }
apart_of (x ∷ xs) ys is =
    let whole : Apart xs ys = apart_of xs ys (grind (arith, is)) in
    let among : is_among eqb x (xs ++ ys) ≡ (is_among eqb x xs || is_among eqb x ys) =
    list_any-append (eqb x) xs ys in
    record {
      left = grind (arith, is, among, whole.left);
      right = whole.right;
      none = λ a there. grind (arith, is, among, among_has x ys, eqb_tells x a, there, whole.none a);
    }

-- ---- rows

abbrev pub made_addrs : GoalRow → List ℕ
made_addrs want = addrs want.make

-- an address of a row that is found is among those of all
pub row_has : (i : Inst) (rows : List GoalRow) (want : GoalRow) (a : ℕ)
    → find (λ want. same_inst i want.inst) rows ≡ Some want → has a (addrs want.make) ≡ true
    → has a (flat_map made_addrs rows) ≡ true
row_has i [] want a is there = absurd cc
row_has i (row ∷ rows) want a is there = by (same_inst_tells i row.inst) (row_has i rows want a)
  where
    by : Tells same_inst i row.inst
        → (find (λ want. same_inst i want.inst) rows ≡ Some want → has a (addrs want.make) ≡ true
        → has a (flat_map made_addrs rows) ≡ true)
        → has a (flat_map made_addrs (row ∷ rows)) ≡ true
    by (inl same) more =
        let it : row ≡ want = grind (arith, is, same) in
        any_left (λ b. b == a) (addrs row.make) (flat_map made_addrs rows)
        ((λ j. has a (addrs (it j).make)) ∙ there)
    by (inr apart) more =
        any_right (λ b. b == a) (addrs row.make) (flat_map made_addrs rows) (more (grind (arith, is, apart)) there)

-- each row has each address once
pub row_once : (i : Inst) (rows : List GoalRow) (want : GoalRow)
    → find (λ want. same_inst i want.inst) rows ≡ Some want
    → are_distinct eqb (flat_map made_addrs rows) ≡ true → are_distinct eqb (addrs want.make) ≡ true
row_once i [] want is apart = absurd cc
row_once i (row ∷ rows) want is distinct = by (same_inst_tells i row.inst) (row_once i rows want)
  where
    parts : Apart (addrs row.make) (flat_map made_addrs rows)
    parts = apart_of (addrs row.make) (flat_map made_addrs rows) distinct

    by : Tells same_inst i row.inst
        → (find (λ want. same_inst i want.inst) rows ≡ Some want
        → are_distinct eqb (flat_map made_addrs rows) ≡ true → are_distinct eqb (addrs want.make) ≡ true)
        → are_distinct eqb (addrs want.make) ≡ true
    by (inl same) more =
        let it : row ≡ want = grind (arith, is, same) in (λ j. are_distinct eqb (addrs (sym it j).make)) ∙ parts.left
    by (inr other) more = more (grind (arith, is, other)) parts.right

-- two rows with one address are one
pub rows_one : (i j : Inst) (rows : List GoalRow) (want other : GoalRow) (a : ℕ)
    → find (λ want. same_inst i want.inst) rows ≡ Some want → find (λ want. same_inst j want.inst) rows ≡ Some other
    → are_distinct eqb (flat_map made_addrs rows) ≡ true
    → has a (addrs want.make) ≡ true → has a (addrs other.make) ≡ true → same_inst i j ≡ true
rows_one i j [] want other a is also distinct here there = absurd cc
rows_one i j (row ∷ rows) want other a is also distinct here there =
    by (same_inst_tells i row.inst) (same_inst_tells j row.inst) (rows_one i j rows want other a)
  where
    parts : Apart (addrs row.make) (flat_map made_addrs rows)
    parts = apart_of (addrs row.make) (flat_map made_addrs rows) distinct

    by : Tells same_inst i row.inst → Tells same_inst j row.inst
        → (find (λ want. same_inst i want.inst) rows ≡ Some want
        → find (λ want. same_inst j want.inst) rows ≡ Some other
        → are_distinct eqb (flat_map made_addrs rows) ≡ true
        → has a (addrs want.make) ≡ true → has a (addrs other.make) ≡ true → same_inst i j ≡ true)
        → same_inst i j ≡ true
    by (inl same) (inl too) more = grind (arith, same_inst_tells i j, same.1 ∙ sym too.1)
    by (inl same) (inr apart) more =
        let it : row ≡ want = grind (arith, is, same) in
        absurd (grind (
          arith,
          parts.none a ((λ l. has a (addrs (it l).make)) ∙ here),
          row_has j rows other a (grind (arith, also, apart)) there,
        ))
    by (inr apart) (inl too) more =
        let it : row ≡ other = grind (arith, also, too) in
        absurd (grind (
          arith,
          parts.none a ((λ l. has a (addrs (it l).make)) ∙ there),
          row_has i rows want a (grind (arith, is, apart)) here,
        ))
    by (inr apart) (inr apart_too) more =
        more (grind (arith, is, apart)) (grind (arith, also, apart_too)) parts.right here there

-- ---- slots

pub slot_has : (s : ℕ) (slots : List Make) (make : Make) (a : ℕ) → nth s slots ≡ Some make
    → has a (addrs make) ≡ true
    → has a (flat_map addrs slots) ≡ true
slot_has zero [] make a is there = absurd cc
slot_has (suc s) [] make a is there = absurd cc
slot_has zero (slot ∷ slots) make a is there =
    let it : slot ≡ make = grind (arith, is) in
    any_left (λ b. b == a) (addrs slot) (flat_map addrs slots) ((λ j. has a (addrs (it j))) ∙ there)
slot_has (suc s) (slot ∷ slots) make a is there =
    any_right (λ b. b == a) (addrs slot) (flat_map addrs slots) (slot_has s slots make a is there)

pub slot_once : (s : ℕ) (slots : List Make) (make : Make) → nth s slots ≡ Some make
    → are_distinct eqb (flat_map addrs slots) ≡ true → are_distinct eqb (addrs make) ≡ true
slot_once zero [] make is distinct = absurd cc
slot_once (suc s) [] make is distinct = absurd cc
slot_once zero (slot ∷ slots) make is distinct =
    let it : slot ≡ make = grind (arith, is) in
    (λ j. are_distinct eqb (addrs (sym it j))) ∙ (apart_of (addrs slot) (flat_map addrs slots) distinct).left
slot_once (suc s) (slot ∷ slots) make is distinct =
    slot_once s slots make is (apart_of (addrs slot) (flat_map addrs slots) distinct).right

pub slots_one : (s t : ℕ) (slots : List Make) (make other : Make) (a : ℕ) → nth s slots ≡ Some make
    → nth t slots ≡ Some other → are_distinct eqb (flat_map addrs slots) ≡ true → has a (addrs make) ≡ true
    → has a (addrs other) ≡ true → s ≡ t
slots_one zero t [] make other a is also distinct here there = absurd cc
slots_one (suc s) t [] make other a is also distinct here there = absurd cc
slots_one zero zero (slot ∷ slots) make other a is also distinct here there = refl
slots_one zero (suc t) (slot ∷ slots) make other a is also distinct here there =
    let it : slot ≡ make = grind (arith, is) in
    absurd (grind (
      arith,
      (apart_of (addrs slot) (flat_map addrs slots) distinct).none a ((λ l. has a (addrs (it l))) ∙ here),
      slot_has t slots other a also there,
    ))
slots_one (suc s) zero (slot ∷ slots) make other a is also distinct here there =
    let it : slot ≡ other = grind (arith, also) in
    absurd (grind (
      arith,
      (apart_of (addrs slot) (flat_map addrs slots) distinct).none a ((λ l. has a (addrs (it l))) ∙ there),
      slot_has s slots make a is here,
    ))
slots_one (suc s) (suc t) (slot ∷ slots) make other a is also distinct here there =
    ap suc (slots_one s t slots make other a is also (apart_of (addrs slot) (flat_map addrs slots) distinct).right here
    there)

-- what a slot gives is among what all give, by number
pub any_numbered : (p : Held → Bool) (f : ℕ → Make → List Held) (n s : ℕ) (slots : List Make) (make : Make)
    → nth s slots ≡ Some make → ((t : ℕ) → list_any p (f t make) ≡ true) → list_any p (numbered n f slots) ≡ true
any_numbered p f n zero [] make is any = absurd cc
any_numbered p f n (suc s) [] make is any = absurd cc
any_numbered p f n zero (slot ∷ slots) make is any =
    let it : slot ≡ make = grind (arith, is) in
    any_left p (f n slot) (numbered (n + 1) f slots) ((λ j. list_any p (f n (it j))) ∙ any n)
any_numbered p f n (suc s) (slot ∷ slots) make is any =
    any_right p (f n slot) (numbered (n + 1) f slots) (any_numbered p f (n + 1) s slots make is any)

-- where there is a make, it has each address once
pub once_of : (make : Option Make) → ((it : Make) → make ≡ Some it → are_distinct eqb (addrs it) ≡ true)
    → where_any (λ it. are_distinct eqb (addrs it)) make ≡ true
once_of (Some it) is = is it refl
once_of None is = refl
