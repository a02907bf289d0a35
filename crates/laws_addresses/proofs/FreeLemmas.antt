-- The addresses of a machine that is made for an instance are of no other machine that is recorded.
use Rattle.std.proofs.Common.{◌≡◌, ℕ, Bool, true, false, ◌==◌, ◌&&◌, Option, Some, None, List, [], ◌∷◌, refl, ap, sym, ◌∙◌, subst, inl, inr, arith}
use Rattle.std.specs.Prelude.{◌⊎◌, ◌≢◌, not}
use Rattle.std.specs.List.{list_any, list_all}
use Rattle.std.specs.Str.{bytes_eq}
use Rattle.std.proofs.lemmas.Bool.Decides.{eqb_tells}
use Rattle.bosh_base.specs.declared.inst.Inst.{Inst}
use Rattle.bosh_base.specs.declared.make.Make.{Make}
use Rattle.bosh_base.specs.declared.task.TaskKind.{TaskKind}
use Rattle.bosh_base.specs.declared.task.TaskKind.TheVariants as kinds
use Rattle.laws_facts.proofs.ListLemmas.{bytes_tells}
use Rattle.laws_facts.specs.Addresses.{Holder, Recorded, Machine, Wanted, Free, holds_address, is_one_recorded}
use Rattle.laws_facts.specs.CallFacts.{named}
use Rattle.laws_facts.specs.KnownFacts.{KnownFacts}
use Rattle.laws_facts.specs.Owners.{works}
use Rattle.laws_row_facts.specs.Words.{where_any}
use Rattle.laws_facts.specs.TaskFacts.{WorkFacts}
use Rattle.laws_facts.specs.Tasks.{are_those_of_one, has_its_addresses, is_of, lists_well}
use Rattle.bosh_history.specs.Goals.{is_in, named_instance}
use Rattle.bosh_history.specs.Known.{Slot, Task}
use Rattle.bosh_history.specs.Moments.{Moment}
use Rattle.bosh_history.specs.Orders.{same_slot}
use Rattle.bosh_history.specs.Sound.{addrs, has_addr, has_no_address}
use Rattle.bosh_history.specs.Words.{holds, is_among}
use Rattle.bosh_rows.specs.SoundSnapshot.{are_distinct}
use Rattle.bosh_rows.proofs.SameLemmas.{same_inst_tells}
use Rattle.bosh_rows.specs.Same.{same_inst}
use Rattle.laws_addresses.proofs.ItemLemmas.{MakesFor, all_of}
use Rattle.laws_addresses.proofs.WorkingLemmas.{Wants, wants_of}

-- ---- lists of addresses

-- a test that one of them meets is met by one
pub any_of : (p : ℕ → Bool) (a : ℕ) (items : List ℕ) → list_any (λ b. b == a) items ≡ true → p a ≡ true
    → list_any p items ≡ true
any_of p a [] there is = absurd cc
any_of p a (b ∷ items) there is = grind (arith, there, is, eqb_tells b a, any_of p a items)

-- ---- what holds an address is recorded

pub row_recorded : (m : Moment) (i : Inst) (a : ℕ) → KnownFacts m → holds_address m (Recorded i) a ≡ true
    → is_among same_inst i m.known.instances ≡ true
row_recorded m i a h is = by (is_among same_inst i m.known.instances) refl
  where
    by : (b : Bool) → is_among same_inst i m.known.instances ≡ b → is_among same_inst i m.known.instances ≡ true
    by true there = there
    by false other = absurd (grind (arith, subst (λ row. has_addr a row.make ≡ true) (h.lists.bare i other) is))

-- the machine and its slot
pub record IsMachine (m : Moment) (t s : ℕ) (it : Slot) (a : ℕ) : Type 0 where
  pub slot : m.known.slot t s ≡ Some it
  pub has : has_addr a (Some it.make) ≡ true
  pub listed : is_among same_slot (named t s) m.known.machines ≡ true

pub machine_recorded : (m : Moment) (t s a : ℕ) → KnownFacts m → holds_address m (Machine t s) a ≡ true
    → (it : Slot) × IsMachine m t s it a
machine_recorded m t s a h is = by (m.known.slot t s) refl
  where
    by : (slot : Option Slot) → m.known.slot t s ≡ slot → (it : Slot) × IsMachine m t s it a
    by (Some it) has = (
      it,
      record {
        slot = has;
        has = grind (arith, is, has);
        listed = grind (arith, has, h.lists.machine_listed t s);
      },
    )
    by None has = absurd (grind (arith, is, has))

-- ---- a row that is not of the goal

-- a task of one instance changes that one alone
last_of : (a b c d e f g i j : Bool) → (a && (b && (c && (d && (e && (f && (g && (i && j)))))))) ≡ true → j ≡ true
last_of true true true true true true true true j is = is
last_of true true true true true true true false j is = absurd cc
last_of true true true true true true false i j is = absurd cc
last_of true true true true true false g i j is = absurd cc
last_of true true true true false f g i j is = absurd cc
last_of true true true false e f g i j is = absurd cc
last_of true true false d e f g i j is = absurd cc
last_of true false c d e f g i j is = absurd cc
last_of false b c d e f g i j is = absurd cc

abbrev pub lists_no_disks : List ℕ → Bool
lists_no_disks [] = true
lists_no_disks disks = false

of_one : (t : Task) (kind : TaskKind) (one : Inst) → named_instance kind ≡ Some one
    → lists_well (record t { kind = kind }) ≡ true → are_those_of_one one t ≡ true
of_one t kinds.DeleteDeployment one is lists = absurd cc
of_one t kinds.CleanUp one is lists = absurd cc
of_one t (kinds.DeleteDisk d) one is lists = absurd cc
of_one t kind one is lists =
    (λ j. where_any (λ i. are_those_of_one i t) (sym is j))
    ∙ last_of (holds (λ dep. holds (λ goal. bytes_eq goal.dep dep) t.goal) t.dep)
    (list_all (is_in t.goal) t.changed)
    (where_any (λ dep. list_all (λ i. is_of dep i && not (is_in t.goal i)) t.obsolete) t.dep)
    (where_any (λ dep. list_all (is_of dep) t.to_ping) t.dep) (are_distinct same_inst t.changed)
    (are_distinct same_inst t.obsolete) (are_distinct same_inst t.to_ping) (lists_no_disks t.disks)
    (where_any (λ i. are_those_of_one i t) (named_instance kind)) lists

pub alone_changed : (t : Task) (one i : Inst) → lists_well t ≡ true → named_instance t.kind ≡ Some one
    → is_among same_inst i t.changed ≡ true → one ≡ i
alone_changed t one i lists kind there = by t.changed refl there (of_one t t.kind one kind lists)
  where
    by : (changed : List Inst) → t.changed ≡ changed → is_among same_inst i changed ≡ true
        → are_those_of_one one t ≡ true → one ≡ i
    by [] is there only = absurd cc
    by (other ∷ []) is there only =
        let now : are_those_of_one one (record t { changed = other ∷ [] }) ≡ true =
        sym (λ j. are_those_of_one one (record t { changed = is j })) ∙ only in
        grind (arith, now, there, same_inst_tells one other, same_inst_tells i other)
    by (other ∷ more ∷ others) is there only =
        let now : are_those_of_one one (record t { changed = other ∷ more ∷ others }) ≡ true =
        sym (λ j. are_those_of_one one (record t { changed = is j })) ∙ only in
        absurd (grind (arith, now))

-- another row with its address would be obsolete, or, in a task of one instance, have none of its addresses
no_other_row : (m : Moment) (t : ℕ) (i j : Inst) (make : Make) (a : ℕ) → KnownFacts m → works m t ≡ true
    → MakesFor m.known t i make → holds_address m (Wanted i) a ≡ true → holds_address m (Recorded j) a ≡ true
    → is_in (m.known.task t).goal j ≡ false → i.dep ≡ j.dep → false ≡ true
no_other_row m t i j make a h working makes wants here out dep = by (named_instance (m.known.task t).kind) refl
  where
    it : Wants m t i makes.created.row
    it = wants_of m t i makes.created.row h working makes.created.wants

    work : WorkFacts m t
    work = (h.tasks t).working working

    recorded : is_among same_inst j m.known.instances ≡ true
    recorded = row_recorded m j a h here

    by : (named : Option Inst) → named_instance (m.known.task t).kind ≡ named → false ≡ true
    by None kind =
        grind (
          arith,
          work.has_place j,
          kind,
          recorded,
          it.task_dep,
          out,
          makes.none_goes j,
          dep,
          bytes_tells j.dep i.dep,
        )
    by (Some named) kind =
        grind (
          arith,
          all_of same_inst same_inst_tells _ j m.known.instances free recorded,
          sym (λ k. is_in (it.has k) j) ∙ out,
          any_of (λ a. has_addr a (m.known.row j).make) a (addrs makes.created.row.make) held here,
        )
      where
        same : named ≡ i
        same = alone_changed (m.known.task t) named i work.lists_well kind makes.changes

        addressed : has_its_addresses m.known (m.known.task t) i ≡ true
        addressed =
            sym (λ k. where_any (has_its_addresses m.known (m.known.task t)) (((kind ∙ ap Some same)) k))
            ∙ work.is_addressed

        free : has_no_address m.known it.goal makes.created.row ≡ true
        free = grind (arith, addressed, it.has, it.wanted, makes.created.stays)

        held : list_any (λ b. b == a) (addrs makes.created.row.make) ≡ true
        held = grind (arith, wants, it.current, it.wanted)

pub alone : (m : Moment) (t : ℕ) (i : Inst) (make : Make) → KnownFacts m → works m t ≡ true → MakesFor m.known t i make
    → (a : ℕ) (y : Holder) → holds_address m (Wanted i) a ≡ true → holds_address m y a ≡ true
    → is_one_recorded (Recorded i) y ≡ true
alone m t i make h working makes a (Recorded j) wants here = by (same_inst_tells i j)
  where
    it : Wants m t i makes.created.row
    it = wants_of m t i makes.created.row h working makes.created.wants

    dep : i.dep ≡ j.dep
    dep = grind (
      arith,
      h.addresses.one_deployment a (Wanted i) (Recorded j) wants here,
      bytes_tells i.dep j.dep,
    )

    goal : m.known.goal j.dep ≡ (m.known.task t).goal
    goal = ap m.known.goal (sym dep) ∙ it.current ∙ sym it.has

    by : ((same_inst i j ≡ true) × (i ≡ j)) ⊎ ((same_inst i j ≡ false) × (i ≢ j)) → same_inst i j ≡ true
    by (inl same) = same.0
    by (inr apart) =
        absurd (grind (
          arith,
          no_other_row m t i j make a h working makes wants here
              ((λ k. is_in (sym goal k) j)
              ∙ grind
              (arith, h.addresses.take_over a (Recorded j) (Wanted i) here wants, same_inst_tells j i, sym, apart)) dep,
        ))
alone m t i make h working makes a (Machine other slot) wants here = by (machine_recorded m other slot a h here)
  where
    it : Wants m t i makes.created.row
    it = wants_of m t i makes.created.row h working makes.created.wants

    by : (it : Slot) × IsMachine m other slot it a → false ≡ true
    by (found, is) = own (eqb_tells other t)
      where
        rests : not (works m other) ≡ true
        rests = h.addresses.take_over a (Machine other slot) (Wanted i) here wants

        own : ((other == t) ≡ true) × (other ≡ t) ⊎ ((other == t) ≡ false) × (other ≢ t) → false ≡ true
        own (inl same) = sym (ap (λ task. not (works m task)) same.1 ∙ ap not working) ∙ rests
        own (inr apart) =
            grind (
              arith,
              makes.none_left (named other slot) is.listed,
              apart,
              is.slot,
              it.task_dep,
              h.addresses.one_deployment a (Machine other slot) (Wanted i) here wants,
            )
alone m t i make h working makes a (Wanted j) wants here = refl
alone m t i make h working makes a (Free other slot) wants here = refl
