-- What is left of the phases of a task, and the items of the present one.
use Rattle.std.proofs.Common.{◌≡◌, ◌∙◌, ℕ, ◌<◌, Bool, true, false, ◌&&◌, not, List, [], ◌∷◌, ◌++◌, length}
use Rattle.std.proofs.Common.{map, filter, Option, Some, None, ap, refl, sym, arith}
use Rattle.std.specs.Prelude.{◌==◌, nat_lt, if◌then◌else◌}
use Rattle.std.specs.List.{list_all}
use Rattle.std.specs.Option.{option_or}
use Rattle.std.proofs.lemmas.Bool.{and_from, and_parts, eqb-true, lt-ltb, not-true}
use Rattle.std.proofs.lemmas.Bool.{true≢false}
use Rattle.std.proofs.lemmas.Bool.Decides.{nat_tests}
use Rattle.std.proofs.lemmas.List.Folds.{list_all-append}
use Rattle.bosh_base.specs.declared.entry.Entry.{Entry}
use Rattle.bosh_base.specs.declared.inst.Inst.{Inst}
use Rattle.bosh_base.specs.declared.owner.Owner.{Owner}
use Rattle.bosh_base.specs.declared.owner.Owner.TheVariants.{Instance, Compile, Disk}
use Rattle.bosh_history.specs.Items.{candidates, is_before, is_item, is_leftover, is_to_go, is_to_ping, items}
use Rattle.bosh_history.specs.Items.{none_left_before, phase_of, slots_of}
use Rattle.bosh_history.specs.Known.{Known, Task, SlotName}
use Rattle.bosh_history.specs.Words.{holds, numbers_below}
use Rattle.laws_stands.proofs.AnswerLemmas.{answers_append, answers_filter, answers_map, first_answer}

all_mapped : {X : Type 0} (p : Owner → Bool) (f : X → Owner) (xs : List X) → ((x : X) → p (f x) ≡ true)
    → list_all p (map f xs) ≡ true
all_mapped p f [] all = refl
all_mapped p f (x ∷ xs) all = and_from (p (f x)) (list_all p (map f xs)) (all x) (all_mapped p f xs all)

none_filtered : (p : Owner → Bool) (xs : List Owner) → filter p xs ≡ [] → list_all (λ x. not (p x)) xs ≡ true
none_filtered p [] empty = refl
none_filtered p (x ∷ xs) empty = by (p x) refl empty (λ empty. none_filtered p xs empty)
  where
    by : (b : Bool) → p x ≡ b → (if b then x ∷ filter p xs else filter p xs) ≡ []
        → (filter p xs ≡ [] → list_all (λ x. not (p x)) xs ≡ true)
        → (not (p x) && list_all (λ x. not (p x)) xs) ≡ true
    by true is empty more = absurd cc
    by false is empty more = λ i. not (is i) && more empty i

module _ (k : Known) (n : ℕ) where
  abbrev t : Task
  t = k.task n

  -- nothing is left of an owner before a phase
  abbrev pub not_before : ℕ → Owner → Bool
  not_before phase owner = not (is_before phase (phase_of k n owner))

  -- the owner of a compile machine
  abbrev pub machine_owner : SlotName → Owner
  machine_owner name = Compile name.task name.slot

  abbrev asked : List Owner
  asked = map Instance (filter (is_to_ping t) t.to_ping)

  abbrev swept : List Owner
  swept = map machine_owner (filter (is_leftover k n) k.machines)

  abbrev slotted : List Owner
  slotted = map (Compile n) (numbers_below (length (slots_of t.goal)))

  abbrev leaving : List Owner
  leaving = map Instance (filter (is_to_go t) t.obsolete)

  abbrev changing : List Owner
  changing = map Instance t.changed

  abbrev deleting : List Owner
  deleting = map Disk t.disks

  -- whatever all candidates pass it passes
  abbrev pub IsCandidate : Owner → Type 0
  IsCandidate owner = (p : Owner → Bool) → list_all p (candidates k n) ≡ true → p owner ≡ true

  two : (p : Owner → Bool) (xs ys : List Owner) → list_all p (xs ++ ys) ≡ true → (list_all p xs ≡ true)
      × (list_all p ys ≡ true)
  two p xs ys all = and_parts (list_all p xs) (list_all p ys) (sym (list_all-append p xs ys) ∙ all)

  join : (p : Owner → Bool) (xs ys : List Owner) → list_all p xs ≡ true → list_all p ys ≡ true
      → list_all p (xs ++ ys) ≡ true
  join p xs ys all more = list_all-append p xs ys ∙ and_from (list_all p xs) (list_all p ys) all more

  -- what passes of all candidates, part by part
  pub record AllParts (p : Owner → Bool) : Type 0 where
    pub pings : list_all p asked ≡ true
    pub sweep : list_all p swept ≡ true
    pub slots : list_all p slotted ≡ true
    pub obsolete : list_all p leaving ≡ true
    pub changed : list_all p changing ≡ true
    pub disks : list_all p deleting ≡ true

  pub parts_of : (p : Owner → Bool) → list_all p (candidates k n) ≡ true → AllParts p
  parts_of p all =
      let a : (list_all p (asked ++ swept ++ slotted ++ leaving ++ changing) ≡ true)
      × (list_all p deleting ≡ true) = two p (asked ++ swept ++ slotted ++ leaving ++ changing) deleting all in
      let b : (list_all p (asked ++ swept ++ slotted ++ leaving) ≡ true) × (list_all p changing ≡ true) =
      two p (asked ++ swept ++ slotted ++ leaving) changing a.0 in
      let c : (list_all p (asked ++ swept ++ slotted) ≡ true) × (list_all p leaving ≡ true) =
      two p (asked ++ swept ++ slotted) leaving b.0 in
      let d : (list_all p (asked ++ swept) ≡ true) × (list_all p slotted ≡ true) =
      two p (asked ++ swept) slotted c.0 in
      let e : (list_all p asked ≡ true) × (list_all p swept ≡ true) = two p asked swept d.0 in
      record { pings = e.0; sweep = e.1; slots = d.1; obsolete = c.1; changed = b.1; disks = a.1 }

  -- nothing is left before a phase
  pub record AreNoneBefore (phase : ℕ) : Type 0 where
    pub instances : (i : Inst) → not_before phase (Instance i) ≡ true
    pub sweep : list_all (not_before phase) swept ≡ true
    pub slots : (s : ℕ) → not_before phase (Compile n s) ≡ true
    pub disks : (d : ℕ) → not_before phase (Disk d) ≡ true

  pub none_before : (phase : ℕ) → AreNoneBefore phase → none_left_before k n phase ≡ true
  none_before phase none =
      join p (asked ++ swept ++ slotted ++ leaving ++ changing) deleting
      (join p (asked ++ swept ++ slotted ++ leaving) changing
      (join p (asked ++ swept ++ slotted) leaving
      (join p (asked ++ swept) slotted
      (join p asked swept (all_mapped p Instance (filter (is_to_ping t) t.to_ping) none.instances) none.sweep)
      (all_mapped p (Compile n) (numbers_below (length (slots_of t.goal))) none.slots))
      (all_mapped p Instance (filter (is_to_go t) t.obsolete) none.instances))
      (all_mapped p Instance t.changed none.instances))
      (all_mapped p Disk t.disks none.disks)
    where
      p : Owner → Bool
      p = not_before phase

  -- ---- the items of the present phase

  abbrev pub is_phase : ℕ → Option ℕ → Bool
  is_phase phase (Some other) = other == phase
  is_phase phase None = false

  -- a candidate has something left in the phase, and nothing is left before it
  pub record IsPresent (phase : ℕ) : Type 0 where
    pub none : none_left_before k n phase ≡ true
    pub owner : Owner
    pub listed : IsCandidate owner
    pub left : phase_of k n owner ≡ Some phase

  pub item_as : (phase : ℕ) → IsPresent phase → (owner : Owner) → not_before phase owner ≡ true → is_item k n owner
      ≡ is_phase phase (phase_of k n owner)
  item_as phase present owner late = by (phase_of k n owner) late
    where
      later : (q : ℕ) → phase < q → none_left_before k n q ≡ false
      later q above = of (none_left_before k n q) refl
        where
          of : (b : Bool) → none_left_before k n q ≡ b → none_left_before k n q ≡ false
          of true is =
              absurd (true≢false (sym (present.listed (not_before q) is)
              ∙ ap (λ o. not (is_before q o)) present.left ∙ ap not (lt-ltb phase q above)))
          of false is = is

      by : (o : Option ℕ) → not (is_before phase o) ≡ true → holds (none_left_before k n) o ≡ is_phase phase o
      by None late = refl
      by (Some q) late = of (q == phase) refl
        where
          of : (b : Bool) → (q == phase) ≡ b → none_left_before k n q ≡ (q == phase)
          of true same = ap (none_left_before k n) (eqb-true q phase same) ∙ present.none ∙ sym same
          of false differs = later q (above differs (not-true (nat_lt q phase) late)) ∙ sym differs
            where
              above : (q == phase) ≡ false → nat_lt q phase ≡ false → phase < q
              above differs low = grind (arith, nat_tests)

  -- there is one
  pub some_items : (phase : ℕ) → IsPresent phase → items k n ≡ [] → ⊥
  some_items phase present empty =
      true≢false
      (sym (present.listed (λ owner. not (is_item k n owner))
      (none_filtered (is_item k n) (candidates k n) empty))
      ∙ ap (λ o. not (holds (none_left_before k n) o)) present.left ∙ ap not present.none)

  -- what is answered of the items, part by part
  module _ (gives : Owner → Option Entry) where
    -- what is answered of an owner that is an item
    abbrev pub answer : Owner → Option Entry
    answer owner = if is_item k n owner then gives owner else None

    abbrev pub of_asked : Option Entry
    of_asked = first_answer (λ i. answer (Instance i)) (filter (is_to_ping t) t.to_ping)

    abbrev pub of_swept : Option Entry
    of_swept = first_answer (λ name. answer (machine_owner name)) (filter (is_leftover k n) k.machines)

    abbrev pub of_slots : Option Entry
    of_slots = first_answer (λ s. answer (Compile n s)) (numbers_below (length (slots_of t.goal)))

    abbrev pub of_leaving : Option Entry
    of_leaving = first_answer (λ i. answer (Instance i)) (filter (is_to_go t) t.obsolete)

    abbrev pub of_changing : Option Entry
    of_changing = first_answer (λ i. answer (Instance i)) t.changed

    abbrev pub of_disks : Option Entry
    of_disks = first_answer (λ d. answer (Disk d)) t.disks

    pub answers_are : first_answer gives (items k n)
        ≡ option_or (option_or (option_or (option_or (option_or of_asked of_swept) of_slots) of_leaving)
        of_changing) of_disks
    answers_are =
        answers_filter (is_item k n) gives (candidates k n)
        ∙ answers_append answer (asked ++ swept ++ slotted ++ leaving ++ changing) deleting
        ∙ (λ j. option_or (answers_append answer (asked ++ swept ++ slotted ++ leaving) changing j)
        (answers_map answer Disk t.disks j))
        ∙ (λ j. option_or (option_or (answers_append answer (asked ++ swept ++ slotted) leaving j)
        (answers_map answer Instance t.changed j)) of_disks)
        ∙ (λ j. option_or
        (option_or (option_or (answers_append answer (asked ++ swept) slotted j)
        (answers_map answer Instance (filter (is_to_go t) t.obsolete) j)) of_changing) of_disks)
        ∙ (λ j. option_or
        (option_or
        (option_or (option_or (answers_append answer asked swept j)
        (answers_map answer (Compile n) (numbers_below (length (slots_of t.goal))) j)) of_leaving) of_changing)
        of_disks)
        ∙ (λ j. option_or
        (option_or
        (option_or
        (option_or (option_or (answers_map answer Instance (filter (is_to_ping t) t.to_ping) j)
        (answers_map answer machine_owner (filter (is_leftover k n) k.machines) j)) of_slots) of_leaving)
        of_changing) of_disks)
