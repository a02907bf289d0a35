-- Disks and compile machines of lists, and instances whose update waits.
use Rattle.std.proofs.Common.{◌≡◌, ℕ, zero, suc, Bool, true, false, ◌||◌, List, [], ◌∷◌}
use Rattle.std.proofs.Common.{map, filter, Some, ap, refl, sym, inl, inr}
use Rattle.std.specs.Prelude.{◌==◌, eqb, slice_get, if◌then◌else◌}
use Rattle.std.specs.List.{list_any}
use Rattle.std.proofs.lemmas.Bool.{and_from, and_parts, eq-eqb, eqb-true, false≢true, or_left, or_right}
use Rattle.bosh_history.specs.Goals.{is_waiting}
use Rattle.bosh_history.specs.Items as finished
use Rattle.bosh_history.specs.Known.{SlotName}
use Rattle.bosh_history.specs.Words.{is_among}
use Rattle.bosh_roll.specs.Upd.{is_busy}
use Rattle.bosh_roll.specs.declared.upd.Upd.{Upd}
use Rattle.bosh_roll.specs.declared.upd.Upd.TheVariants.{Busy, Failed, Finished, Todo}
use Rattle.bosh_work.specs.declared.part.MachineName.{MachineName}
use Rattle.laws_items.specs.Lists.{IsIn}
use Rattle.laws_stands.specs.Linked.{same_machine}

-- a disk at a place of a list is one of it
pub disk_among : (d : ℕ) (xs : List ℕ) (j : ℕ) → slice_get xs j ≡ Some d → is_among eqb d xs ≡ true
disk_among d [] j is = absurd cc
disk_among d (x ∷ xs) zero is = let e : x ≡ d = cc in ap (λ b. b || is_among eqb d xs) (eq-eqb d x (sym e))
disk_among d (x ∷ xs) (suc j) is = or_right (eqb d x) (is_among eqb d xs) (disk_among d xs j is)

-- of an instance whose update waits

pub waiting_unfinished : (u : Upd) → is_waiting u ≡ true → finished.is_finished u ≡ false
waiting_unfinished Todo is = refl
waiting_unfinished Busy is = absurd (false≢true is)
waiting_unfinished Finished is = absurd (false≢true is)
waiting_unfinished Failed is = absurd (false≢true is)

pub waiting_quiet : (u : Upd) → is_waiting u ≡ true → is_busy u ≡ false
waiting_quiet Todo is = refl
waiting_quiet Busy is = absurd (false≢true is)
waiting_quiet Finished is = absurd (false≢true is)
waiting_quiet Failed is = absurd (false≢true is)

-- the name of a machine
abbrev pub slot_name : MachineName → SlotName
slot_name name = record { task = name.task; slot = name.slot }

-- where none is left, none passes
pub kept_none : (q : MachineName → Bool) (xs : List MachineName) → map slot_name (filter q xs) ≡ [] → list_any q xs ≡ false
kept_none q [] none = refl
kept_none q (x ∷ xs) none = by (q x) none (λ none. kept_none q xs none)
  where
    by : (b : Bool) → map slot_name (if b then x ∷ filter q xs else filter q xs) ≡ []
        → (map slot_name (filter q xs) ≡ [] → list_any q xs ≡ false) → (b || list_any q xs) ≡ false
    by true none more = absurd cc
    by false none more = more none

pub machine_is : (a b : MachineName) → same_machine a b ≡ true → a ≡ b
machine_is a b same =
    let both : ((a.task == b.task) ≡ true) × ((a.slot == b.slot) ≡ true) =
    and_parts (a.task == b.task) (a.slot == b.slot) same in
    λ i. record { task = eqb-true a.task b.task both.0 i; slot = eqb-true a.slot b.slot both.1 i }

-- a machine that is left of those that were swept is one of them
pub kept_in : (q : MachineName → Bool) (xs : List MachineName) (name : MachineName)
    → IsIn (slot_name name) (map slot_name (filter q xs)) → is_among same_machine name xs ≡ true
kept_in q [] name is = absurd is
kept_in q (x ∷ xs) name is = by (q x) is (λ is. kept_in q xs name is)
  where
    by : (b : Bool) → IsIn (slot_name name) (map slot_name (if b then x ∷ filter q xs else filter q xs))
        → (IsIn (slot_name name) (map slot_name (filter q xs)) → is_among same_machine name xs ≡ true)
        → (same_machine name x || is_among same_machine name xs) ≡ true
    by true (inl same) more =
        or_left (same_machine name x) (is_among same_machine name xs)
        (and_from (name.task == x.task) (name.slot == x.slot)
        (eq-eqb name.task x.task (sym (ap (λ (it : SlotName). it.task) same)))
        (eq-eqb name.slot x.slot (sym (ap (λ (it : SlotName). it.slot) same))))
    by true (inr is) more = or_right (same_machine name x) (is_among same_machine name xs) (more is)
    by false is more = or_right (same_machine name x) (is_among same_machine name xs) (more is)
