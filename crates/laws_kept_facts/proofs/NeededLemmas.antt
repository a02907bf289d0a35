-- A row has a machine where it is lost, and no disk is attached where it has none, after each call.
use Rattle.std.proofs.Common.{◌≡◌, ◌∙◌, ℕ, Bool, true, false, Option, Some, None, List, [], ◌∷◌, ◌++◌, refl, sym, ap}
use Rattle.std.specs.Prelude.{◌&&◌, ◌||◌, not, is_some, map, if◌then◌else◌}
use Rattle.std.specs.List.{list_all}
use Rattle.std.proofs.lemmas.Bool.{and_parts}
use Rattle.bosh_base.specs.declared.answer.Answer.{Answer}
use Rattle.bosh_base.specs.declared.answer.Answer.TheVariants as answers
use Rattle.bosh_base.specs.declared.call.Call.{Call}
use Rattle.bosh_base.specs.declared.call.Call.TheVariants as calls
use Rattle.bosh_base.specs.declared.disk_want.DiskWant.{DiskWant}
use Rattle.bosh_base.specs.declared.goal.GoalRow.{GoalRow}
use Rattle.bosh_base.specs.declared.row.DiskRow.{DiskRow}
use Rattle.bosh_base.specs.declared.row.Doubt.{Doubt}
use Rattle.bosh_base.specs.declared.row.Row.{Row}
use Rattle.laws_row_facts.specs.Rows.{has_machine_as_needed}
use Rattle.laws_row_facts.specs.Words.{implies}
use Rattle.bosh_rows.specs.After.{after, begun_row, let_go, row_at_gone, row_by_answer, with_disk, with_found, with_machine, without_machine}
use Rattle.bosh_rows.specs.CallOf.{next_call}
use Rattle.laws_kept_facts.proofs.NamedLemmas.{next_named}
use Rattle.laws_row_facts.specs.Calls.{names_machine}

-- the disk is not attached
abbrev is_off : DiskRow → Bool
is_off d = not d.attached && not d.mounted

let_go_off : (xs : List DiskRow) → list_all is_off (map let_go xs) ≡ true
let_go_off [] = refl
let_go_off (x ∷ xs) = let_go_off xs

more_off : (xs : List DiskRow) (new : DiskRow) → is_off new ≡ true → list_all is_off xs ≡ true →
    list_all is_off (xs ++ new ∷ []) ≡ true
more_off [] new off all = ap (λ b. b && true) off
more_off (x ∷ xs) new off all = by_first (more_off xs new off) (is_off x) all
  where
    by_first : (list_all is_off xs ≡ true → list_all is_off (xs ++ new ∷ []) ≡ true) → (b : Bool) →
        (b && list_all is_off xs) ≡ true → (b && list_all is_off (xs ++ new ∷ [])) ≡ true
    by_first others true all = others all
    by_first others false all = absurd cc

-- a row without a machine is not lost
pub unlost_without : (row : Row) → has_machine_as_needed row ≡ true → row.vm ≡ None → row.lost ≡ false
unlost_without row needed none =
    by_lost row.lost
    (and_parts (implies row.lost false) _ (sym (ap (λ o. implies row.lost (is_some o)
    && (is_some o || list_all is_off row.disks)) none) ∙ needed)).0
  where
    by_lost : (b : Bool) → implies b false ≡ true → b ≡ false
    by_lost true is = sym is
    by_lost false is = refl

-- with a machine nothing is asked
served : (lost some rest : Bool) → some ≡ true → (implies lost some && (some || rest)) ≡ true
served true true rest is = refl
served false true rest is = refl
served lost false rest is = absurd cc

more_needed : (lost some : Bool) (xs : List DiskRow) (new : DiskRow) → is_off new ≡ true →
    (implies lost some && (some || list_all is_off xs)) ≡ true →
    (implies lost some && (some || list_all is_off (xs ++ new ∷ []))) ≡ true
more_needed lost true xs new off is = served lost true (list_all is_off (xs ++ new ∷ [])) refl
more_needed true false xs new off is = absurd cc
more_needed false false xs new off is = more_off xs new off is

disk_needed : (row : Row) (tag : ℕ) (wanted : DiskWant) (found : Option ℕ) → has_machine_as_needed row ≡ true →
    has_machine_as_needed (with_disk tag wanted found row) ≡ true
disk_needed row tag wanted (Some d) needed = more_needed row.lost (is_some row.vm) row.disks _ refl needed
disk_needed row tag wanted None needed = needed

found_needed : (row : Row) (tag : ℕ) (found : Option ℕ) (doubt : Option Doubt) → has_machine_as_needed row ≡ true →
    has_machine_as_needed (with_found tag found doubt row) ≡ true
found_needed row tag found None needed = needed
found_needed row tag found (Some d) needed = by_call d.n d.call
  where
    by_call : (m : ℕ) (c : Call) →
        has_machine_as_needed (with_found tag found (Some (record { n = m; call = c })) row) ≡ true
    by_call m (calls.CreateDisk wanted vm) = disk_needed row tag wanted found needed
    by_call m c = needed

machine_needed : (row : Row) (agent : ℕ) (found : Option ℕ) → has_machine_as_needed row ≡ true →
    has_machine_as_needed (with_machine agent found row) ≡ true
machine_needed row agent (Some v) needed = served row.lost true (list_all is_off row.disks) refl
machine_needed row agent None needed = let_go_off row.disks

told_needed : (n : ℕ) (call : Call) (answer : Answer) (row : Row) → has_machine_as_needed row ≡ true →
    (names_machine call ≡ true → is_some row.vm ≡ true) →
    has_machine_as_needed (row_by_answer n call answer row) ≡ true
told_needed n (calls.CreateVm make hint) (answers.Cid v) row needed named = machine_needed row n (Some v) needed
told_needed n (calls.FindVm agent) (answers.Found found) row needed named = machine_needed row agent found needed
told_needed n (calls.DeleteVm v) answers.Done row needed named = let_go_off row.disks
told_needed n (calls.HasVm v) answers.No row needed named = let_go_off row.disks
told_needed n (calls.CreateDisk wanted v) (answers.Cid d) row needed named =
    disk_needed row n wanted (Some d) needed
told_needed n (calls.FindDisk tag) (answers.Found found) row needed named =
    found_needed row tag found row.doubt needed
told_needed n (calls.AttachDisk v d) answers.Done row needed named =
    served row.lost (is_some row.vm) _ (named refl)
told_needed n (calls.DetachDisk v d) answers.Done row needed named =
    served row.lost (is_some row.vm) _ (named refl)
told_needed n (calls.GetDisks v) (answers.Disks numbers) row needed named =
    served row.lost (is_some row.vm) _ (named refl)
told_needed n (calls.MountDisk v d) answers.Done row needed named =
    served row.lost (is_some row.vm) _ (named refl)
told_needed n (calls.UnmountDisk v d) answers.Done row needed named =
    served row.lost (is_some row.vm) _ (named refl)
told_needed n (calls.ListDisk v) (answers.Disks numbers) row needed named =
    served row.lost (is_some row.vm) _ (named refl)
told_needed n (calls.MigrateDisk v from to) answers.Done row needed named =
    served row.lost (is_some row.vm) _ (named refl)
told_needed n (calls.HasVm v) answers.Yes row needed named = needed
told_needed n (calls.Apply v spec) answers.Done row needed named = needed
told_needed n (calls.Start v) answers.Done row needed named = needed
told_needed n (calls.Drain v) answers.Done row needed named = needed
told_needed n (calls.Stop v) answers.Done row needed named = needed
told_needed n (calls.GetState v) (answers.Facts spec running drained) row needed named = needed
told_needed n call answer row needed named = needed

gone_needed : (call : Call) (row : Row) → has_machine_as_needed row ≡ true →
    (names_machine call ≡ true → is_some row.vm ≡ true) → has_machine_as_needed (row_at_gone call row) ≡ true
gone_needed (calls.Ping v) row needed named = served true (is_some row.vm) _ (named refl)
gone_needed (calls.DeleteVm v) row needed named = by_loss row.lost
  where
    by_loss : (b : Bool) →
        has_machine_as_needed (if b then without_machine row else record row { doubt = None }) ≡ true
    by_loss true = let_go_off row.disks
    by_loss false = needed
gone_needed call row needed named = needed

pub after_needed : (n : ℕ) (call : Call) (answer : Answer) (row : Row) → has_machine_as_needed row ≡ true →
    (names_machine call ≡ true → is_some row.vm ≡ true) → has_machine_as_needed (after n call answer row) ≡ true
after_needed n call answers.Failed row needed named = needed
after_needed n call answers.Gone row needed named = gone_needed call row needed named
after_needed n call answer row needed named = told_needed n call answer row needed named

-- the next call keeps it, however it is answered
pub needed_kept : (want : Option GoalRow) (row : Row) (n : ℕ) (call : Call) (answer : Answer) →
    next_call want row ≡ Some call → has_machine_as_needed row ≡ true →
    has_machine_as_needed (after n call answer (begun_row n call row)) ≡ true
needed_kept want row n call answer next needed =
    after_needed n call answer (begun_row n call row) needed (next_named want row call next)
