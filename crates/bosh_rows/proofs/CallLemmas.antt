-- The next step of a row is a call.
use Rattle.std.proofs.Common.{◌≡◌, Bool, true, false, cond, Option, Some, None, List, [], ◌∷◌, refl, subst, arith}
use Rattle.std.specs.Prelude.{is_some}
use Rattle.std.specs.List.{list_all}
use Rattle.std.specs.Option.{option_and_then}
use Rattle.bosh_base.specs.Call.{method_of}
use Rattle.bosh_base.specs.declared.disk_want.DiskWant.{DiskWant}
use Rattle.bosh_base.specs.declared.goal.GoalRow.{GoalRow}
use Rattle.bosh_base.specs.declared.method.Method.{Method}
use Rattle.bosh_base.specs.declared.method.Method.TheVariants.{CreateVm, CreateDisk}
use Rattle.bosh_base.specs.declared.row.Doubt as doubt
use Rattle.bosh_base.specs.declared.row.Row.{Row}
use Rattle.bosh_base.specs.declared.row.Vm as vm
use Rattle.bosh_rows.specs.CallOf.{call_of, has_its_machine, next_call}
use Rattle.bosh_rows.specs.NextStep.{first_of, plain, lost_method, lost_step, probe_method, removal, pausing, clearing, disk_step, applying, starting, tending, machine_step, known_step, next_step}
use Rattle.bosh_rows.specs.declared.step.Step.{Step}

-- the step, if it is one, is a call
abbrev pub is_call : Option GoalRow → Row → Option Step → Bool
is_call want row (Some step) = is_some (call_of step want row)
is_call want row None = true

-- ---- where there is a machine

removal_calls : (want : Option GoalRow) (row : Row) (v : vm.Vm) → row.vm ≡ Some v
    → is_call want row (removal row) ≡ true
removal_calls want row v there = grind (arith, there)

pausing_calls : (want : GoalRow) (row : Row) (v : vm.Vm) → row.vm ≡ Some v
    → is_call (Some want) row (pausing want row) ≡ true
pausing_calls want row v there = grind (arith, there)

clearing_calls : (want : GoalRow) (row : Row) (v : vm.Vm) → row.vm ≡ Some v
    → is_call (Some want) row (clearing want row) ≡ true
clearing_calls want row v there = grind (arith, there)

disk_calls : (want : GoalRow) (row : Row) (v : vm.Vm) → row.vm ≡ Some v → (disk : Option DiskWant) → want.disk ≡ disk
    → is_call (Some want) row (disk_step want row disk) ≡ true
disk_calls want row v there (Some wanted) asked = grind (arith, there, asked)
disk_calls want row v there None asked = grind (arith, there)

applying_calls : (want : GoalRow) (row : Row) (v : vm.Vm) → row.vm ≡ Some v
    → is_call (Some want) row (applying want row) ≡ true
applying_calls want row v there = grind (arith, there)

starting_calls : (want : GoalRow) (row : Row) (v : vm.Vm) → row.vm ≡ Some v
    → is_call (Some want) row (starting want row) ≡ true
starting_calls want row v there = grind (arith, there)

-- the first of steps that are calls is a call
first_calls : (want : Option GoalRow) (row : Row) (steps : List (Option Step))
    → list_all (is_call want row) steps ≡ true → is_call want row (first_of steps) ≡ true
first_calls want row [] calls = refl
first_calls want row (Some step ∷ steps) calls = grind (arith)
first_calls want row (None ∷ steps) calls = first_calls want row steps calls

tending_calls : (want : GoalRow) (row : Row) (v : vm.Vm) → row.vm ≡ Some v
    → is_call (Some want) row (tending want row) ≡ true
tending_calls want row v there =
    let p = pausing_calls want row v there in
    let c = clearing_calls want row v there in
    let d = disk_calls want row v there want.disk refl in
    let a = applying_calls want row v there in
    let s = starting_calls want row v there in
    first_calls (Some want) row
    (pausing want row ∷ clearing want row ∷ disk_step want row want.disk ∷ applying want row ∷ starting want row ∷ [])
    (rw (p, c, d, a, s) refl)

-- ---- all rules

machine_calls : (want : Option GoalRow) (row : Row) (v : Option vm.Vm) → row.vm ≡ v
    → is_call want row (machine_step want row v) ≡ true
machine_calls None row (Some v) there = removal_calls None row v there
machine_calls None row None there = refl
machine_calls (Some want) row (Some v) there =
    grind (arith, removal_calls (Some want) row v there, tending_calls want row v there)
machine_calls (Some want) row None there = grind arith

-- the call that asks for one in doubt
probe_calls : (want : Option GoalRow) (row : Row) (d : doubt.Doubt) → row.doubt ≡ Some d
    → (v : Option vm.Vm) → row.vm ≡ v → has_its_machine row ≡ true → (m : Method) → method_of d.call ≡ m
    → is_call want row (Some (plain (probe_method m))) ≡ true
probe_calls want row d doubts v there has CreateVm is = rw doubts refl
probe_calls want row d doubts v there has CreateDisk is = rw doubts refl
probe_calls want row d doubts (Some v) there has m is = rw there refl
probe_calls want row d doubts None there has m is = absurd (grind (arith, doubts, there, is, has))

lost_calls : (want : Option GoalRow) (row : Row) → row.lost ≡ true → has_its_machine row ≡ true
    → (v : Option vm.Vm) → row.vm ≡ v → (d : Option doubt.Doubt) → row.doubt ≡ d
    → is_call want row (Some (lost_step d)) ≡ true
lost_calls want row lost has None there d doubts = absurd (grind (arith, lost, there, has))
lost_calls want row lost has (Some v) there None doubts = rw there refl
lost_calls want row lost has (Some v) there (Some d) doubts = by_method (method_of d.call)
  where
    by_method : (m : Method) → is_call want row (Some (plain (lost_method m))) ≡ true
    by_method CreateDisk = rw doubts refl
    by_method m = rw there refl

known_calls : (want : Option GoalRow) (row : Row) → has_its_machine row ≡ true
    → (d : Option doubt.Doubt) → row.doubt ≡ d
    → is_call want row (known_step want row d) ≡ true
known_calls want row has None doubts = machine_calls want row row.vm refl
known_calls want row has (Some d) doubts = probe_calls want row d doubts row.vm refl has (method_of d.call) refl

-- the next step of a row that has the machine that it needs is a call
pub next_calls : (want : Option GoalRow) (row : Row) → has_its_machine row ≡ true
    → is_call want row (next_step want row) ≡ true
next_calls want row has = by_loss row.lost refl
  where
    by_loss : (b : Bool) → row.lost ≡ b
        → is_call want row (cond b (Some (lost_step row.doubt)) (known_step want row row.doubt)) ≡ true
    by_loss true lost = lost_calls want row lost has row.vm refl row.doubt refl
    by_loss false lost = known_calls want row has row.doubt refl

pub next_is_call : (want : Option GoalRow) (row : Row) (step : Step) → next_step want row ≡ Some step
    → has_its_machine row ≡ true → is_some (call_of step want row) ≡ true
next_is_call want row step next has =
    let calls : is_call want row (next_step want row) ≡ true = next_calls want row has in
    subst (λ (found : Option Step). is_call want row found ≡ true) next calls

pub next_is_next_call : (want : Option GoalRow) (row : Row) → has_its_machine row ≡ true
    → is_some (next_call want row) ≡ is_some (next_step want row)
next_is_next_call want row has = by_step (next_step want row) (next_calls want row has)
  where
    by_step : (step : Option Step) → is_call want row step ≡ true
        → is_some (option_and_then (λ it. call_of it want row) step) ≡ is_some step
    by_step (Some step) calls = calls
    by_step None calls = refl
