-- What is found of a row: its machine or disk is looked for by the number of the call in doubt.
use Rattle.std.proofs.Common.{◌≡◌, true, Some, None, Option}
use Rattle.bosh_base.specs.declared.call.Call.{Call}
use Rattle.bosh_base.specs.declared.call.Call.TheVariants as calls
use Rattle.bosh_base.specs.declared.goal.GoalRow.{GoalRow}
use Rattle.bosh_base.specs.declared.row.Row.{Row}
use Rattle.laws_rows.proofs.StepCases.{Cases, is_tending, telling_cases}
use Rattle.bosh_rows.specs.CallOf.{next_call}
use Rattle.laws_kept_facts.proofs.CallCases.{Doubts, by_all}

-- a machine is created where the row has none, and one that is looked for is one of which the row is in doubt
abbrev pub LooksFor : Row → Call → Type 0
LooksFor row (calls.CreateVm make hint) = row.vm ≡ None
LooksFor row (calls.FindVm m) = (c : Call) × Doubts row m c
LooksFor row call = Unit {0}

known_looks : (want : Option GoalRow) (row : Row) → Cases (LooksFor row) want row
known_looks want row = telling_cases (LooksFor row) want row tends (λ it has off. tt) (λ w wants none. none) (λ v old new. tt)
  where
    tends : (call : Call) → is_tending call ≡ true → LooksFor row call
    tends (calls.CreateVm make hint) is = absurd cc
    tends (calls.FindVm m) is = absurd cc
    tends call is = tt

pub looks_for : (want : Option GoalRow) (row : Row) (call : Call) → next_call want row ≡ Some call → LooksFor row call
looks_for want row call next =
    by_all (LooksFor row) want row
    (record {
      known = λ found known. known_looks want row;
      deletes = λ it lost has. tt;
      there = λ it m v has doubts. tt;
      finds_vm = λ m make hint found doubts. (calls.CreateVm make hint, doubts);
      finds_disk = λ m wanted v doubts. tt;
      lists = λ it m v x found has doubts. tt;
      shows = λ it m v x found has doubts. tt;
      tells = λ it m c found has doubts state. tt;
    }) call next
