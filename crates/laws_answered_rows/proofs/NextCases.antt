-- A call that leaves a doubt is of a row that has none, so the next call of a row does not hang on what it leaves.
use Rattle.std.proofs.Common.{◌≡◌, ℕ, Bool, true, false, Option, Some, None, refl, sym, ◌∙◌, ap, inl, inr}
use Rattle.std.specs.Prelude.{◌⊎◌, not}
use Rattle.std.specs.Option.{option_and_then}
use Rattle.bosh_base.specs.Cloud.{when}
use Rattle.bosh_base.specs.declared.call.Call.{Call}
use Rattle.bosh_base.specs.declared.call.Call.TheVariants as calls
use Rattle.bosh_base.specs.declared.goal.GoalRow.{GoalRow}
use Rattle.bosh_base.specs.declared.make.Make.{Make}
use Rattle.bosh_base.specs.declared.method.Method.TheVariants.{CreateVm}
use Rattle.bosh_base.specs.declared.row.Row.{Row}
use Rattle.bosh_base.specs.declared.row.Vm.{Vm}
use Rattle.laws_answered_rows.proofs.FoundCases.{LooksFor, looks_for}
use Rattle.laws_kept_facts.proofs.CallCases.{by_all}
use Rattle.laws_row_facts.specs.Calls.{row_before}
use Rattle.laws_rows.proofs.StepCases.{Cases}
use Rattle.bosh_rows.specs.After.{begun_row}
use Rattle.bosh_rows.specs.CallOf.{call_of, next_call}
use Rattle.bosh_rows.specs.Disks.{is_detached}
use Rattle.bosh_rows.specs.NextStep.{plain}
use Rattle.bosh_rows.specs.Tied.{without_doubt}

-- a call that leaves a doubt is of a row that has none, or is the deletion of a lost machine
abbrev pub BeginsSo : Row → Call → Type 0
BeginsSo row (calls.DeleteVm v) =
    (row.doubt ≡ None) ⊎ ((row.lost ≡ true) × ((it : Vm) × ((row.vm ≡ Some it) × (it.vm ≡ v))))
BeginsSo row (calls.HasVm v) = Unit {0}
BeginsSo row (calls.FindVm m) = Unit {0}
BeginsSo row (calls.FindDisk m) = Unit {0}
BeginsSo row (calls.GetDisks v) = Unit {0}
BeginsSo row (calls.GetState v) = Unit {0}
BeginsSo row (calls.ListDisk v) = Unit {0}
BeginsSo row call = row.doubt ≡ None

known_begins : (want : Option GoalRow) (row : Row) → row.doubt ≡ None → Cases (BeginsSo row) want row
known_begins want row known = record {
  remove_drain = λ it has away runs off. known;
  remove_stop = λ it has away runs off. known;
  remove_unmount = λ it d has away rests first. known;
  remove_detach = λ it d has away rests none first. known;
  remove_delete = λ it has away rests none too. inl known;
  create = λ w wants none here. known;
  tend_drain = λ w it wants has stays runs halts off. known;
  tend_stop = λ w it wants has stays runs halts off. known;
  clear_unmount = λ w it d wants tended first. known;
  clear_detach = λ w it d wants tended none first. known;
  release_unmount = λ w it d wants cleared nothing first. known;
  release_detach = λ w it d wants cleared nothing none first. known;
  provide = λ w it wanted wants cleared disk none. known;
  place_attach = λ w it wanted old wants cleared disk was off. known;
  place_mount = λ w it wanted old wants cleared disk was on off. known;
  replace_create = λ w it wanted old wants replaced none. known;
  replace_attach = λ w it wanted old new wants replaced comes off. known;
  replace_mount = λ w it wanted old new wants replaced comes on off. known;
  replace_migrate = λ w it wanted old new wants replaced comes on up. known;
  apply = λ w it wants cleared differs. known;
  start = λ w it wants cleared disks spec runs rests. known;
}

pub begins_so : (want : Option GoalRow) (row : Row) (call : Call) → next_call want row ≡ Some call → BeginsSo row call
begins_so want row call next =
    by_all (BeginsSo row) want row
    (record {
      known = λ found known. known_begins want row known;
      deletes = λ it lost has. inr (lost, (it, (has, refl)));
      there = λ it m v has doubts. tt;
      finds_vm = λ m make hint found doubts. tt;
      finds_disk = λ m wanted v doubts. tt;
      lists = λ it m v x found has doubts. tt;
      shows = λ it m v x found has doubts. tt;
      tells = λ it m c found has doubts state. tt;
    }) call next

-- the next call of a row without a machine does not hang on its make
make_unseen : (want : Option GoalRow) (row : Row) (make : Option Make) (lost : Bool) →
    next_call want (record row { make = make; vm = None; doubt = None; lost = lost })
    ≡ next_call want (record row { vm = None; doubt = None; lost = lost })
make_unseen want row make true = refl
make_unseen None row make false = refl
make_unseen (Some w) row make false = by_state (is_detached w.state)
  where
    by_state : (b : Bool) →
        option_and_then
        (λ step. call_of step (Some w) (record row { make = make; vm = None; doubt = None; lost = false }))
        (when (not b) (plain CreateVm))
        ≡ option_and_then (λ step. call_of step (Some w) (record row { vm = None; doubt = None; lost = false }))
        (when (not b) (plain CreateVm))
    by_state true = refl
    by_state false = refl

pub known_same : (row : Row) → row.doubt ≡ None → without_doubt row ≡ row
known_same row known = λ i. record row { doubt = sym known i }

-- its next call is the same, whatever the cloud has
pub before_next : (want : Option GoalRow) (n : ℕ) (row : Row) (call : Call) → next_call want row ≡ Some call →
    next_call want (row_before call (begun_row n call row)) ≡ Some call
before_next want n row call next = by_call call next (begins_so want row call next) (looks_for want row call next)
  where
    same : (call : Call) → next_call want row ≡ Some call → row.doubt ≡ None →
        next_call want (without_doubt row) ≡ Some call
    same call next known = ap (next_call want) (known_same row known) ∙ next

    by_call : (call : Call) → next_call want row ≡ Some call → BeginsSo row call → LooksFor row call →
        next_call want (row_before call (begun_row n call row)) ≡ Some call
    by_call (calls.CreateVm make hint) next known none =
        (λ i. next_call want (record row { make = Some make; doubt = None; vm = none i }))
        ∙ (make_unseen want row (Some make) row.lost
        ∙ ((λ i. next_call want (record row { doubt = sym known i; vm = sym none i })) ∙ next))
    by_call (calls.DeleteVm v) next (inl known) looks = same (calls.DeleteVm v) next known
    by_call (calls.DeleteVm v) next (inr (lost, (it, (has, one)))) looks =
        (λ i. next_call want (record row { doubt = None; lost = lost i; vm = has i }))
        ∙ ap (λ k. Some (calls.DeleteVm k)) one
    by_call (calls.HasVm v) next tt looks = next
    by_call (calls.FindVm m) next tt looks = next
    by_call (calls.FindDisk m) next tt looks = next
    by_call (calls.GetDisks v) next tt looks = next
    by_call (calls.GetState v) next tt looks = next
    by_call (calls.ListDisk v) next tt looks = next
    by_call (calls.MigrateDisk v from to) next known looks = next
    by_call (calls.HasDisk d) next known looks = next
    by_call (calls.Ping v) next known looks = next
    by_call (calls.CompilePackage v work deps) next known looks = next
    by_call call next known looks = same call next known
