-- What an answer tells of the machine of a row: it is gone, is the one that it was, or was made or found.
use Rattle.std.proofs.Common.{◌≡◌, ◌∙◌, ℕ, Bool, true, false, Option, Some, None, List, refl, sym, inl, inr}
use Rattle.std.specs.Prelude.{if◌then◌else◌}
use Rattle.std.proofs.lemmas.Bool.{eq-eqb, false≢true}
use Rattle.bosh_base.specs.CallStep.{CallStep, has_agent, is_gone, unless_gone}
use Rattle.bosh_base.specs.Cloud.{is_drained, is_running, spec_of}
use Rattle.bosh_base.specs.declared.answer.Answer.{Answer}
use Rattle.bosh_base.specs.declared.answer.Answer.TheVariants as answers
use Rattle.bosh_base.specs.declared.call.Call.{Call}
use Rattle.bosh_base.specs.declared.call.Call.TheVariants as calls
use Rattle.bosh_base.specs.declared.digest.Digest.{Digest}
use Rattle.bosh_base.specs.declared.entry.Entry.{Entry}
use Rattle.bosh_base.specs.declared.goal.GoalRow.{GoalRow}
use Rattle.bosh_base.specs.declared.key.KeyWork.{KeyWork}
use Rattle.bosh_base.specs.declared.make.Make.{Make}
use Rattle.bosh_base.specs.declared.row.Doubt.{Doubt}
use Rattle.bosh_base.specs.declared.row.Row.{Row}
use Rattle.bosh_base.specs.declared.row.Vm.{Vm}
use Rattle.bosh_history.specs.Moments.{tells_of}
use Rattle.bosh_lawful.specs.Clean.{is_failed}
use Rattle.bosh_rows.specs.After.{after, row_by_answer, with_found, with_machine}
use Rattle.bosh_rows.specs.CallOf.{next_call}
use Rattle.laws_kept_facts.proofs.CallCases.{by_all, Doubts}
use Rattle.laws_row_facts.specs.Calls.{is_ping}
use Rattle.laws_rows.proofs.StepCases.{Cases}
use Rattle.laws_rows.specs.Rightful.{is_machine}

-- ---- an answer

-- the machine whose agent the call asks what it has, or tells what to run
abbrev pub asks_agent : Call → Option ℕ
asks_agent (calls.Ping v) = Some v
asks_agent (calls.Apply v spec) = Some v
asks_agent (calls.GetState v) = Some v
asks_agent call = None

pub data Tells (c : Call) (a : Answer) (old new : Row) : Type 0 where
  gone : new.vm ≡ None → Tells c a old new
  same : new.vm ≡ old.vm → new.lost ≡ old.lost → new.spec ≡ old.spec → Tells c a old new
  told : (v : ℕ) → asks_agent c ≡ Some v → is_gone a ≡ false → new.vm ≡ old.vm → new.lost ≡ old.lost
      → Tells c a old new
  made : (v agent : ℕ) → new.vm ≡ Some (record { vm = v; agent = agent }) → new.spec ≡ old.spec
      → tells_of c a ≡ Some v → Tells c a old new

found_same : (tag : ℕ) (d : Option ℕ) (doubt : Option Doubt) (c : Call) (a : Answer) (row : Row)
    → Tells c a row (with_found tag d doubt row)
found_same tag d (Some doubt) c a row = by doubt.call d
  where
    by : (x : Call) (d : Option ℕ) → Tells c a row (with_found tag d (Some (record doubt { call = x })) row)
    by (calls.CreateDisk want v) (Some d) = same refl refl refl
    by (calls.CreateDisk want v) None = same refl refl refl
    by x d = same refl refl refl
found_same tag d None c a row = same refl refl refl

by_answer : (n : ℕ) (c : Call) (a : Answer) (row : Row) → is_gone a ≡ false → Tells c a row (row_by_answer n c a row)
by_answer n (calls.CreateVm make disks) (answers.Cid v) row there = made v n refl refl refl
by_answer n (calls.FindVm agent) (answers.Found (Some v)) row there = made v agent refl refl refl
by_answer n (calls.FindVm agent) (answers.Found None) row there = gone refl
by_answer n (calls.DeleteVm v) answers.Done row there = gone refl
by_answer n (calls.HasVm v) answers.No row there = gone refl
by_answer n (calls.HasVm v) answers.Yes row there = same refl refl refl
by_answer n (calls.CreateDisk want v) (answers.Cid d) row there = same refl refl refl
by_answer n (calls.FindDisk tag) (answers.Found d) row there =
    found_same tag d row.doubt (calls.FindDisk tag) (answers.Found d) row
by_answer n (calls.AttachDisk v k) answers.Done row there = same refl refl refl
by_answer n (calls.DetachDisk v k) answers.Done row there = same refl refl refl
by_answer n (calls.GetDisks v) (answers.Disks numbers) row there = same refl refl refl
by_answer n (calls.MountDisk v k) answers.Done row there = same refl refl refl
by_answer n (calls.UnmountDisk v k) answers.Done row there = same refl refl refl
by_answer n (calls.ListDisk v) (answers.Disks numbers) row there = same refl refl refl
by_answer n (calls.MigrateDisk v from to) answers.Done row there = same refl refl refl
by_answer n (calls.Apply v spec) answers.Done row there = told v refl refl refl refl
by_answer n (calls.Start v) answers.Done row there = same refl refl refl
by_answer n (calls.Drain v) answers.Done row there = same refl refl refl
by_answer n (calls.Stop v) answers.Done row there = same refl refl refl
by_answer n (calls.GetState v) (answers.Facts spec running drained) row there = told v refl refl refl refl
by_answer n c a row there = same refl refl refl

-- but for a ping
pub tells : (n : ℕ) (c : Call) (a : Answer) (row : Row) → is_ping c ≡ false → Tells c a row (after n c a row)
tells n c answers.Failed row plain = same refl refl refl
tells n (calls.Ping v) answers.Gone row plain = absurd (false≢true (sym plain))
tells n (calls.DeleteVm v) answers.Gone row plain = by row.lost
  where
    by : (lost : Bool)
        → Tells (calls.DeleteVm v) answers.Gone row
        (if lost then with_machine 0 None row else record row { doubt = None })
    by true = gone refl
    by false = same refl refl refl
tells n c answers.Gone row plain = same refl refl refl
tells n c a row plain = by_answer n c a row refl

-- ---- who answers it

-- an agent that answers is there
pub agent_answers : (built : KeyWork → List Digest → Digest) (xs : List Entry) (c : Call) (v : ℕ) (has : Bool)
    (a : Answer) → asks_agent c ≡ Some v → CallStep built xs c has a → is_failed a ≡ false → is_gone a ≡ false
    → has_agent xs v ≡ true
agent_answers built xs c v has a asks (inr (failed, may)) well there =
    absurd (false≢true (sym well ∙ (λ j. is_failed (failed j))))
agent_answers built xs (calls.Ping u) v has a asks (inl (says, takes)) well there =
    let same : u ≡ v = cc in
    (λ j. has_agent xs (sym same j)) ∙ by (has_agent xs u) (sym (λ j. is_gone (says j)) ∙ there)
  where
    by : (b : Bool) → is_gone (unless_gone b answers.Done) ≡ false → b ≡ true
    by true is = refl
    by false is = absurd (false≢true (sym is))
agent_answers built xs (calls.Apply u spec) v has a asks (inl (says, takes)) well there =
    let same : u ≡ v = cc in
    (λ j. has_agent xs (sym same j)) ∙ by (has_agent xs u) (sym (λ j. is_gone (says j)) ∙ there)
  where
    by : (b : Bool) → is_gone (unless_gone b answers.Done) ≡ false → b ≡ true
    by true is = refl
    by false is = absurd (false≢true (sym is))
agent_answers built xs (calls.GetState u) v has a asks (inl (says, takes)) well there =
    let same : u ≡ v = cc in
    (λ j. has_agent xs (sym same j)) ∙ by (has_agent xs u) (sym (λ j. is_gone (says j)) ∙ there)
  where
    by : (b : Bool)
        → is_gone (unless_gone b (answers.Facts (spec_of xs u) (is_running xs u) (is_drained xs u))) ≡ false
        → b ≡ true
    by true is = refl
    by false is = absurd (false≢true (sym is))
agent_answers built xs c v has a asks (inl (says, takes)) well there = absurd cc

-- ---- of what the next call of a row asks

-- what it asks the agent of is the row's machine, and a machine is looked for whose creation is in doubt
abbrev pub AsksOf : Row → Call → Type 0
AsksOf row (calls.GetState v) = is_machine row.vm v ≡ true
AsksOf row (calls.Apply v spec) = is_machine row.vm v ≡ true
AsksOf row (calls.FindVm m) = (make : Make) × (hint : List ℕ) × Doubts row m (calls.CreateVm make hint)
AsksOf row call = Unit {0}

one : (row : Row) (it : Vm) → row.vm ≡ Some it → is_machine row.vm it.vm ≡ true
one row it has = (λ j. is_machine (has j) it.vm) ∙ eq-eqb it.vm it.vm refl

steps : (want : Option GoalRow) (row : Row) → Cases (AsksOf row) want row
steps want row = record {
  remove_drain = λ it has away runs off. tt;
  remove_stop = λ it has away runs off. tt;
  remove_unmount = λ it d has away rests first. tt;
  remove_detach = λ it d has away rests none first. tt;
  remove_delete = λ it has away rests none too. tt;
  create = λ w wants none here. tt;
  tend_drain = λ w it wants has stays runs halts off. tt;
  tend_stop = λ w it wants has stays runs halts off. tt;
  clear_unmount = λ w it d wants tended first. tt;
  clear_detach = λ w it d wants tended none first. tt;
  release_unmount = λ w it d wants cleared nothing first. tt;
  release_detach = λ w it d wants cleared nothing none first. tt;
  provide = λ w it wanted wants cleared disk none. tt;
  place_attach = λ w it wanted old wants cleared disk was off. tt;
  place_mount = λ w it wanted old wants cleared disk was on off. tt;
  replace_create = λ w it wanted old wants replaced none. tt;
  replace_attach = λ w it wanted old new wants replaced comes off. tt;
  replace_mount = λ w it wanted old new wants replaced comes on off. tt;
  replace_migrate = λ w it wanted old new wants replaced comes on up. tt;
  apply = λ w it wants cleared differs. one row it cleared.tended.has;
  start = λ w it wants cleared disks spec runs rests. tt;
}

pub asks_of : (want : Option GoalRow) (row : Row) (call : Call) → next_call want row ≡ Some call → AsksOf row call
asks_of want row call next =
    by_all (AsksOf row) want row
    (record {
      known = λ found known. steps want row;
      deletes = λ it lost has. tt;
      there = λ it m v has doubts. tt;
      finds_vm = λ m make hint found doubts. (make, hint, doubts);
      finds_disk = λ m wanted v doubts. tt;
      lists = λ it m v x found has doubts. tt;
      shows = λ it m v x found has doubts. tt;
      tells = λ it m c found has doubts state. one row it has;
    }) call next
