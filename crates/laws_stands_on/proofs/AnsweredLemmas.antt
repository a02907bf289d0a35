-- What an answer changes in a work, and how a failed call ends a task.
use Rattle.std.proofs.Common.{◌≡◌, ◌∙◌, ℕ, Bool, true, false}
use Rattle.std.proofs.Common.{Option, Some, None, refl}
use Rattle.std.specs.Prelude.{is_some, nat_lt, if◌then◌else◌}
use Rattle.std.specs.Option.{option_map}
use Rattle.std.specs.Ordering.{nat_cmp}
use Rattle.std.proofs.lemmas.Bool.{false≢true}
use Rattle.bosh_base.specs.declared.answer.Answer.{Answer}
use Rattle.bosh_base.specs.declared.answer.Answer.TheVariants as answers
use Rattle.bosh_base.specs.declared.call.Call.{Call}
use Rattle.bosh_base.specs.declared.call.Call.TheVariants.{CompilePackage, Ping}
use Rattle.bosh_base.specs.declared.digest.Digest.{Digest}
use Rattle.bosh_base.specs.declared.entry.Begin.{Begin}
use Rattle.bosh_base.specs.declared.failure.Failure.{Failure}
use Rattle.bosh_base.specs.declared.failure.Failure.TheVariants as failures
use Rattle.bosh_base.specs.declared.key.Key.{Key}
use Rattle.bosh_base.specs.declared.task.TaskEnd.{TaskEnd}
use Rattle.bosh_fold.specs.Calls.{built_in}
use Rattle.bosh_fold.specs.Calls.{pinged_by}
use Rattle.bosh_history.specs.Calls as known_calls
use Rattle.bosh_history.specs.Calls.{least_failure, number_of}
use Rattle.bosh_history.specs.Known.{Known}
use Rattle.bosh_history.specs.Steps.{compiles}
use Rattle.bosh_history.specs.Tasks.{end_by}
use Rattle.bosh_plan.specs.Ended.{is_told}
use Rattle.bosh_records.specs.Changes.{with_pinged}
use Rattle.bosh_records.specs.Places.{places_in}
use Rattle.bosh_records.specs.Recorded.{Recorded}
use Rattle.bosh_records.specs.Table.{changed}
use Rattle.bosh_work.specs.Line.{finished_line, given_line}
use Rattle.bosh_work.specs.Work as work_specs
use Rattle.bosh_work.specs.Work.{failed_by, given}
use Rattle.bosh_work.specs.declared.line.Line.{Line}
use Rattle.bosh_work.specs.declared.part.Places.{Places}
use Rattle.bosh_work.specs.declared.work.Work.{Work}
use Rattle.laws_stands.specs.WorkStands.{asked_line, asks, end_of}
use Rattle.laws_stands_on.proofs.WorkLemmas.{compiles_itself}
use Rattle.laws_stands_on.proofs.LinkLemmas.{ListsSame}

-- ---- failures

-- a failure ends a task by the number of its call
number_is : (k : Known) (failure : Failure) → is_some (k.begun (number_of failure)) ≡ true
    → work_specs.number_of (end_of k failure) ≡ number_of failure
number_is k failures.Interrupted is = refl
number_is k (failures.Call n) is = by (k.begun n) is
  where
    by : (o : Option Begin) → is_some o ≡ true → work_specs.number_of (end_by (failures.Call n) o) ≡ n
    by (Some b) is = refl
    by None is = absurd (false≢true is)
number_is k (failures.Gone n) is = by (k.begun n) is
  where
    by : (o : Option Begin) → is_some o ≡ true → work_specs.number_of (end_by (failures.Gone n) o) ≡ n
    by (Some b) is = refl
    by None is = absurd (false≢true is)

-- the least of two failed calls ends a task
pub least_is : (k : Known) (old new : Option Failure)
    → ((failure : Failure) → old ≡ Some failure → is_some (k.begun (number_of failure)) ≡ true)
    → ((failure : Failure) → new ≡ Some failure → is_some (k.begun (number_of failure)) ≡ true)
    → (if work_specs.is_less (option_map (end_of k) new) (option_map (end_of k) old) then option_map (end_of k) new
    else option_map (end_of k) old)
    ≡ option_map (end_of k) (least_failure old new)
least_is k (Some old) (Some new) old_begun new_begun =
    (λ i. if nat_lt (number_is k new (new_begun new refl) i) (number_is k old (old_begun old refl) i)
    then Some (end_of k new) else Some (end_of k old))
    ∙ by (nat_lt (number_of new) (number_of old))
  where
    by : (b : Bool) → (if b then Some (end_of k new) else Some (end_of k old))
        ≡ option_map (end_of k) (if b then Some new else Some old)
    by true = refl
    by false = refl
least_is k None (Some new) old_begun new_begun = refl
least_is k (Some old) None old_begun new_begun = refl
least_is k None None old_begun new_begun = refl

-- ---- what an answer changes in a work

-- an answered ping is noted
abbrev pub takes_ping : Call → Bool → Bool
takes_ping (Ping vm) true = true
takes_ping call told = false

pub takes_as : (call : Call) (answer : Answer) → takes_ping call (is_told answer) ≡ asks call answer
takes_as (Ping vm) answers.Failed = refl
takes_as (Ping vm) answer = refl
takes_as call answer = refl

pub pinged_as : (told : Bool) (begin : Begin) (call : Call) (it : Recorded)
    → pinged_by told (record begin { call = call }) it
    ≡ record it {
      works = if takes_ping call told then changed nat_cmp begin.task
          (with_pinged (places_in it begin.owner).part.ping) it.works else it.works;
    }
pinged_as true begin (Ping vm) it = refl
pinged_as true begin call it = refl
pinged_as false begin (Ping vm) it = refl
pinged_as false begin call it = refl

pub none_built : (call : Call) (built : Option Digest) (it : Recorded) → ((key : Key) → compiles key call ≡ false)
    → built_in call built it ≡ it
none_built (CompilePackage vm work deps) built it none = absurd (compiles_itself vm work deps none)
none_built call built it none = refl

pub none_known : (call : Call) (answer : Answer) (k : Known) → ((key : Key) → compiles key call ≡ false)
    → known_calls.compiles call answer k ≡ k
none_known (CompilePackage vm work deps) answer k none = absurd (compiles_itself vm work deps none)
none_known call answer k none = refl

-- a work once its call ended
abbrev pub ended_work : Bool → Places → Option TaskEnd → Work → Work
ended_work asked places fail w = failed_by (if asked then with_pinged places.part.ping (given w places)
    else given w places) fail

pub ended_as : (asked : Bool) (places : Places) (fail : Option TaskEnd) (w : Work)
    → ended_work asked places fail w
    ≡ record (given w places) {
      pings = asked_line asked (given_line w.pings places.part.ping) places.part.ping;
      failed = (ended_work asked places fail w).failed;
    }
ended_as true places fail w = refl
ended_as false places fail w = refl

pub failed_as : (asked : Bool) (places : Places) (fail : Option TaskEnd) (w : Work)
    → (ended_work asked places fail w).failed ≡ (if work_specs.is_less fail w.failed then fail else w.failed)
failed_as true places fail w = refl
failed_as false places fail w = refl

lines_given : {T : Type 0} (line : Line T) (o : Option ℕ) → (given_line line o).items ≡ line.items
lines_given line None = refl
lines_given line (Some place) = refl

lines_finished : {T : Type 0} (line : Line T) (o : Option ℕ) → (finished_line line o).items ≡ line.items
lines_finished line None = refl
lines_finished line (Some place) = refl

pub ends_same : (asked : Bool) (places : Places) (fail : Option TaskEnd) (w : Work)
    → ListsSame (ended_work asked places fail w) w
ends_same true places fail w = record {
  pings = lines_finished (given_line w.pings places.part.ping) places.part.ping
      ∙ lines_given w.pings places.part.ping;
  obsolete = lines_given w.obsolete places.part.leaving;
  changed = refl;
  sweep = lines_given w.sweep places.sweep;
  disks = lines_given w.disks places.deleting;
}
ends_same false places fail w = record {
  pings = lines_given w.pings places.part.ping;
  obsolete = lines_given w.obsolete places.part.leaving;
  changed = refl;
  sweep = lines_given w.sweep places.sweep;
  disks = lines_given w.disks places.deleting;
}
