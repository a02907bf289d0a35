-- A call ends that is the only one of its owner: what is told of it and of its task.
use Rattle.std.proofs.Common.{◌≡◌, ◌∙◌, ℕ, ◌+◌, Bool, true, false, ◌&&◌, not, List, ◌==◌}
use Rattle.std.proofs.Common.{Option, Some, None, ap, refl, sym}
use Rattle.std.specs.Prelude.{count_by, eqb, is_some, nat_le, nat_lt, if◌then◌else◌}
use Rattle.std.specs.Option.{option_and_then, option_map}
use Rattle.std.specs.Ordering.{nat_cmp}
use Rattle.std.proofs.lemmas.Bool.{eq-eqb, eqb-true}
use Rattle.bosh_base.specs.Cloud.{numbers_to}
use Rattle.bosh_base.specs.declared.answer.Answer.{Answer}
use Rattle.bosh_base.specs.declared.answer.Answer.TheVariants as answers
use Rattle.bosh_base.specs.declared.call.Call.{Call}
use Rattle.bosh_base.specs.declared.call.Call.TheVariants.{DeleteVm, Ping}
use Rattle.bosh_base.specs.declared.entry.Begin.{Begin}
use Rattle.bosh_base.specs.declared.failure.Failure.{Failure}
use Rattle.bosh_base.specs.declared.failure.Failure.TheVariants as failures
use Rattle.bosh_base.specs.declared.inst.Inst.{Inst}
use Rattle.bosh_base.specs.declared.owner.Owner.{Owner}
use Rattle.bosh_base.specs.declared.task.TaskEnd.{TaskEnd}
use Rattle.bosh_history.specs.Calls as known_calls
use Rattle.bosh_history.specs.Calls.{least_failure, number_of}
use Rattle.bosh_history.specs.Goals.{is_waiting}
use Rattle.bosh_history.specs.Items.{is_finished}
use Rattle.bosh_history.specs.Known.{Known, Task}
use Rattle.bosh_history.specs.Tasks.{end_by}
use Rattle.bosh_history.specs.Words.{at, holds}
use Rattle.bosh_plan.specs.Ended as planned
use Rattle.bosh_records.specs.Changes.{with_pinged}
use Rattle.bosh_records.specs.Recorded.{Recorded}
use Rattle.bosh_records.specs.Table.{changed, found, thing_in, without}
use Rattle.bosh_records.specs.declared.records.Records.{Records}
use Rattle.bosh_roll.specs.Upd.{is_busy}
use Rattle.bosh_rows.specs.Same.{same_owner}
use Rattle.bosh_rows.specs.SoundSnapshot.{are_distinct}
use Rattle.bosh_work.specs.Work as work_specs
use Rattle.bosh_work.specs.Work.{failed_by, given}
use Rattle.bosh_work.specs.declared.part.Places.{Places}
use Rattle.bosh_work.specs.declared.work.Work.{Work}
use Rattle.laws_stands.specs.Stands.{StandsIn, call_of}
use Rattle.laws_stands.specs.Told.{TellsWell, Told, is_going, is_idle}
use Rattle.laws_stands.specs.WorkStands.{end_of, is_task_call}
use Rattle.laws_stands_on.proofs.AnsweredLemmas.{ended_work, failed_as, least_is}
use Rattle.laws_stands_on.proofs.CallLemmas.{count_within, idle_ended, one_less}
use Rattle.laws_stands_on.proofs.FindLemmas.{find_within, none_is_found}
use Rattle.laws_stands_on.proofs.TableLemmas.{found_without, nat_at, nat_keys}
use Rattle.laws_stands.specs.Once.{IsOnce}
use Rattle.laws_stands_on.proofs.ChangedLemmas.{things_changed, thing_at_key}

-- ---- the works of a task once its call ended

abbrev pub ended_works : ℕ → Bool → Places → Option TaskEnd → List (ℕ × Option Work) → List (ℕ × Option Work)
ended_works n asked places fail works = changed nat_cmp n (λ work. failed_by work fail)
    (if asked then changed nat_cmp n (with_pinged places.part.ping) (changed nat_cmp n
    (λ work. given work places) works)
    else changed nat_cmp n (λ work. given work places) works)

pub ended_works_are : (n : ℕ) (asked : Bool) (places : Places) (fail : Option TaskEnd)
    (works : List (ℕ × Option Work)) (t : ℕ)
    → thing_in nat_cmp (ended_works n asked places fail works) t
    ≡ (if eqb n t then option_map (ended_work asked places fail) (thing_in nat_cmp works t)
    else thing_in nat_cmp works t)
ended_works_are n false places fail works t = things_changed n (λ work. given work places)
    (λ work. failed_by work fail) works t
ended_works_are n true places fail works t =
    things_changed n (with_pinged places.part.ping) (λ work. failed_by work fail)
    (changed nat_cmp n (λ work. given work places) works) t
    ∙ (λ j. if eqb n t then option_map (λ w. failed_by (with_pinged places.part.ping w) fail)
    (thing_at_key n (λ work. given work places) works t j) else thing_at_key n (λ work. given work places) works t j)
    ∙ by (eqb n t) (thing_in nat_cmp works t)
  where
    by : (u : Bool) (o : Option Work)
        → (if u then option_map (λ w. failed_by (with_pinged places.part.ping w) fail)
        (if u then option_map (λ work. given work places) o else o)
        else (if u then option_map (λ work. given work places) o else o))
        ≡ (if u then option_map (ended_work true places fail) o else o)
    by true (Some w) = refl
    by true None = refl
    by false o = refl

-- .. of which it is told who answered a ping
module _ (told : Told) (it : Recorded) (b : Begin) (answer : Answer) (pinged : Inst → Bool)
    (is_open : told.calls b.n ≡ Some b) (stands : StandsIn told it) where
  abbrev k : Known
  k = told.known

  -- what is told once it ended
  abbrev calls_now : ℕ → Option Begin
  calls_now = at eqb b.n None told.calls

  abbrev pub failure : Option Failure
  failure = known_calls.failure_of k b answer

  abbrev pub task_last : Task
  task_last = record (k.task b.task) { pinged = pinged; failed = least_failure (k.task b.task).failed failure }

  abbrev pub told_last : Told
  told_last = record {
    known = record k { task = at eqb b.task task_last k.task };
    calls = calls_now;
    snapped = told.snapped;
  }

  -- no other call is its owner's
  only : (c : ℕ) (d : Begin) → told.calls c ≡ Some d → same_owner d.owner b.owner ≡ true → c ≡ b.n
  only c d there same = stands.tells_well.one_owner c b.n d b there is_open same

  pub has_begun : k.begun b.n ≡ Some b
  has_begun = stands.tells_well.begun b.n b is_open

  -- ---- how it failed

  pub failure_is : (was : Records) → planned.is_lost was b.owner ≡ known_calls.is_lost k b.owner
      → planned.failure_of was answer b ≡ option_map (end_of k) failure
  failure_is was lost = by answer
    where
      ends : {X : Type 0} (f : Option Begin → X) → f (Some b) ≡ f (k.begun b.n)
      ends f = ap f (sym has_begun)

      fails : (call : Call) → planned.fails_gone was (record b { call = call }) ≡ known_calls.fails_gone k b call
      fails (Ping vm) = refl
      fails (DeleteVm vm) = ap not lost
      fails call = refl

      gone : (g : Bool) → (if g then Some (planned.gone_of b) else None)
          ≡ option_map (end_of k) (if g then Some (failures.Gone b.n) else None)
      gone true = ends (λ o. Some (end_by (failures.Gone b.n) o))
      gone false = refl

      by : (answer : Answer) → planned.failure_of was answer b
          ≡ option_map (end_of k) (known_calls.failure_of k b answer)
      by answers.Failed = ends (λ o. Some (end_by (failures.Call b.n) o))
      by answers.Gone = (λ j. if fails b.call j then Some (planned.gone_of b) else None)
          ∙ gone (known_calls.fails_gone k b b.call)
      by answer = refl

  own_begun : is_some (k.begun b.n) ≡ true
  own_begun = ap is_some has_begun

  gone_begun : (g : Bool) (failure : Failure) → (if g then Some (failures.Gone b.n) else None) ≡ Some failure
      → is_some (k.begun (number_of failure)) ≡ true
  gone_begun true failure is = let e : failures.Gone b.n ≡ failure =
      cc in ap (λ f. is_some (k.begun (number_of f))) (sym e) ∙ own_begun
  gone_begun false failure is = absurd cc

  -- the call that failed now began
  new_begun : (answer : Answer) (failure : Failure) → known_calls.failure_of k b answer ≡ Some failure
      → is_some (k.begun (number_of failure)) ≡ true
  new_begun answers.Failed failure is = let e : failures.Call b.n ≡ failure =
      cc in ap (λ f. is_some (k.begun (number_of f))) (sym e) ∙ own_begun
  new_begun answers.Gone failure is = gone_begun (known_calls.fails_gone k b b.call) failure is
  new_begun answer failure is = absurd cc

  -- .. as did the least that failed
  least_began : (old new : Option Failure) (failure : Failure) → least_failure old new ≡ Some failure
      → ((f : Failure) → old ≡ Some f → is_some (k.begun (number_of f)) ≡ true)
      → ((f : Failure) → new ≡ Some f → is_some (k.begun (number_of f)) ≡ true)
      → is_some (k.begun (number_of failure)) ≡ true
  least_began None new failure is old_begun new_begun = new_begun failure is
  least_began (Some old) None failure is old_begun new_begun = old_begun failure is
  least_began (Some old) (Some new) failure is old_begun new_begun = of (nat_lt (number_of new) (number_of old)) is
    where
      of : (b : Bool) → (if b then Some new else Some old) ≡ Some failure → is_some (k.begun (number_of failure))
          ≡ true
      of true is = new_begun failure is
      of false is = old_begun failure is

  failed_began : (t : ℕ) (failure : Failure) → (told_last.known.task t).failed ≡ Some failure
      → is_some (k.begun (number_of failure)) ≡ true
  failed_began t failure is = by (eqb b.task t) is
    where
      by : (u : Bool) → (if u then task_last else k.task t).failed ≡ Some failure
          → is_some (k.begun (number_of failure)) ≡ true
      by true is = least_began (k.task b.task).failed (known_calls.failure_of k b answer) failure is
          (stands.tells_well.failed b.task) (new_begun answer)
      by false is = stands.tells_well.failed t failure is

  -- the work of the task failed by the least
  pub failed_is : (asked : Bool) (places : Places) (fail : Option TaskEnd) (work : Work)
      → fail ≡ option_map (end_of k) failure → work.failed ≡ option_map (end_of k) (k.task b.task).failed
      → (ended_work asked places fail work).failed ≡ option_map (end_of k) task_last.failed
  failed_is asked places fail work fail_is is =
      failed_as asked places fail work
      ∙ (λ j. if work_specs.is_less (fail_is j) (is j) then fail_is j else is j)
      ∙ least_is k (k.task b.task).failed failure (stands.tells_well.failed b.task) (new_begun answer)

  -- ---- open calls

  -- the other calls are open as before
  pub still : {X : Type 0} (f : Option Begin → X) → f None ≡ f (Some b) → (c : ℕ) → f (calls_now c)
      ≡ f (told.calls c)
  still f same c = by (eqb b.n c) refl
    where
      by : (t : Bool) → eqb b.n c ≡ t → f (if t then None else told.calls c) ≡ f (told.calls c)
      by true is = same ∙ sym (ap f (ap told.calls (sym (eqb-true b.n c is)) ∙ is_open))
      by false other = refl

  pub other_calls : (owner : Owner) → same_owner owner b.owner ≡ false → call_of told_last owner ≡ call_of told owner
  other_calls owner other =
      find_within (λ c. holds (λ (d : Begin). same_owner owner d.owner) (calls_now c))
      (λ c. holds (λ (d : Begin). same_owner owner d.owner) (told.calls c)) k.last_call
      (λ c low. still (λ o. holds (λ (d : Begin). same_owner owner d.owner) o) (sym other) c)

  pub idle_as : (owner : Owner) → is_idle told_last owner
      ≡ (if same_owner owner b.owner then true else is_idle told owner)
  idle_as owner = idle_ended told b.n b owner is_open only

  -- its owner has none
  pub own_call : same_owner b.owner b.owner ≡ true → call_of told_last b.owner ≡ None
  own_call own = none_is_found (λ c. holds (λ (d : Begin). same_owner b.owner d.owner) (calls_now c))
      (numbers_to k.last_call) (idle_as b.owner ∙ (λ j. if own j then true else is_idle told b.owner))

  pub calls_last : IsOnce nat_cmp it.calls → (c : ℕ)
      → thing_in nat_cmp (without nat_cmp b.n it.calls) c ≡ calls_now c
  calls_last once c =
      ap (option_and_then (λ place. place)) (found_without nat_cmp nat_keys b.n it.calls once c)
      ∙ (λ j. option_and_then (λ place. place) (if nat_at b.n c j then None else found nat_cmp it.calls c))
      ∙ by (eqb b.n c)
    where
      by : (t : Bool) → option_and_then (λ place. place) (if t then None else found nat_cmp it.calls c)
          ≡ (if t then None else told.calls c)
      by true = refl
      by false = stands.calls c

  -- its task has one open call less, and the others have what they had
  pub one_less_call : count_by (is_task_call told b.task) (numbers_to k.last_call)
      ≡ count_by (is_task_call told_last b.task) (numbers_to k.last_call) + 1
  one_less_call = one_less (is_task_call told b.task) (is_task_call told_last b.task) b.n k.last_call
      (stands.tells_well.low b.n b is_open) (stands.tells_well.past b.n b is_open)
      (ap (holds (λ (d : Begin). d.task == b.task)) is_open ∙ eq-eqb b.task b.task refl)
      (ap (λ t. holds (λ (d : Begin). d.task == b.task) (if t then None else told.calls b.n)) (eq-eqb b.n b.n refl))
      (λ c differs. ap (λ t. holds (λ (d : Begin). d.task == b.task) (if t then None else told.calls c)) differs)

  pub same_count : (t : ℕ) → eqb b.task t ≡ false → count_by (is_task_call told_last t) (numbers_to k.last_call)
      ≡ count_by (is_task_call told t) (numbers_to k.last_call)
  same_count t other = count_within (is_task_call told_last t) (is_task_call told t) k.last_call
      (λ c low. still (λ o. holds (λ (d : Begin). d.task == t) o) (sym other) c)

  -- ---- tasks

  pub task_same : {X : Type 0} (f : Task → X) → f task_last ≡ f (k.task b.task) → (t : ℕ)
      → f (told_last.known.task t) ≡ f (k.task t)
  task_same f same t = by (eqb b.task t) refl
    where
      by : (u : Bool) → eqb b.task t ≡ u → f (if u then task_last else k.task t) ≡ f (k.task t)
      by true is = same ∙ ap (λ n. f (k.task n)) (eqb-true b.task t is)
      by false is = refl

  pub going_same : (t : ℕ) → is_going told_last.known t ≡ is_going k t
  going_same t = task_same (λ it. nat_le 1 t && (nat_le t k.tasks && not (is_some it.end))) refl t

  -- ---- what entries never tell otherwise

  was_open : (c : ℕ) (d : Begin) → calls_now c ≡ Some d → told.calls c ≡ Some d
  was_open c d is = by (eqb b.n c) is
    where
      by : (t : Bool) → (if t then None else told.calls c) ≡ Some d → told.calls c ≡ Some d
      by true is = absurd cc
      by false is = is

  pub tells_last : TellsWell told_last
  tells_last = record {
    number = λ c d is. stands.tells_well.number c d (was_open c d is);
    low = λ c d is. stands.tells_well.low c d (was_open c d is);
    past = λ c d is. stands.tells_well.past c d (was_open c d is);
    begun = λ c d is. stands.tells_well.begun c d (was_open c d is);
    begun_past = stands.tells_well.begun_past;
    failed = failed_began;
    going = λ c d is. going_same d.task ∙ stands.tells_well.going c d (was_open c d is);
    one_owner = λ c d x y is there. stands.tells_well.one_owner c d x y (was_open c x is) (was_open d y there);
    one_key = λ c d x y key is there. stands.tells_well.one_key c d x y key (was_open c x is) (was_open d y there);
    recorded = λ c d i is own. stands.tells_well.recorded c d i (was_open c d is) own;
    counted = λ t c is. stands.tells_well.counted t c (sym (task_same (λ it. it.calls) refl t) ∙ is);
    disks_apart = λ t. task_same (λ it. are_distinct eqb it.disks) refl t ∙ stands.tells_well.disks_apart t;
    updates = λ t x. task_same (λ it. is_finished (it.upd x)) refl t ∙ stands.tells_well.updates t x
        ∙ sym (task_same (λ it. not (is_waiting (it.upd x)) && not (is_busy (it.upd x))) refl t);
  }
