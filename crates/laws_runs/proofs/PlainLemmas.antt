-- What a store tells without what the older format has not: entries that are stored as they were written tell the same
-- but for the sources of tasks and how many calls each began.
use Rattle.std.proofs.Common.{◌≡◌, ◌∙◌, ℕ, suc, Bool, true, false, Option, Some, None, List, [], ◌∷◌, map, length}
use Rattle.std.proofs.Common.{ap, refl, sym, arith}
use Rattle.std.specs.Prelude.{◌==◌, eqb, find, fold, if◌then◌else◌, not}
use Rattle.std.specs.Option.{option_map}
use Rattle.bosh_base.specs.declared.answer.Answer.{Answer}
use Rattle.bosh_base.specs.declared.answer.Answer.TheVariants as answers
use Rattle.bosh_base.specs.declared.call.Call.{Call}
use Rattle.bosh_base.specs.declared.call.Call.TheVariants as calls
use Rattle.bosh_base.specs.declared.entry.Begin.{Begin}
use Rattle.bosh_base.specs.declared.entry.Entry.{Entry}
use Rattle.bosh_base.specs.declared.entry.Entry.TheVariants as entries
use Rattle.bosh_base.specs.declared.failure.Failure.TheVariants as failures
use Rattle.bosh_base.specs.declared.goal.Goal.{Goal}
use Rattle.bosh_base.specs.declared.goal.GoalRow.{GoalRow}
use Rattle.bosh_base.specs.declared.inst.Inst.{Inst}
use Rattle.bosh_base.specs.declared.owner.Owner.{Owner}
use Rattle.bosh_base.specs.declared.owner.Owner.TheVariants.{Instance, Compile, Disk}
use Rattle.bosh_base.specs.declared.snapshot.Snapshot.{Snapshot}
use Rattle.bosh_base.specs.declared.task.TaskEnd.TheVariants as ends
use Rattle.bosh_base.specs.declared.task.TaskKind.{TaskKind}
use Rattle.bosh_base.specs.declared.task.TaskKind.TheVariants as kinds
use Rattle.bosh_base.specs.declared.task.TaskRow.{TaskRow}
use Rattle.bosh_history.proofs.StoredLemmas.{all_plain}
use Rattle.bosh_history.specs.Calls.{begins, call_ended, compiles, ends_of, failure_of, fails_gone, is_lost, least_failure}
use Rattle.bosh_history.specs.Calls.{number_of, orphan_after, shows_gone, slot_answered, task_after_ping, task_told}
use Rattle.bosh_history.specs.Calls.{task_with_call}
use Rattle.bosh_history.specs.Fit.{AreStoredAs, plain, plain_entry, plain_opening, plain_row}
use Rattle.bosh_history.specs.Known.{Known, Slot, Task, dep_of_task, nothing_known, want_in}
use Rattle.bosh_history.specs.Learn.{known_of, learn}
use Rattle.bosh_history.specs.Slots.{slot_after}
use Rattle.bosh_history.specs.Snapshots.{known_by, task_of}
use Rattle.bosh_history.specs.Tasks.{end_by, opened, settles, task_opened}
use Rattle.bosh_history.specs.Updates.{instance_gone, update_at, update_done}
use Rattle.bosh_history.specs.Words.{at}
use Rattle.bosh_rows.specs.Same.{same_inst}
use Rattle.laws_claims.proofs.ToldLemmas.{by_row, task_found}
use Rattle.bosh_roll.specs.declared.upd.Upd.TheVariants.{Busy, Finished}

-- ---- without it

abbrev pub plain_task : Task → Task
plain_task t = record t { source = None; calls = None }

abbrev pub with_tasks : (ℕ → Task) → Known → Known
with_tasks tasks k = record k { task = tasks }

abbrev pub plain_tasks : (ℕ → Task) → ℕ → Task
plain_tasks tasks t = plain_task (tasks t)

abbrev pub plain_known : Known → Known
plain_known k = with_tasks (plain_tasks k.task) k

-- one task changes
at_plain : (n : ℕ) (x y : Task) (tasks : ℕ → Task) → plain_task x ≡ plain_task y
    → plain_tasks (at eqb n x tasks) ≡ plain_tasks (at eqb n y (plain_tasks tasks))
at_plain n x y tasks same = λ j t. by t (eqb n t) j
  where
    by : (t : ℕ) (b : Bool) → plain_task (if b then x else tasks t) ≡ plain_task (if b then y else plain_task (tasks t))
    by t true = same
    by t false = refl

-- ---- a call

begins_plain : (b : Begin) (owner : Owner) (k : Known)
    → begins b owner (plain_known k) ≡ with_tasks (plain_tasks k.task) (begins b owner k)
begins_plain b (Instance i) k = refl
begins_plain b (Compile t s) k = refl
begins_plain b (Disk d) k = refl

slot_plain : (t s : ℕ) (slot : Option Slot) (tasks : ℕ → Task) (k : Known)
    → slot_answered t s slot (with_tasks tasks k) ≡ with_tasks tasks (slot_answered t s slot k)
slot_plain t s (Some it) tasks k = refl
slot_plain t s None tasks k = refl

ends_plain : (b : Begin) (answer : Answer) (owner : Owner) (tasks : ℕ → Task) (k : Known)
    → ends_of b answer owner (with_tasks tasks k) ≡ with_tasks tasks (ends_of b answer owner k)
ends_plain b answer (Instance i) tasks k = refl
ends_plain b answer (Compile t s) tasks k = slot_plain t s (slot_after b.n b.call answer (k.slot t s)) tasks k
ends_plain b answer (Disk d) tasks k = by (shows_gone b.call answer) refl
  where
    by : (gone : Bool) → shows_gone b.call answer ≡ gone
        → orphan_after d b.call answer (with_tasks tasks k) ≡ with_tasks tasks (orphan_after d b.call answer k)
    by true is = grind (arith, is)
    by false is = grind (arith, is)

compiles_plain : (call : Call) (answer : Answer) (tasks : ℕ → Task) (k : Known)
    → compiles call answer (with_tasks tasks k) ≡ with_tasks tasks (compiles call answer k)
compiles_plain (calls.CompilePackage v work deps) (answers.Built digest) tasks k = refl
compiles_plain call answer tasks k = refl

lost_plain : (k : Known) (owner : Owner) → is_lost (plain_known k) owner ≡ is_lost k owner
lost_plain k (Instance i) = refl
lost_plain k (Compile t s) = refl
lost_plain k (Disk d) = refl

fails_plain : (k : Known) (b : Begin) (call : Call) → fails_gone (plain_known k) b call ≡ fails_gone k b call
fails_plain k b (calls.Ping v) = refl
fails_plain k b (calls.DeleteVm v) = λ j. not (lost_plain k b.owner j)
fails_plain k b call = refl

failure_plain : (k : Known) (b : Begin) (answer : Answer) → failure_of (plain_known k) b answer ≡ failure_of k b answer
failure_plain k b answers.Failed = refl
failure_plain k b answers.Gone = λ j. if fails_plain k b b.call j then Some (failures.Gone b.n) else None
failure_plain k b answer = refl

pinged_plain : (call : Call) (answer : Answer) (owner : Owner) (t : Task)
    → task_after_ping call answer owner (plain_task t) ≡ plain_task (task_after_ping call answer owner t)
pinged_plain (calls.Ping v) answers.Failed owner t = refl
pinged_plain (calls.Ping v) answer (Instance i) t = refl
pinged_plain call answer owner t = refl

told_plain : (k : Known) (b : Begin) (answer : Answer) (t : Task)
    → plain_task (task_told k b answer t) ≡ plain_task (task_told (plain_known k) b answer (plain_task t))
told_plain k b answer t =
    λ j. plain_task (record (sym (pinged_plain b.call answer b.owner t) j) {
      failed = least_failure t.failed (sym (failure_plain k b answer) j);
    })

ended_plain : (answer : Answer) (b : Option Begin) (k : Known)
    → plain_known (call_ended answer b k) ≡ plain_known (call_ended answer b (plain_known k))
ended_plain answer (Some b) k =
    λ j. with_tasks
    (at_plain b.task (task_told k b answer (k.task b.task))
    (task_told (plain_known k) b answer (plain_task (k.task b.task))) k.task
    (told_plain k b answer (k.task b.task)) j)
    (same j)
  where
    tasks : ℕ → Task
    tasks = plain_tasks k.task

    same : with_tasks tasks (compiles b.call answer (ends_of b answer b.owner k))
        ≡ with_tasks tasks (compiles b.call answer (ends_of b answer b.owner (plain_known k)))
    same =
        sym ((λ j. with_tasks tasks (compiles b.call answer (ends_plain b answer b.owner tasks k j)))
        ∙ (λ j. with_tasks tasks (compiles_plain b.call answer tasks (ends_of b answer b.owner k) j)))
ended_plain answer None k = refl

-- ---- updates and ends

updated_plain : (want : Option GoalRow) (i : Inst) (tasks : ℕ → Task) (k : Known)
    → update_done want i (with_tasks tasks k) ≡ with_tasks tasks (update_done want i k)
updated_plain (Some want) i tasks k = refl
updated_plain None i tasks k = refl

settled_plain : (kind : TaskKind) (goal : Option Goal) (dep : List ℕ) (tasks : ℕ → Task) (k : Known)
    → settles kind goal dep (with_tasks tasks k) ≡ with_tasks tasks (settles kind goal dep k)
settled_plain kinds.Deploy goal dep tasks k = refl
settled_plain kinds.Fix goal dep tasks k = refl
settled_plain kinds.DeleteDeployment goal dep tasks k = refl
settled_plain kind goal dep tasks k = refl

-- ---- a snapshot

found_plain : (t : ℕ) (rows : List TaskRow)
    → find (λ (it : TaskRow). it.task == t) (map plain_row rows)
    ≡ option_map plain_row (find (λ (it : TaskRow). it.task == t) rows)
found_plain t [] = refl
found_plain t (row ∷ rows) = by (row.task == t) (found_plain t rows)
  where
    by : (b : Bool)
        → find (λ (it : TaskRow). it.task == t) (map plain_row rows)
        ≡ option_map plain_row (find (λ (it : TaskRow). it.task == t) rows)
        → (if b then Some (plain_row row) else find (λ (it : TaskRow). it.task == t) (map plain_row rows))
        ≡ option_map plain_row (if b then Some row else find (λ (it : TaskRow). it.task == t) rows)
    by true same = refl
    by false same = same

length_plain : (rows : List TaskRow) → length (map plain_row rows) ≡ length rows
length_plain [] = refl
length_plain (row ∷ rows) = ap suc (length_plain rows)

row_plain : (s : Snapshot) (found : Option TaskRow)
    → plain_task (by_row s found) ≡ plain_task (by_row (plain s) (option_map plain_row found))
row_plain s (Some it) = refl
row_plain s None = refl

pub snapshot_plain : (s : Snapshot) → plain_known (known_by s) ≡ plain_known (known_by (plain s))
snapshot_plain s =
    λ j. record (known_by s) { tasks = sym (length_plain s.tasks) j; task = λ t. same t j }
  where
    same : (t : ℕ) → plain_task (task_of s t) ≡ plain_task (task_of (plain s) t)
    same t =
        ap plain_task (task_found s t (find (λ it. it.task == t) s.tasks) refl)
        ∙ row_plain s (find (λ it. it.task == t) s.tasks)
        ∙ sym (ap plain_task (task_found (plain s) t (option_map plain_row (find (λ it. it.task == t) s.tasks))
        (found_plain t s.tasks)))

-- ---- all

learned_plain : (k : Known) (e : Entry) → plain_known (learn k e) ≡ plain_known (learn (plain_known k) (plain_entry e))
learned_plain k (entries.TaskOpen o) =
    λ j. with_tasks
    (at_plain o.task (task_opened k o) (task_opened k (plain_opening o)) k.task refl j)
    (opened o k)
learned_plain k (entries.Begin b) =
    λ j. record (sym (begins_plain b b.owner k) j) {
      begun = at eqb b.n (Some b) k.begun;
      last_call = b.n;
      task = at_plain b.task (task_with_call (k.task b.task)) (task_with_call (plain_task (k.task b.task))) k.task refl j;
    }
learned_plain k (entries.End e) = ended_plain e.answer (k.begun e.n) k
learned_plain k (entries.UpdBegin u) =
    λ j. with_tasks
    (at_plain u.task (update_at Busy u.inst (k.task u.task)) (update_at Busy u.inst (plain_task (k.task u.task))) k.task
    refl j) k
learned_plain k (entries.UpdDone u) =
    λ j. with_tasks (tasks j) (sym (updated_plain want u.inst (plain_tasks k.task) k) j)
  where
    want : Option GoalRow
    want = want_in (k.task u.task).goal u.inst

    rest : (want : Option GoalRow) → (update_done want u.inst k).task ≡ k.task
    rest (Some want) = refl
    rest None = refl

    rest_plain : (want : Option GoalRow) → (update_done want u.inst (plain_known k)).task ≡ plain_tasks k.task
    rest_plain (Some want) = refl
    rest_plain None = refl

    tasks : plain_tasks
        (at eqb u.task (update_at Finished u.inst ((update_done want u.inst k).task u.task)) (update_done want u.inst k).task)
        ≡ plain_tasks
        (at eqb u.task (update_at Finished u.inst ((update_done want u.inst (plain_known k)).task u.task))
        (update_done want u.inst (plain_known k)).task)
    tasks =
        (λ j. plain_tasks (at eqb u.task (update_at Finished u.inst (rest want j u.task)) (rest want j)))
        ∙ at_plain u.task (update_at Finished u.inst (k.task u.task))
        (update_at Finished u.inst (plain_task (k.task u.task))) k.task refl
        ∙ sym (λ j. plain_tasks (at eqb u.task (update_at Finished u.inst (rest_plain want j u.task)) (rest_plain want j)))
learned_plain k (entries.Gone u) =
    λ j. with_tasks
    (at_plain u.task (gone (k.task u.task)) (gone (plain_task (k.task u.task))) k.task refl j) (instance_gone u.inst k)
  where
    gone : Task → Task
    gone t = record t { gone = at same_inst u.inst true t.gone }
learned_plain k (entries.TaskDone t) =
    λ j. with_tasks (tasks j) (sym (settled_plain (k.task t).kind (k.task t).goal (dep_of_task k t) (plain_tasks k.task) k) j)
  where
    done : Task → Task
    done it = record it { end = Some ends.Finished }

    settled : Known → Known
    settled k = settles (k.task t).kind (k.task t).goal (dep_of_task k t) k

    rest : (kind : TaskKind) (goal : Option Goal) (dep : List ℕ) (k : Known) → (settles kind goal dep k).task ≡ k.task
    rest kinds.Deploy goal dep k = refl
    rest kinds.Fix goal dep k = refl
    rest kinds.DeleteDeployment goal dep k = refl
    rest kind goal dep k = refl

    now : (settled k).task ≡ k.task
    now = rest (k.task t).kind (k.task t).goal (dep_of_task k t) k

    now_plain : (settled (plain_known k)).task ≡ plain_tasks k.task
    now_plain = rest (k.task t).kind (k.task t).goal (dep_of_task k t) (plain_known k)

    tasks : plain_tasks (at eqb t (done ((settled k).task t)) (settled k).task)
        ≡ plain_tasks (at eqb t (done ((settled (plain_known k)).task t)) (settled (plain_known k)).task)
    tasks =
        (λ j. plain_tasks (at eqb t (done (now j t)) (now j)))
        ∙ at_plain t (done (k.task t)) (done (plain_task (k.task t))) k.task refl
        ∙ sym (λ j. plain_tasks (at eqb t (done (now_plain j t)) (now_plain j)))
learned_plain k (entries.TaskError e) =
    λ j. with_tasks (at_plain e.task (failed (k.task e.task)) (failed (plain_task (k.task e.task))) k.task refl j) k
  where
    failed : Task → Task
    failed t = record t { end = Some (end_by e.cause (k.begun (number_of e.cause))) }
learned_plain k (entries.Snapshot s) = snapshot_plain s
learned_plain k entry = refl

-- what plain entries tell
abbrev plain_told : Known → List Entry → Known
plain_told k [] = k
plain_told k (e ∷ more) = plain_told (plain_known (learn k e)) more

told_so : (k : Known) (more : List Entry)
    → plain_known (fold learn k more) ≡ plain_told (plain_known k) (map plain_entry more)
told_so k [] = refl
told_so k (e ∷ more) =
    told_so (learn k e) more ∙ (λ j. plain_told (learned_plain k e j) (map plain_entry more))

-- entries that are stored as they were written tell the same, but for that
pub stored_told : (stored written : List Entry) → AreStoredAs stored written
    → plain_known (known_of stored) ≡ plain_known (known_of written)
stored_told stored written all =
    told_so nothing_known stored ∙ (λ j. plain_told nothing_known (all_plain stored written all j))
    ∙ sym (told_so nothing_known written)
