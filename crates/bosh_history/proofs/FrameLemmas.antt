-- What an entry leaves as it is.
use Rattle.std.proofs.Common.{◌≡◌, ℕ, false, ◌==◌, List, Option, Some, None, refl, ap, ◌∙◌, arith}
use Rattle.std.proofs.lemmas.Bool.Decides.{eqb_tells}
use Rattle.bosh_base.specs.declared.answer.Answer.{Answer}
use Rattle.bosh_base.specs.declared.call.Call.{Call}
use Rattle.bosh_base.specs.declared.call.Call.TheVariants.{CompilePackage}
use Rattle.bosh_base.specs.declared.entry.Begin.{Begin}
use Rattle.bosh_base.specs.declared.entry.Entry.{Entry}
use Rattle.bosh_base.specs.declared.entry.Entry.TheVariants as entries
use Rattle.bosh_base.specs.declared.goal.Goal.{Goal}
use Rattle.bosh_base.specs.declared.goal.GoalRow.{GoalRow}
use Rattle.bosh_base.specs.declared.inst.Inst.{Inst}
use Rattle.bosh_base.specs.declared.owner.Owner.{Owner}
use Rattle.bosh_base.specs.declared.owner.Owner.TheVariants.{Instance, Compile, Disk}
use Rattle.bosh_base.specs.declared.task.TaskKind.{TaskKind}
use Rattle.bosh_history.specs.Calls.{begins, call_ended, compiles, ends_of, orphan_after, slot_answered}
use Rattle.bosh_history.specs.Frame.{names_row, names_task, is_of_row}
use Rattle.bosh_history.specs.Known.{Known, Slot, dep_of_task, want_in}
use Rattle.bosh_history.specs.Learn.{learn}
use Rattle.bosh_history.specs.Slots.{slot_after}
use Rattle.bosh_history.specs.Tasks.{settles}
use Rattle.bosh_history.specs.Updates.{update_done}
use Rattle.bosh_history.specs.Words.{holds}
use Rattle.bosh_rows.specs.Same.{same_inst}

-- two moments know the same of rows and of tasks
record SameRowsAndTasks (old new : Known) : Type 0 where
  row : new.row ≡ old.row
  task : new.task ≡ old.task

settled : (kind : TaskKind) (goal : Option Goal) (dep : List ℕ) (k : Known) → SameRowsAndTasks k
    (settles kind goal dep k)
settled kind goal dep k = record { row = grind (arith); task = grind (arith) }

compiled : (call : Call) (answer : Answer) (k : Known) → SameRowsAndTasks k (compiles call answer k)
compiled (CompilePackage vm work deps) answer k = record { row = grind (arith); task = grind (arith) }
compiled call answer k = record { row = refl; task = refl }

slot_told : (t s : ℕ) (it : Option Slot) (k : Known) → SameRowsAndTasks k (slot_answered t s it k)
slot_told t s (Some it) k = record { row = refl; task = refl }
slot_told t s None k = record { row = refl; task = refl }

orphan_told : (d : ℕ) (call : Call) (answer : Answer) (k : Known) → SameRowsAndTasks k (orphan_after d call answer k)
orphan_told d call answer k = record { row = grind (arith); task = grind (arith) }

-- ---- rows

begun_row : (b : Begin) (owner : Owner) (k : Known) (i : Inst) → is_of_row i owner ≡ false → (begins b owner k).row i
    ≡ k.row i
begun_row b (Instance j) k i other = grind (arith)
begun_row b (Compile t s) k i other = refl
begun_row b (Disk d) k i other = refl

answered_row : (b : Begin) (answer : Answer) (owner : Owner) (k : Known) (i : Inst)
    → is_of_row i owner ≡ false → (ends_of b answer owner k).row i ≡ k.row i
answered_row b answer (Instance j) k i other = grind (arith)
answered_row b answer (Compile t s) k i other =
    ap (λ row. row i) (slot_told t s (slot_after b.n b.call answer (k.slot t s)) k).row
answered_row b answer (Disk d) k i other = ap (λ row. row i) (orphan_told d b.call answer k).row

ended_row : (answer : Answer) (b : Option Begin) (k : Known) (i : Inst)
    → holds (λ b. is_of_row i b.owner) b ≡ false → (call_ended answer b k).row i ≡ k.row i
ended_row answer (Some b) k i other =
    ap (λ row. row i) (compiled b.call answer (ends_of b answer b.owner k)).row ∙ answered_row b answer b.owner k i
    other
ended_row answer None k i other = refl

updated_row : (want : Option GoalRow) (j : Inst) (k : Known) (i : Inst) → same_inst j i ≡ false →
    (update_done want j k).row i ≡ k.row i
updated_row (Some want) j k i other = grind (arith)
updated_row None j k i other = refl

pub row_stays : (k : Known) (e : Entry) (i : Inst) → names_row k e i ≡ false → (learn k e).row i ≡ k.row i
row_stays k (entries.Begin b) i other = begun_row b b.owner k i other
row_stays k (entries.End e) i other = ended_row e.answer (k.begun e.n) k i other
row_stays k (entries.UpdDone u) i other = updated_row (want_in (k.task u.task).goal u.inst) u.inst k i other
row_stays k (entries.Gone u) i other = grind (arith)
row_stays k (entries.TaskDone t) i other =
    ap (λ row. row i) (settled (k.task t).kind (k.task t).goal (dep_of_task k t) k).row
row_stays k (entries.Snapshot s) i other = grind (arith)
row_stays k entry i other = refl

-- ---- tasks

begun_task : (b : Begin) (owner : Owner) (k : Known) → (begins b owner k).task ≡ k.task
begun_task b (Instance j) k = refl
begun_task b (Compile t s) k = refl
begun_task b (Disk d) k = refl

answered_task : (b : Begin) (answer : Answer) (owner : Owner) (k : Known) → (ends_of b answer owner k).task ≡ k.task
answered_task b answer (Instance j) k = refl
answered_task b answer (Compile t s) k = (slot_told t s (slot_after b.n b.call answer (k.slot t s)) k).task
answered_task b answer (Disk d) k = (orphan_told d b.call answer k).task

ended_task : (answer : Answer) (b : Option Begin) (k : Known) (t : ℕ)
    → holds (λ b. b.task == t) b ≡ false → (call_ended answer b k).task t ≡ k.task t
ended_task answer (Some b) k t other = grind (arith, eqb_tells b.task t)
ended_task answer None k t other = refl

updated_task : (want : Option GoalRow) (j : Inst) (k : Known) → (update_done want j k).task ≡ k.task
updated_task (Some want) j k = refl
updated_task None j k = refl

pub task_stays : (k : Known) (e : Entry) (t : ℕ) → names_task k e t ≡ false → (learn k e).task t ≡ k.task t
task_stays k (entries.TaskOpen o) t other = grind (arith, eqb_tells o.task t)
task_stays k (entries.Begin b) t other = grind (arith, eqb_tells b.task t)
task_stays k (entries.End e) t other = ended_task e.answer (k.begun e.n) k t other
task_stays k (entries.UpdBegin u) t other = grind (arith, eqb_tells u.task t)
task_stays k (entries.UpdDone u) t other =
    grind (arith, eqb_tells u.task t, updated_task (want_in (k.task u.task).goal u.inst) u.inst k)
task_stays k (entries.Gone u) t other = grind (arith, eqb_tells u.task t)
task_stays k (entries.TaskDone task) t other =
    grind (arith, eqb_tells task t, (settled (k.task task).kind (k.task task).goal (dep_of_task k task) k).task)
task_stays k (entries.TaskError e) t other = grind (arith, eqb_tells e.task t)
task_stays k (entries.Snapshot s) t other = grind (arith)
task_stays k entry t other = refl
