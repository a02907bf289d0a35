-- What entries leave of the machine of a row.
use Rattle.std.proofs.Common.{◌≡◌, ◌∙◌, ℕ, Bool, true, false, Option, Some, None, List, ap, refl, arith, sym}
use Rattle.std.specs.Prelude.{◌≢◌, if◌then◌else◌}
use Rattle.std.proofs.lemmas.Bool.{false≢true}
use Rattle.bosh_base.specs.declared.answer.Answer.{Answer}
use Rattle.bosh_base.specs.declared.entry.Begin.{Begin}
use Rattle.bosh_base.specs.declared.entry.Entry.{Entry}
use Rattle.bosh_base.specs.declared.entry.Entry.TheVariants as entries
use Rattle.bosh_base.specs.declared.goal.Goal.{Goal}
use Rattle.bosh_base.specs.declared.goal.GoalRow.{GoalRow}
use Rattle.bosh_base.specs.declared.inst.Inst.{Inst}
use Rattle.bosh_base.specs.declared.owner.Owner.{Owner}
use Rattle.bosh_base.specs.declared.owner.Owner.TheVariants.{Instance, Compile, Disk}
use Rattle.bosh_base.specs.declared.row.Row.{Row}
use Rattle.bosh_base.specs.declared.task.TaskKind.{TaskKind}
use Rattle.bosh_base.specs.declared.task.TaskKind.TheVariants as kinds
use Rattle.bosh_history.specs.Calls.{begins, call_ended, ends_of, orphan_after, shows_gone, slot_answered}
use Rattle.bosh_history.specs.Known.{Known, Slot, dep_of_task, want_in}
use Rattle.bosh_history.specs.Learn.{learn}
use Rattle.bosh_history.specs.Moments.{Moment}
use Rattle.bosh_history.specs.Notes.{MayNote, Outside}
use Rattle.bosh_history.specs.Slots.{slot_after}
use Rattle.bosh_history.specs.Tasks.{settles}
use Rattle.bosh_history.specs.Updates.{update_done}
use Rattle.bosh_history.specs.Words.{at}
use Rattle.bosh_rows.proofs.SameLemmas.{same_inst_decides}
use Rattle.bosh_rows.specs.After.{after, bare, begun_row, updated_row}
use Rattle.bosh_rows.specs.Same.{same_inst}
use Rattle.laws_facts.proofs.FrameLemmas.{compiled_rows}
use Rattle.laws_items.proofs.MarkLemmas.{Spares}

-- the row of one instance changes
pub row_apart : (i j : Inst) (x : Row) (rows : Inst → Row) → i ≢ j → at same_inst i x rows j ≡ rows j
row_apart i j x rows apart = by (same_inst i j) refl
  where
    by : (b : Bool) → same_inst i j ≡ b → (if same_inst i j then x else rows j) ≡ rows j
    by true same = absurd (apart ((same_inst_decides i j).0 same))
    by false other = λ l. if other l then x else rows j

pub row_itself : (i : Inst) (x : Row) (rows : Inst → Row) → at same_inst i x rows i ≡ x
row_itself i x rows = λ l. if (same_inst_decides i i).1 refl l then x else rows i

-- ---- an answer

slot_rows : (t s : ℕ) (it : Option Slot) (k : Known) → (slot_answered t s it k).row ≡ k.row
slot_rows t s (Some it) k = refl
slot_rows t s None k = refl

answered_row : (b : Begin) (answer : Answer) (owner : Owner) (k : Known) (i : Inst) → owner ≢ Instance i
    → (ends_of b answer owner k).row i ≡ k.row i
answered_row b answer (Instance j) k i apart =
    row_apart j i (after b.n b.call answer (k.row j)) k.row (λ same. apart (ap Instance same))
answered_row b answer (Compile t s) k i apart =
    λ j. slot_rows t s (slot_after b.n b.call answer (k.slot t s)) k j i
answered_row b answer (Disk d) k i apart = by (shows_gone b.call answer) refl
  where
    by : (gone : Bool) → shows_gone b.call answer ≡ gone → (orphan_after d b.call answer k).row i ≡ k.row i
    by true is = grind (arith, is)
    by false is = grind (arith, is)

pub ended_row : (answer : Answer) (b : Option Begin) (k : Known) (i : Inst)
    → ((it : Begin) → b ≡ Some it → it.owner ≢ Instance i) → (call_ended answer b k).row i ≡ k.row i
ended_row answer (Some b) k i apart =
    (λ j. compiled_rows b.call answer (ends_of b answer b.owner k) j i)
    ∙ answered_row b answer b.owner k i (apart b refl)
ended_row answer None k i apart = refl

-- .. to a call of its own
pub ended_own : (answer : Answer) (b : Begin) (k : Known) (i : Inst) → b.owner ≡ Instance i
    → (call_ended answer (Some b) k).row i ≡ after b.n b.call answer (k.row i)
ended_own answer b k i own =
    (λ j. compiled_rows b.call answer (ends_of b answer b.owner k) j i)
    ∙ (λ j. (ends_of b answer (own j) k).row i) ∙ row_itself i (after b.n b.call answer (k.row i)) k.row

-- ---- the machine

-- the same machine, lost or not
pub record SameMachine (a b : Row) : Type 0 where
  pub vm : b.vm ≡ a.vm
  pub lost : b.lost ≡ a.lost

same_as : (a b : Row) → b ≡ a → SameMachine a b
same_as a b same = record { vm = ap (λ (row : Row). row.vm) same; lost = ap (λ (row : Row). row.lost) same }

begun_machine : (b : Begin) (owner : Owner) (k : Known) (i : Inst) → SameMachine (k.row i) ((begins b owner k).row i)
begun_machine b (Instance j) k i = by (same_inst j i) refl
  where
    by : (c : Bool) → same_inst j i ≡ c
        → SameMachine (k.row i) (if c then begun_row b.n b.call (k.row j) else k.row i)
    by true same =
        let one : j ≡ i = (same_inst_decides j i).0 same in
        record { vm = ap (λ x. (k.row x).vm) one; lost = ap (λ x. (k.row x).lost) one }
    by false other = record { vm = refl; lost = refl }
begun_machine b (Compile t s) k i = record { vm = refl; lost = refl }
begun_machine b (Disk d) k i = record { vm = refl; lost = refl }

updated : (want : Option GoalRow) (j : Inst) (k : Known) (i : Inst) → j ≢ i → (update_done want j k).row i ≡ k.row i
updated (Some want) j k i apart = row_apart j i (updated_row want (k.row j)) k.row apart
updated None j k i apart = refl

settled : (kind : TaskKind) (goal : Option Goal) (dep : List ℕ) (k : Known) → (settles kind goal dep k).row ≡ k.row
settled kinds.Deploy goal dep k = refl
settled kinds.Fix goal dep k = refl
settled kinds.DeleteDeployment goal dep k = refl
settled kind goal dep k = refl

-- the entry is the beginning of a call
abbrev pub is_beginning : Entry → Bool
is_beginning (entries.Begin b) = true
is_beginning entry = false

-- another entry that spares the instance leaves its row
pub row_note : (outside : Outside) (m : Moment) (e : Entry) (i : Inst) → MayNote outside m e → is_beginning e ≡ false
    → Spares m e (Instance i) → (learn m.known e).row i ≡ m.known.row i
row_note outside m (entries.Begin b) i may none apart = absurd (false≢true (sym none))
row_note outside m (entries.End e) i may none apart = ended_row e.answer (m.known.begun e.n) m.known i apart
row_note outside m (entries.UpdDone u) i may none apart =
    updated (want_in (m.known.task u.task).goal u.inst) u.inst m.known i (λ same. apart (ap Instance same))
row_note outside m (entries.Gone u) i may none apart =
    row_apart u.inst i (bare u.inst) m.known.row (λ same. apart (ap Instance same))
row_note outside m (entries.TaskDone t) i may none apart =
    λ j. settled (m.known.task t).kind (m.known.task t).goal (dep_of_task m.known t) m.known j i
row_note outside m (entries.Snapshot s) i may none apart = absurd may
row_note outside m entry i may none apart = refl

-- an entry that spares the instance leaves its machine
pub machine_note : (outside : Outside) (m : Moment) (e : Entry) (i : Inst) → MayNote outside m e
    → Spares m e (Instance i) → SameMachine (m.known.row i) ((learn m.known e).row i)
machine_note outside m (entries.Begin b) i may apart = begun_machine b b.owner m.known i
machine_note outside m entry i may apart =
    same_as (m.known.row i) ((learn m.known entry).row i) (row_note outside m entry i may refl apart)
