-- Calls of the step rule, one after another, and how they are answered (this project's profile).
use Rattle.std.specs.Prelude.{◌≡◌, ℕ, ◌<◌, Bool, true, false, not, ◌&&◌, Option, Some, None, List, [], ◌∷◌}
use Rattle.bosh_base.specs.CallStep.{answer_of, is_gone}
use Rattle.bosh_base.specs.declared.answer.Answer.{Answer}
use Rattle.bosh_base.specs.declared.call.Call.{Call}
use Rattle.bosh_base.specs.declared.digest.Digest.{Digest}
use Rattle.bosh_base.specs.declared.entry.Entry.{Entry}
use Rattle.bosh_base.specs.declared.goal.GoalRow.{GoalRow}
use Rattle.bosh_base.specs.declared.key.KeyWork.{KeyWork}
use Rattle.bosh_base.specs.declared.row.Row.{Row}
use Rattle.bosh_rows.specs.After.{after, begun_row}
use Rattle.bosh_rows.specs.CallOf.{next_call}
use Rattle.bosh_rows.specs.Tied.{IsTiedRow, is_spoiled}
pub use Rattle.bosh_rows.specs.Tied.{has_room_for_disks, is_attaching}
use Rattle.laws_rows.specs.SoundDisks.{is_found_new}

-- the call n, made over what was done so far
pub record Answered : Type 0 where
  pub effects : List Entry
  pub n : ℕ
  pub call : Call
  pub answer : Answer

-- the row, once the call began and was answered
abbrev pub row_after : Answered → Row → Row
row_after it row = after it.n it.call it.answer (begun_row it.n it.call row)

-- The call is that of the next step, is young enough for what is wanted, and is answered as the cloud has it; and the
-- row is what the cloud has. Where the row is lost its machine may be gone already.
pub record IsAnswered
    (built : KeyWork → List Digest → Digest) (want : Option GoalRow) (row : Row) (it : Answered) : Type 0 where
  pub tied : IsTiedRow it.effects row
  pub unspoiled : (not row.lost && is_spoiled it.effects row) ≡ false
  pub found_new : is_found_new it.effects row ≡ true
  pub next : next_call want row ≡ Some it.call
  pub young : (wanted : GoalRow) → want ≡ Some wanted → wanted.fresh_after < it.n
  pub answer : it.answer ≡ answer_of built it.effects it.call
  pub here : (not row.lost && is_gone it.answer) ≡ false

-- each call is made over the row that the one before it leaves
abbrev pub AreAnswered : (KeyWork → List Digest → Digest) → Option GoalRow → Row → List Answered → Type 0
AreAnswered built want row [] = Unit {0}
AreAnswered built want row (it ∷ others) =
    IsAnswered built want row it × AreAnswered built want (row_after it row) others
