-- The calls of a row whose machine is asked first whether it answers.
use Rattle.std.proofs.Common.{◌≡◌, ℕ, ◌+◌, ◌≤◌, true, Option, List, length, arith}
use Rattle.bosh_base.specs.declared.answer.Answer.{Answer}
use Rattle.bosh_base.specs.declared.answer.Answer.TheVariants as answers
use Rattle.bosh_base.specs.declared.call.Call.TheVariants.{Ping}
use Rattle.bosh_base.specs.declared.digest.Digest.{Digest}
use Rattle.bosh_base.specs.declared.goal.GoalRow.{GoalRow}
use Rattle.bosh_base.specs.declared.key.KeyWork.{KeyWork}
use Rattle.bosh_base.specs.declared.row.Row.{Row}
use Rattle.bosh_rows.specs.After.{after}
use Rattle.laws_rows.proofs.RoomLemmas.{few_calls}
use Rattle.laws_rows.specs.Answered.{Answered, AreAnswered, has_room_for_disks}
use Rattle.laws_rows.specs.SoundDisks.{are_sound}

-- a ping leaves the disks and the doubt of a row as they were
after_ping : (built : KeyWork → List Digest → Digest) (want : Option GoalRow) (row : Row) (n vm : ℕ)
    (answer : Answer) (calls : List Answered) → are_sound row.disks ≡ true → has_room_for_disks row ≡ true →
    AreAnswered built want (after n (Ping vm) answer row) calls → length calls ≤ 32
after_ping built want row n vm answers.Done calls sound room asked =
    few_calls built want row calls sound room asked
after_ping built want row n vm (answers.Cid number) calls sound room asked =
    few_calls built want row calls sound room asked
after_ping built want row n vm (answers.Found found) calls sound room asked =
    few_calls built want row calls sound room asked
after_ping built want row n vm answers.Yes calls sound room asked =
    few_calls built want row calls sound room asked
after_ping built want row n vm answers.No calls sound room asked =
    few_calls built want row calls sound room asked
after_ping built want row n vm (answers.Disks numbers) calls sound room asked =
    few_calls built want row calls sound room asked
after_ping built want row n vm (answers.Facts spec running drained) calls sound room asked =
    few_calls built want row calls sound room asked
after_ping built want row n vm (answers.Built digest) calls sound room asked =
    few_calls built want row calls sound room asked
after_ping built want row n vm answers.Gone calls sound room asked =
    few_calls built want (record row { lost = true }) calls sound room asked
after_ping built want row n vm answers.Failed calls sound room asked =
    few_calls built want row calls sound room asked

pub pinged_calls : (built : KeyWork → List Digest → Digest) (want : Option GoalRow) (row : Row) (n vm : ℕ)
    (answer : Answer) (calls : List Answered) → are_sound row.disks ≡ true → has_room_for_disks row ≡ true →
    AreAnswered built want (after n (Ping vm) answer row) calls → 1 + length calls ≤ 36
pinged_calls built want row n vm answer calls sound room asked =
    let short : length calls ≤ 32 = after_ping built want row n vm answer calls sound room asked in omega arith
