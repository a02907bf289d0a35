use Rattle.std.proofs.Common.{◌≡◌, ◌||◌, ℕ, take}
use Rattle.bosh_cck.specs.Loose.{is_in_doubt}
use Rattle.bosh_cck.specs.Tables.{has}
use Rattle.bosh_cck.proofs.numbers.note_doubts.Given as goal

abbrev pub invariant-loop-row : goal.invariant-loop-row
invariant-loop-row l = (n : ℕ) → has l.numbers n ≡ (has l.fn.numbers n || is_in_doubt (take l.row-index l.rows) n)
