use Rattle.std.proofs.Common.{◌≡◌, ◌||◌, ℕ, take}
use Rattle.bosh_cck.specs.Loose.{is_orphan}
use Rattle.bosh_cck.specs.Tables.{has}
use Rattle.bosh_cck.proofs.numbers.note_orphans.Given as goal

abbrev pub invariant-loop-orphan : goal.invariant-loop-orphan
invariant-loop-orphan l = (n : ℕ) → has l.numbers n ≡ (has l.fn.numbers n || is_orphan (take l.orphan-index l.orphans) n)
