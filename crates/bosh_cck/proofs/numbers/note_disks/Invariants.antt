use Rattle.std.proofs.Common.{◌≡◌, ◌||◌, ℕ, take}
use Rattle.bosh_cck.specs.Loose.{is_among}
use Rattle.bosh_cck.specs.Tables.{has}
use Rattle.bosh_cck.proofs.numbers.note_disks.Given as goal

abbrev pub invariant-loop-disk : goal.invariant-loop-disk
invariant-loop-disk l = (n : ℕ) → has l.numbers n ≡ (has l.fn.numbers n || is_among n (take l.disk-index l.disks))
