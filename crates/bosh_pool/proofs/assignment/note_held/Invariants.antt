use Rattle.std.proofs.Common.{◌≡◌, ◌||◌, take}
use Rattle.bosh_base.specs.declared.addr.Addr.{Addr}
use Rattle.bosh_pool.specs.Free.{is_used}
use Rattle.bosh_pool.specs.Kept.{is_taken}
use Rattle.bosh_pool.proofs.assignment.note_held.Given as goal

abbrev pub invariant-loop-held : goal.invariant-loop-held
invariant-loop-held l = (addr : Addr) → is_used l.used addr ≡ (is_used l.fn.used addr || is_taken (take l.held-index l.helds) addr)
