use Rattle.std.proofs.Common.{◌≡◌, ◌||◌, take}
use Rattle.std.specs.List.{list_any}
use Rattle.bosh_base.specs.declared.addr.Addr.{Addr}
use Rattle.bosh_pool.specs.Fixed.{is_given}
use Rattle.bosh_pool.specs.Free.{is_used}
use Rattle.bosh_pool.proofs.assignment.note_own.Given as goal

abbrev pub invariant-loop-addr : goal.invariant-loop-addr
invariant-loop-addr l = (addr : Addr) → is_used l.used addr ≡ (is_used l.fn.used addr || list_any (is_given addr) (take l.addr-index l.own))
