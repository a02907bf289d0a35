use Rattle.std.proofs.Common.{take}
use Rattle.bosh_release_order.specs.Search.{Notes}
use Rattle.bosh_release_order.proofs.search.note.Given as goal

-- the needs so far are noted
abbrev pub invariant-loop-need : goal.invariant-loop-need
invariant-loop-need l =
    Notes (take l.need-index l.needs) l.initial.found.items l.initial.work.items l.found.items l.work.items
