use Rattle.std.proofs.Common.{◌≡◌, take}
use Rattle.bosh_asks.specs.Changed.{changed_of}
use Rattle.bosh_asks.specs.Known.{rows_at}
use Rattle.bosh_asks.proofs.changed.changed_of.Given as goal

-- those so far
abbrev pub invariant-loop-want : goal.invariant-loop-want
invariant-loop-want l =
    l.changed.items ≡ changed_of l.all (take l.want-index l.wants) (rows_at l.records (take l.want-index l.wants))
