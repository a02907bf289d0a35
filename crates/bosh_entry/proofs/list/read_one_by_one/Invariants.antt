use Rattle.std.proofs.Common.{◌≡◌, ◌-◌}
use Rattle.bosh_entry.specs.List.{items_at}
use Rattle.bosh_entry.proofs.ListLemmas.{with_front}
use Rattle.bosh_entry.proofs.list.read_one_by_one.Given as goal

-- the items so far, and what is still to be read, are all
abbrev pub invariant-loop : goal.invariant-loop
invariant-loop g l = with_front l.items.items (items_at (g.T.Coded.reading l.format) (l.count - l.counter) l.from.rest.now) ≡ items_at (g.T.Coded.reading l.format) l.count l.fn.from.rest.now
