use Rattle.std.proofs.Common.{◌≡◌, drop, find, map}
use Rattle.bosh_pool.specs.Table.{is_open_to}
use Rattle.bosh_pool.proofs.kept.first_open.Given as goal

-- none of the entries so far is open to the want
abbrev pub invariant-loop-held : goal.invariant-loop-held
invariant-loop-held l = find (is_open_to l.plan l.entries.taken l.want) (map (λ held. held.now) l.helds)
    ≡ find (is_open_to l.plan l.entries.taken l.want) (map (λ held. held.now) (drop l.held-index l.helds))
