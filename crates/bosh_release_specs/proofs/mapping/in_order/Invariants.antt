use Rattle.std.proofs.Common.{◌≡◌}
use Rattle.bosh_release_specs.specs.Names.{by_name}
use Rattle.bosh_release_specs.proofs.mapping.in_order.Given as goal

-- the values so far are in order
abbrev pub invariant-loop-key : goal.invariant-loop-key
invariant-loop-key g l = l.named.entries ≡ by_name l.yielded
