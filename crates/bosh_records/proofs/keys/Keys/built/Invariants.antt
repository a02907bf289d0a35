use Rattle.std.proofs.Common.{◌≡◌, ◌++◌}
use Rattle.bosh_records.specs.Keys.{built_of}
use Rattle.bosh_records.proofs.keys.Keys.built.Given as goal

abbrev pub invariant-loop-key : goal.invariant-loop-key
invariant-loop-key l = l.built.items ++ built_of l.key-iterator ≡ built_of l.self.by_key.entries
