use Rattle.std.proofs.Common.{◌≡◌, ◌++◌}
use Rattle.bosh_records.specs.Keys.{compiled_of}
use Rattle.bosh_records.proofs.keys.Keys.compiled.Given as goal

abbrev pub invariant-loop-key : goal.invariant-loop-key
invariant-loop-key l = l.keys.items ++ compiled_of l.key-iterator ≡ compiled_of l.self.by_key.entries
