use Rattle.std.proofs.Common.{take}
use Rattle.bosh_compile.specs.KeySet.{AreKeys}
use Rattle.bosh_compile.proofs.key_set.table_of.Given as goal

abbrev pub invariant-loop-key : goal.invariant-loop-key
invariant-loop-key l = AreKeys (take l.key-index l.keys) l.table
