use Rattle.std.proofs.Common.{◌≡◌, take}
use Rattle.bosh_compile.specs.Table.{numbers_by, place_in}
use Rattle.bosh_compile.proofs.table.numbers_of.Given as goal

-- the keys so far gave their numbers
abbrev pub invariant-loop-key : goal.invariant-loop-key
invariant-loop-key l = l.numbers.items ≡ numbers_by (place_in l.table) (take l.key-index l.keys)
