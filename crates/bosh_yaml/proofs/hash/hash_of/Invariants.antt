use Rattle.std.proofs.Common.{◌≡◌, drop}
use Rattle.bosh_yaml.specs.Hash.{hash_from}
use Rattle.bosh_yaml.proofs.hash.hash_of.Given as goal

-- the bytes that are left are still to be counted
abbrev pub invariant-loop-byte : goal.invariant-loop-byte
invariant-loop-byte l = hash_from l.hash (drop l.byte-index l.key) ≡ hash_from 0 l.key
