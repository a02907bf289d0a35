use Rattle.std.proofs.Common.{ℕ, List, ◌++◌, map, take}
use Rattle.std.specs.List.{flat_map}
use Rattle.sha2.specs.Hashers.{Holds256}
use Rattle.bosh_compile.specs.Listing.{line, hex_of}
use Rattle.bosh_compile.proofs.listing.add_hex_lines.Given as goal

-- the lines so far are fed
abbrev pub invariant-loop-digest : goal.invariant-loop-digest
invariant-loop-digest l = (fed : List ℕ) → Holds256 l.initial.hasher fed → Holds256 l.hasher (fed ++ flat_map line (map hex_of (take l.digest-index l.digests)))
