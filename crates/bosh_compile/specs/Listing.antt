-- What stands for a compiled package: a digest (this project's profile).
use Rattle.std.specs.Prelude.{ℕ, List, [], ◌∷◌, ◌++◌, codes, map}
use Rattle.std.specs.List.{flat_map}
use Rattle.hex.specs.Hex.{encode_lower}
use Rattle.bosh_base.specs.declared.digest.Digest.{Digest}
use Rattle.bosh_base.specs.declared.key.KeyWork.{KeyWork}

-- a text ended by LF
abbrev pub line : List ℕ → List ℕ
line text = text ++ 10 ∷ []

-- a digest in hex
abbrev pub hex_of : Digest → List ℕ
hex_of digest = encode_lower digest.0

-- what a compiled package is made of: its contents, the stemcell, and what its dependencies were compiled to
abbrev pub parts_of : KeyWork → List Digest → List (List ℕ)
parts_of work deps = codes "compiled" ∷ hex_of work.key.fingerprint ∷ work.key.os ∷ work.key.version ∷ map hex_of deps

-- each part on a line of its own
abbrev pub listing : KeyWork → List Digest → List ℕ
listing work deps = flat_map line (parts_of work deps)
