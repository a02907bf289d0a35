-- A number for a key (after Fowler, Noll and Vo's FNV hashes of 64 bits, whose prime it multiplies by).
use Rattle.std.specs.Prelude.{ℕ, ◌+◌, ◌*◌, ◌%◌, ◌^◌, List, [], ◌∷◌}

abbrev pub hash_from : ℕ → List ℕ → ℕ
hash_from before [] = before
hash_from before (byte ∷ bytes) =
    hash_from ((((before * 1099511628211) % 2 ^ 64) + byte) % 2 ^ 64) bytes

abbrev pub hash : List ℕ → ℕ
hash bytes = hash_from 0 bytes
