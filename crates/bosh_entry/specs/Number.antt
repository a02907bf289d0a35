-- How bytes and numbers are spelled (this project's profile): a number of any type in eight bytes, the most significant first.
use Rattle.std.specs.Prelude.{ℕ, Bool, ◌^◌, nat_lt, List, [], ◌∷◌, length, take, drop, Some, None, if◌then◌else◌}
use Rattle.std.specs.Int.{w64, from_be_bytes, to_be_bytes}
use Rattle.bosh_entry.specs.Reading.{Reader, only_at}

-- a byte, by itself
abbrev pub byte : ℕ → List ℕ
byte b = b ∷ []

abbrev pub is_byte : ℕ → Bool
is_byte b = nat_lt b 256

-- a number, in eight bytes
unfoldable pub number : ℕ → List ℕ
number n = to_be_bytes w64 n

-- of 64 bits
abbrev pub is_number : ℕ → Bool
is_number n = nat_lt n (2 ^ 64)

-- the number of the next eight bytes
unfoldable pub number_at : Reader ℕ
number_at bytes = if nat_lt (length bytes) 8 then None else Some (from_be_bytes w64 (take 8 bytes), drop 8 bytes)

-- of 32 bits
abbrev pub is_small : ℕ → Bool
is_small n = nat_lt n (2 ^ 32)

-- a number that has to be of 32 bits
unfoldable pub small_at : Reader ℕ
small_at = only_at is_small number_at

-- the number of a worker, which has to be of 8 bits
unfoldable pub worker_at : Reader ℕ
worker_at = only_at is_byte number_at
