-- Numbers in JSON (this project's profile): integers in decimal, of the bits that their type has.
use Rattle.std.specs.Prelude.{ℕ, Bool, ◌^◌, nat_lt, option_map, option_and_then}
use Rattle.bosh_base.specs.declared.addr.Addr.{Addr}
use Rattle.serde_json.specs.Data.{Data, number, unsigned}
use Rattle.serde_json.specs.Find.{as_number, as_u64}
use Rattle.cpi_wire.specs.Reading.{Reader, only}

-- an integer
abbrev pub number_data : ℕ → Data
number_data n = number (unsigned n)

-- of 64 bits
abbrev pub is_number : ℕ → Bool
is_number n = nat_lt n (2 ^ 64)

abbrev pub number_from : Reader ℕ
number_from d = only is_number (option_and_then as_u64 (as_number d))

-- of 32 bits
abbrev pub is_small : ℕ → Bool
is_small n = nat_lt n (2 ^ 32)

abbrev pub small_from : Reader ℕ
small_from d = only is_small (number_from d)

-- an address, by its number
abbrev pub addr_data : Addr → Data
addr_data a = number_data a.0

abbrev pub is_addr : Addr → Bool
is_addr a = is_small a.0

abbrev pub addr_from : Reader Addr
addr_from d = option_map (λ n. record { 0 = n }) (small_from d)
