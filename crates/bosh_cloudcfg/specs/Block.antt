-- Networks of addresses as texts have them (the CIDR notation of RFC 4632).
use Rattle.std.specs.Prelude.{ℕ, ◌+◌, ◌-◌, ◌*◌, ◌%◌, ◌^◌, ◌&&◌, ◌==◌, nat_le, List, Option, Some, None, fold, position, take, drop, decimal, if◌then◌else◌}
use Rattle.std.specs.Str.{bytes_eq}
use Rattle.bosh_base.specs.declared.addr.Addr.{Addr}
use Rattle.bosh_fields.specs.Address.{addr_in, or_malformed}
use Rattle.bosh_fields.specs.Answer.{◌>>=◌}
use Rattle.bosh_fields.specs.Kind.{Kind, a_text}
use Rattle.bosh_cloudcfg.specs.declared.block.Block.{Block}

-- the number that digits make
abbrev pub digits_in : List ℕ → ℕ
digits_in text = fold (λ so_far byte. 10 * so_far + (byte - 48)) 0 text

-- the length of a prefix: a decimal up to 32 without leading zeros
unfoldable pub bits_in : List ℕ → Option ℕ
bits_in text =
    if nat_le (digits_in text) 32 && bytes_eq (decimal (digits_in text)) text then Some (digits_in text) else None

-- the addresses that share so many bits with one, whose bits past these are 0
abbrev pub block_of : Option Addr → Option ℕ → Option Block
block_of None bits = None
block_of (Some first) None = None
block_of (Some first) (Some bits) =
    if first.0 % 2 ^ (32 - bits) == 0
    then Some (record { addresses = record { first = first; last = record { 0 = first.0 + 2 ^ (32 - bits) - 1 } } })
    else None

abbrev pub block_at : List ℕ → Option ℕ → Option Block
block_at text None = None
block_at text (Some slash) = block_of (addr_in (take slash text)) (bits_in (drop (slash + 1) text))

-- an address, a slash and the length of its prefix
unfoldable pub block_in : List ℕ → Option Block
block_in text = block_at text (position (λ byte. byte == 47) text)

abbrev pub a_block : Kind Block
a_block key t = do
  text ← a_text key t
  or_malformed key (block_in text)
