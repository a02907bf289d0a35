-- Addresses and ranges of addresses, as texts have them (bosh.io, "Networks": `reserved`, `static` and `dns` of a
-- manual network's subnet, and `static_ips` of a deployment manifest).
use Rattle.std.specs.Prelude.{ℕ, ◌+◌, ◌-◌, ◌*◌, ◌^◌, ◌&&◌, ◌==◌, nat_le, nat_lt, List, Option, Some, None, Result, Ok, Err, fold, position, reverse, take, drop, if◌then◌else◌}
use Rattle.std.specs.Str.{bytes_eq}
use Rattle.bosh_base.specs.declared.addr.Addr.{Addr}
use Rattle.bosh_base.specs.declared.addr.Band.{Band}
use Rattle.bosh_ip.specs.Address.{spelling_of_addr}
use Rattle.bosh_ip.specs.Bytes.{without_leading}
use Rattle.bosh_fields.specs.Answer.{◌>>=◌}
use Rattle.bosh_fields.specs.Kind.{Kind, a_text}
use Rattle.bosh_fields.specs.declared.fault.FieldFault.{FieldFault}
use Rattle.bosh_fields.specs.declared.fault.FieldFault.TheVariants.{Malformed}

-- one more byte of an address: a digit of the present octet, or the dot behind it
abbrev pub read_byte : ℕ × ℕ → ℕ → ℕ × ℕ
read_byte so_far byte =
    if byte == 46 then ((so_far.0 + so_far.1) * 256, 0) else (so_far.0, 10 * so_far.1 + (byte - 48))

-- the number that octets in decimal make, with a dot between any two
abbrev pub number_in : List ℕ → ℕ
number_in text = let end = fold read_byte (0, 0) text in end.0 + end.1

-- the address of a text: the number in it, where the text is how that address is spelled
unfoldable pub addr_in : List ℕ → Option Addr
addr_in text =
    if nat_lt (number_in text) (2 ^ 32) && bytes_eq (spelling_of_addr (number_in text)) text
    then Some (record { 0 = number_in text })
    else None

-- the addresses from one to another that is no less
abbrev pub between : Option Addr → Option Addr → Option Band
between None last = None
between (Some first) None = None
between (Some first) (Some last) =
    if nat_le first.0 last.0 then Some (record { first = first; last = last }) else None

-- the text without the spaces at its end
abbrev pub without_trailing : ℕ → List ℕ → List ℕ
without_trailing byte text = reverse (without_leading byte (reverse text))

-- the addresses of a text by the place of its dash: one address, or two with the dash and any spaces between them
abbrev pub band_at : List ℕ → Option ℕ → Option Band
band_at text None = between (addr_in text) (addr_in text)
band_at text (Some dash) =
    between (addr_in (without_trailing 32 (take dash text))) (addr_in (without_leading 32 (drop (dash + 1) text)))

unfoldable pub band_in : List ℕ → Option Band
band_in text = band_at text (position (λ byte. byte == 45) text)

-- what a text spells, or the fault where it spells nothing of the kind
abbrev pub or_malformed : {A : Type 0} → List ℕ → Option A → Result A FieldFault
or_malformed key None = Err (Malformed key)
or_malformed key (Some value) = Ok value

abbrev pub an_addr : Kind Addr
an_addr key t = do
  text ← a_text key t
  or_malformed key (addr_in text)

-- one address, or a range of them
abbrev pub a_band : Kind Band
a_band key t = do
  text ← a_text key t
  or_malformed key (band_in text)
