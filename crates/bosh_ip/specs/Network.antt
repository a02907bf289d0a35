-- Networks as an address and the length of its prefix (the CIDR notation of RFC 4632).
use Rattle.std.specs.Prelude.{◌≡◌, ℕ, ◌+◌, ◌/◌, ◌%◌, ◌^◌, ◌-◌, ◌<◌, ◌≤◌, List, ◌++◌, codes, decimal}
use Rattle.bosh_ip.specs.declared.network.Cidr.{Cidr}
use Rattle.bosh_ip.specs.declared.fault.IpFault.{IpFault}
use Rattle.bosh_ip.specs.declared.fault.IpFault.TheVariants.{Syntax, Backwards, HostBits, Memory}
use Rattle.bosh_ip.specs.Address.{spelling_of_addr}

-- the bytes are the two digits of the length of a prefix
pub record IsTwoDigits (tens ones n : ℕ) : Type 0 where
  pub low : 10 ≤ n
  pub high : n ≤ 32
  pub tens_digit : tens ≡ 48 + n / 10
  pub ones_digit : ones ≡ 48 + n % 10

-- the text is the length of a prefix, a decimal; without leading zeros, by this project's profile
pub record SpellsBits (text : List ℕ) (n : ℕ) : Type 0 where
  pub within : n ≤ 32
  pub spelled : text ≡ decimal n

-- the text is an address, a slash and the length of a prefix
pub record SpellsCidr (text : List ℕ) (net : Cidr) : Type 0 where
  pub fits : net.first < 2 ^ 32
  pub within : net.bits ≤ 32
  pub spelled : text ≡ spelling_of_addr net.first ++ codes "/" ++ decimal net.bits

-- no bit of the address past the prefix is set
abbrev pub IsNetwork : Cidr → Type 0
IsNetwork net = net.first % 2 ^ (32 - net.bits) ≡ 0

-- `Syntax` where the text spells no network, `HostBits` where it spells one with such a bit set
abbrev pub RefusesCidr : List ℕ → IpFault → Type 0
RefusesCidr text Syntax = (net : Cidr) → ¬ SpellsCidr text net
RefusesCidr text HostBits = (net : Cidr) × SpellsCidr text net × ¬ IsNetwork net
RefusesCidr text Backwards = ⊥
RefusesCidr text Memory = ⊥

-- the highest bits of the address, as many as the prefix has, are those of the network
abbrev pub IsInNetwork : Cidr → ℕ → Type 0
IsInNetwork net addr = addr / 2 ^ (32 - net.bits) ≡ net.first / 2 ^ (32 - net.bits)
