-- IPv4 addresses in dotted decimal (the `IPv4address` of RFC 3986).
use Rattle.std.specs.Prelude.{◌≡◌, ℕ, ◌/◌, ◌%◌, ◌^◌, ◌<◌, List, ◌++◌, codes, decimal}
use Rattle.bosh_ip.specs.declared.fault.IpFault.{IpFault}
use Rattle.bosh_ip.specs.declared.fault.IpFault.TheVariants.{Syntax}

-- the four octets, the highest first, each in decimal without leading zeros, with dots between them
unfoldable pub spelling_of_addr : ℕ → List ℕ
spelling_of_addr n = decimal (n / 2 ^ 24) ++ codes "." ++ decimal (n / 2 ^ 16 % 2 ^ 8) ++ codes "."
    ++ decimal (n / 2 ^ 8 % 2 ^ 8) ++ codes "." ++ decimal (n % 2 ^ 8)

-- the text is an address of 32 bits
pub record SpellsAddr (text : List ℕ) (n : ℕ) : Type 0 where
  pub fits : n < 2 ^ 32
  pub spelled : text ≡ spelling_of_addr n

-- the text spells no address, which is the one reason to refuse it
pub record RefusesAddr (text : List ℕ) (fault : IpFault) : Type 0 where
  pub is_syntax : fault ≡ Syntax
  pub unspelled : (n : ℕ) → ¬ SpellsAddr text n
