-- Ranges of addresses, as the `reserved` and `static` lists of a cloud config's subnet have them
-- (bosh.io, "Networks", manual networks).
use Rattle.std.specs.Prelude.{◌≡◌, ℕ, ◌^◌, ◌<◌, ◌⊎◌, List, ◌++◌, codes, replicate}
use Rattle.bosh_ip.specs.declared.range.Span.{Span}
use Rattle.bosh_ip.specs.declared.fault.IpFault.{IpFault}
use Rattle.bosh_ip.specs.declared.fault.IpFault.TheVariants.{Syntax, Backwards, HostBits, Memory}
use Rattle.bosh_ip.specs.Address.{spelling_of_addr, SpellsAddr}

-- any number of spaces
abbrev pub spaces : ℕ → List ℕ
spaces count = replicate count 32

-- the text is two addresses with a dash between them, and any spaces on each side of the dash
pub record SpellsPair (text : List ℕ) (span : Span) : Type 0 where
  pub before : ℕ
  pub after : ℕ
  pub first_fits : span.first < 2 ^ 32
  pub last_fits : span.last < 2 ^ 32
  pub spelled :
      text
      ≡ spelling_of_addr span.first ++ spaces before ++ codes "-" ++ spaces after
      ++ spelling_of_addr span.last

-- the text is one address, which is both ends, or two
abbrev pub SpellsSpan : List ℕ → Span → Type 0
SpellsSpan text span = (SpellsAddr text span.first × (span.last ≡ span.first)) ⊎ SpellsPair text span

-- `Syntax` where the text spells no range, `Backwards` where the last address is less than the first
abbrev pub RefusesRange : List ℕ → IpFault → Type 0
RefusesRange text Syntax = (span : Span) → ¬ SpellsSpan text span
RefusesRange text Backwards = (span : Span) × SpellsSpan text span × (span.last < span.first)
RefusesRange text HostBits = ⊥
RefusesRange text Memory = ⊥
