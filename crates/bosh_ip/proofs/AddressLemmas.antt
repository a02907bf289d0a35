-- An address is spelled as std's `Ipv4Addr` of its octets is.
use Rattle.std.proofs.Common.{Result, Ok, Err, IfOk, IfErr, ◌≡◌, ℕ, zero, suc, ◌≢◌, subst, ◌+◌, ◌*◌, ◌/◌, ◌%◌, ◌^◌, ◌<◌, List, [], ◌∷◌, get_or, arith, refl, ap, ◌∙◌}
use Rattle.std.specs.declared.net.ipv4_addr.Ipv4Addr.{Ipv4Addr}
use Rattle.std.specs.Net.Addr.{ipv4_octets, ipv4_bits}
use Rattle.std.specs.Net.Grammar.{IsIpv4Text}
use Rattle.std.specs.Net.Text.{dotted_text}
use Rattle.std.proofs.NetLemmas.Theorems.{IsIpv4Text_unique}
use Rattle.std.specs.Net.Text.{ipv4_text}
use Rattle.std.proofs.NetLemmas.Alphabet.{IsDigitOrDot, All-ipv4_text}
use Rattle.std.proofs.lemmas.List.Elements.{All-weaker, All-same}
use Rattle.bosh_ip.specs.declared.fault.IpFault.{IpFault}
use Rattle.bosh_ip.specs.Bytes.{Lacks}
use Rattle.bosh_ip.specs.Address.{spelling_of_addr, SpellsAddr, RefusesAddr}

-- the octets of an address, the highest first
abbrev pub octets : ℕ → List ℕ
octets n = n / 2 ^ 24 ∷ n / 2 ^ 16 % 2 ^ 8 ∷ n / 2 ^ 8 % 2 ^ 8 ∷ n % 2 ^ 8 ∷ []

-- std's address of these octets
abbrev pub addr_of : ℕ → Ipv4Addr
addr_of n = record { octets = octets n }

-- a number of four octets is spelled by them
pub spelling_of_addr-octets : (a b c d n : ℕ) → a < 256 → b < 256 → c < 256 → d < 256 → n ≡ a * 2 ^ 24 + b * 2 ^ 16 + c * 2 ^ 8 + d → dotted_text a b c d ≡ spelling_of_addr n
unfolding spelling_of_addr
spelling_of_addr-octets a b c d n fa fb fc fd e =
    let ea : n / 2 ^ 24 ≡ a = omega arith in
    let eb : n / 2 ^ 16 % 2 ^ 8 ≡ b = omega arith in
    let ec : n / 2 ^ 8 % 2 ^ 8 ≡ c = omega arith in
    let ed : n % 2 ^ 8 ≡ d = omega arith in
    rw (ea, eb, ec, ed)

-- what this crate spells std reads
pub IsIpv4Text-spelled : (text : List ℕ) (n : ℕ) → SpellsAddr text n → IsIpv4Text text (addr_of n)
unfolding spelling_of_addr
IsIpv4Text-spelled text n h =
    let fits : n < 2 ^ 32 = h.fits in
    record {
      a = n / 2 ^ 24;
      b = n / 2 ^ 16 % 2 ^ 8;
      c = n / 2 ^ 8 % 2 ^ 8;
      d = n % 2 ^ 8;
      fit = (omega arith, omega arith, omega arith, omega arith);
      value = refl;
      spelled = h.spelled;
    }

-- what std reads this crate spells
pub SpellsAddr-text : (text : List ℕ) (addr : Ipv4Addr) → IsIpv4Text text addr → SpellsAddr text (ipv4_bits addr)
unfolding ipv4_bits
SpellsAddr-text text addr h =
    let value : ipv4_bits addr ≡ h.a * 2 ^ 24 + h.b * 2 ^ 16 + h.c * 2 ^ 8 + h.d = rw h.value (omega arith) in
    record {
      fits = omega (arith, h.fit);
      spelled = h.spelled ∙ spelling_of_addr-octets h.a h.b h.c h.d _ h.fit.0 h.fit.1 h.fit.2 h.fit.3 value;
    }

-- a text spells one address at most
pub SpellsAddr_unique : (text : List ℕ) (m n : ℕ) → SpellsAddr text m → SpellsAddr text n → m ≡ n
SpellsAddr_unique text m n h k =
    let same = IsIpv4Text_unique text (addr_of m) (addr_of n) (IsIpv4Text-spelled text m h) (IsIpv4Text-spelled text n k) in
    let a : m / 2 ^ 24 ≡ n / 2 ^ 24 = ap (λ x. get_or (ipv4_octets x) 0 0) same in
    let b : m / 2 ^ 16 % 2 ^ 8 ≡ n / 2 ^ 16 % 2 ^ 8 = ap (λ x. get_or (ipv4_octets x) 1 0) same in
    let c : m / 2 ^ 8 % 2 ^ 8 ≡ n / 2 ^ 8 % 2 ^ 8 = ap (λ x. get_or (ipv4_octets x) 2 0) same in
    let d : m % 2 ^ 8 ≡ n % 2 ^ 8 = ap (λ x. get_or (ipv4_octets x) 3 0) same in
    omega arith

-- each octet is a byte
octets_fit : (n : ℕ) → n < 2 ^ 32 → (k : ℕ) → get_or (octets n) k 0 < 2 ^ 8
octets_fit n fits zero = omega arith
octets_fit n fits (suc zero) = omega arith
octets_fit n fits (suc (suc zero)) = omega arith
octets_fit n fits (suc (suc (suc zero))) = omega arith
octets_fit n fits (suc (suc (suc (suc k)))) = omega arith

-- an address is spelled with digits and dots alone
pub Lacks-addr : (byte : ℕ) (text : List ℕ) (n : ℕ) → (IsDigitOrDot byte → ⊥) → SpellsAddr text n → Lacks byte text
unfolding spelling_of_addr
Lacks-addr byte text n other h =
    All-same (λ b. b ≢ byte) text (ipv4_text (octets n)) h.spelled
    (All-weaker IsDigitOrDot (λ b. b ≢ byte) (λ b is e. other (subst IsDigitOrDot e is)) (ipv4_text (octets n)) (All-ipv4_text (octets n) (octets_fit n h.fits)))

-- each address has a spelling
pub SpellsAddr-spelling : (n : ℕ) → n < 2 ^ 32 → SpellsAddr (spelling_of_addr n) n
SpellsAddr-spelling n fits = record { fits = fits; spelled = refl }

-- and so is each spelling
pub Lacks-spelling : (byte n : ℕ) → (IsDigitOrDot byte → ⊥) → n < 2 ^ 32 → Lacks byte (spelling_of_addr n)
Lacks-spelling byte n other fits = Lacks-addr byte (spelling_of_addr n) n other (SpellsAddr-spelling n fits)

-- on the spelling of an address a reader answers that address
pub spelling-reads : (n : ℕ) (answer : Result ℕ IpFault) → n < 2 ^ 32 → IfOk answer (SpellsAddr (spelling_of_addr n)) → IfErr answer (RefusesAddr (spelling_of_addr n)) → answer ≡ Ok n
spelling-reads n (Ok m) fits read refused = ap Ok (SpellsAddr_unique (spelling_of_addr n) m n read (SpellsAddr-spelling n fits))
spelling-reads n (Err e) fits read refused = absurd (refused.unspelled n (SpellsAddr-spelling n fits))
