-- The length of a prefix by its bytes, and a network by its parts.
use Rattle.std.proofs.Common.{subst, ◌≡◌, ℕ, ◌+◌, ◌/◌, ◌%◌, ◌<◌, ◌≤◌, List, [], ◌∷◌, ◌++◌, length, get_or, Option, Some, None, MatchOption, decimal, arith, sym, ap, ◌∙◌}
use Rattle.std.proofs.lemmas.Fmt.{decimal_digit, decimal_step, decimal_injective}
use Rattle.std.specs.Int.{IsInRange}
use Rattle.std.proofs.lemmas.List.{append_assoc}
use Rattle.bosh_ip.specs.declared.fault.IpFault.{IpFault}
use Rattle.bosh_ip.specs.declared.fault.IpFault.TheVariants.{Syntax, Backwards, HostBits, Memory}
use Rattle.bosh_ip.specs.declared.network.Cidr.{Cidr}
use Rattle.bosh_ip.specs.Address.{spelling_of_addr, SpellsAddr}
use Rattle.bosh_ip.specs.Bytes.{Lacks}
use Rattle.bosh_ip.proofs.AddressLemmas.{SpellsAddr-spelling, SpellsAddr_unique, Lacks-spelling}
use Rattle.bosh_ip.proofs.BytesLemmas.{split_unique}
use Rattle.bosh_ip.specs.Network.{IsTwoDigits, SpellsBits, SpellsCidr, IsNetwork, RefusesCidr}

-- the digits of a number of one or two digits
pub decimal_two : (n : ℕ) → 10 ≤ n → n < 100 → decimal n ≡ (48 + n / 10) ∷ (48 + n % 10) ∷ []
decimal_two n low high = decimal_step n low (omega arith) ∙ ap (λ t. t ++ (48 + n % 10) ∷ []) (decimal_digit (n / 10) (omega arith))

-- what its bytes say of the length of a prefix
pub record BitsBytes (text : List ℕ) (n : ℕ) : Type 0 where
  pub within : n ≤ 32
  pub one : n < 10 → length text ≡ 1
  pub digit : n < 10 → get_or text 0 0 ≡ 48 + n
  pub two : 10 ≤ n → length text ≡ 2
  pub tens : 10 ≤ n → get_or text 0 0 ≡ 48 + n / 10
  pub ones : 10 ≤ n → get_or text 1 0 ≡ 48 + n % 10

-- and each spelling has those
pub BitsBytes-spelled : (text : List ℕ) (n : ℕ) → SpellsBits text n → BitsBytes text n
BitsBytes-spelled text n h =
    let within : n ≤ 32 = h.within in
    record {
      within = within;
      one = λ low. ap length (h.spelled ∙ decimal_digit n low);
      digit = λ low. ap (λ t. get_or t 0 0) (h.spelled ∙ decimal_digit n low);
      two = λ high. ap length (h.spelled ∙ decimal_two n high (omega arith));
      tens = λ high. ap (λ t. get_or t 0 0) (h.spelled ∙ decimal_two n high (omega arith));
      ones = λ high. ap (λ t. get_or t 1 0) (h.spelled ∙ decimal_two n high (omega arith));
    }

-- a text of one byte is read as a digit
pub SpellsBits-one : (text : List ℕ) (r : Option ℕ) → length text ≡ 1 → MatchOption r (IsInRange 48 57 (get_or text 0 0) → ⊥) (λ n. (n < 10) × (get_or text 0 0 ≡ 48 + n)) → MatchOption r ((n : ℕ) → SpellsBits text n → ⊥) (SpellsBits text)
SpellsBits-one text None len h = λ n spelled. let b = BitsBytes-spelled text n spelled in h (grind arith)
SpellsBits-one [] (Some n) len h = absurd (omega arith)
SpellsBits-one (x ∷ []) (Some n) len h = record { within = omega (arith, h.0); spelled = ap (λ v. v ∷ []) h.1 ∙ sym (decimal_digit n h.0) }
SpellsBits-one (x ∷ y ∷ text) (Some n) len h = absurd (omega arith)

-- a text of two bytes is read as two digits
pub SpellsBits-two : (text : List ℕ) (r : Option ℕ) → length text ≡ 2 → MatchOption r ((n : ℕ) → IsTwoDigits (get_or text 0 0) (get_or text 1 0) n → ⊥) (IsTwoDigits (get_or text 0 0) (get_or text 1 0)) → MatchOption r ((n : ℕ) → SpellsBits text n → ⊥) (SpellsBits text)
SpellsBits-two text None len h = λ n spelled.
    let b = BitsBytes-spelled text n spelled in
    let low : 10 ≤ n = grind arith in
    h n (record { low = low; high = b.within; tens_digit = b.tens low; ones_digit = b.ones low })
SpellsBits-two [] (Some n) len h = absurd (omega arith)
SpellsBits-two (x ∷ []) (Some n) len h = absurd (omega arith)
SpellsBits-two (x ∷ y ∷ []) (Some n) len h =
    record { within = h.high; spelled = ap (λ v. v ∷ y ∷ []) h.tens_digit ∙ ap (λ v. (48 + n / 10) ∷ v ∷ []) h.ones_digit ∙ sym (decimal_two n h.low (omega (arith, h.high))) }
SpellsBits-two (x ∷ y ∷ z ∷ text) (Some n) len h = absurd (omega arith)

-- a network's text at its slash
at_slash : (text : List ℕ) (net : Cidr) → SpellsCidr text net → text ≡ spelling_of_addr net.first ++ 47 ∷ decimal net.bits
at_slash text net h = h.spelled ∙ append_assoc (spelling_of_addr net.first) (47 ∷ []) (decimal net.bits)

-- the parts of a text that is a network
pub SpellsCidr-parts : (text front back : List ℕ) (net : Cidr) → text ≡ front ++ 47 ∷ back → Lacks 47 front → SpellsCidr text net → SpellsAddr front net.first × SpellsBits back net.bits
SpellsCidr-parts text front back net split lacks h =
    let same = split_unique 47 front back (spelling_of_addr net.first) (decimal net.bits) lacks (Lacks-spelling 47 net.first (grind arith) h.fits) (sym split ∙ at_slash text net h) in
    (record { fits = h.fits; spelled = same.0 }, record { within = h.within; spelled = same.1 })

-- the parts make up a network
pub SpellsCidr-whole : (text front back : List ℕ) (first bits : ℕ) → text ≡ front ++ 47 ∷ back → SpellsAddr front first → SpellsBits back bits → SpellsCidr text (record { first = first; bits = bits })
SpellsCidr-whole text front back first bits split addr prefix =
    record {
      fits = addr.fits;
      within = prefix.within;
      spelled = split ∙ rw (addr.spelled, prefix.spelled) (sym (append_assoc (spelling_of_addr first) (47 ∷ []) (decimal bits)));
    }

-- a text spells one network at most
pub SpellsCidr_unique : (text : List ℕ) (a b : Cidr) → SpellsCidr text a → SpellsCidr text b → a ≡ b
SpellsCidr_unique text a b h k =
    let (addr, prefix) = SpellsCidr-parts text _ _ b (at_slash text a h) (Lacks-spelling 47 a.first (grind arith) h.fits) k in
    let first = SpellsAddr_unique _ a.first b.first (SpellsAddr-spelling a.first h.fits) addr in
    let bits = decimal_injective a.bits b.bits (omega (arith, h.within)) (omega (arith, k.within)) prefix.spelled in
    λ i. record { first = first i; bits = bits i }

-- a refused text spells no network without further bits
pub RefusesCidr-none : (text : List ℕ) (fault : IpFault) → RefusesCidr text fault → (net : Cidr) → SpellsCidr text net → IsNetwork net → ⊥
RefusesCidr-none text Syntax refused net h ordered = refused net h
RefusesCidr-none text HostBits refused net h ordered = refused.2 (subst IsNetwork (SpellsCidr_unique text net refused.0 h refused.1) ordered)
RefusesCidr-none text Backwards refused net h ordered = refused
RefusesCidr-none text Memory refused net h ordered = refused
