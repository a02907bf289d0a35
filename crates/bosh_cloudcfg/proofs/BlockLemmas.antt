-- A network is read in its spelling.
use Rattle.std.proofs.Common.{◌≡◌, ℕ, ◌+◌, ◌-◌, ◌*◌, ◌/◌, ◌%◌, ◌^◌, ◌<◌, ◌≤◌, ◌==◌, ◌&&◌, Bool, true, false, nat_le, List, ◌∷◌, ◌++◌, Option, Some, None, position, arith, refl, sym, ap, ◌∙◌, subst, inl, inr, decimal, eq-eqb, ne_eqb, append_assoc}
use Rattle.std.specs.Str.{bytes_eq}
use Rattle.std.proofs.lemmas.Bool.{cases_Bool, cases_lt, le-leb, leb-true}
use Rattle.std.proofs.lemmas.Fmt.{decimal_digit}
use Rattle.std.proofs.lemmas.Nat.{pow-add, pow_pos}
use Rattle.std.proofs.Math.Nat.{div-lt_iff_lt-mul, mul-le-mul_left}
use Rattle.std.proofs.lemmas.Slice.Eq.{bytes_eq-Decides}
use Rattle.bosh_base.specs.declared.addr.Addr.{Addr}
use Rattle.bosh_ip.specs.declared.network.Cidr.{Cidr}
use Rattle.bosh_ip.specs.Address.{spelling_of_addr}
use Rattle.bosh_ip.specs.Bytes.{Lacks}
use Rattle.bosh_ip.specs.Network.{IsNetwork, SpellsBits, SpellsCidr}
use Rattle.bosh_ip.proofs.BytesLemmas.{Lacks-split, Lacks-position, split_at_position}
use Rattle.bosh_ip.proofs.NetworkLemmas.{SpellsCidr-parts, SpellsCidr-whole, decimal_two}
use Rattle.bosh_fields.proofs.AddressLemmas.{addr_in-spelled, addr_in-some, some_same}
use Rattle.bosh_cloudcfg.specs.declared.block.Block.{Block}
use Rattle.bosh_cloudcfg.specs.Block.{bits_in, block_at, block_in, block_of, digits_in}

-- the digits of a number up to 32 make it
digits_in-decimal : (n : ℕ) → n ≤ 32 → digits_in (decimal n) ≡ n
digits_in-decimal n most =
    elim (cases_lt n 10) [
      | inl one ↦ rw (decimal_digit n one) (omega arith)
      | inr two ↦ rw (decimal_two n two (omega arith)) (omega arith)
    ]

bits_in-spelled : (text : List ℕ) (n : ℕ) → SpellsBits text n → bits_in text ≡ Some n
unfolding bits_in
bits_in-spelled text n h =
    let same : digits_in text ≡ n = ap digits_in h.spelled ∙ digits_in-decimal n h.within in
    let spelled : bytes_eq (decimal n) text ≡ true = (bytes_eq-Decides (decimal n) text).1 (sym h.spelled) in
    rw (same, le-leb n 32 h.within, spelled) refl

both : (x y : Bool) → (x && y) ≡ true → (x ≡ true) × (y ≡ true)
both true y h = (refl, h)
both false y h = absurd (cc)

bits_in-some : (text : List ℕ) (n : ℕ) → bits_in text ≡ Some n → SpellsBits text n
unfolding bits_in
bits_in-some text n is =
    let m = digits_in text in
    elim (cases_Bool (nat_le m 32 && bytes_eq (decimal m) text)) [
      | inl met ↦
          let parts = both (nat_le m 32) (bytes_eq (decimal m) text) met in
          let here : Some m ≡ Some n = sym (rw met refl) ∙ is in
          subst (SpellsBits text) (some_same here) (record { within = leb-true m 32 parts.0; spelled = sym ((bytes_eq-Decides (decimal m) text).0 parts.1) })
      | inr unmet ↦ let none : None ≡ Some n = sym (rw unmet refl) ∙ is in absurd (cc)
    ]

-- the addresses of a network
abbrev pub block : Cidr → Block
block net = record { addresses = record { first = record { 0 = net.first }; last = record { 0 = net.first + 2 ^ (32 - net.bits) - 1 } } }

block_of-network : (net : Cidr) (first : Option Addr) (bits : Option ℕ) → first ≡ Some (record { 0 = net.first }) → bits ≡ Some net.bits → IsNetwork net
    → block_of first bits ≡ Some (block net)
block_of-network net first bits is_first is_bits network = rw (is_first, is_bits, eq-eqb _ _ network) refl

has_slash : (text : List ℕ) (net : Cidr) → SpellsCidr text net → Lacks 47 text → ⊥
has_slash text net h lacks =
    let split : text ≡ spelling_of_addr net.first ++ 47 ∷ decimal net.bits = h.spelled ∙ simp append_assoc in
    Lacks-split 47 _ _ (subst (Lacks 47) split lacks)

block_at-spelled : (text : List ℕ) (net : Cidr) (place : Option ℕ) → position (λ byte. byte == 47) text ≡ place → SpellsCidr text net → IsNetwork net → block_at text place ≡ Some (block net)
block_at-spelled text net None found h network = absurd (has_slash text net h (Lacks-position 47 text found))
block_at-spelled text net (Some slash) found h network =
    let (within, split, lacks) = split_at_position 47 text slash found in
    let parts = SpellsCidr-parts text _ _ net split lacks h in
    block_of-network net _ _ (addr_in-spelled _ net.first parts.0) (bits_in-spelled _ net.bits parts.1) network

pub block_in-spelled : (text : List ℕ) (net : Cidr) → SpellsCidr text net → IsNetwork net → block_in text ≡ Some (block net)
unfolding block_in
block_in-spelled text net h network = block_at-spelled text net _ refl h network

-- an address and a number of bits that make no network
block_of-none : (first : Option Addr) (bits : Option ℕ) → ((a : Addr) (n : ℕ) → first ≡ Some a → bits ≡ Some n → (a.0 % 2 ^ (32 - n) ≡ 0 → ⊥)) → block_of first bits ≡ None
block_of-none None bits refused = refl
block_of-none (Some a) None refused = refl
block_of-none (Some a) (Some n) refused = rw (ne_eqb _ _ (refused a n refl refl)) refl

block_at-none : (text : List ℕ) (place : Option ℕ) → position (λ byte. byte == 47) text ≡ place → ((net : Cidr) → SpellsCidr text net → IsNetwork net → ⊥) → block_at text place ≡ None
block_at-none text None found refused = refl
block_at-none text (Some slash) found refused =
    let (within, split, lacks) = split_at_position 47 text slash found in
    block_of-none _ _ (λ a n is_a is_n network.
    refused (record { first = a.0; bits = n }) (SpellsCidr-whole text _ _ a.0 n split (addr_in-some _ a is_a) (bits_in-some _ n is_n)) network)

pub block_in-none : (text : List ℕ) → ((net : Cidr) → SpellsCidr text net → IsNetwork net → ⊥) → block_in text ≡ None
unfolding block_in
block_in-none text refused = block_at-none text _ refl refused

-- a network ends within 32 bits
pub block_fits : (first k : ℕ) → first < 2 ^ 32 → k ≤ 32 → first % 2 ^ k ≡ 0 → first + 2 ^ k ≤ 2 ^ 32
block_fits first k fits most network =
    let size = 2 ^ k in
    let positive : 0 < size = pow_pos k in
    let bits : (32 - k) + k ≡ 32 = omega arith in
    let whole : 2 ^ (32 - k) * size ≡ 2 ^ 32 = sym (pow-add 2 (32 - k) k) ∙ ap (λ n. 2 ^ n) bits in
    let below : first / size < 2 ^ (32 - k) = (div-lt_iff_lt-mul positive).1 (omega arith) in
    let more : size * (first / size + 1) ≤ size * 2 ^ (32 - k) = mul-le-mul_left size (omega arith) in
    omega arith
