-- A range is read in its spelling.
use Rattle.std.proofs.Common.{◌≡◌, ℕ, ◌+◌, ◌<◌, ◌≤◌, ◌==◌, List, ◌∷◌, ◌++◌, Option, Some, None, position, take, drop, arith, refl, sym, ap, ◌∙◌, subst, inl, inr, append_assoc}
use Rattle.std.proofs.lemmas.Bool.{le-leb, lt-leb}
use Rattle.std.proofs.lemmas.List.{reverse-reverse}
use Rattle.bosh_base.specs.declared.addr.Addr.{Addr}
use Rattle.bosh_base.specs.declared.addr.Band.{Band}
use Rattle.bosh_ip.specs.declared.range.Span.{Span}
use Rattle.bosh_ip.specs.Address.{spelling_of_addr}
use Rattle.bosh_ip.specs.Bytes.{Lacks, without_leading}
use Rattle.bosh_ip.specs.Range.{SpellsPair, SpellsSpan, spaces}
use Rattle.bosh_ip.proofs.BytesLemmas.{Lacks-split, Lacks-position, split_at_position}
use Rattle.bosh_ip.proofs.RangeLemmas.{IsCut, SpellsSpan-parts, SpellsSpan-whole}
use Rattle.bosh_fields.specs.Address.{addr_in, band_at, band_in, between, without_trailing}
use Rattle.bosh_fields.proofs.AddressLemmas.{addr_in-spelled, addr_in-some, some_same}

-- the band of a span
abbrev pub band_of : Span → Band
band_of span = record { first = record { 0 = span.first }; last = record { 0 = span.last } }

-- two addresses in order
between-ordered : (span : Span) (first last : Option Addr) → first ≡ Some (record { 0 = span.first }) → last ≡ Some (record { 0 = span.last }) → span.first ≤ span.last
    → between first last ≡ Some (band_of span)
between-ordered span first last is_first is_last ordered = rw (is_first, is_last, le-leb span.first span.last ordered) refl

-- a text with two addresses has a dash
has_dash : (text : List ℕ) (span : Span) → SpellsPair text span → Lacks 45 text → ⊥
has_dash text span h lacks =
    let split : text ≡ (spelling_of_addr span.first ++ spaces h.before) ++ 45 ∷ (spaces h.after ++ spelling_of_addr span.last) = h.spelled ∙ simp append_assoc in
    Lacks-split 45 _ _ (subst (Lacks 45) split lacks)

-- a text is cut at its dash
cut_at_dash : (text : List ℕ) (dash : ℕ) → position (λ byte. byte == 45) text ≡ Some dash
    → IsCut text (take dash text) (drop (dash + 1) text) (without_trailing 32 (take dash text)) (without_leading 32 (drop (dash + 1) text))
cut_at_dash text dash found =
    let (within, split, lacks) = split_at_position 45 text dash found in
    record { split = split; lacks = lacks; first_is = reverse-reverse _; last_is = refl }

band_at-spelled : (text : List ℕ) (span : Span) (place : Option ℕ) → position (λ byte. byte == 45) text ≡ place → SpellsSpan text span → span.first ≤ span.last
    → band_at text place ≡ Some (band_of span)
band_at-spelled text span None found (inl h) ordered =
    let here = addr_in-spelled text span.first h.0 in
    between-ordered span (addr_in text) (addr_in text) here (here ∙ ap (λ n. Some (record { 0 = n })) (sym h.1)) ordered
band_at-spelled text span None found (inr h) ordered = absurd (has_dash text span h (Lacks-position 45 text found))
band_at-spelled text span (Some dash) found h ordered =
    let parts = SpellsSpan-parts text _ _ _ _ span (cut_at_dash text dash found) h in
    between-ordered span _ _ (addr_in-spelled _ span.first parts.0) (addr_in-spelled _ span.last parts.1) ordered

-- a text that spells a range has that one
pub band_in-spelled : (text : List ℕ) (span : Span) → SpellsSpan text span → span.first ≤ span.last → band_in text ≡ Some (band_of span)
unfolding band_in
band_in-spelled text span h ordered = band_at-spelled text span _ refl h ordered

-- two addresses of which there is none, or the first is greater
between-none : (first last : Option Addr) → ((a b : Addr) → first ≡ Some a → last ≡ Some b → b.0 < a.0) → between first last ≡ None
between-none None last backwards = refl
between-none (Some a) None backwards = refl
between-none (Some a) (Some b) backwards = rw (lt-leb a.0 b.0 (backwards a b refl refl)) refl

band_at-none : (text : List ℕ) (place : Option ℕ) → position (λ byte. byte == 45) text ≡ place → ((span : Span) → SpellsSpan text span → span.last < span.first)
    → band_at text place ≡ None
band_at-none text None found backwards =
    between-none (addr_in text) (addr_in text) (λ a b is_a is_b.
    let same : a ≡ b = some_same (sym is_a ∙ is_b) in
    absurd (omega (arith, backwards (record { first = a.0; last = a.0 }) (inl (addr_in-some text a is_a, refl)))))
band_at-none text (Some dash) found backwards =
    between-none _ _ (λ a b is_a is_b.
    backwards (record { first = a.0; last = b.0 }) (SpellsSpan-whole text _ _ _ _ a.0 b.0 (cut_at_dash text dash found) (addr_in-some _ a is_a) (addr_in-some _ b is_b)))

-- and a text that spells none in order has none
pub band_in-none : (text : List ℕ) → ((span : Span) → SpellsSpan text span → span.last < span.first) → band_in text ≡ None
unfolding band_in
band_in-none text backwards = band_at-none text _ refl backwards
