-- A range by its parts.
use Rattle.std.proofs.Common.{◌<◌, ◌≡◌, ◌≢◌, ℕ, subst, List, [], ◌∷◌, ◌++◌, reverse, arith, sym, ap, ◌∙◌, inl, inr}
use Rattle.std.proofs.lemmas.List.{append_assoc, reverse-reverse}
use Rattle.std.proofs.lemmas.List.Elements.{All-append, All-replicate}
use Rattle.bosh_ip.specs.declared.fault.IpFault.{IpFault}
use Rattle.bosh_ip.specs.declared.fault.IpFault.TheVariants.{Syntax, Backwards, HostBits, Memory}
use Rattle.bosh_ip.specs.declared.range.Span.{Span}
use Rattle.bosh_ip.specs.Address.{spelling_of_addr, SpellsAddr}
use Rattle.bosh_ip.specs.Bytes.{Lacks, without_leading}
use Rattle.bosh_ip.specs.Range.{SpellsPair, SpellsSpan, RefusesRange, spaces}
use Rattle.bosh_ip.proofs.AddressLemmas.{SpellsAddr-spelling, SpellsAddr_unique, Lacks-addr, Lacks-spelling}
use Rattle.bosh_ip.proofs.BytesLemmas.{Lacks-split, split_unique, without_leading-same, without_leading-split, without_leading-end, trim_end-split}

-- a text at a dash, with the spaces on both sides of the dash taken away
pub record IsCut (text front back first last : List ℕ) : Type 0 where
  pub split : text ≡ front ++ 45 ∷ back
  pub lacks : Lacks 45 front
  pub first_is : reverse first ≡ without_leading 32 (reverse front)
  pub last_is : last ≡ without_leading 32 back

-- two addresses at their dash
IsCut-pair : (text : List ℕ) (span : Span) (h : SpellsPair text span) → IsCut text (spelling_of_addr span.first ++ spaces h.before) (spaces h.after ++ spelling_of_addr span.last) (spelling_of_addr span.first) (spelling_of_addr span.last)
IsCut-pair text span h =
    let first = spelling_of_addr span.first in
    record {
      split = h.spelled ∙ simp append_assoc;
      lacks = All-append (λ b. b ≢ 45) first (spaces h.before) (Lacks-spelling 45 span.first (grind arith) h.first_fits) (All-replicate (λ b. b ≢ 45) h.before 32 (omega arith));
      first_is = sym (without_leading-end 32 h.before first (Lacks-spelling 32 span.first (grind arith) h.first_fits));
      last_is = sym (without_leading-same 32 h.after (spelling_of_addr span.last) (Lacks-spelling 32 span.last (grind arith) h.last_fits));
    }

-- a text has one cut
IsCut_unique : (text front back first last front' back' first' last' : List ℕ) → IsCut text front back first last → IsCut text front' back' first' last' → (first ≡ first') × (last ≡ last')
IsCut_unique text front back first last front' back' first' last' h k =
    let same = split_unique 45 front back front' back' h.lacks k.lacks (sym h.split ∙ k.split) in
    let turned : reverse first ≡ reverse first' = h.first_is ∙ ap (λ t. without_leading 32 (reverse t)) same.0 ∙ sym k.first_is in
    (sym (reverse-reverse first) ∙ ap reverse turned ∙ reverse-reverse first', h.last_is ∙ ap (without_leading 32) same.1 ∙ sym k.last_is)

-- a text with a dash is no address
no_dash : (text front back : List ℕ) (n : ℕ) → text ≡ front ++ 45 ∷ back → SpellsAddr text n → ⊥
no_dash text front back n split h = Lacks-split 45 front back (subst (Lacks 45) split (Lacks-addr 45 text n (grind arith) h))

-- the parts of a text with a dash that is a range
pub SpellsSpan-parts : (text front back first last : List ℕ) (span : Span) → IsCut text front back first last → SpellsSpan text span → SpellsAddr first span.first × SpellsAddr last span.last
SpellsSpan-parts text front back first last span cut (inl one) = absurd (no_dash text front back span.first cut.split one.0)
SpellsSpan-parts text front back first last span cut (inr h) =
    let same = IsCut_unique text _ _ _ _ _ _ _ _ cut (IsCut-pair text span h) in
    (record { fits = h.first_fits; spelled = same.0 }, record { fits = h.last_fits; spelled = same.1 })

-- how the definition of a range writes its parts
pair_text : (first last first' last' : List ℕ) (before after : ℕ) → first ≡ first' → last ≡ last' → (first ++ spaces before) ++ 45 ∷ (spaces after ++ last) ≡ first' ++ spaces before ++ 45 ∷ [] ++ spaces after ++ last'
pair_text first last first' last' before after e e' = rw (e, e') (simp append_assoc)

-- the parts make up a range
pub SpellsSpan-whole : (text front back first last : List ℕ) (a b : ℕ) → IsCut text front back first last → SpellsAddr first a → SpellsAddr last b → SpellsSpan text (record { first = a; last = b })
SpellsSpan-whole text front back first last a b cut one other =
    let (before, front_is) = trim_end-split 32 front first cut.first_is in
    let (after, back_is) = without_leading-split 32 back in
    let back_whole : back ≡ spaces after ++ last = back_is ∙ ap (λ t. spaces after ++ t) (sym cut.last_is) in
    inr (record {
      before = before;
      after = after;
      first_fits = one.fits;
      last_fits = other.fits;
      spelled = cut.split ∙ ap (λ t. t ++ 45 ∷ back) front_is ∙ ap (λ t. (first ++ spaces before) ++ 45 ∷ t) back_whole ∙ pair_text first last _ _ before after one.spelled other.spelled;
    })

-- a text spells one range at most
pub SpellsSpan_unique : (text : List ℕ) (a b : Span) → SpellsSpan text a → SpellsSpan text b → a ≡ b
SpellsSpan_unique text a b (inl h) (inl k) =
    let first = SpellsAddr_unique text a.first b.first h.0 k.0 in
    let last = h.1 ∙ first ∙ sym k.1 in
    λ i. record { first = first i; last = last i }
SpellsSpan_unique text a b (inl h) (inr k) = absurd (no_dash text _ _ a.first (IsCut-pair text b k).split h.0)
SpellsSpan_unique text a b (inr h) k =
    let (one, other) = SpellsSpan-parts text _ _ _ _ b (IsCut-pair text a h) k in
    let first = SpellsAddr_unique _ a.first b.first (SpellsAddr-spelling a.first h.first_fits) one in
    let last = SpellsAddr_unique _ a.last b.last (SpellsAddr-spelling a.last h.last_fits) other in
    λ i. record { first = first i; last = last i }

-- a refused text spells no range in order
pub RefusesRange-none : (text : List ℕ) (fault : IpFault) → RefusesRange text fault → (span : Span) → SpellsSpan text span → span.last < span.first
RefusesRange-none text Syntax refused span h = absurd (refused span h)
RefusesRange-none text Backwards refused span h = subst (λ (s : Span). s.last < s.first) (SpellsSpan_unique text refused.0 span refused.1 h) refused.2
RefusesRange-none text HostBits refused span h = absurd refused
RefusesRange-none text Memory refused span h = absurd refused
