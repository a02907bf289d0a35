-- Names and digests are read as they were spelled.
use Rattle.std.proofs.Common.{◌≡◌, ℕ, suc, ◌+◌, ◌<◌, ◌≤◌, true, false, ◌&&◌, ltb, eqb, List, [], ◌∷◌, ◌++◌, length, get_or, take, drop, Some, refl, sym, subst, arith, inl, inr}
use Rattle.std.specs.List.{list_all}
use Rattle.std.specs.Char.{is_ascii_alphanumeric}
use Rattle.std.proofs.lemmas.Bool.{cases_lt, ltb-true, ltb-false, lt-ltb, le-ltb, eqb-true, eq-eqb, and_parts, and_from, or_left}
use Rattle.std.proofs.lemmas.Bool.Decides.{nat_tests}
use Rattle.std.proofs.lemmas.List.{get_or-append-add, get_or_past, take_at, drop_at, take-append-drop, length-append, length-take}
use Rattle.bosh_base.specs.Name.{is_name, is_name_byte}
use Rattle.bosh_base.specs.declared.digest.Digest.{Digest}
use Rattle.bosh_entry.specs.Reading.{IsBytes}
use Rattle.bosh_entry.specs.Number.{is_byte, is_number}
use Rattle.bosh_entry.specs.List.{text, is_text}
use Rattle.bosh_entry.specs.Plain.{name_at, digest, is_digest, digest_at}
use Rattle.bosh_entry.proofs.CodingLemmas.{Takes, IsCoding, only_law}
use Rattle.bosh_entry.proofs.NumberLemmas.{IsBytes-drop, IsBytes-take, guard_some}
use Rattle.bosh_entry.proofs.ListLemmas.{text_law}

is_name_byte-byte : (c : ℕ) → is_name_byte c ≡ true → is_byte c ≡ true
is_name_byte-byte c h = lt-ltb c 256 (grind (arith, nat_tests))

bytes_of_name : (cs : List ℕ) → list_all is_name_byte cs ≡ true → list_all is_byte cs ≡ true
bytes_of_name [] h = refl
bytes_of_name (c ∷ cs) h =
    let parts = and_parts (is_name_byte c) (list_all is_name_byte cs) h in
    and_from (is_byte c) (list_all is_byte cs) (is_name_byte-byte c parts.0) (bytes_of_name cs parts.1)

text_of_name : (bytes : List ℕ) → is_name bytes ≡ true → is_text bytes ≡ true
text_of_name [] h = absurd cc
text_of_name (c ∷ cs) h =
    let outer = and_parts (ltb (length cs) 64) (is_ascii_alphanumeric c && list_all is_name_byte cs) h in
    let inner = and_parts (is_ascii_alphanumeric c) (list_all is_name_byte cs) outer.1 in
    let first : is_name_byte c ≡ true = or_left (is_ascii_alphanumeric c) _ inner.0 in
    and_from (is_number (length (c ∷ cs))) (list_all is_byte (c ∷ cs)) (lt-ltb _ _ (omega (arith, ltb-true _ _ outer.0))) (bytes_of_name (c ∷ cs) (and_from (is_name_byte c) (list_all is_name_byte cs) first inner.1))

pub name_law : IsCoding text is_name name_at
unfolding name_at
name_law = only_law is_name text_of_name text_law

all_bytes : (bytes : List ℕ) → IsBytes bytes → list_all is_byte bytes ≡ true
all_bytes [] fits = refl
all_bytes (b ∷ bytes) fits = and_from (is_byte b) (list_all is_byte bytes) (lt-ltb b 256 (fits 0)) (all_bytes bytes (λ i. fits (suc i)))

-- what was added to bytes, where all of them are bytes
added_bytes : (front text : List ℕ) → ((i d : ℕ) → i < length (front ++ text) → get_or (front ++ text) i d < 256) → IsBytes text
added_bytes front text fits i =
    elim (cases_lt i (length text)) [
      | inl lt ↦ rw (← get_or-append-add front text i 0) (fits (length front + i) 0 (omega (arith, length-append front text)))
      | inr le ↦ rw (get_or_past text i 0 le) (omega arith)
    ]

-- 32 bytes that were added to bytes are a digest
pub added_digest : (d : Digest) (front bytes : List ℕ) → length d.0 ≡ 32 → bytes ≡ front ++ d.0 → ((i e : ℕ) → i < length bytes → get_or bytes i e < 256) → is_digest d ≡ true
unfolding is_digest
added_digest d front bytes len parts fits =
    let added = added_bytes front d.0 (subst (λ (bytes : List ℕ). (i e : ℕ) → i < length bytes → get_or bytes i e < 256) parts fits) in
    and_from (eqb (length d.0) 32) (list_all is_byte d.0) (eq-eqb (length d.0) 32 len) (all_bytes d.0 added)

digest_takes : (bytes : List ℕ) (x : Digest × List ℕ) → IsBytes bytes → digest_at bytes ≡ Some x → Takes bytes (digest x.0) x.1 × (is_digest x.0 ≡ true)
unfolding digest is_digest digest_at
digest_takes bytes x fits e =
    let g = guard_some (ltb (length bytes) 32) (record { 0 = take 32 bytes }, drop 32 bytes) x e in
    let long : 32 ≤ length bytes = ltb-false _ _ g.0 in
    subst (λ (y : Digest × List ℕ). Takes bytes (digest y.0) y.1 × (is_digest y.0 ≡ true)) g.1 (
      record { parts = sym (take-append-drop 32 bytes); rest_fits = IsBytes-drop 32 bytes fits },
      and_from (eqb (length (take 32 bytes)) 32) (list_all is_byte (take 32 bytes)) (eq-eqb _ _ (omega (arith, length-take 32 bytes))) (all_bytes (take 32 bytes) (IsBytes-take 32 bytes fits)),
    )

digest_again : (d : Digest) (rest : List ℕ) → is_digest d ≡ true → digest_at (digest d ++ rest) ≡ Some (d, rest)
unfolding digest is_digest digest_at
digest_again d rest h =
    let len = eqb-true _ _ (and_parts (eqb (length d.0) 32) (list_all is_byte d.0) h).0 in
    let long : ltb (length (d.0 ++ rest)) 32 ≡ false = le-ltb _ _ (omega (arith, length-append d.0 rest)) in
    rw (long, take_at d.0 rest 32 len, drop_at d.0 rest 32 len) refl

pub digest_law : IsCoding digest is_digest digest_at
digest_law = record { takes = digest_takes; again = digest_again }
