-- A line of a listing tells what it stands for.
use Rattle.std.proofs.Common.{◌≡◌, ◌∙◌, ap, sym, refl, arith, rules, ℕ, ◌+◌, true, List, [], ◌∷◌, ◌++◌, length, codes, Result, Ok, inl, inr}
use Rattle.std.proofs.lemmas.Bool.{cases_eq}
use Rattle.std.proofs.lemmas.List.{append_cancel_left, length-append}
use Rattle.std.proofs.lemmas.List.Elements.{All-cons, All-head, All-nil, All-tail}
use Rattle.std.specs.List.{AllPass}
use Rattle.hex.proofs.HexLemmas.{decode_of-encode_lower, decode_of-ok}
use Rattle.hex.specs.Hex.{decode_of, is_hex_digit}
use Rattle.hex.specs.declared.error.FromHexError.{FromHexError}
use Rattle.bosh_base.specs.declared.digest.Digest.{Digest}
use Rattle.bosh_release_listing.specs.Laws.{IsDigest, IsStamped}
use Rattle.bosh_release_listing.specs.Lines.{IsOneLine, hex_of}
use Rattle.bosh_release_listing.specs.Listing.{Stamped, dep_line, digest_line, file_line}
use Rattle.bosh_release_listing.proofs.LineLemmas.{IsNoLf, append_split, one_line_append}

-- ---- digests

digit_no_lf : (b : ℕ) → is_hex_digit b ≡ true → IsNoLf b
digit_no_lf b h = elim (cases_eq b 10) [
  | inl same ↦ absurd (grind rules)
  | inr other ↦ grind rules
]

digits_one_line : (s : List ℕ) → AllPass is_hex_digit s → IsOneLine s
digits_one_line [] h = All-nil IsNoLf
digits_one_line (b ∷ s) h =
    All-cons IsNoLf b s (digit_no_lf b (All-head (λ x. is_hex_digit x ≡ true) b s h))
    (digits_one_line s (All-tail (λ x. is_hex_digit x ≡ true) b s h))

pub hex_one_line : (d : Digest) → IsDigest d → IsOneLine (hex_of d)
hex_one_line d h =
    digits_one_line (hex_of d) (decode_of-ok (hex_of d) d.0 (decode_of-encode_lower d.0 h.1)).1

pub hex_length : (d : Digest) → IsDigest d → length (hex_of d) ≡ 64
hex_length d h =
    let it = (decode_of-ok (hex_of d) d.0 (decode_of-encode_lower d.0 h.1)).2 in
    let n = h.0 in
    omega arith

abbrev pub Decoded : Type 0
Decoded = Result (List ℕ) FromHexError

abbrev decoded : List ℕ → Decoded
decoded a = Ok a

ok_tells : (a b : List ℕ) → decoded a ≡ decoded b → a ≡ b
ok_tells a b e = cc

abbrev digest_with : List ℕ → Digest
digest_with bytes = record { 0 = bytes }

abbrev stamped_with : List ℕ → Digest → Stamped
stamped_with name digest = record { name = name; digest = digest }

same_stamped : (a b : Stamped) → a.name ≡ b.name → a.digest ≡ b.digest → a ≡ b
same_stamped a b names digests =
    ap (λ x. stamped_with x a.digest) names ∙ ap (λ x. stamped_with b.name x) digests

pub hex_tells : (a b : Digest) → IsDigest a → IsDigest b → hex_of a ≡ hex_of b → a ≡ b
hex_tells a b ha hb e =
    let same : a.0 ≡ b.0 =
    ok_tells a.0 b.0
    (sym (decode_of-encode_lower a.0 ha.1) ∙ ap decode_of e ∙ decode_of-encode_lower b.0 hb.1) in
    ap digest_with same

-- ---- lines

pub digest_line_tells :
    (word : List ℕ) (a b : Digest) → IsDigest a → IsDigest b → digest_line word a ≡ digest_line word b → a ≡ b
digest_line_tells word a b ha hb e = hex_tells a b ha hb (append_cancel_left word (hex_of a) (hex_of b) e)

pub file_line_tells :
    (word : List ℕ) (a b : Stamped) → IsStamped a → IsStamped b → file_line word a ≡ file_line word b → a ≡ b
file_line_tells word a b ha hb e =
    let la = hex_length a.digest ha.1 in
    let lb = hex_length b.digest hb.1 in
    let it =
    append_split (hex_of a.digest) (hex_of b.digest) (32 ∷ a.name) (32 ∷ b.name) (la ∙ sym lb)
    (append_cancel_left word (hex_of a.digest ++ 32 ∷ a.name) (hex_of b.digest ++ 32 ∷ b.name) e) in
    let digests = hex_tells a.digest b.digest ha.1 hb.1 it.0 in
    let rest = it.1 in
    let names : a.name ≡ b.name = cc in
    same_stamped a b names digests

length_sum : (x y : List ℕ) (n : ℕ) → length y ≡ n → length (x ++ 32 ∷ y) ≡ length x + (n + 1)
length_sum x y n h = let it = length-append x (32 ∷ y) in omega arith

pub dep_line_tells : (a b : Stamped) → IsStamped a → IsStamped b → dep_line a ≡ dep_line b → a ≡ b
dep_line_tells a b ha hb e =
    let tail : a.name ++ 32 ∷ hex_of a.digest ≡ b.name ++ 32 ∷ hex_of b.digest =
    append_cancel_left (codes "dep ") (a.name ++ 32 ∷ hex_of a.digest) (b.name ++ 32 ∷ hex_of b.digest) e in
    let la = length_sum a.name (hex_of a.digest) 64 (hex_length a.digest ha.1) in
    let lb = length_sum b.name (hex_of b.digest) 64 (hex_length b.digest hb.1) in
    let sum : length (a.name ++ 32 ∷ hex_of a.digest) ≡ length (b.name ++ 32 ∷ hex_of b.digest) = ap length tail in
    let it = append_split a.name b.name (32 ∷ hex_of a.digest) (32 ∷ hex_of b.digest) (omega arith) tail in
    let names = it.0 in
    let rest = it.1 in
    let hexes : hex_of a.digest ≡ hex_of b.digest = cc in
    let digests = hex_tells a.digest b.digest ha.1 hb.1 hexes in
    same_stamped a b names digests

pub file_line_is_one :
    (word : List ℕ) (a : Stamped) → IsOneLine word → IsStamped a → IsOneLine (file_line word a)
file_line_is_one word a hw h =
    one_line_append word (hex_of a.digest ++ 32 ∷ a.name) hw
    (one_line_append (hex_of a.digest) (32 ∷ a.name) (hex_one_line a.digest h.1)
    (All-cons IsNoLf 32 a.name refl h.0))

pub dep_line_is_one : (a : Stamped) → IsOneLine (codes "dep ") → IsStamped a → IsOneLine (dep_line a)
dep_line_is_one a hw h =
    one_line_append (codes "dep ") (a.name ++ 32 ∷ hex_of a.digest) hw
    (one_line_append a.name (32 ∷ hex_of a.digest) h.0
    (All-cons IsNoLf 32 (hex_of a.digest) refl (hex_one_line a.digest h.1)))
