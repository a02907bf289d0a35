-- Texts may be cut beside an ASCII byte.
use Rattle.std.proofs.Common.{◌≡◌, ℕ, zero, suc, ◌+◌, ◌<◌, List, [], ◌∷◌, ◌++◌, length, get_or, arith, ap, sym, subst, refl, length-append}
use Rattle.std.specs.Prelude.{slice_index}
use Rattle.std.specs.Str.{IsUtf8}
use Rattle.std.proofs.Math.Seq.{take-append_seam, drop-append_seam}
use Rattle.std.proofs.lemmas.Str.{IsUtf8-from_ascii, IsUtf8-take, IsUtf8-drop, IsUtf8-past_char, IsCharBoundary-before_ascii, encode_ascii}

single_ascii : (b i : ℕ) → b < 128 → slice_index (b ∷ []) i < 128
single_ascii b zero h = h
single_ascii b (suc i) h = omega arith

pub IsUtf8-ascii : (b : ℕ) → b < 128 → IsUtf8 (b ∷ [])
IsUtf8-ascii b h = IsUtf8-from_ascii (b ∷ []) (λ i. single_ascii b i h)

byte_at_seam : (a : List ℕ) (b : ℕ) (c : List ℕ) → get_or (a ++ b ∷ c) (length a) 0 ≡ b
byte_at_seam [] b c = refl
byte_at_seam (x ∷ a) b c = byte_at_seam a b c

-- what stands before an ASCII byte of a text, and what follows it, are texts
pub IsUtf8-cut : (a : List ℕ) (b : ℕ) (c : List ℕ) → b < 128 → IsUtf8 (a ++ b ∷ c) → IsUtf8 a × IsUtf8 c
IsUtf8-cut a b c low u =
    let n : length (a ++ b ∷ c) ≡ length a + length (b ∷ c) = length-append a (b ∷ c) in
    let within : length a < length (a ++ b ∷ c) = omega arith in
    let small : get_or (a ++ b ∷ c) (length a) 0 < 128 = rw (byte_at_seam a b c) low in
    let place = IsCharBoundary-before_ascii (a ++ b ∷ c) (length a) within small in
    let rest : IsUtf8 (b ∷ c) = subst IsUtf8 (drop-append_seam a (b ∷ c)) (IsUtf8-drop (a ++ b ∷ c) (length a) u place) in (
      subst IsUtf8 (take-append_seam a (b ∷ c)) (IsUtf8-take (a ++ b ∷ c) (length a) u place),
      IsUtf8-past_char (b ∷ c) c b rest (sym (ap (λ l. l ++ c) (encode_ascii b low))),
    )
