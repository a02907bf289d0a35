-- The bytes that the characters of a text are the numbers of, and digits of digests.
use Rattle.std.proofs.Common.{◌≡◌, ℕ, suc, ◌<◌, ◌≤◌, Bool, true, false, ◌&&◌, cond, List, [], ◌∷◌, ◌++◌, length, get_or, take, Some, None, Result, Ok, Err, refl, sym, ap, ◌∙◌, arith, ◌+◌}
use Rattle.std.proofs.lemmas.Bool.{lt-ltb, le-ltb, and_from, and_parts}
use Rattle.std.proofs.lemmas.List.Folds.{list_all_at}
use Rattle.std.proofs.lemmas.List.{take_more}
use Rattle.std.proofs.lemmas.Grind.{common_steps}
use Rattle.std.specs.List.{list_all}
use Rattle.std.specs.Prelude.{MatchResult, nat_lt, ⊤, is_err}
use Rattle.std.specs.Str.{bytes_eq, chars, is_utf8}
use Rattle.hex.specs.Hex.{decode_sized, encode_lower}
use Rattle.hex.specs.declared.error.FromHexError.{FromHexError}
use Rattle.cpi_wire.specs.Text.{bytes_in, digest_in, is_byte, is_text, lower_digits_of}

-- bytes are bytes
pub bytes_fit : (bytes : List ℕ) → ((i : ℕ) → get_or bytes i 0 < 256) → is_text bytes ≡ true
bytes_fit [] fits = refl
bytes_fit (b ∷ bytes) fits = and_from (is_byte b) (is_text bytes) (lt-ltb b 256 (fits 0)) (bytes_fit bytes (λ i. fits (suc i)))

-- a character that is no byte
pub no_bytes : (s : List ℕ) (n c : ℕ) → (n < length (chars s)) × (c ≡ get_or (chars s) n c) → 255 < c → bytes_in s ≡ None
unfolding bytes_in
no_bytes s n c at high =
    let below : nat_lt c 256 ≡ false = le-ltb c 256 (omega arith) in
    let some : is_text (chars s) ≡ false = list_all_at is_byte (chars s) n c at.0 (ap is_byte (sym at.1) ∙ below) in
    no_case (is_utf8 s) (is_text (chars s)) (chars s) some
  where
    no_case : (u t : Bool) (cs : List ℕ) → t ≡ false → cond (u && t) (Some cs) None ≡ None
    no_case true t cs h = rw h refl
    no_case false t cs h = refl

-- one more character
pub one_byte_more : (cs bytes new : List ℕ) (n c : ℕ) → (n < length cs) × (c ≡ get_or cs n c) → c ≤ 255 → bytes ≡ take n cs → is_text bytes ≡ true → new ≡ bytes ++ c ∷ [] → (new ≡ take (n + 1) cs) × (is_text new ≡ true)
one_byte_more cs bytes new n c at low so_far fits more =
    let byte : is_byte c ≡ true = lt-ltb c 256 (omega arith) in (
      more ∙ ap (λ bs. bs ++ c ∷ []) so_far ∙ ap (λ b. take n cs ++ b ∷ []) at.1 ∙ sym (take_more cs n c at.0),
      ap is_text more ∙ all_push is_byte bytes c fits byte,
    )
  where
    all_push : (p : ℕ → Bool) (xs : List ℕ) (x : ℕ) → list_all p xs ≡ true → p x ≡ true → list_all p (xs ++ x ∷ []) ≡ true
    all_push p [] x h e = and_from (p x) true e refl
    all_push p (y ∷ xs) x h e = let parts = and_parts (p y) (list_all p xs) h in and_from (p y) (list_all p (xs ++ x ∷ [])) parts.0 (all_push p xs x parts.1 e)

-- all of them
pub all_bytes : (s bytes : List ℕ) (n : ℕ) → n ≡ length (chars s) → bytes ≡ take n (chars s) → is_text bytes ≡ true → is_utf8 s ≡ true → bytes_in s ≡ Some bytes
unfolding bytes_in
all_bytes s bytes n whole so_far fits utf8 =
    let same : bytes ≡ chars s = so_far ∙ take_whole (chars s) n whole in
    rw (utf8, ap is_text (sym same) ∙ fits) (ap Some (sym same))
  where
    take_whole : (xs : List ℕ) (n : ℕ) → n ≡ length xs → take n xs ≡ xs
    take_whole xs n h = grind (arith, common_steps)

-- ---- digests

refused : (text out : List ℕ) (d : Result (List ℕ) FromHexError) (r : Result ⊤ FromHexError) → MatchResult d (λ bytes. (r ≡ Ok tt) × (out ≡ bytes)) (λ e. r ≡ Err e) → is_err r ≡ true → None ≡ lower_digits_of text d
refused text out (Ok bytes) r h e = let no : is_err r ≡ false = ap is_err h.0 in absurd (cc)
refused text out (Err x) r h e = refl

pub digest_refused : (text out : List ℕ) (r : Result ⊤ FromHexError) → MatchResult (decode_sized text 32) (λ bytes. (r ≡ Ok tt) × (out ≡ bytes)) (λ e. r ≡ Err e) → is_err r ≡ true → None ≡ digest_in text
unfolding digest_in
digest_refused text out r h e = refused text out (decode_sized text 32) r h e

found : (out : List ℕ) (d : Result (List ℕ) FromHexError) (r : Result ⊤ FromHexError) → MatchResult d (λ bytes. (r ≡ Ok tt) × (out ≡ bytes)) (λ e. r ≡ Err e) → is_err r ≡ false → d ≡ Ok out
found out (Ok bytes) r h e = ap Ok (sym h.1)
found out (Err x) r h e = let yes : is_err r ≡ true = ap is_err h in absurd (cc)

pub digest_found : (text out : List ℕ) (r : Result ⊤ FromHexError) → MatchResult (decode_sized text 32) (λ bytes. (r ≡ Ok tt) × (out ≡ bytes)) (λ e. r ≡ Err e) → is_err r ≡ false → digest_in text ≡ cond (bytes_eq (encode_lower out) text) (Some (record { 0 = out })) None
unfolding digest_in
digest_found text out r h e = ap (lower_digits_of text) (found out (decode_sized text 32) r h e)
