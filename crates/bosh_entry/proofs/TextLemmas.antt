-- Bytes are read and written at once as they are one by one.
use Rattle.std.proofs.Common.{◌≡◌, ℕ, zero, suc, ◌<◌, ◌≤◌, true, List, [], ◌∷◌, length, take, drop, Some, None, refl, ap, ◌∙◌, arith}
use Rattle.std.specs.List.{flat_map, list_all}
use Rattle.std.proofs.lemmas.Bool.{lt-ltb, and_from}
use Rattle.std.proofs.lemmas.List.Concat.{flat_map-cons}
use Rattle.bosh_entry.specs.Reading.{IsBytes, byte_at}
use Rattle.bosh_entry.specs.Number.{byte, is_byte}
use Rattle.bosh_entry.specs.List.{items_at}

pub bytes_spelled : (bytes : List ℕ) → flat_map byte bytes ≡ bytes
bytes_spelled [] = refl
bytes_spelled (b ∷ bs) = flat_map-cons byte b bs ∙ ap (λ (t : List ℕ). b ∷ t) (bytes_spelled bs)

pub bytes_fit : (bytes : List ℕ) → IsBytes bytes → list_all is_byte bytes ≡ true
bytes_fit [] fits = refl
bytes_fit (b ∷ bs) fits = and_from (is_byte b) (list_all is_byte bs) (lt-ltb b 256 (fits 0)) (bytes_fit bs (λ i. fits (suc i)))

pub bytes_read : (n : ℕ) (bytes : List ℕ) → n ≤ length bytes → items_at byte_at n bytes ≡ Some (take n bytes, drop n bytes)
unfolding items_at
bytes_read zero bytes within = refl
bytes_read (suc n) [] within = absurd (omega (arith, within))
bytes_read (suc n) (b ∷ bs) within = rw (bytes_read n bs (omega (arith, within))) refl

pub bytes_missing : (n : ℕ) (bytes : List ℕ) → length bytes < n → items_at byte_at n bytes ≡ None
unfolding items_at
bytes_missing zero bytes short = absurd (omega (arith, short))
bytes_missing (suc n) [] short = refl
bytes_missing (suc n) (b ∷ bs) short = rw (bytes_missing n bs (omega (arith, short))) refl
