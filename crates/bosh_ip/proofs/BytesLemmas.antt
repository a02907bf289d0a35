-- Where a text is split at a byte, and its spaces taken away.
use Rattle.std.proofs.Common.{◌≡◌, ◌≢◌, ℕ, zero, suc, ◌+◌, ◌-◌, ◌<◌, ◌==◌, cond, true≢false, lt-ltb, add-one, List, [], ◌∷◌, ◌++◌, length, get_or, take, drop, replicate, reverse, Some, None, position, refl, sym, ap, ◌∙◌, arith, inl, inr, take-append-drop, eqb-true, eq-eqb, ne_eqb}
use Rattle.std.proofs.lemmas.Bool.{cases_lt, cases_eq}
use Rattle.std.proofs.lemmas.List.{drop_more, reverse-append, reverse-reverse, length-take, get_or-take, length-reverse, get_or-reverse, replicate_more}
use Rattle.std.proofs.lemmas.Option.{none-some}
use Rattle.std.specs.List.{position_or_len}
use Rattle.std.proofs.lemmas.List.Quantifiers.{position-Some}
use Rattle.std.proofs.lemmas.List.Sums.{fails_before_first}
use Rattle.std.proofs.lemmas.List.Elements.{All-get_or, All-head, All-tail, All-contains, All-from_get_or, Contains-append_right}
use Rattle.bosh_ip.specs.Bytes.{Lacks, without_leading}

-- a text that has the byte does not lack it
pub Lacks-split : (byte : ℕ) (front back : List ℕ) → Lacks byte (front ++ byte ∷ back) → ⊥
Lacks-split byte front back h =
    All-contains (λ b. b ≢ byte) (front ++ byte ∷ back) byte h (Contains-append_right front (byte ∷ back) byte (0, omega arith, refl)) refl

-- a text has one split at the first such byte
pub split_unique : (byte : ℕ) (a b c d : List ℕ) → Lacks byte a → Lacks byte c → a ++ byte ∷ b ≡ c ++ byte ∷ d → (a ≡ c) × (b ≡ d)
split_unique byte [] b [] d h k e = (refl, ap (λ t. drop 1 t) e)
split_unique byte [] b (y ∷ c) d h k e = absurd (All-head (λ v. v ≢ byte) y c k (sym (ap (λ t. get_or t 0 0) e)))
split_unique byte (x ∷ a) b [] d h k e = absurd (All-head (λ v. v ≢ byte) x a h (ap (λ t. get_or t 0 0) e))
split_unique byte (x ∷ a) b (y ∷ c) d h k e =
    let same : x ≡ y = ap (λ t. get_or t 0 0) e in
    let rest = split_unique byte a b c d (All-tail (λ v. v ≢ byte) x a h) (All-tail (λ v. v ≢ byte) y c k) (ap (λ t. drop 1 t) e) in
    (cc, rest.1)

-- the bytes at the front are taken away
pub without_leading-same : (byte : ℕ) (n : ℕ) (text : List ℕ) → Lacks byte text → without_leading byte (replicate n byte ++ text) ≡ text
without_leading-same byte zero [] h = refl
without_leading-same byte zero (b ∷ text) h = rw (ne_eqb b byte (All-head (λ v. v ≢ byte) b text h))
without_leading-same byte (suc n) text h = rw (eq-eqb byte byte refl) (without_leading-same byte n text h)

-- what is taken away is bytes of this kind alone
pub without_leading-split : (byte : ℕ) (text : List ℕ) → (n : ℕ) × (text ≡ replicate n byte ++ without_leading byte text)
without_leading-split byte [] = (0, refl)
without_leading-split byte (b ∷ text) =
    elim (cases_eq b byte) [
      | inl same ↦ let (n, e) = without_leading-split byte text in (suc n, rw (eq-eqb b byte same) cc)
      | inr other ↦ (0, rw (ne_eqb b byte other))
    ]

-- what stands before the first such byte lacks it
pub split_at_position : (byte : ℕ) (text : List ℕ) (at : ℕ) → position (λ b. b == byte) text ≡ Some at → (at < length text) × (text ≡ take at text ++ byte ∷ drop (at + 1) text) × Lacks byte (take at text)
split_at_position byte text at found =
    let (within, here, before) = position-Some (λ b. b == byte) text at 0 found in
    let same : get_or text at 0 ≡ byte = eqb-true _ _ here in
    let split : text ≡ take at text ++ byte ∷ drop (at + 1) text =
    sym (take-append-drop at text) ∙ ap (λ t. take at text ++ t) (drop_more text at 0 within ∙ ap (λ b. b ∷ drop (at + 1) text) same) in
    let lacks : Lacks byte (take at text) = All-from_get_or (λ b. b ≢ byte) (take at text) 0 (λ k h e.
    let below : k < at = omega (arith, length-take at text) in
    true≢false (sym (eq-eqb _ _ (sym (get_or-take at text k 0 below) ∙ e)) ∙ before k below)) in
    (within, split, lacks)

-- and a text where none is found lacks it
pub Lacks-position : (byte : ℕ) (text : List ℕ) → position (λ b. b == byte) text ≡ None → Lacks byte text
Lacks-position byte text none =
    let place = position_or_len (λ b. b == byte) text in
    elim (cases_lt place (length text)) [
      | inl within ↦ absurd (none-some _ (sym none ∙ ap (λ t. cond t (Some place) None) (lt-ltb _ _ within)))
      | inr past ↦ All-from_get_or (λ b. b ≢ byte) text 0 (λ k h e.
          let before : k < place = omega arith in
          true≢false (sym (eq-eqb _ _ e) ∙ fails_before_first (λ b. b == byte) text k 0 before))
    ]

-- equal bytes read the same from both ends
pub reverse-replicate : (n x : ℕ) → reverse (replicate n x) ≡ replicate n x
reverse-replicate zero x = refl
reverse-replicate (suc n) x =
    reverse-append (x ∷ []) (replicate n x) ∙ ap (λ t. t ++ x ∷ []) (reverse-replicate n x) ∙ replicate_more n x ∙ rw add-one

-- nor does the order of the bytes matter
Lacks-reverse : (byte : ℕ) (text : List ℕ) → Lacks byte text → Lacks byte (reverse text)
Lacks-reverse byte text h = All-from_get_or (λ b. b ≢ byte) (reverse text) 0 (λ k within e.
    let inside : k < length text = omega (arith, length-reverse text) in
    All-get_or (λ b. b ≢ byte) text (length text - 1 - k) 0 (omega arith) h (sym (get_or-reverse text k 0 inside) ∙ e))

-- the bytes at the end are taken away
pub without_leading-end : (byte n : ℕ) (text : List ℕ) → Lacks byte text → without_leading byte (reverse (text ++ replicate n byte)) ≡ reverse text
without_leading-end byte n text lacks =
    let turned : reverse (text ++ replicate n byte) ≡ replicate n byte ++ reverse text =
    reverse-append text (replicate n byte) ∙ ap (λ t. t ++ reverse text) (reverse-replicate n byte) in
    ap (without_leading byte) turned ∙ without_leading-same byte n (reverse text) (Lacks-reverse byte text lacks)

-- and what is taken away there is bytes of this kind alone
pub trim_end-split : (byte : ℕ) (front trimmed : List ℕ) → reverse trimmed ≡ without_leading byte (reverse front) → (n : ℕ) × (front ≡ trimmed ++ replicate n byte)
trim_end-split byte front trimmed is =
    let (n, e) = without_leading-split byte (reverse front) in
    let turned : reverse front ≡ replicate n byte ++ reverse trimmed = e ∙ ap (λ t. replicate n byte ++ t) (sym is) in
    let whole : front ≡ reverse (reverse trimmed) ++ reverse (replicate n byte) =
    sym (reverse-reverse front) ∙ ap reverse turned ∙ reverse-append (replicate n byte) (reverse trimmed) in
    (n, rw (reverse-reverse, reverse-replicate n byte) at whole)
