-- A line ends at the first LF; and what a cut at a line's end leaves.
use Rattle.std.proofs.Common.{◌≡◌, ◌≢◌, ℕ, zero, suc, ◌+◌, ◌-◌, ◌<◌, ◌≤◌, Bool, true, false, ◌&&◌, List, [], ◌∷◌, length, take, drop, get_or, arith, refl, sym, ◌∙◌, ap, cond, eqb}
use Rattle.std.proofs.lemmas.Bool.Decides.{nat_tests}
use Rattle.std.proofs.lemmas.Grind.{common_steps}
use Rattle.std.proofs.lemmas.Bool.{eqb-true, eq-eqb}
use Rattle.memchr.specs.Find.{is_byte, NoneBefore, Nowhere, Passes}
use Rattle.bosh_yaml.specs.Lines.{begins, with_first, lines_of, without_return}
use Rattle.bosh_yaml.specs.Bare.{unless_blank, trim_end}

pub take_rest : {A : Type 0} (n : ℕ) (xs : List A) → take (length xs - n) (drop n xs) ≡ drop n xs
take_rest n xs = grind (arith, common_steps)

pub without_return-drops : (n : ℕ) (s : List ℕ) → length s ≡ suc n → get_or s n 0 ≡ 13 → without_return s ≡ take n s
without_return-drops n [] h e = absurd (omega arith)
without_return-drops zero (b ∷ []) h e = rw e refl
without_return-drops (suc n) (b ∷ []) h e = absurd (omega arith)
without_return-drops zero (b ∷ c ∷ s) h e = absurd (omega arith)
without_return-drops (suc n) (b ∷ c ∷ s) h e = ap (λ t. b ∷ t) (without_return-drops n (c ∷ s) (omega arith) e)

pub without_return-keeps : (n : ℕ) (s : List ℕ) → length s ≡ suc n → get_or s n 0 ≢ 13 → without_return s ≡ s
without_return-keeps n [] h e = refl
without_return-keeps zero (b ∷ []) h e = grind (arith, nat_tests)
without_return-keeps (suc n) (b ∷ []) h e = absurd (omega arith)
without_return-keeps zero (b ∷ c ∷ s) h e = absurd (omega arith)
without_return-keeps (suc n) (b ∷ c ∷ s) h e = ap (λ t. b ∷ t) (without_return-keeps n (c ∷ s) (omega arith) e)

pub trim_end-drops : (n : ℕ) (s : List ℕ) → n < length s → get_or s n 0 ≡ 32 → trim_end (take (suc n) s) ≡ trim_end (take n s)
trim_end-drops n [] h e = absurd (omega arith)
trim_end-drops zero (b ∷ s) h e = rw e refl
trim_end-drops (suc n) (b ∷ s) h e = ap (λ t. unless_blank b t) (trim_end-drops n s (omega arith) e)

unless_blank_before : (b : ℕ) (t : List ℕ) → 0 < length t → unless_blank b t ≡ b ∷ t
unless_blank_before b [] h = absurd (omega arith)
unless_blank_before b (c ∷ t) h = refl

pub trim_end-keeps : (n : ℕ) (s : List ℕ) → n < length s → get_or s n 0 ≢ 32 → trim_end (take (suc n) s) ≡ take (suc n) s
trim_end-keeps n [] h e = absurd (omega arith)
trim_end-keeps zero (b ∷ s) h e = grind (arith, nat_tests)
trim_end-keeps (suc n) (b ∷ s) h e =
    ap (λ t. unless_blank b t) (trim_end-keeps n s (omega arith) e) ∙ unless_blank_before b (take (suc n) s) (grind (arith, common_steps))

-- the same, from the end
pub trim_end-shorter : (n : ℕ) (s : List ℕ) → 0 < n → n ≤ length s → get_or s (n - 1) 0 ≡ 32 → trim_end (take (n - 1) s) ≡ trim_end (take n s)
trim_end-shorter zero s p h e = absurd (omega arith)
trim_end-shorter (suc n) s p h e = let g : suc n - 1 ≡ n = omega arith in rw g (sym (trim_end-drops n s (omega arith) (rw g at e)))

pub trim_end-done : (n : ℕ) (s : List ℕ) → 0 < n → n ≤ length s → get_or s (n - 1) 0 ≢ 32 → trim_end (take n s) ≡ take n s
trim_end-done zero s p h e = absurd (omega arith)
trim_end-done (suc n) s p h e = let g : suc n - 1 ≡ n = omega arith in trim_end-keeps n s (omega arith) (rw g at e)

pub without_return-shorter : (s : List ℕ) → 0 < length s → get_or s (length s - 1) 0 ≡ 13 → take (length s - 1) s ≡ without_return s
without_return-shorter s h e = sym (without_return-drops (length s - 1) s (omega arith) e)

pub without_return-done : (s : List ℕ) → 0 < length s → get_or s (length s - 1) 0 ≢ 13 → s ≡ without_return s
without_return-done s h e = sym (without_return-keeps (length s - 1) s (omega arith) e)

pub without_return-empty : (s : List ℕ) → length s ≤ 0 → s ≡ without_return s
without_return-empty [] h = refl
without_return-empty (b ∷ s) h = absurd (omega arith)

pub differs : (a b : ℕ) → a ≢ b → eqb a b ≡ false
differs a b h = grind (arith, nat_tests)

and_false : (t u : Bool) → u ≡ false → (t && u) ≡ false
and_false true u h = h
and_false false u h = refl

-- a byte that is no LF goes to the front of the line that follows it, unless it is a CR before an LF
with_byte : (b : ℕ) (bs : List ℕ) → b ≢ 10 → begins 10 bs ≡ false → lines_of (b ∷ bs) ≡ with_first b (lines_of bs)
with_byte b bs n h = rw (differs b 10 n, and_false (eqb b 13) (begins 10 bs) h) refl

return_or_byte : (b : ℕ) (lines : List (List ℕ)) (t : Bool) → cond (t && true) ([] ∷ lines) ((b ∷ []) ∷ lines) ≡ cond t [] (b ∷ []) ∷ lines
return_or_byte b lines true = refl
return_or_byte b lines false = refl

before_end : (b : ℕ) (bs : List ℕ) → b ≢ 10 → lines_of (b ∷ 10 ∷ bs) ≡ without_return (b ∷ []) ∷ lines_of bs
before_end b bs n = rw (differs b 10 n) (return_or_byte b (lines_of bs) (eqb b 13))

first_line : (b : ℕ) (i : ℕ) (bs : List ℕ) → b ≢ 10 → (0 < i → get_or bs 0 0 ≢ 10) → get_or bs i 0 ≡ 10 → i < length bs → lines_of bs ≡ without_return (take i bs) ∷ lines_of (drop (i + 1) bs) → lines_of (b ∷ bs) ≡ without_return (take (suc i) (b ∷ bs)) ∷ lines_of (drop (i + 1) bs)
first_line b i [] n m e h l = absurd (omega arith)
first_line b zero (c ∷ bs) n m e h l = rw e (before_end b bs n)
first_line b (suc i) (c ∷ bs) n m e h l =
    with_byte b (c ∷ bs) n (differs c 10 (m (omega arith))) ∙ ap (λ ls. with_first b ls) l

pub lines_cut : (i : ℕ) (bs : List ℕ) → ((k : ℕ) → k < i → get_or bs k 0 ≡ 10 → ⊥) → i < length bs → get_or bs i 0 ≡ 10 → lines_of bs ≡ without_return (take i bs) ∷ lines_of (drop (i + 1) bs)
lines_cut i [] none h e = absurd (omega arith)
lines_cut zero (b ∷ bs) none h e = rw e refl
lines_cut (suc i) (b ∷ bs) none h e = let g : suc i + 1 ≡ suc (i + 1) = omega arith in rw g
    (first_line b i bs (none 0 (omega arith)) (λ p. none 1 (omega arith)) e (omega arith) (lines_cut i bs (λ k p. none (suc k) (omega arith)) (omega arith) e))

pub lines_last : (b : ℕ) (bs : List ℕ) → ((k : ℕ) → k < length (b ∷ bs) → get_or (b ∷ bs) k 0 ≡ 10 → ⊥) → lines_of (b ∷ bs) ≡ (b ∷ bs) ∷ []
lines_last b [] none = with_byte b [] (none 0 (omega arith)) refl
lines_last b (c ∷ bs) none =
    with_byte b (c ∷ bs) (none 0 (omega arith)) (differs c 10 (none 1 (omega arith))) ∙ ap (λ ls. with_first b ls) (lines_last c bs (λ k p. none (suc k) (omega arith)))

pub lines_whole : (bs : List ℕ) → 0 < length bs → ((k : ℕ) → k < length bs → get_or bs k 0 ≡ 10 → ⊥) → lines_of bs ≡ bs ∷ []
lines_whole [] h none = absurd (omega arith)
lines_whole (b ∷ bs) h none = lines_last b bs none

pub trim_end-none : (n : ℕ) (s : List ℕ) → n ≤ 0 → take n s ≡ trim_end (take n s)
trim_end-none zero s h = grind (arith, common_steps)
trim_end-none (suc n) s h = absurd (omega arith)

-- the same, as a search for the LF answers
pub lines_found : (bs : List ℕ) (k : ℕ) → NoneBefore (Passes (is_byte 10) bs) 0 (length bs) k → Passes (is_byte 10) bs k → lines_of bs ≡ without_return (take k bs) ∷ lines_of (drop (k + 1) bs)
lines_found bs k h e = lines_cut k bs (λ j p q. h.before j (omega arith) p (eq-eqb (get_or bs j 0) 10 q)) h.high (eqb-true (get_or bs k 0) 10 e)

pub lines_not_found : (bs : List ℕ) → 0 < length bs → Nowhere (Passes (is_byte 10) bs) 0 (length bs) → lines_of bs ≡ bs ∷ []
lines_not_found bs h none = lines_whole bs h (λ k p q. none k (omega arith) p (eq-eqb (get_or bs k 0) 10 q))
