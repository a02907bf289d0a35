-- A text goes on behind its front.
use Rattle.std.proofs.Common.{◌≡◌, ◌≢◌, ◌<◌, ◌≤◌, ℕ, zero, suc, ◌++◌, ◌∷◌, [], List, Some, None, length, take, drop, get_or, append_assoc, sym, ap, ◌∙◌, refl, arith}
use Rattle.std.specs.Char.{encode_utf8}
use Rattle.bosh_yaml.specs.Quotes.{Quoted, after_text, single_quoted, double_quoted, double_escaped, double_unicode, after_character, character, four_hex}
use Rattle.std.proofs.Common.{◌+◌, ◌-◌, true, ◌||◌, ◌==◌}
use Rattle.std.proofs.lemmas.Bool.{eqb-true, eq-eqb}
use Rattle.std.proofs.lemmas.Bool.Decides.{nat_tests}
use Rattle.memchr.specs.Find.{is_byte, is_byte2, NoneBefore, Nowhere, Passes}
use Rattle.bosh_yaml.proofs.LineLemmas.{differs, take_rest}

pub after_text_twice : (a b : List ℕ) (q : Quoted) → after_text (a ++ b) q ≡ after_text a (after_text b q)
after_text_twice a b None = refl
after_text_twice a b (Some q) = ap (λ t. Some (t, q.1)) (append_assoc a b q.0)

pub double_byte : (s : List ℕ) → 0 < length s → get_or s 0 0 ≢ 34 → get_or s 0 0 ≢ 92 → double_quoted s ≡ after_text (get_or s 0 0 ∷ []) (double_quoted (drop 1 s))
double_byte [] h p q = absurd (omega arith)
double_byte (b ∷ s) h p q = rw (differs b 34 p, differs b 92 q) refl

pub double_escape : (s : List ℕ) → 0 < length s → get_or s 0 0 ≡ 92 → double_quoted s ≡ double_escaped (drop 1 s)
double_escape [] h e = absurd (omega arith)
double_escape (b ∷ s) h e = rw e refl

pub unicode_split : (s : List ℕ) → 4 ≤ length s → double_unicode s ≡ after_character (character (four_hex (get_or s 0 0) (get_or s 1 0) (get_or s 2 0) (get_or s 3 0))) (double_quoted (drop 4 s))
unicode_split [] h = absurd (omega arith)
unicode_split (a ∷ []) h = absurd (omega arith)
unicode_split (a ∷ b ∷ []) h = absurd (omega arith)
unicode_split (a ∷ b ∷ c ∷ []) h = absurd (omega arith)
unicode_split (a ∷ b ∷ c ∷ d ∷ s) h = refl

unicode_front : (s : List ℕ) → 4 ≤ length s → character (four_hex (get_or s 0 0) (get_or s 1 0) (get_or s 2 0) (get_or s 3 0)) ≡ character (four_hex (get_or (take 4 s) 0 0) (get_or (take 4 s) 1 0) (get_or (take 4 s) 2 0) (get_or (take 4 s) 3 0))
unicode_front [] h = absurd (omega arith)
unicode_front (a ∷ []) h = absurd (omega arith)
unicode_front (a ∷ b ∷ []) h = absurd (omega arith)
unicode_front (a ∷ b ∷ c ∷ []) h = absurd (omega arith)
unicode_front (a ∷ b ∷ c ∷ d ∷ s) h = refl

pub unicode_short : (s : List ℕ) → length s < 4 → double_unicode s ≡ None
unicode_short [] h = refl
unicode_short (a ∷ []) h = refl
unicode_short (a ∷ b ∷ []) h = refl
unicode_short (a ∷ b ∷ c ∷ []) h = refl
unicode_short (a ∷ b ∷ c ∷ d ∷ s) h = absurd (omega arith)

pub unicode_at : (s front back : List ℕ) (c : ℕ) → 4 ≤ length s → front ≡ take 4 s → back ≡ drop 4 s → Some c ≡ character (four_hex (get_or front 0 0) (get_or front 1 0) (get_or front 2 0) (get_or front 3 0)) → double_unicode s ≡ after_text (encode_utf8 c) (double_quoted back)
unicode_at s front back c h f b e =
    unicode_split s h ∙ rw b (ap (λ o. after_character o (double_quoted (drop 4 s))) (unicode_front s h ∙ sym (rw f at e)))

drop_whole : (s : List ℕ) → drop (length s) s ≡ []
drop_whole [] = refl
drop_whole (b ∷ s) = drop_whole s

-- ---- a text up to a byte that is looked for

after_none : (q : Quoted) → after_text [] q ≡ q
after_none None = refl
after_none (Some q) = refl

single_byte : (b : ℕ) (s : List ℕ) → b ≢ 39 → single_quoted (b ∷ s) ≡ after_text (b ∷ []) (single_quoted s)
single_byte b [] h = rw (differs b 39 h) refl
single_byte b (c ∷ s) h = rw (differs b 39 h) refl

pub single_cut : (i : ℕ) (s : List ℕ) → ((k : ℕ) → k < i → get_or s k 0 ≢ 39) → i ≤ length s → single_quoted s ≡ after_text (take i s) (single_quoted (drop i s))
single_cut zero s none h = sym (after_none (single_quoted s))
single_cut (suc i) [] none h = absurd (omega arith)
single_cut (suc i) (b ∷ s) none h =
    single_byte b s (none 0 (omega arith)) ∙ ap (λ q. after_text (b ∷ []) q) (single_cut i s (λ k p. none (suc k) (omega arith)) (omega arith)) ∙ sym (after_text_twice (b ∷ []) (take i s) (single_quoted (drop i s)))

pub single_open : (s : List ℕ) → ((k : ℕ) → k < length s → get_or s k 0 ≢ 39) → single_quoted s ≡ None
single_open s none = single_cut (length s) s none (omega arith) ∙ rw (drop_whole s) refl

pub double_cut : (i : ℕ) (s : List ℕ) → ((k : ℕ) → k < i → (get_or s k 0 ≢ 34) × (get_or s k 0 ≢ 92)) → i ≤ length s → double_quoted s ≡ after_text (take i s) (double_quoted (drop i s))
double_cut zero s none h = sym (after_none (double_quoted s))
double_cut (suc i) [] none h = absurd (omega arith)
double_cut (suc i) (b ∷ s) none h =
    let here = none 0 (omega arith) in
    double_byte (b ∷ s) (omega arith) here.0 here.1 ∙ ap (λ q. after_text (b ∷ []) q) (double_cut i s (λ k p. none (suc k) (omega arith)) (omega arith)) ∙ sym (after_text_twice (b ∷ []) (take i s) (double_quoted (drop i s)))

pub double_open : (s : List ℕ) → ((k : ℕ) → k < length s → (get_or s k 0 ≢ 34) × (get_or s k 0 ≢ 92)) → double_quoted s ≡ None
double_open s none = double_cut (length s) s none (omega arith) ∙ rw (drop_whole s) refl

-- ---- as a search answers

drop_at : (k : ℕ) (s : List ℕ) (b : ℕ) → k < length s → get_or s k 0 ≡ b → drop k s ≡ b ∷ drop (k + 1) s
drop_at k [] b h e = absurd (omega arith)
drop_at zero (c ∷ s) b h e = rw e refl
drop_at (suc k) (c ∷ s) b h e = let g : suc k + 1 ≡ suc (k + 1) = omega arith in rw g (drop_at k s b (omega arith) e)

single_at : (s : List ℕ) (k : ℕ) → NoneBefore (Passes (is_byte 39) s) 0 (length s) k → Passes (is_byte 39) s k → single_quoted s ≡ after_text (take k s) (single_quoted (39 ∷ drop (k + 1) s))
single_at s k h e =
    single_cut k s (λ j p q. h.before j (omega arith) p (eq-eqb (get_or s j 0) 39 q)) (omega (arith, h.high)) ∙ ap (λ t. after_text (take k s) (single_quoted t)) (drop_at k s 39 h.high (eqb-true (get_or s k 0) 39 e))

pub single_found : (s : List ℕ) (k : ℕ) → NoneBefore (Passes (is_byte 39) s) 0 (length s) k → Passes (is_byte 39) s k → single_quoted s ≡ after_text (take k s) (single_quoted (39 ∷ take (length s - (k + 1)) (drop (k + 1) s)))
single_found s k h e = rw (take_rest (k + 1) s) (single_at s k h e)

pub single_none : (s : List ℕ) → Nowhere (Passes (is_byte 39) s) 0 (length s) → single_quoted s ≡ None
single_none s none = single_open s (λ j p q. none j (omega arith) p (eq-eqb (get_or s j 0) 39 q))

neither : (b : ℕ) → ((b == 34 || b == 92) ≡ true → ⊥) → (b ≢ 34) × (b ≢ 92)
neither b h = ((λ e. h (rw e refl)), (λ e. h (rw e refl)))

pub double_found : (s : List ℕ) (k : ℕ) → NoneBefore (Passes (is_byte2 34 92) s) 0 (length s) k → double_quoted s ≡ after_text (take k s) (double_quoted (get_or s k 0 ∷ take (length s - (k + 1)) (drop (k + 1) s)))
double_found s k h =
    double_cut k s (λ j p. neither (get_or s j 0) (λ q. h.before j (omega arith) p q)) (omega (arith, h.high)) ∙ rw (take_rest (k + 1) s) (ap (λ t. after_text (take k s) (double_quoted t)) (drop_at k s (get_or s k 0) h.high refl))

pub double_none : (s : List ℕ) → Nowhere (Passes (is_byte2 34 92) s) 0 (length s) → double_quoted s ≡ None
double_none s none = double_open s (λ j p. neither (get_or s j 0) (λ q. none j (omega arith) p q))

pub other_is_escape : (b : ℕ) → (b == 34 || b == 92) ≡ true → b ≢ 34 → b ≡ 92
other_is_escape b h n = grind (arith, nat_tests)

pub ruleset quotes = (after_text_twice, double_byte, double_escape, unicode_short)
