-- Where a line is cut into its words.
use Rattle.std.proofs.Common.{◌≡◌, ℕ, zero, suc, ◌+◌, ◌<◌, ◌≤◌, ◌==◌, Bool, false, List, [], ◌∷◌, length, get_or, take, drop, filter, Option, Some, None, position, ap, sym, ◌∙◌, refl, arith, eqb-true, subst, add-zero, add-one, drop-cons}
use Rattle.std.specs.List.{position_or_len, slice_split}
use Rattle.std.proofs.lemmas.Bool.Decides.{nat_tests}
use Rattle.std.proofs.lemmas.List.{length-take-le}
use Rattle.std.specs.Option.{unwrap_or}
use Rattle.std.proofs.Math.Seq.{take-length, drop-length}
use Rattle.std.proofs.lemmas.List.Elements.{All-from_get_or}
use Rattle.std.proofs.lemmas.List.Quantifiers.{position-Some}
use Rattle.std.proofs.lemmas.List.Splits.{slice_split_first, slice_split_none}
use Rattle.std.proofs.lemmas.List.Sums.{fails_before_first}
use Rattle.bosh_line_words.specs.Words.{Word, begins_word, is_word, placed, words}

abbrev is_space : ℕ → Bool
is_space byte = byte == 32

-- a space at the front is passed by
pub words_space : (place : ℕ) (bytes : List ℕ) → words place (32 ∷ bytes) ≡ words (place + 1) bytes
words_space place bytes = ap (λ (p : ℕ). words p bytes) (ap (λ (p : ℕ). p + 1) (add-zero place))

-- the index that is found is that of the first
first_found : (xs : List ℕ) (end : ℕ) → position is_space xs ≡ Some end → (position_or_len is_space xs < length xs) × (position_or_len is_space xs ≡ end)
first_found xs end found = grind (arith, nat_tests)

none_found : (xs : List ℕ) → position is_space xs ≡ None → length xs ≤ position_or_len is_space xs
none_found xs found = grind (arith, nat_tests)

pieces_first : (xs : List ℕ) (end : ℕ) → position is_space xs ≡ Some end → slice_split is_space xs ≡ take end xs ∷ slice_split is_space (drop (end + 1) xs)
pieces_first xs end found =
    let (within, same) = first_found xs end found in
    let cut = slice_split_first is_space xs 0 within in
    subst (λ (n : ℕ). slice_split is_space xs ≡ take n xs ∷ slice_split is_space (drop (n + 1) xs)) same cut

pieces_none : (xs : List ℕ) → position is_space xs ≡ None → slice_split is_space xs ≡ xs ∷ []
pieces_none xs none =
    let past = none_found xs none in
    slice_split_none is_space xs (All-from_get_or (λ x. is_space x ≡ false) xs 0 (λ k below. fails_before_first is_space xs k 0 (omega arith)))

-- what is left from the space on begins with it
left_space : (xs : List ℕ) (end : ℕ) → position is_space xs ≡ Some end → drop end xs ≡ 32 ∷ drop (end + 1) xs
left_space xs end found =
    let found_at = position-Some is_space xs end 0 found in
    let (within, same) = first_found xs end found in
    let is_it : get_or xs end 0 ≡ 32 = eqb-true _ _ found_at.1 in
    let below : end < length xs = omega arith in
    drop-cons xs end 0 below ∙ (ap (λ (c : ℕ). c ∷ drop (suc end) xs) is_it ∙ ap (λ (n : ℕ). 32 ∷ drop n xs) (sym (add-one end)))

-- a word before others
word_first : (place c : ℕ) (cs : List ℕ) (pieces : List (List ℕ)) → filter is_word (placed place ((c ∷ cs) ∷ pieces)) ≡ record { place = place; text = c ∷ cs } ∷ filter is_word (placed (place + length (c ∷ cs) + 1) pieces)
word_first place c cs pieces = refl

-- a line that begins with a word has it up to the first space, and its other words after that
pub words_cut : (place : ℕ) (line : List ℕ) (end : ℕ) → begins_word line → position is_space line ≡ Some end → words place line ≡ record { place = place; text = take end line } ∷ words (place + end) (drop end line)
words_cut place [] end begins found = cc
words_cut place (c ∷ cs) zero begins found =
    absurd (begins (eqb-true c 32 (position-Some is_space (c ∷ cs) zero 0 found).1))
words_cut place (c ∷ cs) (suc k) begins found =
    let (within, same) = first_found (c ∷ cs) (suc k) found in
    let long : length (take (suc k) (c ∷ cs)) ≡ suc k = length-take-le (suc k) (c ∷ cs) (omega arith) in
    let whole = ap (λ (ps : List (List ℕ)). filter is_word (placed place ps)) (pieces_first (c ∷ cs) (suc k) found) in
    let word : Word = record { place = place; text = take (suc k) (c ∷ cs) } in
    let moved = ap (λ (n : ℕ). word ∷ words (place + n + 1) (drop (suc k + 1) (c ∷ cs))) long in
    let past = words_space (place + suc k) (drop (suc k + 1) (c ∷ cs)) in
    let left = ap (λ (xs : List ℕ). words (place + suc k) xs) (left_space (c ∷ cs) (suc k) found) in
    whole ∙ (moved ∙ ap (λ (ws : List Word). word ∷ ws) (sym (left ∙ past)))

-- and where it has no space, it is that word
pub words_none : (place : ℕ) (line : List ℕ) (end : ℕ) → begins_word line → 0 < length line → end ≡ length line → position is_space line ≡ None → words place line ≡ record { place = place; text = take end line } ∷ words (place + end) (drop end line)
words_none place [] end begins within is none = absurd (omega arith)
words_none place (c ∷ cs) end begins within is none =
    let whole = ap (λ (ps : List (List ℕ)). filter is_word (placed place ps)) (pieces_none (c ∷ cs) none) in
    let all : take end (c ∷ cs) ≡ c ∷ cs = ap (λ (n : ℕ). take n (c ∷ cs)) is ∙ take-length (c ∷ cs) in
    let past : drop end (c ∷ cs) ≡ [] = ap (λ (n : ℕ). drop n (c ∷ cs)) is ∙ drop-length (c ∷ cs) in
    let nothing : words (place + end) (drop end (c ∷ cs)) ≡ [] = ap (words (place + end)) past in
    let word = λ (xs : List ℕ). let w : Word = record { place = place; text = xs } in w in
    whole ∙ (ap (λ (xs : List ℕ). word xs ∷ []) (sym all) ∙ ap (λ (ws : List Word). word (take end (c ∷ cs)) ∷ ws) (sym nothing))

-- the first word, and what is left after it
pub words_next : (place : ℕ) (line : List ℕ) (end : ℕ) (found : Option ℕ) → found ≡ position is_space line → begins_word line → 0 < length line → end ≡ unwrap_or found (length line) → words place line ≡ record { place = place; text = take end line } ∷ words (place + end) (drop end line)
words_next place line end (Some at) is begins within ends = subst (λ (n : ℕ). words place line ≡ record { place = place; text = take n line } ∷ words (place + n) (drop n line)) (sym ends) (words_cut place line at begins (sym is))
words_next place line end None is begins within ends = words_none place line end begins within ends (sym is)
