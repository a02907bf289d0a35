-- What is cut off a text at a byte, the numbers that its parts are, and the order of versions.
use Rattle.std.proofs.Common.{◌≡◌, ◌∙◌, sym, ap, refl, ℕ, suc, ◌+◌, ◌-◌, ◌*◌, ◌^◌, ◌<◌, ◌≤◌, ◌==◌, ◌&&◌, Bool, true, false, cond, nat_le, add-one, List, [], ◌∷◌, ◌++◌, length, get_or, take, drop, set, replicate, map, position, Option, Some, None, option_map, IsTrue, inl, inr, arith, rules, append_assoc}
use Rattle.std.specs.Char.{is_ascii_digit, digit_value}
use Rattle.std.specs.Int.{IsInRange}
use Rattle.std.specs.List.{list_all, position_or_len, before_first, after_first, count_by}
use Rattle.std.specs.Str.Parse.{digits_value, AllDigits}
use Rattle.std.proofs.lemmas.Bool.{cases_lt}
use Rattle.std.proofs.lemmas.Bool.Decides.{nat_tests}
use Rattle.std.proofs.lemmas.Grind.{common_steps}
use Rattle.std.proofs.lemmas.List.Splits.{slice_split_first, slice_split_none, length-slice_split}
use Rattle.std.proofs.lemmas.List.Folds.{list_all-append}
use Rattle.std.proofs.lemmas.List.{map-append, length-append, length-map}
use Rattle.std.proofs.lemmas.List.Elements.{All-from_get_or}
use Rattle.std.proofs.lemmas.List.Sums.{fails_before_first}
use Rattle.std.proofs.Math.Seq.{set-append_seam}
use Rattle.std.proofs.lemmas.Str.Parse.{IsNumeralModel, numerals_by_value, digit_at}
use Rattle.std.proofs.lemmas.Str.{digit_value_digit}
use Rattle.std.proofs.lemmas.Int.Digits.{digits_value_more}
use Rattle.std.proofs.Math.Nat.{pow-le-pow_right}
use native.Mathlib.Numerals.{unary_clauses}
use Rattle.bosh_base.specs.Version.{is_number, parts, after, padded}

-- where the first byte that passes stands
pub position_found : (p : ℕ → Bool) (xs : List ℕ) (k : ℕ) → position p xs ≡ Some k → (position_or_len p xs ≡ k) × (k < length xs)
position_found p xs k h = (grind (arith, nat_tests), grind (arith, nat_tests))

pub position_none : (p : ℕ → Bool) (xs : List ℕ) → position p xs ≡ None → length xs ≤ position_or_len p xs
position_none p xs h = grind (arith, nat_tests)

pub before_found : (p : ℕ → Bool) (xs : List ℕ) (k : ℕ) → position p xs ≡ Some k → take k xs ≡ before_first p xs
before_found p xs k h = ap (λ n. take n xs) (sym (position_found p xs k h).0)

pub before_none : (p : ℕ → Bool) (xs : List ℕ) → position p xs ≡ None → xs ≡ before_first p xs
before_none p xs h = let far : length xs ≤ position_or_len p xs = position_none p xs h in grind (arith, common_steps)

-- texts of digits alone
own : IsNumeralModel (λ ds. list_all is_ascii_digit ds ≡ true) (digits_value 10)
own = numerals_by_value _ (search rules)

-- a number is short, and of digits alone
pub record Digits (text : List ℕ) : Type 0 where
  pub short : length text ≤ 18
  pub all : AllDigits 10 text

pub Digits-number : (text : List ℕ) → IsTrue (is_number text) → Digits text
Digits-number text h =
    let digits : list_all is_ascii_digit text ≡ true = grind (arith, nat_tests) in
    record { short = grind (arith, nat_tests); all = own.to text digits }

-- one more digit is read
pub record OneMore (text : List ℕ) (i value : ℕ) : Type 0 where
  pub low : 48 ≤ get_or text i 0
  pub high : get_or text i 0 ≤ 57
  pub room : value < 10 ^ 17
  pub read : value * 10 + (get_or text i 0 - 48) ≡ digits_value 10 (take (i + 1) text)
  pub bound : value * 10 + (get_or text i 0 - 48) < 10 ^ (i + 1)

pub one_more : (text : List ℕ) (i value : ℕ) → Digits text → i < length text → value ≡ digits_value 10 (take i text) → value < 10 ^ i → OneMore text i value
one_more text i value d within read bound =
    let short : length text ≤ 18 = d.short in
    let digit : IsInRange 48 57 (get_or text i 0) = digit_at text i d.all within in
    let same : digit_value (get_or text i 0) + 48 ≡ get_or text i 0 = digit_value_digit (get_or text i 0) digit in
    let more : digits_value 10 (take (i + 1) text) ≡ digits_value 10 (take i text) * 10 + digit_value (get_or text i 0) = digits_value_more 10 text i within in
    let top : 10 ^ i ≤ 10 ^ 17 = pow-le-pow_right {n = 10} (omega arith) {i = i} {j = 17} (omega arith) in
    let next : 10 ^ (i + 1) ≡ 10 ^ i * 10 = rw add-one (simp unary_clauses) in
    let value_of : value * 10 + (get_or text i 0 - 48) ≡ digits_value 10 (take i text) * 10 + digit_value (get_or text i 0) = omega (arith, digit) in
    record { low = omega (arith, digit); high = omega (arith, digit); room = omega arith; read = value_of ∙ sym more; bound = omega (arith, digit) }

-- what stands after the first such byte
pub after_found : (byte : ℕ) (xs : List ℕ) (k : ℕ) → position (λ b. b == byte) xs ≡ Some k → Some (take (length xs - (k + 1)) (drop (k + 1) xs)) ≡ after byte xs
after_found byte xs k h =
    let whole : take (length xs - (k + 1)) (drop (k + 1) xs) ≡ drop (k + 1) xs = grind (arith, common_steps) in
    ap Some whole ∙ ap (option_map (λ place. drop (place + 1) xs)) (sym h)

pub after_none : (byte : ℕ) (xs : List ℕ) → position (λ b. b == byte) xs ≡ None → None ≡ after byte xs
after_none byte xs h = ap (option_map (λ place. drop (place + 1) xs)) (sym h)

-- the first of a text's parts
abbrev pub first_part : List ℕ → List ℕ
first_part text = before_first (λ byte. byte == 46) text

pub parts_more : (text rest : List ℕ) → after 46 text ≡ Some rest → parts text ≡ first_part text ∷ parts rest
parts_more text rest h =
    elim (cases_lt (position_or_len (λ byte. byte == 46) text) (length text)) [
      | inl within ↦
          let found : position (λ byte. byte == 46) text ≡ Some (position_or_len (λ byte. byte == 46) text) = grind (arith, nat_tests) in
          let same : Some (after_first (λ byte. byte == 46) text) ≡ Some rest = ap (option_map (λ place. drop (place + 1) text)) (sym found) ∙ h in
          let rest_is : after_first (λ byte. byte == 46) text ≡ rest = cc in
          slice_split_first (λ byte. byte == 46) text 0 within ∙ ap (λ t. first_part text ∷ parts t) rest_is
      | inr past ↦
          let none : position (λ byte. byte == 46) text ≡ None = grind (arith, nat_tests) in
          let same : None ≡ Some rest = ap (option_map (λ place. drop (place + 1) text)) (sym none) ∙ h in
          cc
    ]

pub parts_last : (text : List ℕ) → after 46 text ≡ None → parts text ≡ first_part text ∷ []
parts_last text h =
    elim (cases_lt (position_or_len (λ byte. byte == 46) text) (length text)) [
      | inl within ↦
          let found : position (λ byte. byte == 46) text ≡ Some (position_or_len (λ byte. byte == 46) text) = grind (arith, nat_tests) in
          let same : Some (after_first (λ byte. byte == 46) text) ≡ None = ap (option_map (λ place. drop (place + 1) text)) (sym found) ∙ h in
          cc
      | inr past ↦
          let none : position (λ byte. byte == 46) text ≡ None = grind (arith, nat_tests) in
          slice_split_none (λ byte. byte == 46) text (All-from_get_or (λ b. (b == 46) ≡ false) text 0 (λ k within. fails_before_first (λ byte. byte == 46) text k 0 (omega arith)))
          ∙ ap (λ t. t ∷ []) (before_none (λ byte. byte == 46) text none)
    ]

pub parts_first : (text : List ℕ) (rest : Option (List ℕ)) → after 46 text ≡ rest → (others : List (List ℕ)) × (parts text ≡ first_part text ∷ others)
parts_first text None h = ([], parts_last text h)
parts_first text (Some rest) h = (parts rest, parts_more text rest h)

-- the number that a part is
abbrev pub number_in : List ℕ → Option ℕ
number_in part = cond (is_number part) (Some (digits_value 10 part)) None

-- what a test that gives a value or none says
pub cond_some : (b : Bool) (x y : ℕ) → cond b (Some x) None ≡ Some y → (b ≡ true) × (x ≡ y)
cond_some true x y h = (refl, cc)
cond_some false x y h = (cc, cc)

pub cond_none : (b : Bool) (x : ℕ) → cond b (Some x) None ≡ None → b ≡ false
cond_none true x h = cc
cond_none false x h = refl

-- the numbers that a list of parts is
abbrev pub numbers_in : List (List ℕ) → Option (List ℕ)
numbers_in ps = cond (nat_le (length ps) 8 && list_all is_number ps) (Some (padded (map (digits_value 10) ps))) None

numbers_in_yes : (ps : List (List ℕ)) (numbers : List ℕ) → length ps ≤ 8 → list_all is_number ps ≡ true → numbers ≡ padded (map (digits_value 10) ps) → Some numbers ≡ numbers_in ps
numbers_in_yes ps numbers short all e =
    let yes : (nat_le (length ps) 8 && list_all is_number ps) ≡ true = grind (arith, nat_tests) in
    rw yes (ap Some e)

numbers_in_long : (ps : List (List ℕ)) → 8 < length ps → None ≡ numbers_in ps
numbers_in_long ps long =
    let no : (nat_le (length ps) 8 && list_all is_number ps) ≡ false = grind (arith, nat_tests) in
    rw no

numbers_in_bad : (ps : List (List ℕ)) → list_all is_number ps ≡ false → None ≡ numbers_in ps
numbers_in_bad ps bad =
    let no : (nat_le (length ps) 8 && list_all is_number ps) ≡ false = grind (arith, nat_tests) in
    rw no

-- the first k parts of a text are read, and the rest stands before the reader
pub record IsReadTo (text rest : List ℕ) (k : ℕ) (numbers : List ℕ) : Type 0 where
  pub done : List (List ℕ)
  pub cut : parts text ≡ done ++ parts rest
  pub count : length done ≡ k
  pub are_numbers : list_all is_number done ≡ true
  pub read : numbers ≡ map (digits_value 10) done ++ replicate (8 - k) 0

pub IsReadTo-start : (text : List ℕ) → IsReadTo text text 0 (replicate 8 0)
IsReadTo-start text = record { done = []; cut = refl; count = refl; are_numbers = refl; read = refl }

-- a number takes the place of the first of the zeros
put_number : (done : List (List ℕ)) (k n : ℕ) (numbers : List ℕ) → length done ≡ k → k < 8 → numbers ≡ map (digits_value 10) done ++ replicate (8 - k) 0 → set numbers k n ≡ map (digits_value 10) done ++ n ∷ replicate (8 - (k + 1)) 0
put_number done k n numbers count room read =
    let zeros : replicate (8 - k) 0 ≡ 0 ∷ replicate (8 - (k + 1)) 0 = let e : 8 - k ≡ suc (8 - (k + 1)) = omega arith in ap (λ m. replicate m 0) e in
    let place : k ≡ length (map (digits_value 10) done) = sym (length-map done (digits_value 10) ∙ count) in
    ap (λ l. set l k n) (read ∙ ap (λ t. map (digits_value 10) done ++ t) zeros)
    ∙ ap (λ j. set (map (digits_value 10) done ++ 0 ∷ replicate (8 - (k + 1)) 0) j n) place
    ∙ set-append_seam (map (digits_value 10) done) 0 (replicate (8 - (k + 1)) 0) n

-- what is read with one more part
with_one : (done : List (List ℕ)) (part : List ℕ) (n : ℕ) (zeros : List ℕ) → digits_value 10 part ≡ n → map (digits_value 10) done ++ n ∷ zeros ≡ map (digits_value 10) (done ++ part ∷ []) ++ zeros
with_one done part n zeros e = sym (ap (λ t. t ++ zeros) (map-append (digits_value 10) done (part ∷ [])) ∙ append_assoc (map (digits_value 10) done) (digits_value 10 part ∷ []) zeros ∙ ap (λ m. map (digits_value 10) done ++ m ∷ zeros) e)

all_with_one : (done : List (List ℕ)) (part : List ℕ) → list_all is_number done ≡ true → is_number part ≡ true → list_all is_number (done ++ part ∷ []) ≡ true
all_with_one done part all one = list_all-append is_number done (part ∷ []) ∙ grind (arith, nat_tests)

pub IsReadTo-more : (text rest others part : List ℕ) (k n : ℕ) (numbers : List ℕ) → IsReadTo text rest k numbers → k < 8 → part ≡ first_part rest → number_in part ≡ Some n → after 46 rest ≡ Some others → IsReadTo text others (k + 1) (set numbers k n)
IsReadTo-more text rest others part k n numbers r room first number h =
    let (one, value) = cond_some (is_number (first_part rest)) (digits_value 10 (first_part rest)) n (ap number_in (sym first) ∙ number) in
    record {
      done = r.done ++ first_part rest ∷ [];
      cut = r.cut ∙ ap (λ t. r.done ++ t) (parts_more rest others h) ∙ sym (append_assoc r.done (first_part rest ∷ []) (parts others));
      count = length-append r.done (first_part rest ∷ []) ∙ ap (λ m. m + 1) r.count;
      are_numbers = all_with_one r.done (first_part rest) r.are_numbers one;
      read = put_number r.done k n numbers r.count room r.read ∙ with_one r.done (first_part rest) n (replicate (8 - (k + 1)) 0) value;
    }

pub IsReadTo-last : (text rest part : List ℕ) (k n : ℕ) (numbers : List ℕ) → IsReadTo text rest k numbers → k < 8 → part ≡ first_part rest → number_in part ≡ Some n → after 46 rest ≡ None → Some (set numbers k n) ≡ numbers_in (parts text)
IsReadTo-last text rest part k n numbers r room first number h =
    let (one, value) = cond_some (is_number (first_part rest)) (digits_value 10 (first_part rest)) n (ap number_in (sym first) ∙ number) in
    let ps : List (List ℕ) = r.done ++ first_part rest ∷ [] in
    let whole : parts text ≡ ps = r.cut ∙ ap (λ t. r.done ++ t) (parts_last rest h) in
    let count : length ps ≡ k + 1 = length-append r.done (first_part rest ∷ []) ∙ ap (λ m. m + 1) r.count in
    let size : k + 1 ≡ length (map (digits_value 10) ps) = sym (length-map ps (digits_value 10) ∙ count) in
    numbers_in_yes ps (set numbers k n) (omega arith) (all_with_one r.done (first_part rest) r.are_numbers one)
    (put_number r.done k n numbers r.count room r.read ∙ with_one r.done (first_part rest) n (replicate (8 - (k + 1)) 0) value
    ∙ ap (λ m. map (digits_value 10) ps ++ replicate (8 - m) 0) size)
    ∙ ap numbers_in (sym whole)

pub IsReadTo-bad : (text rest part : List ℕ) (k : ℕ) (numbers : List ℕ) (others : Option (List ℕ)) → IsReadTo text rest k numbers → part ≡ first_part rest → number_in part ≡ None → after 46 rest ≡ others → None ≡ numbers_in (parts text)
IsReadTo-bad text rest part k numbers others r first number h =
    let bad : is_number (first_part rest) ≡ false = cond_none (is_number (first_part rest)) (digits_value 10 (first_part rest)) (ap number_in (sym first) ∙ number) in
    let (tail, cut) = parts_first rest others h in
    let whole : parts text ≡ r.done ++ first_part rest ∷ tail = r.cut ∙ ap (λ t. r.done ++ t) cut in
    numbers_in_bad (r.done ++ first_part rest ∷ tail) (list_all-append is_number r.done (first_part rest ∷ tail) ∙ grind (arith, nat_tests)) ∙ ap numbers_in (sym whole)

pub IsReadTo-many : (text rest : List ℕ) (k : ℕ) (numbers : List ℕ) → IsReadTo text rest k numbers → 8 ≤ k → None ≡ numbers_in (parts text)
IsReadTo-many text rest k numbers r full =
    let count : length r.done ≡ k = r.count in
    let more : length (parts rest) ≡ count_by (λ byte. byte == 46) rest + 1 = length-slice_split (λ byte. byte == 46) rest in
    let whole : length (parts text) ≡ length r.done + length (parts rest) = ap length r.cut ∙ length-append r.done (parts rest) in
    numbers_in_long (parts text) (omega arith)
