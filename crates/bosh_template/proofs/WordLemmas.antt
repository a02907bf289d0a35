-- Words without quotes, and the index of an instance.
use Rattle.std.proofs.Common.{◌≡◌, ◌≢◌, ℕ, ◌^◌, ◌<◌, ◌≤◌, ◌==◌, ◌&&◌, ◌||◌, Bool, true, false, cond, List, [], ◌∷◌, ◌++◌, length, get_or, drop, Option, Some, None, Result, Ok, Err, refl, sym, ap, subst, ◌∙◌, arith, inl, inr, ◌⊎◌, codes, decimal, true≢false, lt-ltb, nat_lt}
use Rattle.std.proofs.lemmas.Bool.{cases_lt, cases_Bool}
use Rattle.std.proofs.lemmas.Bool.Decides.{nat_tests}
use Rattle.std.proofs.lemmas.Option.{cond_some, same_Some}
use Rattle.std.proofs.lemmas.List.Elements.{All-nil, All-cons, All-head, All-weaker}
use Rattle.std.proofs.lemmas.Slice.Eq.{bytes_eq-Decides}
use Rattle.std.proofs.lemmas.Str.Parse.{IsNumeralModel, numerals_by_value, tells_all_ascii_digits, parse_digits}
use Rattle.std.proofs.lemmas.Fmt.{digits_decimal, digits_value-decimal, decimal-digits_value, first_decimal, decimal_nonempty, decimal_digit, IsAscii-from_digits}
use Rattle.std.specs.Char.{is_ascii_digit}
use Rattle.std.specs.List.{All, list_all}
use Rattle.std.specs.Result.{result_ok, OkIff}
use Rattle.std.specs.Str.{bytes_eq, all_ascii_digits, IsUtf8}
use Rattle.std.proofs.lemmas.Str.{IsUtf8-from_ascii}
use Rattle.std.specs.Str.Parse.{digits_value, starts_with_minus, ParsesUnsigned}
use Rattle.bosh_ip.specs.Bytes.{Lacks}
use Rattle.bosh_yaml.specs.Scalar.{is_counting, number_below}
use Rattle.bosh_template.specs.Grammar.{is_plain, is_quote}
use Rattle.bosh_template.specs.Reading.{index_of, quoted_at}

-- a byte of a word: it ends no lookup and no index, and is no quote
pub record IsInWord (b : ℕ) : Type 0 where
  pub no_end : b ≢ 41
  pub no_bracket : b ≢ 93
  pub no_quote : is_quote b ≡ false

digit_in : (b : ℕ) → is_ascii_digit b ≡ true → IsInWord b
digit_in b h = record { no_end = grind (arith, nat_tests); no_bracket = grind (arith, nat_tests); no_quote = grind (arith, nat_tests) }

and-parts : (a b : Bool) → (a && b) ≡ true → (a ≡ true) × (b ≡ true)
and-parts true true h = (refl, refl)
and-parts true false h = (refl, h)
and-parts false b h = (h, absurd (true≢false (sym h)))

or-parts : (a b : Bool) → (a || b) ≡ true → (a ≡ true) ⊎ (b ≡ true)
or-parts true b h = inl refl
or-parts false b h = inr h

digits_in : (ds : List ℕ) → all_ascii_digits ds ≡ true → All IsInWord ds
digits_in [] h = All-nil IsInWord
digits_in (b ∷ ds) h =
    let (one, others) = and-parts (is_ascii_digit b) (all_ascii_digits ds) h in
    All-cons IsInWord b ds (digit_in b one) (digits_in ds others)

-- a word of such bytes that is not empty
pub record IsWord (word : List ℕ) : Type 0 where
  pub all : All IsInWord word
  pub some : 0 < length word

counting_word : (word : List ℕ) → is_counting word ≡ true → IsWord word
counting_word [] h = absurd (true≢false (sym h))
counting_word (b ∷ word) h =
    let (first, others) = and-parts _ (all_ascii_digits word) h in
    let digit : is_ascii_digit b ≡ true = grind (arith, nat_tests) in
    record { all = All-cons IsInWord b word (digit_in b digit) (digits_in word others); some = omega arith }

minus_word : (word : List ℕ) → IsWord (drop 1 word) → get_or word 0 0 ≡ 45 → IsWord word
minus_word [] h e = record { all = All-nil IsInWord; some = h.some }
minus_word (b ∷ word) h e =
    let minus : IsInWord 45 = record { no_end = omega arith; no_bracket = omega arith; no_quote = refl } in
    record { all = All-cons IsInWord b word (subst IsInWord (sym e) minus) h.all; some = omega arith }

signed_word : (word : List ℕ) (minus : Bool) → minus ≡ starts_with_minus word → is_counting (cond minus (drop 1 word) word) ≡ true → IsWord word
signed_word word true e h = minus_word word (counting_word (drop 1 word) h) (grind (arith, nat_tests))
signed_word word false e h = counting_word word h

-- the words that are written out
one : (b : ℕ) (word : List ℕ) → b ≢ 41 → b ≢ 93 → is_quote b ≡ false → All IsInWord word → All IsInWord (b ∷ word)
one b word no_end no_bracket no_quote h = All-cons IsInWord b word (record { no_end = no_end; no_bracket = no_bracket; no_quote = no_quote }) h

true_word : IsWord (codes "true")
true_word = record { all = one 116 (114 ∷ 117 ∷ 101 ∷ []) (omega arith) (omega arith) refl (one 114 (117 ∷ 101 ∷ []) (omega arith) (omega arith) refl (one 117 (101 ∷ []) (omega arith) (omega arith) refl (one 101 [] (omega arith) (omega arith) refl (All-nil IsInWord)))); some = omega arith }

false_word : IsWord (codes "false")
false_word = record { all = one 102 (97 ∷ 108 ∷ 115 ∷ 101 ∷ []) (omega arith) (omega arith) refl (one 97 (108 ∷ 115 ∷ 101 ∷ []) (omega arith) (omega arith) refl (one 108 (115 ∷ 101 ∷ []) (omega arith) (omega arith) refl (one 115 (101 ∷ []) (omega arith) (omega arith) refl (one 101 [] (omega arith) (omega arith) refl (All-nil IsInWord))))); some = omega arith }

nought_word : IsWord (codes "0")
nought_word = record { all = one 48 [] (omega arith) (omega arith) refl (All-nil IsInWord); some = omega arith }

pub IsWord-plain : (word : List ℕ) → is_plain word ≡ true → IsWord word
IsWord-plain word h =
    elim (or-parts (bytes_eq word (codes "true")) _ h) [
      | inl is_true ↦ subst IsWord (sym ((bytes_eq-Decides word (codes "true")).0 is_true)) true_word
      | inr more ↦ elim (or-parts (bytes_eq word (codes "false")) _ more) [
        | inl is_false ↦ subst IsWord (sym ((bytes_eq-Decides word (codes "false")).0 is_false)) false_word
        | inr integer ↦ elim (or-parts (bytes_eq word (codes "0")) _ integer) [
          | inl nought ↦ subst IsWord (sym ((bytes_eq-Decides word (codes "0")).0 nought)) nought_word
          | inr counting ↦ signed_word word (starts_with_minus word) refl counting
        ]
      ]
    ]

-- such a word has no closing parenthesis and no bracket, and begins with no quote
pub Lacks-end : (word : List ℕ) → IsWord word → Lacks 41 word
Lacks-end word h = All-weaker IsInWord (λ b. b ≢ 41) (λ b p. p.no_end) word h.all

pub Lacks-bracket : (word : List ℕ) → IsWord word → Lacks 93 word
Lacks-bracket word h = All-weaker IsInWord (λ b. b ≢ 93) (λ b p. p.no_bracket) word h.all

pub no_quoted : (word rest : List ℕ) → IsWord word → quoted_at (word ++ rest) ≡ None
no_quoted [] rest h = absurd (omega (arith, h.some))
no_quoted (b ∷ word) rest h = let first = All-head IsInWord b word h.all in rw first.no_quote

own : IsNumeralModel (λ ds. all_ascii_digits ds ≡ true) (digits_value 10)
own = numerals_by_value _ tells_all_ascii_digits

-- digits of which the first is not 0
counting_at : (word : List ℕ) → all_ascii_digits word ≡ true → 48 < get_or word 0 0 → is_counting word ≡ true
counting_at [] h first = absurd (omega (arith, first))
counting_at (b ∷ word) h first = let (digit, others) = and-parts (is_ascii_digit b) (all_ascii_digits word) h in grind (arith, nat_tests)

counting_parts : (word : List ℕ) → is_counting word ≡ true → (all_ascii_digits word ≡ true) × (0 < length word) × (48 < get_or word 0 0)
counting_parts [] h = absurd (true≢false (sym h))
counting_parts (b ∷ word) h = let (first, others) = and-parts _ (all_ascii_digits word) h in (grind (arith, nat_tests), omega arith, grind (arith, nat_tests))

-- a decimal is a word, and is read as its number
pub IsWord-decimal : (n : ℕ) → n < 2 ^ 32 → IsWord (decimal n)
IsWord-decimal n h = record { all = digits_in (decimal n) (digits_decimal own n (omega arith)); some = decimal_nonempty n (omega arith) }

not_nought : (word : List ℕ) → 48 < get_or word 0 0 → bytes_eq word (codes "0") ≡ false
not_nought [] h = refl
not_nought (b ∷ word) h = let other : (b == 48) ≡ false = grind (arith, nat_tests) in rw other

pub index_of-decimal : (n : ℕ) → n < 2 ^ 32 → index_of (decimal n) ≡ Some n
index_of-decimal n h =
    elim (cases_lt 0 n) [
      | inl positive ↦
          let first : 48 < get_or (decimal n) 0 0 = first_decimal n positive (omega arith) in
          let value : digits_value 10 (decimal n) ≡ n = digits_value-decimal own n (omega arith) in
          let counting : is_counting (decimal n) ≡ true = counting_at (decimal n) (digits_decimal own n (omega arith)) first in
          let below : nat_lt (digits_value 10 (decimal n)) (2 ^ 32) ≡ true = rw value (lt-ltb n (2 ^ 32) h) in
          rw (not_nought (decimal n) first, counting, below) (ap Some value)
      | inr none ↦ let zero_is : n ≡ 0 = omega arith in rw (zero_is, decimal_digit 0 (omega arith))
    ]

pub index_of-sound : (word : List ℕ) (n : ℕ) → index_of word ≡ Some n → (n < 2 ^ 32) × (word ≡ decimal n)
index_of-sound word n h =
    elim (cases_Bool (bytes_eq word (codes "0"))) [
      | inl nought ↦
          let is : Some 0 ≡ Some n = rw nought at h in
          let zero_is : 0 ≡ n = same_Some 0 n is in
          (omega arith, (bytes_eq-Decides word (codes "0")).0 nought ∙ sym (decimal_digit 0 (omega arith)) ∙ ap decimal zero_is)
      | inr other ↦
          let read : number_below (2 ^ 32) word ≡ Some n = rw other at h in
          let (tests, value) = cond_some _ (digits_value 10 word) n read in
          let (counting, below) = and-parts (is_counting word) _ tests in
          let parts = counting_parts word counting in
          let small : digits_value 10 word < 2 ^ 32 = grind (arith, nat_tests) in
          (omega arith, sym (decimal-digits_value own word parts.0 parts.1 (λ e. absurd (omega (arith, parts.2))) (omega arith)) ∙ ap decimal value)
    ]

pub list_all-is_ascii_digit : (bs : List ℕ) → list_all is_ascii_digit bs ≡ all_ascii_digits bs
list_all-is_ascii_digit [] = refl
list_all-is_ascii_digit (b ∷ bs) = ap (λ x. is_ascii_digit b && x) (list_all-is_ascii_digit bs)

-- what `parse` reads
ok_if : {E : Type 0} (r : Result ℕ E) (Q : Type 0) (x : ℕ) (y : Option ℕ) → OkIff r Q x → (Q → Some x ≡ y) → ((Q → ⊥) → None ≡ y) → result_ok r ≡ y
ok_if (Ok z) Q x y h have lack = ap (λ n. Some n) h.1 ∙ have h.0
ok_if (Err e) Q x y h have lack = lack h

counted_at : (bound : ℕ) (ds : List ℕ) → is_counting ds ≡ true → digits_value 10 ds < bound → number_below bound ds ≡ Some (digits_value 10 ds)
counted_at bound ds c h = rw c (grind (arith, nat_tests))

counted_over : (bound : ℕ) (ds : List ℕ) → bound ≤ digits_value 10 ds → number_below bound ds ≡ None
counted_over bound ds h = grind (arith, nat_tests)

pub index_parsed : {E : Type 0} (s : List ℕ) (r : Result ℕ E) → ParsesUnsigned 32 10 s r → bytes_eq s (codes "0") ≡ false → is_counting s ≡ true → result_ok r ≡ index_of s
index_parsed s r h other counting =
    let (digits, some, first) = counting_parts s counting in
    rw other (ok_if r _ _ _ (parse_digits own 32 s r h digits)
    (λ q. sym (counted_at (2 ^ 32) s counting q.1))
    (λ no. sym (counted_over (2 ^ 32) s (omega (arith, λ (k : digits_value 10 s < 2 ^ 32). no (some, k))))))

-- digits are a text
pub is_text : (s : List ℕ) → is_counting s ≡ true → IsUtf8 s
is_text s counting = IsUtf8-from_ascii s (IsAscii-from_digits s (own.to s (counting_parts s counting).0))
