-- A scalar that is spelled is read.
use Rattle.std.proofs.Common.{◌≡◌, ◌≤◌, ◌<◌, ℕ, suc, Bool, true, false, not, ◌&&◌, ◌||◌, List, [], ◌∷◌, ◌++◌, Option, Some, None, Ok, length, take, drop, refl, ap, ◌∙◌, subst, arith, if◌then◌else◌, ◌==◌}
use Rattle.std.proofs.lemmas.Bool.Decides.{eqb_tells}
use Rattle.std.specs.Str.{is_utf8}
use Rattle.bosh_yaml.specs.declared.bare.Place.{Place}
use Rattle.bosh_yaml.specs.declared.word.Word.{Word}
use Rattle.bosh_yaml.specs.declared.word.Word.TheVariants.{Plain, Quoted}
use Rattle.bosh_yaml.specs.Bare.{plain_len, starts_plain, trim_end}
use Rattle.std.specs.Char.{encode_utf8}
use Rattle.bosh_yaml.specs.Bare.{is_flow_sign, is_indicator, is_mark}
use Rattle.bosh_yaml.specs.Lines.{is_gap}
use Rattle.bosh_yaml.specs.Quotes.{Quoted as QuotedText, after_text, after_character, character, escaped_character, four_hex, single_quoted, double_quoted, double_escaped, double_unicode}
use Rattle.bosh_yaml.specs.SpelledWord.{SpellsScalar, GoesOn, Stops, IsKey, in_single_quotes, in_double_quotes, unquoted}
use Rattle.bosh_yaml.proofs.LineLemmas.{differs}
use Rattle.bosh_yaml.specs.Word.{word_at, quoted_word, plain_word, key_of}

-- a byte that begins a plain scalar is no quote
pub begins_unquoted : (b : ℕ) (bs : List ℕ) → starts_plain (b ∷ bs) ≡ true → ((b == 39) ≡ false) × ((b == 34) ≡ false)
begins_unquoted b bs h = grind (arith, eqb_tells b 39, eqb_tells b 34, h)

stop_len : (place : Place) (rest : List ℕ) → Stops place rest → plain_len place rest ≡ 0
stop_len place [] h = refl
stop_len place (b ∷ bs) h = rw h refl

len_front : (place : Place) (front rest : List ℕ) → GoesOn place front rest → Stops place rest → plain_len place (front ++ rest) ≡ length front
len_front place [] rest g s = stop_len place rest s
len_front place (b ∷ bs) rest g s = rw g.0 (ap suc (len_front place bs rest g.1 s))

take_front : (front rest : List ℕ) → take (length front) (front ++ rest) ≡ front
take_front [] rest = refl
take_front (b ∷ bs) rest = ap (λ t. b ∷ t) (take_front bs rest)

drop_front : (front rest : List ℕ) → drop (length front) (front ++ rest) ≡ rest
drop_front [] rest = refl
drop_front (b ∷ bs) rest = drop_front bs rest

quoted_read : (line : ℕ) (text rest : List ℕ) (q : Option (List ℕ × List ℕ)) → q ≡ Some (text, rest) → is_utf8 text ≡ true → quoted_word line q ≡ Ok (Quoted text, rest)
quoted_read line text rest q e u = rw (e, u) refl

plain_parts : (place : Place) (line n : ℕ) (bytes front rest : List ℕ) → starts_plain bytes ≡ true → plain_len place bytes ≡ suc n → take (suc n) bytes ≡ front → drop (suc n) bytes ≡ rest → is_utf8 (trim_end front) ≡ true → plain_word place line bytes ≡ Ok (Plain (trim_end front), rest)
plain_parts place line n bytes front rest p l t d u = let some : (suc n == 0) ≡ false = differs (suc n) 0 (omega arith) in rw (p, l, t, d, u, some) refl

plain_read : (place : Place) (line b : ℕ) (bs rest : List ℕ) → starts_plain (b ∷ (bs ++ rest)) ≡ true → GoesOn place (b ∷ bs) rest → Stops place rest → is_utf8 (trim_end (b ∷ bs)) ≡ true → plain_word place line (b ∷ (bs ++ rest)) ≡ Ok (Plain (trim_end (b ∷ bs)), rest)
plain_read place line b bs rest p g s u =
    plain_parts place line (length bs) (b ∷ (bs ++ rest)) (b ∷ bs) rest p (len_front place (b ∷ bs) rest g s) (take_front (b ∷ bs) rest) (drop_front (b ∷ bs) rest) u

unquoted_at : (place : Place) (line b : ℕ) (bs : List ℕ) → (b == 39) ≡ false → (b == 34) ≡ false → word_at place line (b ∷ bs) ≡ plain_word place line (b ∷ bs)
unquoted_at place line b bs p q = rw (p, q) refl

pub word_spelled : (place : Place) (line : ℕ) (bytes rest : List ℕ) (word : Word) → SpellsScalar place bytes word rest → word_at place line bytes ≡ Ok (word, rest)
word_spelled place line bytes rest word (in_single_quotes bs text after e u) = quoted_read line text after (single_quoted bs) e u
word_spelled place line bytes rest word (in_double_quotes bs text after e u) = quoted_read line text after (double_quoted bs) e u
word_spelled place line bytes rest word (unquoted b bs after p g s u) =
    let q = begins_unquoted b (bs ++ after) p in
    unquoted_at place line b (bs ++ after) q.0 q.1 ∙ plain_read place line b bs after p g s u

pub key_spelled : (line : ℕ) (word : Word) (key : List ℕ) → IsKey word key → key_of line word ≡ Ok key
key_spelled line (Quoted text) key h = ap (λ t. Ok t) h
key_spelled line (Plain text) key h = rw h.0 (ap (λ t. Ok t) h.1)

-- what follows a quoted text is no longer than this
abbrev Short : ℕ → QuotedText → Type 0
Short n None = Unit {0}
Short n (Some q) = length q.1 ≤ n

short_text : (n m : ℕ) (front : List ℕ) (q : QuotedText) → n ≤ m → Short n q → Short m (after_text front q)
short_text n m front None le h = tt
short_text n m front (Some q) le h = omega arith

short_character : (n m : ℕ) (c : Option ℕ) (q : QuotedText) → n ≤ m → Short n q → Short m (after_character c q)
short_character n m None q le h = tt
short_character n m (Some c) q le h = short_text n m (encode_utf8 c) q le h

short_if : (n : ℕ) (b : Bool) (p q : QuotedText) → Short n p → Short n q → Short n (if b then p else q)
short_if n true p q h k = h
short_if n false p q h k = k

single_short : (bs : List ℕ) → Short (length bs) (single_quoted bs)
single_short [] = tt
single_short (b ∷ []) = short_if 1 (b == 39) (Some ([], [])) None (omega arith) tt
single_short (b ∷ c ∷ bs) =
    let quote = short_text (length bs) (length (b ∷ c ∷ bs)) (39 ∷ []) (single_quoted bs) (omega arith) (single_short bs) in
    let stop : Short (length (b ∷ c ∷ bs)) (Some ([], c ∷ bs)) = omega arith in
    let more = short_text (length (c ∷ bs)) (length (b ∷ c ∷ bs)) (b ∷ []) (single_quoted (c ∷ bs)) (omega arith) (single_short (c ∷ bs)) in
    short_if (length (b ∷ c ∷ bs)) (b == 39) _ _ (short_if (length (b ∷ c ∷ bs)) (c == 39) _ _ quote stop) more

mutual
  double_short : (bs : List ℕ) → Short (length bs) (double_quoted bs)
  double_short [] = tt
  double_short (b ∷ bs) =
      let stop : Short (length (b ∷ bs)) (Some ([], bs)) = omega arith in
      let more = short_text (length bs) (length (b ∷ bs)) (b ∷ []) (double_quoted bs) (omega arith) (double_short bs) in
      short_if (length (b ∷ bs)) (b == 34) _ _ stop (short_if (length (b ∷ bs)) (b == 92) _ _ (escaped_short (length (b ∷ bs)) bs (omega arith)) more)

  escaped_short : (n : ℕ) (bs : List ℕ) → length bs ≤ n → Short n (double_escaped bs)
  escaped_short n [] le = tt
  escaped_short n (e ∷ bs) le =
      short_if n (e == 117) _ _ (unicode_short n bs (omega arith)) (short_character (length bs) n (escaped_character e) (double_quoted bs) (omega arith) (double_short bs))

  unicode_short : (n : ℕ) (bs : List ℕ) → length bs ≤ n → Short n (double_unicode bs)
  unicode_short n [] le = tt
  unicode_short n (a ∷ []) le = tt
  unicode_short n (a ∷ b ∷ []) le = tt
  unicode_short n (a ∷ b ∷ c ∷ []) le = tt
  unicode_short n (a ∷ b ∷ c ∷ d ∷ bs) le = short_character (length bs) n (character (four_hex a b c d)) (double_quoted bs) (omega arith) (double_short bs)

front_shorter : (front rest : List ℕ) → length rest ≤ length (front ++ rest)
front_shorter [] rest = omega arith
front_shorter (b ∷ bs) rest = omega (arith, front_shorter bs rest)

-- a scalar has at least one byte
pub word_shorter : (place : Place) (bytes rest : List ℕ) (word : Word) → SpellsScalar place bytes word rest → length rest < length bytes
word_shorter place bytes rest word (in_single_quotes bs text after e u) = let n : length after ≤ length bs = subst (Short (length bs)) e (single_short bs) in omega arith
word_shorter place bytes rest word (in_double_quotes bs text after e u) = let n : length after ≤ length bs = subst (Short (length bs)) e (double_short bs) in omega arith
word_shorter place bytes rest word (unquoted b bs after p g s u) = omega (arith, front_shorter bs after)

-- the first byte of a scalar is no space, comment or sign of a form, and no dash
pub record OpensWord (b : ℕ) (bs : List ℕ) : Type 0 where
  pub space : (b == 32) ≡ false
  pub comment : (b == 35) ≡ false
  pub bar : (b == 124) ≡ false
  pub open_list : (b == 91) ≡ false
  pub close_list : (b == 93) ≡ false
  pub open_map : (b == 123) ≡ false
  pub close_map : (b == 125) ≡ false
  pub comma : (b == 44) ≡ false
  pub dash : (b == 45 && is_gap bs) ≡ false

abbrev pub Opens : List ℕ → Type 0
Opens [] = ⊥
Opens (b ∷ bs) = OpensWord b bs

or_left : (a b : Bool) → (a || b) ≡ false → a ≡ false
or_left false b h = refl
or_left true b h = h

or_right : (a b : Bool) → (a || b) ≡ false → b ≡ false
or_right false b h = h
or_right true b h = absurd (cc)

is_false : (a : Bool) → not a ≡ true → a ≡ false
is_false false h = refl
is_false true h = absurd (cc)

no_dash : (b : ℕ) (bs : List ℕ) → (is_mark b && is_gap bs) ≡ false → (b == 45 && is_gap bs) ≡ false
no_dash b bs h = dash (b == 45) (b == 63 || b == 58) (is_gap bs) h
  where
    dash : (d m g : Bool) → ((d || m) && g) ≡ false → (d && g) ≡ false
    dash false m g h = refl
    dash true m g h = h

opens_plain : (b : ℕ) (bs : List ℕ) → starts_plain (b ∷ bs) ≡ true → OpensWord b bs
opens_plain b bs h =
    let none = is_false (is_indicator b || (is_mark b && is_gap bs)) h in
    let a0 = or_left (is_indicator b) (is_mark b && is_gap bs) none in
    let a1 = or_right (b == 32) _ a0 in
    let a2 = or_right (is_flow_sign b) _ a1 in
    let sign = or_left (is_flow_sign b) _ a1 in
    let s1 = or_right (b == 44) _ sign in
    let s2 = or_right (b == 91) _ s1 in
    let s3 = or_right (b == 93) _ s2 in
    let a3 = or_right (b == 35) _ a2 in
    let a4 = or_right (b == 38) _ a3 in
    let a5 = or_right (b == 42) _ a4 in
    let a6 = or_right (b == 33) _ a5 in
    record {
      space = or_left (b == 32) _ a0;
      comment = or_left (b == 35) _ a2;
      bar = or_left (b == 124) _ a6;
      open_list = or_left (b == 91) _ s1;
      close_list = or_left (b == 93) _ s2;
      open_map = or_left (b == 123) _ s3;
      close_map = or_right (b == 123) _ s3;
      comma = or_left (b == 44) _ sign;
      dash = no_dash b bs (or_right (is_indicator b) _ none);
    }

pub word_opens : (place : Place) (bytes rest : List ℕ) (word : Word) → SpellsScalar place bytes word rest → Opens bytes
word_opens place bytes rest word (in_single_quotes bs text after e u) = record { space = refl; comment = refl; bar = refl; open_list = refl; close_list = refl; open_map = refl; close_map = refl; comma = refl; dash = refl }
word_opens place bytes rest word (in_double_quotes bs text after e u) = record { space = refl; comment = refl; bar = refl; open_list = refl; close_list = refl; open_map = refl; close_map = refl; comma = refl; dash = refl }
word_opens place bytes rest word (unquoted b bs after p g s u) = opens_plain b (bs ++ after) p
