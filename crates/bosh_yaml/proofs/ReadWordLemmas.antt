-- A scalar that is read is spelled so.
use Rattle.std.proofs.Common.{◌≡◌, ℕ, suc, Bool, true, false, List, [], ◌∷◌, ◌++◌, Option, Some, None, Result, Ok, Err, length, take, drop, codes, refl, ap, sym, ◌∙◌, subst, arith, if◌then◌else◌, ◌==◌}
use Rattle.std.proofs.lemmas.Bool.Decides.{nat_tests}
use Rattle.std.specs.Str.{is_utf8, bytes_eq}
use Rattle.bosh_yaml.specs.declared.bare.Place.{Place}
use Rattle.bosh_yaml.specs.declared.fault.ReadFault.{ReadFault}
use Rattle.bosh_yaml.specs.declared.word.Word.{Word}
use Rattle.bosh_yaml.specs.declared.word.Word.TheVariants.{Plain, Quoted}
use Rattle.bosh_yaml.specs.Bare.{ends_plain, plain_len, starts_plain, trim_end}
use Rattle.bosh_yaml.specs.Quotes.{single_quoted, double_quoted}
use Rattle.bosh_yaml.specs.Result.{◌>>=◌}
use Rattle.bosh_yaml.specs.SpelledWord.{SpellsScalar, GoesOn, Stops, IsKey, in_single_quotes, in_double_quotes, unquoted}
use Rattle.bosh_yaml.specs.Word.{word_at, quoted_word, plain_word, key_of, text_of}
use Rattle.bosh_yaml.proofs.ResultLemmas.{ok_same}

-- a step that was taken: what it gave, and what was made of it
pub bind_ok : {A B : Type 0} (read : Result A ReadFault) (f : A → Result B ReadFault) (y : B) → (read >>= f) ≡ Ok y → (x : A) × (read ≡ Ok x) × (f x ≡ Ok y)
bind_ok (Ok x) f y h = (x, refl, h)
bind_ok (Err e) f y h = absurd (cc)

-- a test that was passed
pub if_ok : {B : Type 0} (b : Bool) (read : Result B ReadFault) (e : ReadFault) (y : B) → (if b then read else Err e) ≡ Ok y → (b ≡ true) × (read ≡ Ok y)
if_ok true read e y h = (refl, h)
if_ok false read e y h = absurd (cc)

-- a test that was not met
pub unless_ok : {B : Type 0} (b : Bool) (read : Result B ReadFault) (e : ReadFault) (y : B) → (if b then Err e else read) ≡ Ok y → (b ≡ false) × (read ≡ Ok y)
unless_ok false read e y h = (refl, h)
unless_ok true read e y h = absurd (cc)

text_ok : (line : ℕ) (bytes text : List ℕ) → text_of line bytes ≡ Ok text → (is_utf8 bytes ≡ true) × (bytes ≡ text)
text_ok line bytes text h = let r = if_ok (is_utf8 bytes) (Ok bytes) _ text h in (r.0, ok_same r.1)

quoted_ok : (line : ℕ) (q : Option (List ℕ × List ℕ)) (word : Word) (rest : List ℕ) → quoted_word line q ≡ Ok (word, rest) → (text : List ℕ) × (q ≡ Some (text, rest)) × (is_utf8 text ≡ true) × (word ≡ Quoted text)
quoted_ok line None word rest h = absurd (cc)
quoted_ok line (Some q) word rest h =
    let r = bind_ok (text_of line q.0) _ (word, rest) h in
    let t = text_ok line q.0 r.0 r.1 in
    let both = ok_same r.2 in
    let behind : q.1 ≡ rest = ap (λ p. p.1) both in
    let first : Quoted r.0 ≡ word = ap (λ p. p.0) both in
    (q.0, ap (λ s. Some (q.0, s)) behind, t.0, sym first ∙ ap (λ s. Quoted s) (sym t.1))

-- a plain scalar goes on up to where it ends
len_goes_on : (place : Place) (bytes : List ℕ) → (front : List ℕ) × (rest : List ℕ) × (bytes ≡ front ++ rest) × (length front ≡ plain_len place bytes) × GoesOn place front rest × Stops place rest
len_goes_on place [] = ([], [], refl, refl, tt, tt)
len_goes_on place (b ∷ bs) = by (ends_plain place b bs) refl (len_goes_on place bs)
  where
    by : (e : Bool) → ends_plain place b bs ≡ e → ((front : List ℕ) × (rest : List ℕ) × (bs ≡ front ++ rest) × (length front ≡ plain_len place bs) × GoesOn place front rest × Stops place rest) → (front : List ℕ) × (rest : List ℕ) × (b ∷ bs ≡ front ++ rest) × (length front ≡ plain_len place (b ∷ bs)) × GoesOn place front rest × Stops place rest
    by true e r = ([], b ∷ bs, refl, rw e refl, tt, e)
    by false e r = (b ∷ r.0, r.1, ap (λ t. b ∷ t) r.2, rw e (ap suc r.3), (ap (λ t. ends_plain place b t) (sym r.2) ∙ e, r.4), r.5)

take_front : (front rest : List ℕ) → take (length front) (front ++ rest) ≡ front
take_front [] rest = refl
take_front (b ∷ bs) rest = ap (λ t. b ∷ t) (take_front bs rest)

drop_front : (front rest : List ℕ) → drop (length front) (front ++ rest) ≡ rest
drop_front [] rest = refl
drop_front (b ∷ bs) rest = drop_front bs rest

plain_ok : (place : Place) (line : ℕ) (bytes : List ℕ) (word : Word) (rest : List ℕ) → plain_word place line bytes ≡ Ok (word, rest) → SpellsScalar place bytes word rest
plain_ok place line bytes word rest h =
    let s = if_ok (starts_plain bytes) _ _ (word, rest) h in
    let l = unless_ok (plain_len place bytes == 0) _ _ (word, rest) s.1 in
    let r = bind_ok (text_of line (trim_end (take (plain_len place bytes) bytes))) _ (word, rest) l.1 in
    let t = text_ok line _ r.0 r.1 in
    let both = ok_same r.2 in
    let first : Plain r.0 ≡ word = ap (λ p. p.0) both in
    let behind : drop (plain_len place bytes) bytes ≡ rest = ap (λ p. p.1) both in
    let g = len_goes_on place bytes in
    by bytes word rest g.0 g.1 s.0 l.0 g.2 g.3 g.4 g.5 t.0 (sym first ∙ ap (λ s. Plain s) (sym t.1)) behind
  where
    plain : (bytes front after : List ℕ) (word : Word) (rest : List ℕ) → starts_plain bytes ≡ true → (length front == 0) ≡ false → bytes ≡ front ++ after → GoesOn place front after → Stops place after → is_utf8 (trim_end front) ≡ true → word ≡ Plain (trim_end front) → after ≡ rest → SpellsScalar place bytes word rest
    plain bytes [] after word rest s n e g p u w b = absurd (cc)
    plain bytes (c ∷ cs) after word rest s n e g p u w b =
        subst (λ bs. SpellsScalar place bs word rest) (sym e) (subst (λ w. SpellsScalar place (c ∷ (cs ++ after)) w rest) (sym w) (subst (λ r. SpellsScalar place (c ∷ (cs ++ after)) (Plain (trim_end (c ∷ cs))) r) b (unquoted c cs after (rw e at s) g p u)))

    by : (bytes : List ℕ) (word : Word) (rest front after : List ℕ) → starts_plain bytes ≡ true → (plain_len place bytes == 0) ≡ false → bytes ≡ front ++ after → length front ≡ plain_len place bytes → GoesOn place front after → Stops place after → is_utf8 (trim_end (take (plain_len place bytes) bytes)) ≡ true → word ≡ Plain (trim_end (take (plain_len place bytes) bytes)) → drop (plain_len place bytes) bytes ≡ rest → SpellsScalar place bytes word rest
    by bytes word rest front after s n e l g p u w b =
        let taken : take (plain_len place bytes) bytes ≡ front = ap (λ k. take k bytes) (sym l) ∙ ap (λ t. take (length front) t) e ∙ take_front front after in
        let dropped : drop (plain_len place bytes) bytes ≡ after = ap (λ k. drop k bytes) (sym l) ∙ ap (λ t. drop (length front) t) e ∙ drop_front front after in
        plain bytes front after word rest s (ap (λ k. k == 0) l ∙ n) e g p (rw taken at u) (w ∙ ap (λ t. Plain (trim_end t)) taken) (sym dropped ∙ b)

pub word_ok : (place : Place) (line : ℕ) (bytes : List ℕ) (word : Word) (rest : List ℕ) → word_at place line bytes ≡ Ok (word, rest) → SpellsScalar place bytes word rest
word_ok place line [] word rest h = absurd (cc)
word_ok place line (b ∷ bs) word rest h = by (b == 39) (b == 34) refl refl h
  where
    single : b ≡ 39 → quoted_word line (single_quoted bs) ≡ Ok (word, rest) → SpellsScalar place (b ∷ bs) word rest
    single e h = let q = quoted_ok line (single_quoted bs) word rest h in rw (e, q.3) (in_single_quotes bs q.0 rest q.1 q.2)

    double : b ≡ 34 → quoted_word line (double_quoted bs) ≡ Ok (word, rest) → SpellsScalar place (b ∷ bs) word rest
    double e h = let q = quoted_ok line (double_quoted bs) word rest h in rw (e, q.3) (in_double_quotes bs q.0 rest q.1 q.2)

    same : (a c : ℕ) → (a == c) ≡ true → a ≡ c
    same a c h = grind (arith, nat_tests)

    by : (s d : Bool) → (b == 39) ≡ s → (b == 34) ≡ d → (if s then quoted_word line (single_quoted bs) else if d then quoted_word line (double_quoted bs) else plain_word place line (b ∷ bs)) ≡ Ok (word, rest) → SpellsScalar place (b ∷ bs) word rest
    by true d p q h = single (same b 39 p) h
    by false true p q h = double (same b 34 q) h
    by false false p q h = plain_ok place line (b ∷ bs) word rest h

pub key_ok : (line : ℕ) (word : Word) (key : List ℕ) → key_of line word ≡ Ok key → IsKey word key
key_ok line (Quoted text) key h = ok_same h
key_ok line (Plain text) key h = let r = unless_ok (bytes_eq text (codes "<<")) (Ok text) _ key h in (r.0, ok_same r.1)
