-- What readers of the front of a text give.
use Rattle.std.proofs.Common.{◌≡◌, ◌≢◌, ℕ, zero, suc, ◌+◌, ◌<◌, false, List, [], ◌∷◌, ◌++◌, length, take, drop, get_or, replicate, Option, Some, None, refl, sym, ap, ◌∙◌, inl, inr, ◌⊎◌, take-append-drop, eq-eqb, ne_eqb}
use Rattle.std.proofs.lemmas.Bool.{cases_eq}
use Rattle.std.proofs.lemmas.List.{drop_more}
use Rattle.std.proofs.lemmas.Option.{none-some, cond_some, some_pair_parts}
use Rattle.std.proofs.lemmas.List.Elements.{All-nil, All-cons, All-head, All-tail}
use Rattle.std.proofs.lemmas.Slice.Eq.{bytes_eq-Decides}
use Rattle.std.specs.Str.{bytes_eq}
use Rattle.bosh_ip.specs.Bytes.{Lacks, without_leading}
use Rattle.bosh_template.specs.Reading.{Read, ◌>>=◌, either, behind, with_first, cut_at, literal_len}
use Rattle.bosh_template.specs.Grammar.{opens}

-- what one reading after another gives
pub bind-some : {A B : Type 0} (o : Option A) (next : A → Option B) (y : B) → (o >>= next) ≡ Some y → (x : A) × (o ≡ Some x) × (next x ≡ Some y)
bind-some None next y h = absurd (none-some y h)
bind-some (Some x) next y h = (x, refl, h)

pub bind-at : {A B : Type 0} (o : Option A) (next : A → Option B) (x : A) → o ≡ Some x → (o >>= next) ≡ next x
bind-at o next x h = ap (λ r. r >>= next) h

-- what one of two readings gives
pub either-some : {A : Type 0} (a b : Option A) (y : A) → either a b ≡ Some y → (a ≡ Some y) ⊎ (b ≡ Some y)
either-some None b y h = inr h
either-some (Some x) b y h = inl h

-- a text with a word at its front
pub behind-sound : (word text rest : List ℕ) → behind word text ≡ Some rest → text ≡ word ++ rest
behind-sound word text rest h =
    let (same, is) = cond_some (bytes_eq (take (length word) text) word) (drop (length word) text) rest h in
    let front : take (length word) text ≡ word = (bytes_eq-Decides (take (length word) text) word).0 same in
    sym (take-append-drop (length word) text) ∙ ap (λ t. t ++ drop (length word) text) front ∙ ap (λ t. word ++ t) is

-- a text is cut at the first such byte
pub cut_at-front : (byte : ℕ) (front rest : List ℕ) → Lacks byte front → cut_at byte (front ++ byte ∷ rest) ≡ Some (front, rest)
cut_at-front byte [] rest h = rw (eq-eqb byte byte refl)
cut_at-front byte (b ∷ front) rest h =
    rw (ne_eqb b byte (All-head (λ v. v ≢ byte) b front h)) (ap (with_first b) (cut_at-front byte front rest (All-tail (λ v. v ≢ byte) b front h)))

pub cut_at-lacks : (byte : ℕ) (text : List ℕ) → Lacks byte text → cut_at byte text ≡ None
cut_at-lacks byte [] h = refl
cut_at-lacks byte (b ∷ text) h =
    rw (ne_eqb b byte (All-head (λ v. v ≢ byte) b text h)) (ap (with_first b) (cut_at-lacks byte text (All-tail (λ v. v ≢ byte) b text h)))

-- a text that is cut
pub record IsCut (byte : ℕ) (text : List ℕ) (read : List ℕ × List ℕ) : Type 0 where
  pub lacks : Lacks byte read.0
  pub whole : text ≡ read.0 ++ byte ∷ read.1

with_first-cut : (byte b : ℕ) (text : List ℕ) (o : Read (List ℕ)) (read : List ℕ × List ℕ) → b ≢ byte → ((r : List ℕ × List ℕ) → o ≡ Some r → IsCut byte text r) → with_first b o ≡ Some read → IsCut byte (b ∷ text) read
with_first-cut byte b text None read other is h = absurd (none-some read h)
with_first-cut byte b text (Some r) read other is h =
    let cut = is r refl in
    let (first, rest) = some_pair_parts (b ∷ r.0) read.0 r.1 read.1 h in
    record {
      lacks = rw (← first) (All-cons (λ v. v ≢ byte) b r.0 other cut.lacks);
      whole = rw (← first, ← rest) (ap (λ t. b ∷ t) cut.whole);
    }

pub cut_at-sound : (byte : ℕ) (text : List ℕ) (read : List ℕ × List ℕ) → cut_at byte text ≡ Some read → IsCut byte text read
cut_at-sound byte [] read h = absurd (none-some read h)
cut_at-sound byte (b ∷ text) read h =
    elim (cases_eq b byte) [
      | inl same ↦
          let here : Some ([], text) ≡ Some read = rw (eq-eqb b byte same) at h in
          let (first, rest) = some_pair_parts [] read.0 text read.1 here in
          record { lacks = rw (← first) (All-nil (λ v. v ≢ byte)); whole = rw (← first, ← rest, same) }
      | inr other ↦
          let later : with_first b (cut_at byte text) ≡ Some read = rw (ne_eqb b byte other) at h in
          with_first-cut byte b text (cut_at byte text) read other (cut_at-sound byte text) later
    ]

-- spaces before a text that begins with none
pub skips : (n : ℕ) (text : List ℕ) → without_leading 32 text ≡ text → without_leading 32 (replicate n 32 ++ text) ≡ text
skips zero text h = h
skips (suc n) text h = skips n text h

-- one more byte that begins no `<%`
literal_len-cons : (b : ℕ) (text : List ℕ) → opens (b ∷ text) ≡ false → literal_len (b ∷ text) ≡ suc (literal_len text)
literal_len-cons b text h = rw h

pub literal_len_more : (text : List ℕ) (len : ℕ) → len < length text → opens (drop len text) ≡ false → literal_len (drop len text) ≡ suc (literal_len (drop (len + 1) text))
literal_len_more text len within h =
    let e : drop len text ≡ get_or text len 0 ∷ drop (len + 1) text = drop_more text len 0 within in
    ap literal_len e ∙ literal_len-cons (get_or text len 0) (drop (len + 1) text) (ap opens (sym e) ∙ h)
