-- A text is read part by part, just as the grammar spells it.
use Rattle.std.proofs.Common.{◌≡◌, ◌≢◌, ℕ, zero, suc, ◌+◌, ◌<◌, ◌≤◌, ◌==◌, ◌&&◌, ◌||◌, Bool, true, false, true≢false, List, [], ◌∷◌, ◌++◌, length, take, drop, Some, None, refl, sym, ap, subst, ◌∙◌, arith, inl, inr, ◌⊎◌, append_assoc, append-nil, take-append-drop, ne_eqb, length-append}
use Rattle.std.proofs.lemmas.Bool.{cases_Bool}
use Rattle.std.proofs.lemmas.Bool.Decides.{nat_tests}
use Rattle.std.proofs.lemmas.Option.{none-some, some_pair_parts}
use Rattle.bosh_template.specs.declared.fault.TemplateFault.{TemplateFault}
use Rattle.bosh_template.specs.declared.fault.TemplateFault.TheVariants.{Syntax}
use Rattle.bosh_template.specs.declared.template.Part.{Part}
use Rattle.bosh_template.specs.declared.template.Part.TheVariants.{Literal, Own, Linked, OneAddr, AllAddrs, Word}
use Rattle.bosh_template.specs.Grammar.{opens, has_opening, SpellsTag, SpellsPart, is_literal, begins_literal, Spells, IsSyntax, IsRefusal}
use Rattle.bosh_template.specs.Reading.{Read, tag_at, part_at, literal_len}
use Rattle.bosh_template.proofs.LookupLemmas.{Takes, tag_at-front, tag_at-sound}

-- nothing follows, or a `<%` does
abbrev pub IsBoundary : List ℕ → Type 0
IsBoundary rest = (rest ≡ []) ⊎ (opens rest ≡ true)

or-false : (a b : Bool) → (a || b) ≡ false → (a ≡ false) × (b ≡ false)
or-false true b h = (h, absurd (true≢false h))
or-false false b h = (refl, h)

-- a lookup is no literal, begins with `<%`, and is a part
pub tag_part : (s : List ℕ) (part : Part) → SpellsTag s part → SpellsPart s part
tag_part s (Literal bytes) h = absurd h.is_lookup
tag_part s (Own name fallback) h = h
tag_part s (Linked link name fallback) h = h
tag_part s (OneAddr link index) h = h
tag_part s (AllAddrs link between) h = h
tag_part s (Word word) h = h

pub tag_is_no_literal : (s : List ℕ) (part : Part) → SpellsTag s part → is_literal part ≡ false
tag_is_no_literal s (Literal bytes) h = absurd h.is_lookup
tag_is_no_literal s (Own name fallback) h = refl
tag_is_no_literal s (Linked link name fallback) h = refl
tag_is_no_literal s (OneAddr link index) h = refl
tag_is_no_literal s (AllAddrs link between) h = refl
tag_is_no_literal s (Word word) h = refl

part_tag : (s : List ℕ) (part : Part) → is_literal part ≡ false → SpellsPart s part → SpellsTag s part
part_tag s (Literal bytes) e h = absurd (true≢false e)
part_tag s (Own name fallback) e h = h
part_tag s (Linked link name fallback) e h = h
part_tag s (OneAddr link index) e h = h
part_tag s (AllAddrs link between) e h = h
part_tag s (Word word) e h = h

tag_opens : (s rest : List ℕ) (part : Part) → SpellsTag s part → opens (s ++ rest) ≡ true
tag_opens s rest part h = rw h.spelled

cons_some : (b : ℕ) (text : List ℕ) → b ∷ text ≢ []
cons_some b text e = let l : length (b ∷ text) ≡ 0 = ap length e in omega arith

tag_some : (s : List ℕ) (part : Part) → SpellsTag s part → s ≢ []
tag_some s part h e = cons_some _ _ (sym h.spelled ∙ e)

pub part_some : (s : List ℕ) (part : Part) → SpellsPart s part → s ≢ []
part_some s (Literal bytes) h e = h.1 (sym h.0 ∙ e)
part_some s (Own name fallback) h e = tag_some s _ h e
part_some s (Linked link name fallback) h e = tag_some s _ h e
part_some s (OneAddr link index) h e = tag_some s _ h e
part_some s (AllAddrs link between) h e = tag_some s _ h e
part_some s (Word word) h e = tag_some s _ h e

-- what stands before the first `<%` has none
opens_front : (b : ℕ) (text : List ℕ) (n : ℕ) → opens (b ∷ text) ≡ false → opens (b ∷ take n text) ≡ false
opens_front b [] zero h = refl
opens_front b [] (suc n) h = refl
opens_front b (c ∷ text) zero h = refl
opens_front b (c ∷ text) (suc n) h = h

no_opening : (text : List ℕ) → has_opening (take (literal_len text) text) ≡ false
no_opening [] = refl
no_opening (b ∷ text) = elim (cases_Bool (opens (b ∷ text))) [
  | inl found ↦ rw found
  | inr other ↦ rw other (rw (opens_front b text (literal_len text) other) (no_opening text))
]

boundary : (text : List ℕ) → IsBoundary (drop (literal_len text) text)
boundary [] = inl refl
boundary (b ∷ text) = elim (cases_Bool (opens (b ∷ text))) [
  | inl found ↦ rw found (inr found)
  | inr other ↦ rw other (boundary text)
]

literal_some : (text : List ℕ) → text ≢ [] → opens text ≡ false → take (literal_len text) text ≢ []
literal_some [] h other = absurd (h refl)
literal_some (b ∷ text) h other = rw other (cons_some b (take (literal_len text) text))

shorter : (front rest tail : List ℕ) → front ≢ [] → rest ≡ front ++ tail → length tail < length rest
shorter [] rest tail some e = absurd (some refl)
shorter (b ∷ front) rest tail some e =
    let size : length rest ≡ length (b ∷ front) + length tail = ap length e ∙ length-append (b ∷ front) tail in
    omega arith

-- a part that is read is spelled so
pub part_at-sound : (text : List ℕ) (read : Part × List ℕ) → text ≢ [] → part_at text ≡ Some read → Takes SpellsPart text read
unfolding part_at
part_at-sound text read some h = elim (cases_Bool (opens text)) [
  | inl found ↦
      let tag : tag_at text ≡ Some read = rw found at h in
      let t = tag_at-sound text read tag in
      record { front = t.front; is_front = tag_part t.front read.0 t.is_front; whole = t.whole }
  | inr other ↦
      let literal : Some (Literal (take (literal_len text) text), drop (literal_len text) text) ≡ Some read = rw other at h in
      let (a, b) = some_pair_parts (Literal (take (literal_len text) text)) read.0 (drop (literal_len text) text) read.1 literal in
      record {
        front = take (literal_len text) text;
        is_front = subst (SpellsPart (take (literal_len text) text)) a (refl, literal_some text some other, no_opening text);
        whole = sym (take-append-drop (literal_len text) text) ∙ ap (λ u. take (literal_len text) text ++ u) b;
      }
]

-- what follows a literal that is read, and that no literal is read where a `<%` stands
pub part_at-boundary : (text : List ℕ) (read : Part × List ℕ) → part_at text ≡ Some read → is_literal read.0 ≡ true → (opens text ≡ false) × IsBoundary read.1
unfolding part_at
part_at-boundary text read h is = elim (cases_Bool (opens text)) [
  | inl found ↦
      let tag : tag_at text ≡ Some read = rw found at h in
      let t = tag_at-sound text read tag in
      absurd (true≢false (sym is ∙ tag_is_no_literal t.front read.0 t.is_front))
  | inr other ↦
      let literal : Some (Literal (take (literal_len text) text), drop (literal_len text) text) ≡ Some read = rw other at h in
      let (a, b) = some_pair_parts (Literal (take (literal_len text) text)) read.0 (drop (literal_len text) text) read.1 literal in
      (other, subst IsBoundary b (boundary text))
]

-- nothing is read only at a `<%` that begins no lookup
pub part_at-none : (text : List ℕ) → part_at text ≡ None → (opens text ≡ true) × (tag_at text ≡ None)
unfolding part_at
part_at-none text h = elim (cases_Bool (opens text)) [
  | inl found ↦ (found, rw found at h)
  | inr other ↦ let literal : Some (Literal (take (literal_len text) text), drop (literal_len text) text) ≡ None = rw other at h in absurd (none-some _ (sym literal))
]

-- a literal is read as it is spelled
opens_seam : (b : ℕ) (rest : List ℕ) → IsBoundary rest → opens (b ∷ rest) ≡ false
opens_seam b [] h = refl
opens_seam b (c ∷ []) (inl e) = absurd (cons_some c [] e)
opens_seam b (c ∷ []) (inr o) = absurd (true≢false (sym o))
opens_seam b (c ∷ d ∷ rest) (inl e) = absurd (cons_some c (d ∷ rest) e)
opens_seam b (c ∷ d ∷ rest) (inr o) = grind (arith, nat_tests)

opens_inside : (b : ℕ) (bytes rest : List ℕ) → opens (b ∷ bytes) ≡ false → IsBoundary rest → opens (b ∷ (bytes ++ rest)) ≡ false
opens_inside b [] rest h boundary = opens_seam b rest boundary
opens_inside b (c ∷ bytes) rest h boundary = h

literal_len-boundary : (rest : List ℕ) → IsBoundary rest → literal_len rest ≡ 0
literal_len-boundary [] h = refl
literal_len-boundary (b ∷ rest) (inl e) = absurd (cons_some b rest e)
literal_len-boundary (b ∷ rest) (inr o) = rw o

literal_len-front : (bytes rest : List ℕ) → has_opening bytes ≡ false → IsBoundary rest → literal_len (bytes ++ rest) ≡ length bytes
literal_len-front [] rest h boundary = literal_len-boundary rest boundary
literal_len-front (b ∷ bytes) rest h boundary =
    let (first, others) = or-false (opens (b ∷ bytes)) (has_opening bytes) h in
    rw (opens_inside b bytes rest first boundary) (ap suc (literal_len-front bytes rest others boundary))

take_front : (bytes rest : List ℕ) → take (length bytes) (bytes ++ rest) ≡ bytes
take_front [] rest = refl
take_front (b ∷ bytes) rest = ap (λ t. b ∷ t) (take_front bytes rest)

drop_front : (bytes rest : List ℕ) → drop (length bytes) (bytes ++ rest) ≡ rest
drop_front [] rest = refl
drop_front (b ∷ bytes) rest = drop_front bytes rest

literal_closed : (bytes rest : List ℕ) → bytes ≢ [] → has_opening bytes ≡ false → IsBoundary rest → opens (bytes ++ rest) ≡ false
literal_closed [] rest some h boundary = absurd (some refl)
literal_closed (b ∷ bytes) rest some h boundary = opens_inside b bytes rest (or-false (opens (b ∷ bytes)) (has_opening bytes) h).0 boundary

part_at-literal : (bytes rest : List ℕ) → bytes ≢ [] → has_opening bytes ≡ false → IsBoundary rest → part_at (bytes ++ rest) ≡ Some (Literal bytes, rest)
unfolding part_at
part_at-literal bytes rest some h boundary =
    let len : literal_len (bytes ++ rest) ≡ length bytes = literal_len-front bytes rest h boundary in
    rw (literal_closed bytes rest some h boundary, len, take_front bytes rest, drop_front bytes rest)

part_at-tag : (s : List ℕ) (part : Part) (rest : List ℕ) → SpellsTag s part → part_at (s ++ rest) ≡ Some (part, rest)
unfolding part_at
part_at-tag s part rest h = rw (tag_opens s rest part h) (tag_at-front s part rest h)

-- what is spelled begins with no literal only at a boundary
Spells-boundary : (text : List ℕ) (parts : List Part) (tail : List ℕ) → begins_literal parts ≡ false → Spells text parts → IsBoundary tail → IsBoundary (text ++ tail)
Spells-boundary text [] tail e h end = subst (λ (t : List ℕ). IsBoundary (t ++ tail)) (sym h) end
Spells-boundary text (part ∷ parts) tail e h end =
    let (front, rest, is, apart, more, whole) = h in
    inr (ap (λ t. opens (t ++ tail)) whole ∙ ap opens (append_assoc front rest tail) ∙ tag_opens front (rest ++ tail) part (part_tag front part e is))

apart_then : (a b : Bool) → (a && b) ≡ false → a ≡ true → b ≡ false
apart_then true b h e = h
apart_then false b h e = absurd (true≢false (sym e))

-- the first of the parts that a front spells is read
pub record IsNext (text tail : List ℕ) (part : Part) (parts : List Part) : Type 0 where
  pub rest : List ℕ
  pub read : part_at (text ++ tail) ≡ Some (part, rest ++ tail)
  pub others : Spells rest parts

next_part : (front rest tail : List ℕ) (part : Part) → SpellsPart front part → (is_literal part ≡ true → IsBoundary (rest ++ tail)) → part_at (front ++ (rest ++ tail)) ≡ Some (part, rest ++ tail)
next_part front rest tail (Literal bytes) is end = ap (λ t. part_at (t ++ (rest ++ tail))) is.0 ∙ part_at-literal bytes (rest ++ tail) is.1 is.2 (end refl)
next_part front rest tail (Own name fallback) is end = part_at-tag front _ (rest ++ tail) is
next_part front rest tail (Linked link name fallback) is end = part_at-tag front _ (rest ++ tail) is
next_part front rest tail (OneAddr link index) is end = part_at-tag front _ (rest ++ tail) is
next_part front rest tail (AllAddrs link between) is end = part_at-tag front _ (rest ++ tail) is
next_part front rest tail (Word word) is end = part_at-tag front _ (rest ++ tail) is

pub Spells-next : (text tail : List ℕ) (part : Part) (parts : List Part) → IsBoundary tail → Spells text (part ∷ parts) → IsNext text tail part parts
Spells-next text tail part parts end h =
    let (front, rest, is, apart, more, whole) = h in
    record {
      rest = rest;
      read = ap (λ t. part_at (t ++ tail)) whole ∙ ap part_at (append_assoc front rest tail)
          ∙ next_part front rest tail part is (λ literal. Spells-boundary rest parts tail (apart_then (is_literal part) (begins_literal parts) apart literal) more end);
      others = more;
    }

-- reading stops at the end, or at a `<%` that begins no lookup
abbrev pub Stops : List ℕ → Type 0
Stops tail = (tail ≡ []) ⊎ (part_at tail ≡ None)

Stops-boundary : (tail : List ℕ) → Stops tail → IsBoundary tail
Stops-boundary tail (inl e) = inl e
Stops-boundary tail (inr h) = inr (part_at-none tail h).0

append_none : (a b : List ℕ) → a ++ b ≡ [] → a ≡ []
append_none [] b e = refl
append_none (x ∷ a) b e = absurd (cons_some x (a ++ b) e)

-- where reading stops, nothing more is spelled
stopped : (tail text end : List ℕ) (part : Part) (parts : List Part) → Stops tail → Stops end → tail ≡ text ++ end → Spells text (part ∷ parts) → ⊥
stopped tail text end part parts (inl e) s same h =
    let (front, rest, is, apart, more, whole) = h in
    part_some front part is (append_none front rest (sym whole ∙ append_none text end (sym same ∙ e)))
stopped tail text end part parts (inr none) s same h =
    let next = Spells-next text end part parts (Stops-boundary end s) h in
    none-some _ (sym none ∙ ap part_at same ∙ next.read)

-- a text is read in one way
pub reads_once : (a b : List Part) (front tail front' tail' : List ℕ) → Spells front a → Spells front' b → Stops tail → Stops tail' → front ++ tail ≡ front' ++ tail' → (a ≡ b) × (tail ≡ tail')
reads_once [] [] front tail front' tail' h k s t e =
    (refl, ap (λ u. u ++ tail) (sym h) ∙ e ∙ ap (λ u. u ++ tail') k)
reads_once [] (part ∷ b) front tail front' tail' h k s t e =
    absurd (stopped tail front' tail' part b s t (ap (λ u. u ++ tail) (sym h) ∙ e) k)
reads_once (part ∷ a) [] front tail front' tail' h k s t e =
    absurd (stopped tail' front tail part a t s (ap (λ u. u ++ tail') (sym k) ∙ sym e) h)
reads_once (p ∷ a) (q ∷ b) front tail front' tail' h k s t e =
    let one = Spells-next front tail p a (Stops-boundary tail s) h in
    let other = Spells-next front' tail' q b (Stops-boundary tail' t) k in
    let (same, rest) = some_pair_parts p q (one.rest ++ tail) (other.rest ++ tail') (sym one.read ∙ ap part_at e ∙ other.read) in
    let more = reads_once a b one.rest tail other.rest tail' one.others other.others s t rest in
    (cc, more.1)

-- the laws of the grammar
pub spelled_once : (text : List ℕ) (a b : List Part) → Spells text a → Spells text b → a ≡ b
spelled_once text a b h k = (reads_once a b text [] text [] h k (inl refl) (inl refl) refl).0

-- at a place that is refused nothing is read
none_tag : (rest : List ℕ) (read : Read Part) → tag_at rest ≡ read → ((tag : List ℕ) (part : Part) (more : List ℕ) → SpellsTag tag part → rest ≢ tag ++ more) → tag_at rest ≡ None
none_tag rest None e h = e
none_tag rest (Some read) e h = let t = tag_at-sound rest read e in absurd (h t.front read.0 read.1 t.is_front t.whole)

none_part : (rest : List ℕ) → opens rest ≡ true → tag_at rest ≡ None → part_at rest ≡ None
unfolding part_at
none_part rest o h = rw o h

refused_stops : (text : List ℕ) (place : ℕ) (h : IsSyntax text place) → Stops h.rest
refused_stops text place h = inr (none_part h.rest h.opening (none_tag h.rest (tag_at h.rest) refl h.begins_none))

pub refused_once : (text : List ℕ) (place other : ℕ) → IsSyntax text place → IsSyntax text other → place ≡ other
refused_once text place other h k =
    let same = reads_once h.parts k.parts h.front h.rest k.front k.rest h.is_front k.is_front (refused_stops text place h) (refused_stops text other k) (sym h.whole ∙ k.whole) in
    let size : length (h.front ++ h.rest) ≡ length (k.front ++ k.rest) = ap length (sym h.whole ∙ k.whole) in
    let tail : length h.rest ≡ length k.rest = ap length same.1 in
    let one = length-append h.front h.rest in
    let two = length-append k.front k.rest in
    let at : place ≡ length h.front = h.is_place in
    let at' : other ≡ length k.front = k.is_place in
    omega arith

pub refused_spells_none : (text : List ℕ) (place : ℕ) (parts : List Part) → IsSyntax text place → Spells text parts → ⊥
refused_spells_none text place parts h k =
    let same = reads_once h.parts parts h.front h.rest text [] h.is_front k (refused_stops text place h) (inl refl) (sym h.whole ∙ sym (append-nil text)) in
    true≢false (sym h.opening ∙ ap opens same.1)

-- the front is read, and the rest stands before the reader
pub record IsReadTo (text rest : List ℕ) (parts : List Part) : Type 0 where
  pub front : List ℕ
  pub after_literal : Bool
  pub whole : text ≡ front ++ rest
  pub goes_on : (tail : List ℕ) (more : List Part) → (after_literal && begins_literal more) ≡ false → Spells tail more → Spells (front ++ tail) (parts ++ more)
  pub bound : after_literal ≡ true → IsBoundary rest

pub IsReadTo-start : (text : List ℕ) → IsReadTo text text []
IsReadTo-start text = record { front = []; after_literal = false; whole = refl; goes_on = λ tail more e h. h; bound = λ e. absurd (true≢false (sym e)) }

and-false : (a : Bool) → (a && false) ≡ false
and-false true = refl
and-false false = refl

-- the parts so far are spelled by the front
pub IsReadTo-front : (text rest : List ℕ) (parts : List Part) (r : IsReadTo text rest parts) → Spells r.front parts
IsReadTo-front text rest parts r =
    let h : Spells (r.front ++ []) (parts ++ []) = r.goes_on [] [] (and-false r.after_literal) refl in
    subst (λ (t : List ℕ). Spells t parts) (append-nil r.front) (subst (λ (ps : List Part). Spells (r.front ++ []) ps) (append-nil parts) h)

-- no two literals adjoin
apart_from : (after_literal : Bool) (rest : List ℕ) (read : Part × List ℕ) → rest ≢ [] → (after_literal ≡ true → IsBoundary rest) → part_at rest ≡ Some read → (after_literal && is_literal read.0) ≡ false
apart_from false rest read some bound h = refl
apart_from true rest read some bound h = elim (cases_Bool (is_literal read.0)) [
  | inl literal ↦ elim (bound refl) [
    | inl e ↦ absurd (some e)
    | inr o ↦ absurd (true≢false (sym o ∙ (part_at-boundary rest read h literal).0))
  ]
  | inr other ↦ other
]

pub IsReadTo-more : (text rest : List ℕ) (parts : List Part) (read : Part × List ℕ) → IsReadTo text rest parts → rest ≢ [] → part_at rest ≡ Some read → IsReadTo text read.1 (parts ++ read.0 ∷ [])
IsReadTo-more text rest parts read r some h =
    let t = part_at-sound rest read some h in
    record {
      front = r.front ++ t.front;
      after_literal = is_literal read.0;
      whole = r.whole ∙ ap (λ u. r.front ++ u) t.whole ∙ sym (append_assoc r.front t.front read.1);
      goes_on = λ tail more e k.
          let spelled = r.goes_on (t.front ++ tail) (read.0 ∷ more) (apart_from r.after_literal rest read some r.bound h) (t.front, tail, t.is_front, e, k, refl) in
          subst (λ (u : List ℕ). Spells u ((parts ++ read.0 ∷ []) ++ more)) (sym (append_assoc r.front t.front tail))
          (subst (λ (ps : List Part). Spells (r.front ++ (t.front ++ tail)) ps) (sym (append_assoc parts (read.0 ∷ []) more)) spelled);
      bound = λ literal. (part_at-boundary rest read h literal).1;
    }

-- the rest is shorter
pub part_at-shorter : (rest : List ℕ) (read : Part × List ℕ) → rest ≢ [] → part_at rest ≡ Some read → length read.1 < length rest
part_at-shorter rest read some h =
    let t = part_at-sound rest read some h in
    shorter t.front rest read.1 (part_some t.front read.0 t.is_front) t.whole

-- where nothing is read stands a place that is refused
pub IsReadTo-refused : (text rest : List ℕ) (parts : List Part) (place : ℕ) → IsReadTo text rest parts → part_at rest ≡ None → place + length rest ≡ length text → IsSyntax text place
IsReadTo-refused text rest parts place r h at =
    let (o, none) = part_at-none rest h in
    let size : length text ≡ length r.front + length rest = ap length r.whole ∙ length-append r.front rest in
    record {
      front = r.front;
      parts = parts;
      rest = rest;
      is_front = IsReadTo-front text rest parts r;
      opening = o;
      begins_none = λ tag part more is e. none-some _ (sym none ∙ ap tag_at e ∙ tag_at-front tag part more is);
      whole = r.whole;
      is_place = omega arith;
    }

-- the whole text is read
pub IsReadTo-end : (text rest : List ℕ) (parts : List Part) → IsReadTo text rest parts → rest ≡ [] → Spells text parts
IsReadTo-end text rest parts r e =
    subst (λ (t : List ℕ). Spells t parts) (sym (r.whole ∙ ap (λ u. r.front ++ u) e ∙ append-nil r.front)) (IsReadTo-front text rest parts r)

-- how the loop of the reader goes
pub IsReadTo-init : (text : List ℕ) (parts : List Part) → parts ≡ [] → IsReadTo text text parts
IsReadTo-init text parts e = subst (λ (ps : List Part). IsReadTo text text ps) (sym e) (IsReadTo-start text)

pub IsReadTo-pushed : (text rest : List ℕ) (parts items : List Part) (part owned : Part) (later : List ℕ) → IsReadTo text rest parts → rest ≢ [] → Some (part, later) ≡ part_at rest → owned ≡ part → items ≡ parts ++ owned ∷ [] → IsReadTo text later items
IsReadTo-pushed text rest parts items part owned later r some h is pushed =
    subst (λ (ps : List Part). IsReadTo text later ps) (sym (pushed ∙ ap (λ p. parts ++ p ∷ []) is)) (IsReadTo-more text rest parts (part, later) r some (sym h))

pub some_rest : (rest : List ℕ) → false ≡ (length rest == 0) → rest ≢ []
some_rest rest h e = true≢false (sym (h ∙ ap (λ r. length r == 0) e))

pub no_rest : (rest : List ℕ) → true ≡ (length rest == 0) → rest ≡ []
no_rest [] h = refl
no_rest (b ∷ rest) h = absurd (true≢false (h ∙ ne_eqb (length (b ∷ rest)) 0 (λ e. omega (arith, e))))

-- where nothing is read, the text is refused at the place behind what was read
pub IsReadTo-refusal : (text rest : List ℕ) (parts : List Part) (place : ℕ) (fault : TemplateFault) → IsReadTo text rest parts → None ≡ part_at rest → place + length rest ≡ length text → fault ≡ Syntax place → IsRefusal text fault
IsReadTo-refusal text rest parts place fault r none at is = inr (place, is, IsReadTo-refused text rest parts place r (sym none) at)

-- what is left is no longer than the text
pub IsReadTo-within : (text rest : List ℕ) (parts : List Part) → IsReadTo text rest parts → length rest ≤ length text
IsReadTo-within text rest parts r =
    let size : length text ≡ length r.front + length rest = ap length r.whole ∙ length-append r.front rest in
    omega arith
