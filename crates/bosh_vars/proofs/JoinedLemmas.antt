-- The texts of the parts that are left, behind a front.
use Rattle.std.proofs.Common.{◌≡◌, ℕ, List, [], ◌∷◌, ◌++◌, Result, Ok, Err, Some, None, append_assoc, ap, sym, ◌∙◌, subst, refl}
use Rattle.std.specs.Prelude.{codes}
use Rattle.std.specs.Str.{IsUtf8}
use Rattle.std.proofs.lemmas.Str.{IsUtf8-append}
use Rattle.bosh_yaml.specs.Tree.{Tree}
use Rattle.bosh_vars.specs.declared.fault.VarsFault.{VarsFault}
use Rattle.bosh_vars.specs.declared.fault.VarsFault.TheVariants.{Unset, NotText, Memory}
use Rattle.bosh_vars.specs.Filled.{Values, joined_text, part_text, text_for, value_for}
use Rattle.bosh_vars.specs.Placeholder.{Part, plain, placeholder, parts, name_at}
use Rattle.bosh_vars.specs.Result.{◌>>=◌, Refuses, with_front}
use Rattle.bosh_vars.proofs.PlaceholderLemmas.{parts-placeholder, parts-plain, IsUtf8-around}

pub Refuses-bind : {A B : Type 0} (e : VarsFault) (r : Result A VarsFault) (f : A → Result B VarsFault) → Refuses e r → Refuses e (r >>= f)
Refuses-bind Memory r f h = tt
Refuses-bind (Unset name) r f h = rw h refl
Refuses-bind (NotText name) r f h = rw h refl

pub with_front-nil : (r : Result (List ℕ) VarsFault) → with_front [] r ≡ r
with_front-nil (Ok s) = refl
with_front-nil (Err e) = refl

with_front-step : (front s : List ℕ) (r : Result (List ℕ) VarsFault) → with_front front (r >>= λ more. Ok (s ++ more)) ≡ with_front (front ++ s) r
with_front-step front s (Ok more) = ap Ok (sym (append_assoc front s more))
with_front-step front s (Err e) = refl

refuses_value : (e : VarsFault) (x y : List ℕ) → Refuses {B = List ℕ} e (Ok x) → Refuses {B = List ℕ} e (Ok y)
refuses_value Memory x y h = tt
refuses_value (Unset name) x y h = cc
refuses_value (NotText name) x y h = cc

-- a refusal behind a front is one
Refuses-front : (e : VarsFault) (front : List ℕ) (r : Result (List ℕ) VarsFault) → Refuses e (with_front front r) → Refuses e r
Refuses-front e front (Ok s) h = refuses_value e (front ++ s) s h
Refuses-front e front (Err f) h = h

-- one more part has a text
pub joined-step : (values : Values) (front s : List ℕ) (part : Part) (rest : List Part) → part_text values part ≡ Ok s → with_front front (joined_text values (part ∷ rest)) ≡ with_front (front ++ s) (joined_text values rest)
joined-step values front s part rest is =
    ap (λ t. with_front front (t >>= λ x. joined_text values rest >>= λ more. Ok (x ++ more))) is ∙ with_front-step front s (joined_text values rest)

-- a part without a text is the refusal
pub joined-refused : (values : Values) (front : List ℕ) (part : Part) (rest : List Part) (e : VarsFault) → Refuses e (part_text values part) → Refuses e (with_front front (joined_text values (part ∷ rest)))
joined-refused values front part rest e h =
    Refuses-bind e (joined_text values (part ∷ rest)) (λ s. Ok (front ++ s)) (Refuses-bind e (part_text values part) (λ x. joined_text values rest >>= λ more. Ok (x ++ more)) h)

-- what a front was made of, where more was put behind it
pushed : (front new : List ℕ) (r : Result (List ℕ) VarsFault) → with_front front r ≡ Ok new → (s : List ℕ) × ((r ≡ Ok s) × (front ++ s ≡ new))
pushed front new (Ok s) h = (s, (refl, cc))
pushed front new (Err e) h = cc

-- the invariant of a filled front and what is left, after a placeholder
pub placeholder-kept : (values : Values) (front new bytes name after : List ℕ) (value : Tree) (whole : Result (List ℕ) VarsFault)
    → Some name ≡ name_at bytes → bytes ≡ codes "((" ++ (name ++ (codes "))" ++ after)) → IsUtf8 name
    → value_for values name ≡ Ok value → with_front front (text_for name value) ≡ Ok new → (IsUtf8 front → IsUtf8 new)
    → IsUtf8 (front ++ bytes) → with_front front (joined_text values (parts bytes)) ≡ whole → IsUtf8 (new ++ after) × (with_front new (joined_text values (parts after)) ≡ whole)
placeholder-kept values front new bytes name after value whole found is name_utf8 has put new_utf8 utf8 kept =
    let around = IsUtf8-around front name after (subst (λ bs. IsUtf8 (front ++ bs)) is utf8) name_utf8 in
    let text = pushed front new (text_for name value) put in
    let first : part_text values (placeholder name) ≡ Ok text.0 = ap (λ r. r >>= text_for name) has ∙ text.1.0 in
    let step : with_front front (joined_text values (placeholder name ∷ parts after)) ≡ with_front (front ++ text.0) (joined_text values (parts after)) = joined-step values front text.0 (placeholder name) (parts after) first in
    let here : parts bytes ≡ placeholder name ∷ parts after = parts-placeholder bytes name after (sym found) is in (
      IsUtf8-append new after (new_utf8 around.0) around.1,
      ap (λ s. with_front s (joined_text values (parts after))) (sym text.1.1) ∙ (sym step ∙ (ap (λ ps. with_front front (joined_text values ps)) (sym here) ∙ kept)),
    )

-- the same after a byte
pub plain-kept : (values : Values) (front new bytes after : List ℕ) (b : ℕ) (whole : Result (List ℕ) VarsFault)
    → None ≡ name_at bytes → bytes ≡ b ∷ after → new ≡ front ++ b ∷ []
    → IsUtf8 (front ++ bytes) → with_front front (joined_text values (parts bytes)) ≡ whole → IsUtf8 (new ++ after) × (with_front new (joined_text values (parts after)) ≡ whole)
plain-kept values front new bytes after b whole none is grown utf8 kept =
    let same : front ++ bytes ≡ new ++ after = ap (λ bs. front ++ bs) is ∙ (sym (append_assoc front (b ∷ []) after) ∙ ap (λ s. s ++ after) (sym grown)) in
    let none' : name_at (b ∷ after) ≡ None = subst (λ bs. name_at bs ≡ None) is (sym none) in
    let here : parts bytes ≡ plain b ∷ parts after = ap parts is ∙ parts-plain b after none' in
    let step : with_front front (joined_text values (plain b ∷ parts after)) ≡ with_front (front ++ b ∷ []) (joined_text values (parts after)) = joined-step values front (b ∷ []) (plain b) (parts after) refl in (
      subst IsUtf8 same utf8,
      ap (λ s. with_front s (joined_text values (parts after))) grown ∙ (sym step ∙ (ap (λ ps. with_front front (joined_text values ps)) (sym here) ∙ kept)),
    )

-- a placeholder without a value, or without a text, is the refusal
pub placeholder-unset : (values : Values) (front bytes name after : List ℕ) (whole : Result (List ℕ) VarsFault) (e : VarsFault)
    → Some name ≡ name_at bytes → bytes ≡ codes "((" ++ (name ++ (codes "))" ++ after))
    → with_front front (joined_text values (parts bytes)) ≡ whole → Refuses e (value_for values name) → Refuses e whole
placeholder-unset values front bytes name after whole e found is kept h =
    let here : parts bytes ≡ placeholder name ∷ parts after = parts-placeholder bytes name after (sym found) is in
    subst (Refuses e) (ap (λ ps. with_front front (joined_text values ps)) (sym here) ∙ kept)
    (joined-refused values front (placeholder name) (parts after) e (Refuses-bind e (value_for values name) (text_for name) h))

pub placeholder-no_text : (values : Values) (front bytes name after : List ℕ) (value : Tree) (whole : Result (List ℕ) VarsFault) (e : VarsFault)
    → Some name ≡ name_at bytes → bytes ≡ codes "((" ++ (name ++ (codes "))" ++ after))
    → value_for values name ≡ Ok value → with_front front (joined_text values (parts bytes)) ≡ whole → Refuses e (with_front front (text_for name value)) → Refuses e whole
placeholder-no_text values front bytes name after value whole e found is has kept h =
    let here : parts bytes ≡ placeholder name ∷ parts after = parts-placeholder bytes name after (sym found) is in
    let first : part_text values (placeholder name) ≡ text_for name value = ap (λ r. r >>= text_for name) has in
    subst (Refuses e) (ap (λ ps. with_front front (joined_text values ps)) (sym here) ∙ kept)
    (joined-refused values front (placeholder name) (parts after) e (subst (Refuses e) (sym first) (Refuses-front e front (text_for name value) h)))
