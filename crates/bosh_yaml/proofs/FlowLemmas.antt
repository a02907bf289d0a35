-- One more sign of a flow form.
use Rattle.std.proofs.Common.{◌≡◌, ℕ, zero, suc, ◌-◌, ◌<◌, false, List, [], ◌∷◌, ◌++◌, Result, Ok, Err, length, arith, ap, ◌∙◌, subst}
use Rattle.bosh_yaml.specs.declared.event.Event.{Event}
use Rattle.bosh_yaml.specs.declared.fault.ReadFault.{ReadFault}
use Rattle.bosh_yaml.specs.declared.flow.Nest.{Nest}
use Rattle.bosh_yaml.specs.declared.flow.Sign.{Sign}
use Rattle.bosh_yaml.specs.Lines.{is_end, skip_spaces}
use Rattle.bosh_yaml.specs.Flow.{sign_at, signs_of, form, turn, after_turn}
use Rattle.bosh_yaml.specs.Result.{◌>>=◌, Refuses, with_front}
use Rattle.bosh_yaml.proofs.ResultLemmas.{Refuses-bind, with_front_twice, ok_same}

abbrev Signs : Type 0
Signs = Result (List Sign) ReadFault

pub end_empty : (bytes : List ℕ) → is_end bytes ≡ false → 0 < length bytes
end_empty [] h = cc
end_empty (b ∷ bs) h = omega arith

-- a refused sign is a refusal of all
pub signs_refused : (e : ReadFault) (whole : Signs) (front : List Sign) (most line : ℕ) (bytes : List ℕ) → 0 < most → is_end bytes ≡ false → with_front front (signs_of most line bytes) ≡ whole → Refuses e (sign_at line (skip_spaces bytes)) → Refuses e whole
signs_refused e whole front zero line bytes p h i r = absurd (omega arith)
signs_refused e whole front (suc most) line bytes p h i r =
    subst (Refuses e) (rw h at i) (Refuses-bind e _ _ (Refuses-bind e (sign_at line (skip_spaces bytes)) _ r))

-- a sign that is read goes to the front
pub signs_more : (whole : Signs) (front : List Sign) (most line : ℕ) (bytes : List ℕ) (sign : Sign) (rest : List ℕ) → 0 < most → is_end bytes ≡ false → with_front front (signs_of most line bytes) ≡ whole → sign_at line (skip_spaces bytes) ≡ Ok (sign, rest) → with_front (front ++ sign ∷ []) (signs_of (most - 1) line rest) ≡ whole
signs_more whole front zero line bytes sign rest p h i r = absurd (omega arith)
signs_more whole front (suc most) line bytes sign rest p h i r =
    let g : suc most - 1 ≡ most = omega arith in
    rw g (with_front_twice front (sign ∷ []) (signs_of most line rest) ∙ rw (h, r) at i)

turned : (whole : Result (List Event) ReadFault) (line : ℕ) (es es' : List Event) (ns ns' : List Nest) (signs : List Sign) (read : Result (List Event × List Nest) ReadFault) → with_front es (read >>= λ t. with_front t.0 (form line (t.1 ++ ns) signs)) ≡ whole → after_turn es ns read ≡ Ok (es', ns') → with_front es' (form line ns' signs) ≡ whole
turned whole line es es' ns ns' signs (Ok t) i e =
    let both = ok_same e in
    let front : es ++ t.0 ≡ es' = ap (λ p. p.0) both in
    let back : t.1 ++ ns ≡ ns' = ap (λ p. p.1) both in
    rw (← front, ← back) (with_front_twice es t.0 (form line (t.1 ++ ns) signs) ∙ i)
turned whole line es es' ns ns' signs (Err x) i e = cc

-- a sign that is taken adds its events
pub form_more : (whole : Result (List Event) ReadFault) (line : ℕ) (es es' : List Event) (nests ns ns' : List Nest) (nest : Nest) (all signs : List Sign) (sign : Sign) → nests ≡ nest ∷ ns → all ≡ sign ∷ signs → with_front es (form line nests all) ≡ whole → after_turn es ns (turn line nest sign) ≡ Ok (es', ns') → with_front es' (form line ns' signs) ≡ whole
form_more whole line es es' nests ns ns' nest all signs sign p q i e =
    turned whole line es es' ns ns' signs (turn line nest sign) (rw (p, q) at i) e
