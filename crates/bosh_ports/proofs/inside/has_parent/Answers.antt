use Rattle.std.proofs.Common.{◌≡◌, ℕ, ◌<◌, Bool, true, false, ◌∷◌, [], List, length, MatchBool, sym, arith, rules}
use Rattle.std.proofs.Common.{nat_eq, lit<}
use Rattle.std.specs.List.{HoldsAt, AllWithin, list_any, slice_split}
use Rattle.std.specs.Str.{bytes_eq}
use Rattle.std.proofs.lemmas.Iterator.{cases_from_any}
use Rattle.std.proofs.lemmas.Iterator.Splits.{YieldsList-from_str_split}
use Rattle.std.proofs.lemmas.List.Folds.{list_any_at, list_any_none}
use Rattle.bosh_ports.proofs.inside.has_parent.Goals as goal

-- what `any` tells of a test
abbrev AnswersAny : {X : Type 0} → (X → Bool) → Bool → List X → Type 0
AnswersAny p answer xs =
    MatchBool answer
    ((k : ℕ) × (k < length xs) × HoldsAt (λ x. p x ≡ true) xs k)
    (AllWithin (λ x. p x ≡ false) xs 0 (length xs))

-- its answer is the word that computes it
is_list_any : {X : Type 0} (p : X → Bool) (answer : Bool) (xs : List X) → X → AnswersAny p answer xs →
    answer ≡ list_any p xs
is_list_any p true xs d h = sym (list_any_at p xs h.0 d h.1 (h.2 d))
is_list_any p false xs d h = sym (list_any_none p xs (λ k x below. h k x (omega arith) below))

abbrev is_up : List ℕ → Bool
is_up part = bytes_eq part (46 ∷ 46 ∷ [])

pub returns : goal.returns
returns c =
    let path = c.args.path.now in
    let cut = YieldsList-from_str_split 47 path (lit< tt) c.split.ensures.text c.split.ensures.has_more
    c.split.ensures.pattern in
    is_list_any is_up c.any.result (slice_split (λ byte. nat_eq byte 47) path) []
    (cases_from_any _ _ c.any.result (λ part. is_up part ≡ true) (λ part. is_up part ≡ false) c.any.ensures.ran cut
    (λ x q called. search rules) (λ x q called. search rules))
