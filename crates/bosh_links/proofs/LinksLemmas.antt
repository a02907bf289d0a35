-- How the ties of the consumers add up.
use Rattle.std.proofs.Common.{◌≡◌, ℕ, ◌+◌, ◌<◌, List, [], ◌∷◌, ◌++◌, Option, Result, Ok, Err, length, get_or, drop, refl, sym, ap, ◌∙◌, append_assoc, add-one, drop-cons}
use Rattle.std.specs.Option.{option_to_list}
use Rattle.bosh_base.specs.declared.link.Tie.{Tie}
use Rattle.bosh_links.specs.Links.{all_tied, joined_ties}

-- the ties of the first consumers before the answer of the others
abbrev pub after : {F : Type 0} → List Tie → Result (List Tie) F → Result (List Tie) F
after ties (Ok more) = Ok (ties ++ more)
after ties (Err fault) = Err fault

pub after-nil : {F : Type 0} (answer : Result (List Tie) F) → after [] answer ≡ answer
after-nil (Ok more) = refl
after-nil (Err fault) = refl

pub after-joined : {F : Type 0} (ties : List Tie) (tie : Option Tie) (others : Result (List Tie) F) → after ties (joined_ties (Ok tie) others) ≡ after (ties ++ option_to_list tie) others
after-joined ties tie (Ok more) = ap Ok (sym (append_assoc ties (option_to_list tie) more))
after-joined ties tie (Err fault) = refl

-- the answer of the consumers from one on
pub all_tied-next : {C F : Type 0} (comes_to : C → Result (Option Tie) F) (cs : List C) (i : ℕ) (c : C) → i < length cs → c ≡ get_or cs i c
    → all_tied comes_to (drop i cs) ≡ joined_ties (comes_to c) (all_tied comes_to (drop (i + 1) cs))
all_tied-next comes_to cs i c within is =
    let e : drop i cs ≡ c ∷ drop (i + 1) cs = rw (add-one, drop-cons cs i c, ← is) refl in
    ap (all_tied comes_to) e

-- where a consumer is refused, all are
pub all_tied-refused : {C F : Type 0} (comes_to : C → Result (Option Tie) F) (cs : List C) (i : ℕ) (c : C) (ties : List Tie) (fault : F) → i < length cs → c ≡ get_or cs i c
    → all_tied comes_to cs ≡ after ties (all_tied comes_to (drop i cs)) → comes_to c ≡ Err fault → all_tied comes_to cs ≡ Err fault
all_tied-refused comes_to cs i c ties fault within is so_far told =
    so_far ∙ ap (after ties) (all_tied-next comes_to cs i c within is ∙ ap (λ o. joined_ties o (all_tied comes_to (drop (i + 1) cs))) told)

-- one more consumer is answered
pub all_tied-more : {C F : Type 0} (comes_to : C → Result (Option Tie) F) (cs : List C) (i : ℕ) (c : C) (ties grown : List Tie) (tie : Option Tie) → i < length cs → c ≡ get_or cs i c
    → all_tied comes_to cs ≡ after ties (all_tied comes_to (drop i cs)) → comes_to c ≡ Ok tie → grown ≡ ties ++ option_to_list tie
    → all_tied comes_to cs ≡ after grown (all_tied comes_to (drop (i + 1) cs))
all_tied-more comes_to cs i c ties grown tie within is so_far told more =
    let others = all_tied comes_to (drop (i + 1) cs) in
    so_far ∙ ap (after ties) (all_tied-next comes_to cs i c within is ∙ ap (λ o. joined_ties o others) told)
    ∙ (after-joined ties tie others ∙ ap (λ all. after all others) (sym more))
