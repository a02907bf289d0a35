-- How the answers of several add up.
use Rattle.std.proofs.Common.{◌≡◌, ◌∙◌, ℕ, ◌+◌, ◌<◌, ◌≤◌, List, [], ◌∷◌, ◌++◌, Result, Ok, Err, length, get_or, take, drop, refl, sym, ap, subst, add-one, drop-cons, arith}
use Rattle.std.proofs.lemmas.Grind.{common_steps}
use Rattle.std.proofs.lemmas.List.{take_more, take-append-drop}
use Rattle.bosh_manifest_names.specs.Answer.{◌>>=◌, IsAnswer, Stands, each}
use Rattle.bosh_manifest_names.specs.declared.fault.GoalFault.{GoalFault}

itself : {A : Type 0} (answer : Result A GoalFault) → answer ≡ (answer >>= λ a. Ok a)
itself (Ok a) = refl
itself (Err fault) = refl

-- the answers of some and then of others
pub each-append :
    {A B : Type 0} (step : A → Result B GoalFault) (xs ys : List A)
    → each step (xs ++ ys) ≡ (each step xs >>= λ done. each step ys >>= λ more. Ok (done ++ more))
each-append step [] ys = itself (each step ys)
each-append {B = B} step (x ∷ xs) ys =
    by (step x) (each step xs) (each step ys) (each step (xs ++ ys)) (each-append step xs ys)
  where
    by :
        (first : Result B GoalFault) (done more all : Result (List B) GoalFault)
        → all ≡ (done >>= λ bs. more >>= λ cs. Ok (bs ++ cs))
        → (first >>= λ b. all >>= λ bs. Ok (b ∷ bs)) ≡ ((first >>= λ b. done >>= λ bs. Ok (b ∷ bs)) >>= λ bs. more >>= λ cs. Ok (bs ++ cs))
    by (Err fault) done more all e = refl
    by (Ok b) (Err fault) more all e = ap (λ answer. answer >>= λ bs. Ok (b ∷ bs)) e
    by (Ok b) (Ok bs) (Err fault) all e = ap (λ answer. answer >>= λ bs. Ok (b ∷ bs)) e
    by (Ok b) (Ok bs) (Ok cs) all e = ap (λ answer. answer >>= λ bs. Ok (b ∷ bs)) e

-- a list of the answers themselves
abbrev pub Are : {B : Type 0} → List B → List B → Type 0
Are done items = items ≡ done

-- one more is answered
pub stands-more :
    {A B V : Type 0} (stands : List B → V → Type 0) (step : A → Result B GoalFault) (items : List A) (i : ℕ) (x : A) (b : B) (old new : V)
    → i < length items → x ≡ get_or items i x → Stands stands (each step (take i items)) old → step x ≡ Ok b
    → ((done : List B) → stands done old → stands (done ++ b ∷ []) new) → Stands stands (each step (take (i + 1) items)) new
stands-more {B = B} stands step items i x b old new within is so_far told grow =
    let longer : take (i + 1) items ≡ take i items ++ x ∷ [] =
    take_more items i x within ∙ ap (λ y. take i items ++ y ∷ []) (sym is) in
    let answers : each step (take (i + 1) items) ≡ (each step (take i items) >>= λ done. Ok (done ++ b ∷ [])) =
    ap (each step) longer ∙ (each-append step (take i items) (x ∷ [])
    ∙ ap (λ answer. each step (take i items) >>= λ done. (answer >>= λ first. Ok (first ∷ [])) >>= λ more. Ok (done ++ more)) told) in
    subst (λ answer. Stands stands answer new) (sym answers) (by (each step (take i items)) so_far)
  where
    by : (done : Result (List B) GoalFault) → Stands stands done old → Stands stands (done >>= λ bs. Ok (bs ++ b ∷ [])) new
    by (Ok bs) h = grow bs h
    by (Err fault) h = absurd h

-- where one is refused, all are
pub stands-refused :
    {A B V : Type 0} (stands : List B → V → Type 0) (step : A → Result B GoalFault) (items : List A) (i : ℕ) (x : A) (old : V) (fault : GoalFault)
    → i < length items → x ≡ get_or items i x → Stands stands (each step (take i items)) old → step x ≡ Err fault → each step items ≡ Err fault
stands-refused {B = B} stands step items i x old fault within is so_far told =
    let rest = drop (i + 1) items in
    let e : drop i items ≡ x ∷ rest = rw (add-one, drop-cons items i x, ← is) refl in
    let parts : items ≡ take i items ++ x ∷ rest = sym (take-append-drop i items) ∙ ap (λ r. take i items ++ r) e in
    ap (each step) parts ∙ (each-append step (take i items) (x ∷ rest)
    ∙ (ap (λ answer. each step (take i items) >>= λ done. (answer >>= λ first. each step rest >>= λ others. Ok (first ∷ others)) >>= λ more. Ok (done ++ more)) told
    ∙ by (each step (take i items)) so_far))
  where
    none : Result (List B) GoalFault
    none = Err fault

    by : (done : Result (List B) GoalFault) → Stands stands done old → (done >>= λ bs. none) ≡ none
    by (Ok bs) h = refl
    by (Err other) h = absurd h

-- at the end all are answered
pub stands-all :
    {A B V : Type 0} (stands : List B → V → Type 0) (step : A → Result B GoalFault) (items : List A) (i : ℕ) (v : V)
    → length items ≤ i → Stands stands (each step (take i items)) v → Stands stands (each step items) v
stands-all stands step items i v past h =
    let all : take i items ≡ items = grind (arith, common_steps) in
    subst (λ xs. Stands stands (each step xs) v) all h

-- where a value stands for what a first step gives, the answer of a next step is that of both
pub answers-after :
    {A B V : Type 0} (stands : A → V → Type 0) (first : Result A GoalFault) (value : V) (next : A → Result B GoalFault) (result : Result B GoalFault)
    → Stands stands first value → ((a : A) → stands a value → IsAnswer result (next a)) → IsAnswer result (first >>= next)
answers-after stands (Ok a) value next result h answers = answers a h
answers-after stands (Err fault) value next result h answers = absurd h
