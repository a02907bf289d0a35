-- The laws of the words on histories.
use Rattle.std.proofs.Common.{◌≡◌, Option, List, [], ◌∷◌, ◌++◌, refl, sym, ◌∙◌, ap, subst, append_assoc, append-nil}
use Rattle.bosh_base.specs.History.{chosen, latest, latest_seen, EachAfter, AlwaysFrom, Extends}

-- one more item at the end answers first
pub latest_last : {X A : Type 0} (answer : X → Option A) (d : A) (xs : List X) (x : X) → latest answer d (xs ++ x ∷ []) ≡ chosen (answer x) (latest answer d xs)
latest_last answer d [] x = refl
latest_last answer d (y ∷ ys) x = latest_last answer (chosen (answer y) d) ys x

-- the same of an answer that sees the items before its own
pub latest_seen_last : {X A : Type 0} (answer : List X → X → Option A) (d : A) (before xs : List X) (x : X) → latest_seen answer d before (xs ++ x ∷ []) ≡ chosen (answer (before ++ xs) x) (latest_seen answer d before xs)
latest_seen_last answer d before [] x = ap (λ all. chosen (answer all x) d) (sym (append-nil before))
latest_seen_last {X} answer d before (y ∷ ys) x =
    let P : List X → Type 0 = λ all. latest_seen answer (chosen (answer before y) d) (before ++ y ∷ []) (ys ++ x ∷ []) ≡ chosen (answer all x) (latest_seen answer (chosen (answer before y) d) (before ++ y ∷ []) ys) in
    subst P (append_assoc before (y ∷ []) ys) (latest_seen_last answer (chosen (answer before y) d) (before ++ y ∷ []) ys x)

-- one more permitted item at the end
pub EachAfter_last : {X : Type 0} (P : List X → X → Type 0) (before xs : List X) (x : X) → EachAfter P before xs → P (before ++ xs) x → EachAfter P before (xs ++ x ∷ [])
EachAfter_last {X} P before [] x each now = (subst (λ (all : List X). P all x) (append-nil before) now, tt)
EachAfter_last {X} P before (y ∷ ys) x each now =
    (each.0, EachAfter_last P (before ++ y ∷ []) ys x each.1 (subst (λ (all : List X). P all x) (sym (append_assoc before (y ∷ []) ys)) now))

-- and back: the front, and what permits the last
pub EachAfter_front : {X : Type 0} (P : List X → X → Type 0) (before xs more : List X) → EachAfter P before (xs ++ more) → EachAfter P before xs
EachAfter_front P before [] more each = tt
EachAfter_front P before (y ∷ ys) more each = (each.0, EachAfter_front P (before ++ y ∷ []) ys more each.1)

pub EachAfter_back : {X : Type 0} (P : List X → X → Type 0) (before xs more : List X) → EachAfter P before (xs ++ more) → EachAfter P (before ++ xs) more
EachAfter_back {X} P before [] more each = subst (λ (all : List X). EachAfter P all more) (sym (append-nil before)) each
EachAfter_back {X} P before (y ∷ ys) more each = subst (λ (all : List X). EachAfter P all more) (append_assoc before (y ∷ []) ys) (EachAfter_back P (before ++ y ∷ []) ys more each.1)

-- two runs, one after the other
pub EachAfter_append : {X : Type 0} (P : List X → X → Type 0) (before xs more : List X) → EachAfter P before xs → EachAfter P (before ++ xs) more → EachAfter P before (xs ++ more)
EachAfter_append {X} P before [] more each rest = subst (λ (all : List X). EachAfter P all more) (append-nil before) rest
EachAfter_append {X} P before (y ∷ ys) more each rest = (each.0, EachAfter_append P (before ++ y ∷ []) ys more each.1 (subst (λ (all : List X). EachAfter P all more) (sym (append_assoc before (y ∷ []) ys)) rest))

-- an invariant that holds at the start, and that each permitted item keeps, holds at the end
pub kept_along : {X : Type 0} (P : List X → X → Type 0) (I : List X → Type 0) → ((before : List X) (x : X) → I before → P before x → I (before ++ x ∷ [])) → (before xs : List X) → I before → EachAfter P before xs → I (before ++ xs)
kept_along {X} P I step before [] start each = subst I (sym (append-nil before)) start
kept_along {X} P I step before (x ∷ xs) start each =
    subst I (append_assoc before (x ∷ []) xs) (kept_along P I step (before ++ x ∷ []) xs (step before x start each.0) each.1)

-- .. and at every front
pub always_along : {X : Type 0} (P : List X → X → Type 0) (I : List X → Type 0) → ((before : List X) (x : X) → I before → P before x → I (before ++ x ∷ [])) → (before xs : List X) → I before → EachAfter P before xs → AlwaysFrom I before xs
always_along P I step before [] start each = start
always_along P I step before (x ∷ xs) start each = (start, always_along P I step (before ++ x ∷ []) xs (step before x start each.0) each.1)

-- one more front
pub AlwaysFrom_last : {X : Type 0} (P : List X → Type 0) (before xs : List X) (x : X) → AlwaysFrom P before xs → P (before ++ xs ++ x ∷ []) → AlwaysFrom P before (xs ++ x ∷ [])
AlwaysFrom_last {X} P before [] x always now = (always, subst (λ (all : List X). P (all ++ x ∷ [])) (append-nil before) now)
AlwaysFrom_last {X} P before (y ∷ ys) x always now =
    (always.0, AlwaysFrom_last P (before ++ y ∷ []) ys x always.1 (subst (λ (all : List X). P (all ++ x ∷ [])) (sym (append_assoc before (y ∷ []) ys)) now))

-- what always holds holds of each front
pub AlwaysFrom_front : {X : Type 0} (P : List X → Type 0) (before xs more : List X) → AlwaysFrom P before (xs ++ more) → P (before ++ xs)
AlwaysFrom_front {X} P before [] [] always = subst P (sym (append-nil before)) always
AlwaysFrom_front {X} P before [] (m ∷ ms) always = subst P (sym (append-nil before)) always.0
AlwaysFrom_front {X} P before (y ∷ ys) more always = subst P (append_assoc before (y ∷ []) ys) (AlwaysFrom_front P (before ++ y ∷ []) ys more always.1)

-- what holds of one front with what comes after it holds always, if it is handed on
pub Extends_refl : {X : Type 0} (xs : List X) → Extends xs xs
Extends_refl xs = ([], sym (append-nil xs))

pub Extends_trans : {X : Type 0} (a b c : List X) → Extends a b → Extends b c → Extends a c
Extends_trans a b c ab bc = (ab.0 ++ bc.0, bc.1 ∙ ap (λ front. front ++ bc.0) ab.1 ∙ append_assoc a ab.0 bc.0)

pub Extends_append : {X : Type 0} (a more : List X) → Extends a (a ++ more)
Extends_append a more = (more, refl)
