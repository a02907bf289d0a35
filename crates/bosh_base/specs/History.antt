-- The words on histories: lists that grow at their end. A question on a history is answered by its latest
-- item that answers, or is a statement on each item after those before it.
use Rattle.std.specs.Prelude.{◌≡◌, Option, Some, None, List, [], ◌∷◌, ◌++◌}

-- the first where there is one, and else the second
abbrev pub chosen : {A : Type 0} → Option A → A → A
chosen (Some a) d = a
chosen None d = d

-- the answer of the latest item that answers, and d where none does; an answer sees the items before its own
abbrev pub latest_seen : {X A : Type 0} → (List X → X → Option A) → A → List X → List X → A
latest_seen answer d before [] = d
latest_seen answer d before (x ∷ xs) = latest_seen answer (chosen (answer before x) d) (before ++ x ∷ []) xs

-- the answer of the latest item that answers, and d where none does
abbrev pub latest : {X A : Type 0} → (X → Option A) → A → List X → A
latest answer d [] = d
latest answer d (x ∷ xs) = latest answer (chosen (answer x) d) xs

-- each item is permitted after those before it
abbrev pub EachAfter : {X : Type 0} → (List X → X → Type 0) → List X → List X → Type 0
EachAfter P before [] = Unit {0}
EachAfter P before (x ∷ xs) = P before x × EachAfter P (before ++ x ∷ []) xs

-- a statement holds of every front of a list that goes on from one
abbrev pub AlwaysFrom : {X : Type 0} → (List X → Type 0) → List X → List X → Type 0
AlwaysFrom P before [] = P before
AlwaysFrom P before (x ∷ xs) = P before × AlwaysFrom P (before ++ x ∷ []) xs

-- a statement holds of every front
abbrev pub Always : {X : Type 0} → (List X → Type 0) → List X → Type 0
Always P xs = AlwaysFrom P [] xs

-- the second goes on from the first
abbrev pub Extends : {X : Type 0} → List X → List X → Type 0
Extends {X} old new = (more : List X) × (new ≡ old ++ more)
