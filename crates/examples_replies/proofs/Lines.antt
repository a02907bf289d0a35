-- Where no line waits, none is the cause; where one does, it is that one.
use Rattle.std.proofs.Common.{◌≡◌, ◌⊎◌, [], ◌∷◌, ◌++◌, List, arith, inl, inr, subst}
use Rattle.std.specs.List.{list_any}
use Rattle.std.specs.Prelude.{Bool, false, true}
use Rattle.bosh_due.specs.Causes.{IsAskedBy}
use Rattle.bosh_due.specs.Waiting.{WaitingLine}
use Rattle.bosh_lines.specs.declared.command.Command.{Command}

no_line : (before : List WaitingLine) (line : WaitingLine) (behind : List WaitingLine) → [] ≡ before ++ line ∷ behind → ⊥
no_line [] line behind are = grind (arith, are)
no_line (it ∷ before) line behind are = grind (arith, are)

only_line : (one : WaitingLine) (before : List WaitingLine) (line : WaitingLine) (behind : List WaitingLine) →
    one ∷ [] ≡ before ++ line ∷ behind → line ≡ one
only_line one [] line behind are = grind (arith, are)
only_line one (it ∷ []) line behind are = grind (arith, are)
only_line one (it ∷ (other ∷ before)) line behind are = grind (arith, are)

pub none_asks : {Rest : Command → List WaitingLine → Type 0} {is_cause is_as_sure : WaitingLine → Bool} →
    IsAskedBy Rest is_cause is_as_sure [] → ⊥
none_asks asked = no_line asked.before asked.line asked.behind asked.are

pub one_asks : {Rest : Command → List WaitingLine → Type 0} {is_cause is_as_sure : WaitingLine → Bool}
    (one : WaitingLine) → IsAskedBy Rest is_cause is_as_sure (one ∷ []) → is_cause one ≡ true
one_asks {Rest} {is_cause} one asked =
    subst (λ it. is_cause it ≡ true) (only_line one asked.before asked.line asked.behind asked.are) asked.is_one

-- neither of two kinds of lines is the cause
pub neither_asks : {A B : Type 0} → (A → ⊥) → (B → ⊥) → A ⊎ B → ⊥
neither_asks not_this not_that (inl this) = not_this this
neither_asks not_this not_that (inr that) = not_that that

-- the second of two is not, where the first surely names the same
pub second_asks : {Rest : Command → List WaitingLine → Type 0} {is_cause is_as_sure : WaitingLine → Bool}
    (first second : WaitingLine) → is_as_sure first ≡ true → is_cause first ≡ false →
    IsAskedBy Rest is_cause is_as_sure (first ∷ second ∷ []) → ⊥
second_asks {Rest} {is_cause} {is_as_sure} first second sure not_one asked =
    by_place asked.before asked.line asked.behind asked.are asked.is_one asked.is_first
  where
    by_place : (before : List WaitingLine) (line : WaitingLine) (behind : List WaitingLine) →
        first ∷ second ∷ [] ≡ before ++ line ∷ behind → is_cause line ≡ true → list_any is_as_sure before ≡ false → ⊥
    by_place [] line behind are is_one is_first =
        let same : line ≡ first = grind (arith, are) in
        let cause : is_cause first ≡ true = subst (λ it. is_cause it ≡ true) same is_one
        in grind (arith, cause, not_one)
    by_place (it ∷ before) line behind are is_one is_first =
        let same : it ≡ first = grind (arith, are) in
        let none : list_any is_as_sure (first ∷ before) ≡ false =
        subst (λ one. list_any is_as_sure (one ∷ before) ≡ false) same is_first
        in grind (arith, none, sure)

-- none of two is
pub two_ask : {Rest : Command → List WaitingLine → Type 0} {is_cause is_as_sure : WaitingLine → Bool}
    (first second : WaitingLine) → is_cause first ≡ false → is_cause second ≡ false →
    IsAskedBy Rest is_cause is_as_sure (first ∷ second ∷ []) → ⊥
two_ask {Rest} {is_cause} first second not_one not_other asked =
    by_place asked.before asked.line asked.behind asked.are asked.is_one
  where
    by_place : (before : List WaitingLine) (line : WaitingLine) (behind : List WaitingLine) →
        first ∷ second ∷ [] ≡ before ++ line ∷ behind → is_cause line ≡ true → ⊥
    by_place [] line behind are is_one =
        let same : line ≡ first = grind (arith, are) in
        let cause : is_cause first ≡ true = subst (λ it. is_cause it ≡ true) same is_one
        in grind (arith, cause, not_one)
    by_place (it ∷ []) line behind are is_one =
        let same : line ≡ second = grind (arith, are) in
        let cause : is_cause second ≡ true = subst (λ it. is_cause it ≡ true) same is_one
        in grind (arith, cause, not_other)
    by_place (it ∷ (other ∷ before)) line behind are is_one = no_line before line behind (grind (arith, are))

-- what the rest says of the one line that waits
pub one_rests : {Rest : Command → List WaitingLine → Type 0} {is_cause is_as_sure : WaitingLine → Bool}
    (one : WaitingLine) → IsAskedBy Rest is_cause is_as_sure (one ∷ []) → Rest one.command []
one_rests {Rest} one asked = by_place asked.before asked.line asked.behind asked.are asked.rest
  where
    by_place : (before : List WaitingLine) (line : WaitingLine) (behind : List WaitingLine) →
        one ∷ [] ≡ before ++ line ∷ behind → Rest line.command (before ++ behind) → Rest one.command []
    by_place [] line behind are rest =
        let same : line ≡ one = grind (arith, are) in
        let none : behind ≡ [] = grind (arith, are) in
        let of_one : Rest one.command behind = subst (λ it. Rest it.command behind) same rest
        in subst (λ more. Rest one.command more) none of_one
    by_place (it ∷ before) line behind are rest = absurd (no_line before line behind (grind (arith, are)))
