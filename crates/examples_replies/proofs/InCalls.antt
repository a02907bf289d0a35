-- The call in which a director halts is the one that is open, and where none is it halts in none; of two lines that wait the
-- first that names the call is the cause.
use Rattle.std.proofs.Common.{◌≡◌, [], ◌∷◌, ◌++◌, List, Some, None, arith, subst}
use Rattle.std.proofs.lemmas.Bool.Decides.{eqb_tells}
use Rattle.std.specs.List.{list_any}
use Rattle.std.specs.Prelude.{ℕ, Bool, false, true}
use Rattle.bosh_base.specs.declared.entry.Begin.{Begin}
use Rattle.bosh_due.specs.Causes.{IsAskedBy, IsInCall}
use Rattle.bosh_due.specs.Waiting.{WaitingLine}
use Rattle.bosh_history.specs.Moments.{OpenCall}
use Rattle.bosh_lines.specs.declared.command.Command.{Command}
use Rattle.examples_histories.specs.Scenes.{prepared}
use Rattle.examples_replies.specs.InCalls.{begun, creation}

pub no_call : {Is : ℕ → Begin → Type 0} → IsInCall Is prepared → ⊥
no_call it = grind (arith, it.is_open)

abbrev open_first : OpenCall
open_first = record { begin = creation 1; did = None }

-- the call 1 alone is open
number_is : (n : ℕ) (call : OpenCall) → begun.calls n ≡ Some call → n ≡ 1
number_is n call is = grind (arith, is, eqb_tells 1 n)

call_is : (n : ℕ) (call : OpenCall) → begun.calls n ≡ Some call → call ≡ open_first
call_is n call is = grind (arith, is, eqb_tells 1 n)

pub in_first : {Is : ℕ → Begin → Type 0} → IsInCall Is begun → Is 1 (creation 1)
in_first {Is} it =
    let so : Is it.number (creation 1) =
    subst (λ c. Is it.number c.begin) (call_is it.number it.call it.is_open) it.so
    in subst (λ n. Is n (creation 1)) (number_is it.number it.call it.is_open) so

-- ---- two lines

no_third : (before : List WaitingLine) (line : WaitingLine) (behind : List WaitingLine) → [] ≡ before ++ line ∷ behind → ⊥
no_third [] line behind are = grind (arith, are)
no_third (it ∷ before) line behind are = grind (arith, are)

-- the first is the cause, where it names the same
pub first_asks : {Rest : Command → List WaitingLine → Type 0} {is_cause names_it : WaitingLine → Bool}
    (first second : WaitingLine) → names_it first ≡ true →
    IsAskedBy Rest is_cause names_it (first ∷ second ∷ []) → Rest first.command (second ∷ [])
first_asks {Rest} {is_cause} {names_it} first second named asked =
    by_place asked.before asked.line asked.behind asked.are asked.is_first asked.rest
  where
    by_place : (before : List WaitingLine) (line : WaitingLine) (behind : List WaitingLine) →
        first ∷ second ∷ [] ≡ before ++ line ∷ behind → list_any names_it before ≡ false →
        Rest line.command (before ++ behind) → Rest first.command (second ∷ [])
    by_place [] line behind are is_first rest =
        let same : line ≡ first = grind (arith, are) in
        let other : behind ≡ second ∷ [] = grind (arith, are) in
        let of_first : Rest first.command behind = subst (λ it. Rest it.command behind) same rest
        in subst (λ more. Rest first.command more) other of_first
    by_place (it ∷ before) line behind are is_first rest =
        let same : it ≡ first = grind (arith, are) in
        let none : list_any names_it (first ∷ before) ≡ false =
        subst (λ one. list_any names_it (one ∷ before) ≡ false) same is_first
        in absurd (grind (arith, none, named))

-- the second is, where the first is not of its kind
pub other_asks : {Rest : Command → List WaitingLine → Type 0} {is_cause names_it : WaitingLine → Bool}
    (first second : WaitingLine) → is_cause first ≡ false →
    IsAskedBy Rest is_cause names_it (first ∷ second ∷ []) → Rest second.command (first ∷ [])
other_asks {Rest} {is_cause} {names_it} first second unlike asked =
    by_place asked.before asked.line asked.behind asked.are asked.is_one asked.rest
  where
    by_place : (before : List WaitingLine) (line : WaitingLine) (behind : List WaitingLine) →
        first ∷ second ∷ [] ≡ before ++ line ∷ behind → is_cause line ≡ true →
        Rest line.command (before ++ behind) → Rest second.command (first ∷ [])
    by_place [] line behind are is_one rest =
        let same : line ≡ first = grind (arith, are) in
        let cause : is_cause first ≡ true = subst (λ it. is_cause it ≡ true) same is_one
        in absurd (grind (arith, cause, unlike))
    by_place (it ∷ []) line behind are is_one rest =
        let same : it ≡ first = grind (arith, are) in
        let last : line ≡ second = grind (arith, are) in
        let none : behind ≡ [] = grind (arith, are) in
        let of_last : Rest second.command ((it ∷ []) ++ behind) =
        subst (λ l. Rest l.command ((it ∷ []) ++ behind)) last rest
        in
        let alone : Rest second.command (it ∷ []) =
        subst (λ more. Rest second.command ((it ∷ []) ++ more)) none of_last
        in subst (λ one. Rest second.command (one ∷ [])) same alone
    by_place (it ∷ (other ∷ before)) line behind are is_one rest =
        absurd (no_third before line behind (grind (arith, are)))
