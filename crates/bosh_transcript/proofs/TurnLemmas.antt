-- Turns that are carried out one after the other.
use Rattle.std.proofs.Common.{◌≡◌, ℕ, zero, suc, ◌+◌, List, [], ◌∷◌, ◌++◌, length, ap, ◌∙◌, subst, arith, length-append}
use Rattle.std.proofs.lemmas.Grind.{flat_map-append}
use Rattle.bosh_transcript.specs.Extents.{numbers}
use Rattle.bosh_transcript.specs.Sessions.{requests_of}
use Rattle.bosh_transcript.specs.Turns.{AreTurns, IsTurn, Turn, commands_of}

-- one more number
pub numbers_more : (from count : ℕ) → numbers from (count + 1) ≡ numbers from count ++ (from + count) ∷ []
numbers_more from zero = ap (λ (k : ℕ). k ∷ []) (let e : from ≡ from + 0 = omega arith in e)
numbers_more from (suc count) =
    ap (numbers from) (let e : suc count + 1 ≡ suc (count + 1) = omega arith in e)
    ∙ ap (λ (rest : List ℕ). from ∷ rest)
    (numbers_more (from + 1) count
    ∙ ap (λ (k : ℕ). numbers (from + 1) count ++ k ∷ []) (let e : from + 1 + count ≡ from + suc count = omega arith in e))

pub requests_append : (xs ys : List Turn) → requests_of (xs ++ ys) ≡ requests_of xs ++ requests_of ys
requests_append xs ys = flat_map-append commands_of xs ys

-- one more turn
pub turns_more : (number at : ℕ) (turns : List Turn) (turn : Turn) → AreTurns number turns →
    at ≡ number + length (requests_of turns) + 1 → IsTurn at turn → AreTurns number (turns ++ turn ∷ [])
turns_more number at [] turn are is one =
    (subst (λ (k : ℕ). IsTurn k turn) (let e : at ≡ number + 1 = omega (arith, is) in e) one, tt)
turns_more number at (first ∷ turns) turn (here, more) is one =
    let long : length (requests_of (first ∷ turns)) ≡ length (commands_of first) + length (requests_of turns) =
    length-append (commands_of first) (requests_of turns) in
    (here, turns_more (number + length (commands_of first)) at turns turn more (omega (arith, is, long)) one)
