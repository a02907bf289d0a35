-- What becomes of a call that is performed.
use Rattle.std.proofs.Common.{◌≡◌, ℕ, Bool, true, false, Option, Some, None, List, [], ◌∷◌, refl, ◌∙◌, ap}
use Rattle.std.proofs.lemmas.Bool.{eq-eqb, false≢true}
use Rattle.std.specs.Prelude.{◌==◌, find, if◌then◌else◌}
use Rattle.std.specs.Option.{option_and_then, option_map}
use Rattle.bosh_calls.specs.Calls.{begun, is_free, is_of, is_performable, performed, place_of, with_begun, with_performed}
use Rattle.bosh_calls.specs.declared.calls.OpenCall.{OpenCall}

-- it is found where it was
found_performed : (n place : ℕ) (calls : List OpenCall) →
    find (is_of n) (with_performed n place calls) ≡ option_map (performed n place) (find (is_of n) calls)
found_performed n place [] = refl
found_performed n place (it ∷ calls) = each (it.n == n) refl (found_performed n place calls)
  where
    each : (b : Bool) → (it.n == n) ≡ b →
        find (is_of n) (with_performed n place calls) ≡ option_map (performed n place) (find (is_of n) calls) →
        find (is_of n) (with_performed n place (it ∷ calls))
        ≡ option_map (performed n place) (find (is_of n) (it ∷ calls))
    each true same rest = rw same (rw same refl)
    each false other rest = rw other (rw other rest)

-- what is found is of the number
found_is : (n : ℕ) (calls : List OpenCall) (it : OpenCall) → find (is_of n) calls ≡ Some it → (it.n == n) ≡ true
found_is n [] it is = absurd (let none : None ≡ Some it = is in cc)
found_is n (first ∷ calls) it is = each (first.n == n) refl is (found_is n calls it)
  where
    each : (b : Bool) → (first.n == n) ≡ b → (if b then Some first else find (is_of n) calls) ≡ Some it →
        (find (is_of n) calls ≡ Some it → (it.n == n) ≡ true) → (it.n == n) ≡ true
    each true same found rest = ap (λ (o : OpenCall). o.n == n) (let is : it ≡ first = cc in is) ∙ same
    each false other found rest = rest found

placed : (n place : ℕ) (calls : List OpenCall) (found : Option OpenCall) → find (is_of n) calls ≡ found →
    is_free found ≡ true → option_and_then (λ it. it.place) (option_map (performed n place) found) ≡ Some place
placed n place calls None is free = absurd (false≢true free)
placed n place calls (Some it) is free = ap (λ (o : OpenCall). o.place) (ap (λ b. if b then record it { place = Some place } else it) (found_is n calls it is))

-- its place is known
pub place_performed : (n place : ℕ) (calls : List OpenCall) → is_performable calls n ≡ true →
    place_of (with_performed n place calls) n ≡ Some place
place_performed n place calls free =
    ap (option_and_then (λ it. it.place)) (found_performed n place calls)
    ∙ placed n place calls (find (is_of n) calls) refl free

-- a call that has begun is found
found_begun : (n : ℕ) (calls : List OpenCall) → find (is_of n) (with_begun n calls) ≡ Some (begun n)
found_begun n [] = rw (eq-eqb n n refl) refl
found_begun n (it ∷ calls) = each (it.n == n) refl (found_begun n calls)
  where
    each : (b : Bool) → (it.n == n) ≡ b → find (is_of n) (with_begun n calls) ≡ Some (begun n) →
        find (is_of n) (with_begun n (it ∷ calls)) ≡ Some (begun n)
    each true same rest = rw same rest
    each false other rest = rw other (rw other rest)

-- .. and can be performed
pub begun_performable : (n : ℕ) (calls : List OpenCall) → is_performable (with_begun n calls) n ≡ true
begun_performable n calls = ap is_free (found_begun n calls)
