-- Steps for several things, one after another.
use Rattle.std.proofs.Common.{◌≡◌, ap, refl, sym, ℕ, ◌+◌, ◌<◌, List, [], ◌∷◌, ◌++◌, Result, Ok, Err, length, get_or, drop, append_assoc, add-one, drop-cons}
use Rattle.bosh_release_files.specs.Answer.{◌>>=◌, each}
use Rattle.bosh_release_files.specs.declared.fault.ReleaseFault.{ReleaseFault}

-- the values so far before those that follow
abbrev pub following : {A : Type 0} → List A → Result (List A) ReleaseFault → Result (List A) ReleaseFault
following values others = others >>= λ more. Ok (values ++ more)

pub following-nil : {A : Type 0} (others : Result (List A) ReleaseFault) → following [] others ≡ others
following-nil (Ok more) = refl
following-nil (Err fault) = refl

-- one more value
pub following-more :
    {A : Type 0} (values : List A) (value : A) (others : Result (List A) ReleaseFault)
    → following values (others >>= λ more. Ok (value ∷ more)) ≡ following (values ++ value ∷ []) others
following-more values value (Ok more) = ap Ok (sym (append_assoc values (value ∷ []) more))
following-more values value (Err fault) = refl

-- the step for the things from one on
pub each-next :
    {A B : Type 0} (step : A → Result B ReleaseFault) (things : List A) (i : ℕ) (thing : A)
    → i < length things → thing ≡ get_or things i thing
    → each step (drop i things)
    ≡ (step thing >>= λ first. each step (drop (i + 1) things) >>= λ others. Ok (first ∷ others))
each-next step things i thing within is =
    let e : drop i things ≡ thing ∷ drop (i + 1) things = rw (add-one, drop-cons things i thing, ← is) refl in
    ap (λ rest. each step rest) e
