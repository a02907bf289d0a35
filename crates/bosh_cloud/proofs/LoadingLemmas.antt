-- What is kept is loaded, and what is loaded was kept.
use Rattle.std.proofs.Common.{◌≡◌, ℕ, Bool, true, false, Option, Some, None, Ok, List, [], ◌∷◌, ◌++◌, refl, sym, ◌∙◌, ap, subst, inl, inr}
use Rattle.std.specs.Prelude.{◌⊎◌, IfSome, if◌then◌else◌}
use Rattle.std.specs.Option.{option_and_then}
use Rattle.std.proofs.lemmas.List.Sums.{fold-append}
use Rattle.bosh_base.specs.declared.entry.Entry.{Entry}
use Rattle.bosh_cloud.specs.Loading.{done_with, happening, effects_in, Tell, TellsAll, with_body}
use Rattle.bosh_entry.proofs.BodyLemmas.{whole_again}
use Rattle.bosh_entry.specs.Body.{entry_of, spelling}
use Rattle.bosh_entry.specs.declared.format.Format.TheVariants.{Present}
use Rattle.bosh_inventory.specs.Happens.{happens, MayFollow}

-- the spelling of what may follow says just that
pub happening-spelled : (before : List Entry) (entry : Entry) → MayFollow before entry →
    happening before (spelling entry) ≡ Some entry
happening-spelled before entry follows =
    let again : entry_of (spelling entry) ≡ Some entry = whole_again Present entry follows.spelled in
    ap (option_and_then (λ it. if happens before it then Some it else None)) again
    ∙ ap (λ t. if t then Some entry else None) follows.happens

-- one body more
pub loaded-more : (bodies : List (List ℕ)) (before : List Entry) (body : List ℕ) → effects_in bodies ≡ Ok before →
    effects_in (bodies ++ body ∷ []) ≡ with_body (Ok before) body
loaded-more bodies before body is =
    fold-append with_body (Ok []) bodies (body ∷ []) ∙ ap (λ found. with_body found body) is

pub loaded-spelled : (bodies : List (List ℕ)) (before : List Entry) (entry : Entry) → effects_in bodies ≡ Ok before →
    MayFollow before entry → effects_in (bodies ++ spelling entry ∷ []) ≡ Ok (before ++ entry ∷ [])
loaded-spelled bodies before entry is follows =
    loaded-more bodies before (spelling entry) is ∙ ap (done_with before) (happening-spelled before entry follows)

-- a store whose bodies stay
pub TellsAll-same : (told later : Option (List (List ℕ))) (was is : Bool) (pending left : Option (List ℕ))
    (effects after : List Entry) → IfSome told (λ list. later ≡ Some list) → is ≡ was → left ≡ pending →
    after ≡ effects → TellsAll told was pending effects → TellsAll later is left after
TellsAll-same None later was is pending left effects after list same alike grown kept = absurd kept
TellsAll-same (Some bodies) later was is pending left effects after list same alike grown kept =
    subst (λ (it : Option (List (List ℕ))). TellsAll it is left after) (sym list)
    (subst (λ (it : Bool). Tell bodies it left after) (sym same)
    (subst (λ (it : Option (List ℕ)). Tell bodies was it after) (sym alike)
    (subst (λ (it : List Entry). Tell bodies was pending it) (sym grown) kept)))

-- .. of a cloud that is whole
pub TellsAll-whole : (told later : Option (List (List ℕ))) (was is : Bool) (pending left : Option (List ℕ))
    (effects after : List Entry) → IfSome told (λ list. later ≡ Some list) → was ≡ false → is ≡ false →
    after ≡ effects → TellsAll told was pending effects → TellsAll later is left after
TellsAll-whole None later was is pending left effects after list whole stays grown kept = absurd kept
TellsAll-whole (Some bodies) later was is pending left effects after list whole stays grown kept =
    let found : effects_in bodies ≡ Ok effects = subst (λ (it : Bool). Tell bodies it pending effects) whole kept in
    subst (λ (it : Option (List (List ℕ))). TellsAll it is left after) (sym list)
    (subst (λ (it : Bool). Tell bodies it left after) (sym stays) (found ∙ ap Ok (sym grown)))

-- one that has one body more
pub TellsAll-more : (told later : Option (List (List ℕ))) (was is : Bool) (pending left : Option (List ℕ))
    (effects after : List Entry) (entry : Entry) → was ≡ false → is ≡ false → after ≡ effects ++ entry ∷ [] →
    IfSome told (λ list. later ≡ Some (list ++ spelling entry ∷ [])) → MayFollow effects entry →
    TellsAll told was pending effects → TellsAll later is left after
TellsAll-more None later was is pending left effects after entry whole stays grown list follows kept = absurd kept
TellsAll-more (Some bodies) later was is pending left effects after entry whole stays grown list follows kept =
    let found : effects_in bodies ≡ Ok effects = subst (λ (it : Bool). Tell bodies it pending effects) whole kept in
    subst (λ (it : Option (List (List ℕ))). TellsAll it is left after) (sym list)
    (subst (λ (it : Bool). Tell (bodies ++ spelling entry ∷ []) it left after) (sym stays)
    (subst (λ (it : List Entry). effects_in (bodies ++ spelling entry ∷ []) ≡ Ok it) (sym grown)
    (loaded-spelled bodies effects entry found follows)))

-- one that failed
pub TellsAll-failed : (told later : Option (List (List ℕ))) (was is : Bool) (pending left : Option (List ℕ))
    (effects after : List Entry) (entry : Entry) → was ≡ false → is ≡ true → left ≡ Some (spelling entry) → after ≡ effects →
    IfSome told (λ list. (later ≡ Some list) ⊎ (later ≡ Some (list ++ spelling entry ∷ []))) →
    MayFollow effects entry → TellsAll told was pending effects → TellsAll later is left after
TellsAll-failed None later was is pending left effects after entry whole fails named same list follows kept = absurd kept
TellsAll-failed (Some bodies) later was is pending left effects after entry whole fails named same list follows kept =
    let found : effects_in bodies ≡ Ok effects = subst (λ (it : Bool). Tell bodies it pending effects) whole kept in
    let either : (effects_in bodies ≡ Ok after) × (effects_in (bodies ++ spelling entry ∷ []) ≡ Ok (after ++ entry ∷ [])) =
    subst (λ (it : List Entry). (effects_in bodies ≡ Ok it)
    × (effects_in (bodies ++ spelling entry ∷ []) ≡ Ok (it ++ entry ∷ []))) (sym same)
    (found, loaded-spelled bodies effects entry found follows) in
    subst (λ (it : Bool). TellsAll later it left after) (sym fails)
    (subst (λ (it : Option (List ℕ)). TellsAll later true it after) (sym named) (elim list [
      | inl lost ↦ subst (λ (it : Option (List (List ℕ))). TellsAll it true (Some (spelling entry)) after) (sym lost) (inl either.0)
      | inr left_ ↦ subst (λ (it : Option (List (List ℕ))). TellsAll it true (Some (spelling entry)) after) (sym left_) (inr (entry, whole_again Present entry follows.spelled, either.1))
    ]))
