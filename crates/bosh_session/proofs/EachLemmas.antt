-- Tasks that are told one after the other.
use Rattle.std.proofs.Common.{◌≡◌, ℕ, ◌+◌, ◌<◌, ◌||◌, Bool, false, List, [], ◌∷◌, ◌++◌, Option, drop, length, map, sym, ◌∙◌, ap, subst, take}
use Rattle.std.specs.Prelude.{get_or}
use Rattle.std.proofs.lemmas.List.{drop_more, get_or_default, map-append, take-append-drop, take_more}
use Rattle.bosh_session.specs.Running.{number_of}
use Rattle.bosh_session.specs.declared.together.Running as running
use Rattle.bosh_transcript.proofs.CarryLemmas.{answers_cut, answers_still, answers_then, cut_as}
use Rattle.bosh_transcript.proofs.SegmentLemmas.{told_cut, told_first, told_none, told_then}
use Rattle.bosh_transcript.specs.Carried.{Answers, AnswersUpTo}
use Rattle.bosh_transcript.specs.Past.{Past}
use Rattle.bosh_transcript.specs.Segments.{AreTold, AreToldUpTo}
use Rattle.bosh_transcript.specs.declared.status.Status.{Status}

numbers_more : (items : List running.Running) (at : ℕ) (it : running.Running) → at < length items → it ≡ get_or items at it →
    map number_of (take (at + 1) items) ≡ map number_of (take at items) ++ it.number ∷ []
numbers_more items at it there is =
    ap (map number_of) (take_more items at it there ∙ ap (λ (x : running.Running). take at items ++ x ∷ []) (sym is))
    ∙ map-append number_of (take at items) (it ∷ [])

numbers_split : (items : List running.Running) (at : ℕ) (it : running.Running) → at < length items → it ≡ get_or items at it →
    map number_of (take at items) ++ it.number ∷ map number_of (drop (at + 1) items) ≡ map number_of items
numbers_split items at it there is =
    sym (map-append number_of (take at items) (it ∷ drop (at + 1) items))
    ∙ ap (map number_of)
    (ap (λ (x : running.Running). take at items ++ x ∷ drop (at + 1) items) is
    ∙ ap (λ (l : List running.Running). take at items ++ l) (sym (drop_more items at it there))
    ∙ take-append-drop at items)

-- none was told
pub each_none : {O : Type 0} (written : O → Option (List ℕ)) (faults : O → ℕ) (a : Past) (o : O) →
    Answers written faults (AreTold []) a a o o false
each_none written faults a o = answers_still written faults (AreTold []) a o told_none

-- one more was told
pub each_more : {O : Type 0} (written : O → Option (List ℕ)) (faults : O → ℕ) (items : List running.Running) (at : ℕ)
    (otherwise : running.Running) (a b c : Past) (o p q : O) (fails failed : Bool) → at < length items →
    Answers written faults (AreTold (map number_of (take at items))) a b o p fails →
    Answers written faults (AreTold ((get_or items at otherwise).number ∷ [])) b c p q failed →
    Answers written faults (AreTold (map number_of (take (at + 1) items))) a c o q (fails || failed)
each_more written faults items at otherwise a b c o p q fails failed there x y =
    let it : running.Running = get_or items at otherwise in
    subst (λ (l : List ℕ). Answers written faults (AreTold l) a c o q (fails || failed))
    (sym (numbers_more items at it there (get_or_default items at otherwise it there)))
    (answers_then written faults (AreTold (map number_of (take at items))) (AreTold (it.number ∷ []))
    (AreTold (map number_of (take at items) ++ it.number ∷ [])) a b c o p q fails failed x y
    (told_then (map number_of (take at items)) (it.number ∷ [])))

-- .. up to an event
pub each_cut : {O : Type 0} (written : O → Option (List ℕ)) (faults : O → ℕ) (items : List running.Running) (at : ℕ)
    (otherwise : running.Running) (a b c : Past) (o p q : O) (fails : Bool) (status : Status) → at < length items →
    Answers written faults (AreTold (map number_of (take at items))) a b o p fails →
    AnswersUpTo written faults (AreToldUpTo ((get_or items at otherwise).number ∷ [])) b c p q status →
    AnswersUpTo written faults (AreToldUpTo (map number_of items)) a c o q status
each_cut written faults items at otherwise a b c o p q fails status there x y =
    let it : running.Running = get_or items at otherwise in
    let more : List ℕ = map number_of (drop (at + 1) items) in
    subst (λ (l : List ℕ). AnswersUpTo written faults (AreToldUpTo l) a c o q status)
    (numbers_split items at it there (get_or_default items at otherwise it there))
    (answers_cut written faults (AreTold (map number_of (take at items))) (AreToldUpTo (it.number ∷ more))
    (AreToldUpTo (map number_of (take at items) ++ it.number ∷ more)) a b c o p q fails status x
    (cut_as written faults (AreToldUpTo (it.number ∷ [])) (AreToldUpTo (it.number ∷ more)) b c p q status
    (told_first (it.number ∷ []) more) y)
    (told_cut (map number_of (take at items)) (it.number ∷ more)))
