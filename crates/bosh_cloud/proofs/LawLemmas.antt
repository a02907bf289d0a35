-- What is kept is loaded, and what is loaded was kept, over whole lists of bodies.
use Rattle.std.proofs.Common.{◌≡◌, ℕ, Bool, true, false, Option, Some, None, Ok, Err, List, [], ◌∷◌, ◌++◌, refl, sym, ◌∙◌, ap, append_assoc, append-nil}
use Rattle.std.specs.Prelude.{All, if◌then◌else◌, fold, map, length}
use Rattle.std.specs.Option.{option_and_then}
use Rattle.std.proofs.lemmas.List.Elements.{All-head, All-tail}
use Rattle.std.proofs.lemmas.List.Folds.{fold_stays}
use Rattle.bosh_base.specs.History.{EachAfter}
use Rattle.bosh_base.specs.declared.entry.Entry.{Entry}
use Rattle.bosh_cloud.proofs.LoadingLemmas.{happening-spelled}
use Rattle.bosh_cloud.specs.Loading.{done_with, happening, with_body}
use Rattle.bosh_entry.proofs.BodyLemmas.{whole_takes}
use Rattle.bosh_entry.specs.Body.{entry_of, IsEntry, spelling}
use Rattle.bosh_entry.specs.Reading.{IsBytes}
use Rattle.bosh_entry.specs.declared.format.Format.TheVariants.{Present}
use Rattle.bosh_inventory.specs.Happens.{happens, MayFollow}

-- what follows in turn is found again
pub found-spelled : (before rest : List Entry) → EachAfter MayFollow before rest →
    fold with_body (Ok before) (map spelling rest) ≡ Ok (before ++ rest)
found-spelled before [] follows = ap Ok (sym (append-nil before))
found-spelled before (entry ∷ rest) follows =
    ap (λ found. fold with_body (done_with before found) (map spelling rest)) (happening-spelled before entry follows.0)
    ∙ found-spelled (before ++ entry ∷ []) rest follows.1 ∙ ap Ok (append_assoc before (entry ∷ []) rest)

-- what a body says that happened
said : (before : List Entry) (read : Option Entry) (entry : Entry) →
    option_and_then (λ it. if happens before it then Some it else None) read ≡ Some entry →
    (read ≡ Some entry) × (happens before entry ≡ true)
said before None entry is = absurd cc
said before (Some it) entry is = chosen (happens before it) refl is
  where
    chosen : (may : Bool) → happens before it ≡ may → (if may then Some it else None) ≡ Some entry →
        (Some it ≡ Some entry) × (happens before entry ≡ true)
    chosen true may is = (is, let same : it ≡ entry = cc in ap (happens before) (sym same) ∙ may)
    chosen false may is = absurd cc

said-follows : (before : List Entry) (body : List ℕ) (entry : Entry) → IsBytes body →
    happening before body ≡ Some entry → MayFollow before entry × (body ≡ spelling entry)
said-follows before body entry bytes is =
    let it : (entry_of body ≡ Some entry) × (happens before entry ≡ true) = said before (entry_of body) entry is in
    let spells : IsEntry entry × (body ≡ spelling entry) = whole_takes Present body entry bytes it.0 in
    (record { happens = it.1; spelled = spells.0 }, spells.1)

-- what is found follows in turn, and the bodies are its spellings
pub record IsFound (before : List Entry) (bodies : List (List ℕ)) (effects : List Entry) : Type 0 where
  pub rest : List Entry
  pub effects_are : effects ≡ before ++ rest
  pub bodies_are : bodies ≡ map spelling rest
  pub follows : EachAfter MayFollow before rest

found_after : (before : List Entry) (body : List ℕ) (bodies : List (List ℕ)) (effects : List Entry)
    (said : Option Entry) → IsBytes body → happening before body ≡ said →
    ((entry : Entry) → said ≡ Some entry → IsFound (before ++ entry ∷ []) bodies effects) →
    fold with_body (done_with before said) bodies ≡ Ok effects → IsFound before (body ∷ bodies) effects
found_after before body bodies effects None bytes none more is =
    absurd (let stays : fold with_body (Err (length before)) bodies ≡ Err (length before) =
    fold_stays with_body (Err (length before)) (λ _. refl) bodies in cc)
found_after before body bodies effects (Some entry) bytes some more is =
    let first : MayFollow before entry × (body ≡ spelling entry) = said-follows before body entry bytes some in
    let later : IsFound (before ++ entry ∷ []) bodies effects = more entry refl in record {
      rest = entry ∷ later.rest;
      effects_are = later.effects_are ∙ append_assoc before (entry ∷ []) later.rest;
      bodies_are = ap (λ it. it ∷ bodies) first.1 ∙ ap (λ all. spelling entry ∷ all) later.bodies_are;
      follows = (first.0, later.follows);
    }

pub found-follows : (before : List Entry) (bodies : List (List ℕ)) (effects : List Entry) → All IsBytes bodies →
    fold with_body (Ok before) bodies ≡ Ok effects → IsFound before bodies effects
found-follows before [] effects bytes is = record {
  rest = [];
  effects_are = (let same : before ≡ effects = cc in sym same ∙ sym (append-nil before));
  bodies_are = refl;
  follows = tt;
}
found-follows before (body ∷ bodies) effects bytes is =
    found_after before body bodies effects (happening before body) (All-head IsBytes body bodies bytes) refl
    (λ entry some. found-follows (before ++ entry ∷ []) bodies effects (All-tail IsBytes body bodies bytes)
    (ap (λ said. fold with_body (done_with before said) bodies) (sym some) ∙ is)) is
