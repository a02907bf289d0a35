-- How many calls there are after updates that a claim notes.
use Rattle.std.proofs.Common.{◌≡◌, ◌∙◌, ◌<◌, ℕ, false, List, [], ◌∷◌, ◌++◌, Option, ap, append-nil, refl, subst, sym}
use Rattle.std.specs.Prelude.{◌||◌, All, nat_le}
use Rattle.std.proofs.lemmas.Bool.{leb-false, or_parts}
use Rattle.std.proofs.lemmas.List.Elements.{All-head, All-tail}
use Rattle.bosh_base.specs.declared.entry.Entry.{Entry}
use Rattle.bosh_base.specs.declared.entry.Entry.TheVariants as entries
use Rattle.bosh_book.specs.Adds.{Adds, arrivals_by}
use Rattle.bosh_book.specs.Running.{is_full, is_long}
use Rattle.bosh_book.specs.Turns.{IsUpdate}
use Rattle.bosh_book.specs.declared.book.Book.{Book}
use Rattle.bosh_fold.specs.ArrivalsWith.{arrivals_with}
use Rattle.bosh_records.specs.Arrivals.{Arrivals, arrivals}

-- updates leave what came as it was
pub came_with : (e : Entry) (before : Arrivals) → IsUpdate e → arrivals_with e before ≡ before
came_with (entries.UpdBegin u) before is = refl
came_with (entries.UpdDone u) before is = refl
came_with (entries.Gone u) before is = refl
came_with e before is = absurd is

pub came_updated : (updates : List Entry) (before : Arrivals) → All IsUpdate updates → arrivals_by updates before ≡ before
came_updated [] before are = refl
came_updated (e ∷ updates) before are =
    came_updated updates (arrivals_with e before) (All-tail IsUpdate e updates are)
    ∙ came_with e before (All-head IsUpdate e updates are)

-- .. so that calls have numbers after them in a book that had room
pub few_calls : {K : Type 0} {bodies : K → Option (List (List ℕ))} {faults : K → ℕ} (was now : Book K)
    (updates last : List Entry) → is_full was ≡ false → All IsUpdate updates → last ≡ []
    → Adds bodies faults was (updates ++ last) now → now.records.last_call < 4611686018427387904
few_calls was now updates last room are none adds =
    subst (λ (n : ℕ). n < 4611686018427387904)
    (sym (ap (λ (came : Arrivals). came.last_call)
    (adds.recorded ∙ ap (λ es. arrivals_by es (arrivals was.records)) (ap (λ es. updates ++ es) none ∙ append-nil updates)
    ∙ came_updated updates (arrivals was.records) are)))
    (leb-false 4611686018427387904 was.records.last_call
    (or_parts (is_long was) (nat_le 4611686018427387904 was.records.last_call) parts.0).1)
  where
    parts : ((is_long was || nat_le 4611686018427387904 was.records.last_call) ≡ false)
        × (nat_le 4611686018427387904 was.records.opened ≡ false)
    parts = or_parts (is_long was || nat_le 4611686018427387904 was.records.last_call)
        (nat_le 4611686018427387904 was.records.opened) room
