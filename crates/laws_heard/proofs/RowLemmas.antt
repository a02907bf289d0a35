-- A row of whose machine a task has heard, and what changes of row and moment keep that.
use Rattle.std.proofs.Common.{◌≡◌, ◌∙◌, ℕ, Bool, true, false, Option, Some, None, refl, sym}
use Rattle.std.specs.Prelude.{◌||◌, is_some, not}
use Rattle.std.specs.List.{list_all}
use Rattle.std.proofs.lemmas.Bool.{and_from, and_parts, or_right}
use Rattle.bosh_base.specs.declared.row.Row.{Row}
use Rattle.bosh_base.specs.declared.row.Vm.{Vm}
use Rattle.bosh_history.specs.Moments.{Moment}
use Rattle.bosh_rows.specs.Tied.{number_of}
use Rattle.laws_facts.specs.Tasks.{is_known_of, is_row_heard_of}

-- what was heard is heard still, and the loss of such a machine is no early one
abbrev pub HearsMore : Moment → Moment → ℕ → Type 0
HearsMore old new t =
    (v : ℕ) → old.heard t v ≡ true → (new.heard t v ≡ true) × (new.early t v ≡ old.early t v)

-- a row that is lost, or has no machine
pub lost_heard : (m : Moment) (t : ℕ) (row : Row) → row.lost ≡ true → is_row_heard_of m t row ≡ true
lost_heard m t row lost = λ j. lost j || list_all (is_known_of m t row) (number_of row.vm)

pub none_heard : (m : Moment) (t : ℕ) (row : Row) → row.vm ≡ None → is_row_heard_of m t row ≡ true
none_heard m t row none =
    (λ j. row.lost || list_all (is_known_of m t row) (number_of (none j))) ∙ or_right row.lost true refl

-- one with a machine
pub known_heard : (m : Moment) (t : ℕ) (row : Row) (it : Vm) → row.vm ≡ Some it → is_known_of m t row it.vm ≡ true
    → is_row_heard_of m t row ≡ true
known_heard m t row it has known =
    (λ j. row.lost || list_all (is_known_of m t row) (number_of (has j)))
    ∙ or_right row.lost _ (and_from (is_known_of m t row it.vm) true known refl)

-- what was heard of its machine, where it is not lost
pub heard_known : (m : Moment) (t : ℕ) (row : Row) (it : Vm) → row.vm ≡ Some it → row.lost ≡ false
    → is_row_heard_of m t row ≡ true → is_known_of m t row it.vm ≡ true
heard_known m t row it has found heard =
    (and_parts (is_known_of m t row it.vm) true
    (sym (λ j. found j || list_all (is_known_of m t row) (number_of (has j))) ∙ heard)).0

-- the row changes nothing that is asked of it, and the moment hears more
pub same_heard : (old new : Moment) (t : ℕ) (was now : Row) → HearsMore old new t → now.vm ≡ was.vm
    → now.lost ≡ was.lost → now.spec ≡ was.spec → is_row_heard_of old t was ≡ true → is_row_heard_of new t now ≡ true
same_heard old new t was now more vm lost spec heard = by was.lost refl was.vm refl
  where
    by : (l : Bool) → was.lost ≡ l → (o : Option Vm) → was.vm ≡ o → is_row_heard_of new t now ≡ true
    by true is o has = lost_heard new t now (lost ∙ is)
    by false is None has = none_heard new t now (vm ∙ has)
    by false is (Some it) has =
        let (told, well) =
        and_parts (old.heard t it.vm) (not (old.early t it.vm) || not (is_some was.spec))
        (heard_known old t was it has is heard) in
        let (still, early) = more it.vm told in
        known_heard new t now it (vm ∙ has)
        (and_from (new.heard t it.vm) _ still ((λ j. not (early j) || not (is_some (spec j))) ∙ well))
