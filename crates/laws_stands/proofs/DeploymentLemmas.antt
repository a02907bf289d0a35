-- What is recorded of deployments.
use Rattle.std.proofs.Common.{◌≡◌, ◌∙◌, ℕ, Bool, true, false, ◌||◌, List, [], ◌∷◌, Option, Some, None, ap, refl, sym}
use Rattle.std.specs.Prelude.{find, if◌then◌else◌}
use Rattle.std.specs.List.{cons_option, filter_map}
use Rattle.std.specs.Option.{option_map}
use Rattle.std.specs.Str.{bytes_eq}
use Rattle.std.proofs.lemmas.Bool.{true≢false}
use Rattle.std.proofs.lemmas.Slice.Eq.{bytes_eq-Decides}
use Rattle.bosh_base.specs.declared.goal.Goal.{Goal}
use Rattle.bosh_base.specs.declared.snapshot.DepRow.{DepRow}
use Rattle.bosh_history.specs.Known.{Known}
use Rattle.bosh_history.specs.Snapshots.{dep_row}
use Rattle.bosh_history.specs.Words.{is_among}
use Rattle.bosh_records.specs.Recorded.{Recorded}
use Rattle.laws_stands.specs.Reading.{goal_of}
use Rattle.laws_stands.specs.Stands.{StandsIn}
use Rattle.laws_stands.specs.Told.{Told}

pub bytes_is : (a b : List ℕ) → bytes_eq a b ≡ true → a ≡ b
bytes_is a b is = (bytes_eq-Decides a b).0 is

pub bytes_flip : (a b : List ℕ) → bytes_eq a b ≡ bytes_eq b a
bytes_flip a b = by (bytes_eq a b) (bytes_eq b a) refl refl
  where
    by : (p q : Bool) → bytes_eq a b ≡ p → bytes_eq b a ≡ q → bytes_eq a b ≡ bytes_eq b a
    by true true e f = e ∙ sym f
    by false false e f = e ∙ sym f
    by true false e f = absurd (true≢false (sym ((bytes_eq-Decides b a).1 (sym (bytes_is a b e))) ∙ f))
    by false true e f = absurd (true≢false (sym ((bytes_eq-Decides a b).1 (sym (bytes_is b a f))) ∙ e))

-- the row of a deployment among those of deployments that have a goal
pub found_row : (k : Known) (dep : List ℕ) (deps : List (List ℕ))
    → find (λ (row : DepRow). bytes_eq row.dep dep) (filter_map (dep_row k) deps)
    ≡ (if is_among bytes_eq dep deps then dep_row k dep else None)
found_row k dep [] = refl
found_row k dep (other ∷ deps) = by (k.goal other) refl (bytes_eq dep other) refl (found_row k dep deps)
  where
    test : DepRow → Bool
    test row = bytes_eq row.dep dep

    row_of : Goal → DepRow
    row_of goal = record { dep = other; goal = goal; shared = k.shared other }

    rest : List DepRow
    rest = filter_map (dep_row k) deps

    kept : (a : Bool) → dep_row k dep ≡ None → (if a then dep_row k dep else None) ≡ None
    kept true is = is
    kept false is = refl

    by : (goal : Option Goal) → k.goal other ≡ goal → (b : Bool) → bytes_eq dep other ≡ b
        → find test rest ≡ (if is_among bytes_eq dep deps then dep_row k dep else None)
        → find test (filter_map (dep_row k) (other ∷ deps))
        ≡ (if bytes_eq dep other || is_among bytes_eq dep deps then dep_row k dep else None)
    by (Some goal) has true same more =
        (λ i. find test (cons_option (option_map row_of (has i)) rest))
        ∙ (λ i. if (bytes_flip other dep ∙ same) i then Some (row_of goal) else find test rest)
        ∙ sym (ap (option_map row_of) has)
        ∙ ap (dep_row k) (sym (bytes_is dep other same))
        ∙ (λ i. if sym same i || is_among bytes_eq dep deps then dep_row k dep else None)
    by (Some goal) has false differs more =
        (λ i. find test (cons_option (option_map row_of (has i)) rest))
        ∙ (λ i. if (bytes_flip other dep ∙ differs) i then Some (row_of goal) else find test rest)
        ∙ more ∙ (λ i. if sym differs i || is_among bytes_eq dep deps then dep_row k dep else None)
    by None has true same more =
        (λ i. find test (cons_option (option_map row_of (has i)) rest))
        ∙ more ∙ kept (is_among bytes_eq dep deps) none
        ∙ sym (kept (bytes_eq dep other || is_among bytes_eq dep deps) none)
      where
        none : dep_row k dep ≡ None
        none = ap (dep_row k) (bytes_is dep other same) ∙ ap (option_map row_of) has
    by None has false differs more =
        (λ i. find test (cons_option (option_map row_of (has i)) rest))
        ∙ more ∙ (λ i. if sym differs i || is_among bytes_eq dep deps then dep_row k dep else None)

-- the current goal of a deployment that is recorded
pub goal_is : (told : Told) (it : Recorded) → StandsIn told it → (dep : List ℕ)
    → is_among bytes_eq dep told.known.deployments ≡ true → goal_of it dep ≡ told.known.goal dep
goal_is told it stands dep listed =
    ap (λ rows. option_map (λ (row : DepRow). row.goal) (find (λ (row : DepRow). bytes_eq row.dep dep) rows))
    stands.deployments
    ∙ ap (option_map (λ (row : DepRow). row.goal)) (found_row told.known dep told.known.deployments)
    ∙ (λ j. option_map (λ (row : DepRow). row.goal) (if listed j then dep_row told.known dep else None))
    ∙ by (told.known.goal dep)
  where
    by : (goal : Option Goal) → option_map (λ (row : DepRow). row.goal)
        (option_map (λ goal. record { dep = dep; goal = goal; shared = told.known.shared dep }) goal) ≡ goal
    by (Some goal) = refl
    by None = refl
