-- How the rows of a deployment add up.
use Rattle.std.proofs.Common.{◌≡◌, ◌∙◌, ℕ, ◌<◌, ◌≤◌, true, false, true≢false, List, [], ◌∷◌, ◌++◌, Result, Ok, Err, arith, ap, subst, sym, sum_by}
use Rattle.bosh_base.specs.declared.goal.GoalRow.{GoalRow}
use Rattle.bosh_base.specs.declared.spec.Placed.{Placed}
use Rattle.bosh_files.specs.Budget.{Counts, Takes, is_kept}
use Rattle.bosh_files.specs.Files.{bytes_of}
use Rattle.bosh_files.specs.declared.budget.Budget.{Budget}
use Rattle.bosh_files.specs.declared.budget.Budget.TheVariants.{Left, Spent}
use Rattle.bosh_instances.specs.Rows.{Scene, goal_row, row_bytes, row_with}
use Rattle.bosh_offers.specs.Sited.{Sited}
use Rattle.bosh_manifest_names.specs.declared.fault.GoalFault.{GoalFault}
use Rattle.bosh_manifest_names.specs.declared.fault.GoalFault.TheVariants.{Memory}

-- the row of an instance is taken where its files are
pub row-taken : (scene : Scene) (group : Sited) (index : ℕ) (answer : Result (List Placed) GoalFault) (before later : Budget) (placed : List Placed) (old new : List GoalRow)
    → Takes {T = Unit {0}} Memory bytes_of (Ok tt) before later [] placed answer
    → (is_kept later ≡ true → new ≡ old ++ goal_row scene group index placed ∷ [])
    → Takes {T = Unit {0}} Memory row_bytes (Ok tt) before later old new (row_with scene group index answer)
row-taken scene group index (Err fault) before later placed old new taken grows = absurd taken
row-taken scene group index (Ok files) before later placed old new taken grows = record {
  counted = λ count h. subst (Counts later) (omega arith) (taken.counted count h);
  kept = λ e. grows e ∙ ap (λ (ps : List Placed). old ++ goal_row scene group index ps ∷ []) (taken.kept e);
}

within-limit : (budget : Budget) (all : List GoalRow) → Counts budget (sum_by row_bytes all) → is_kept budget ≡ true → sum_by row_bytes all ≤ 1048576
within-limit (Left bytes) all h k = omega (arith, h)
within-limit Spent all h k = absurd (true≢false (sym k))

past-limit : (budget : Budget) (all : List GoalRow) → Counts budget (sum_by row_bytes all) → is_kept budget ≡ false → 1048576 < sum_by row_bytes all
past-limit (Left bytes) all h k = absurd (true≢false k)
past-limit Spent all h k = h
