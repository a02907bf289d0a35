-- What is read from records that stand for what is told.
use Rattle.std.proofs.Common.{◌≡◌, ◌∙◌, ℕ, ◌+◌, ◌<◌, ◌≤◌, Bool, true, false, ◌&&◌, ◌||◌, List, [], ◌∷◌, Option}
use Rattle.std.proofs.Common.{Some, None, ap, refl, sym, arith}
use Rattle.std.specs.Prelude.{find, is_some, min, if◌then◌else◌}
use Rattle.std.specs.List.{cons_option, filter_map}
use Rattle.std.specs.Option.{option_and_then, option_map, unwrap_or}
use Rattle.std.specs.Str.{bytes_eq}
use Rattle.std.proofs.lemmas.Bool.{false≢true, le-leb, true≢false}
use Rattle.std.proofs.lemmas.Slice.Eq.{bytes_eq-Decides}
use Rattle.bosh_base.specs.declared.goal.Goal.{Goal}
use Rattle.bosh_base.specs.declared.inst.Inst.{Inst}
use Rattle.bosh_base.specs.declared.snapshot.DepRow.{DepRow}
use Rattle.bosh_base.specs.declared.task.TaskRow.{TaskRow}
use Rattle.bosh_history.specs.Known.{Known}
use Rattle.bosh_history.specs.Moments.{Moment}
use Rattle.bosh_history.specs.Snapshots.{dep_row, task_row}
use Rattle.bosh_history.specs.Words.{is_among}
use Rattle.bosh_records.specs.Arrivals.{Arrivals}
use Rattle.bosh_records.specs.Readers.{dep_of_task, deployment_of, goal_of, row_at}
use Rattle.bosh_records.specs.declared.records.Records.{Records}
use Rattle.bosh_rows.specs.After.{bare}
use Rattle.bosh_rows.specs.Same.{same_inst}
use Rattle.bosh_rows.specs.Standing.{same_truth}
use Rattle.laws_facts.specs.KnownFacts.{KnownFacts}
use Rattle.laws_stands.proofs.DeploymentLemmas.{found_row}
use Rattle.laws_stands.specs.Stands.{Stands}
use Rattle.laws_choices.proofs.SameCallLemmas.{told_at}

-- what is recorded of a deployment
pub deployment_is : (m : Moment) (snapped : ℕ) (records : Records) → KnownFacts m
    → Stands (told_at m snapped) records → (dep : List ℕ)
    → deployment_of records dep ≡ dep_row m.known dep
deployment_is m snapped records facts stands dep =
    ap (find (λ (row : DepRow). bytes_eq row.dep dep)) stands.deployments
    ∙ found_row m.known dep m.known.deployments
    ∙ by (is_among bytes_eq dep m.known.deployments) (m.known.goal dep) refl (facts.lists.deployment_listed dep)
  where
    by : (b : Bool) (goal : Option Goal) → m.known.goal dep ≡ goal → same_truth b (is_some (m.known.goal dep))
        ≡ true → (if b then dep_row m.known dep else None) ≡ dep_row m.known dep
    by true goal is listed = refl
    by false None is listed =
        sym (ap (option_map (λ goal. record { dep = dep; goal = goal; shared = m.known.shared dep })) is)
    by false (Some goal) is listed = absurd (false≢true (sym (ap (λ o. same_truth false (is_some o)) is) ∙ listed))

pub goal_is_at : (m : Moment) (snapped : ℕ) (records : Records) → KnownFacts m → Stands (told_at m snapped) records
    → (dep : List ℕ)
    → goal_of records dep ≡ m.known.goal dep
goal_is_at m snapped records facts stands dep = ap (option_map (λ (row : DepRow). row.goal))
    (deployment_is m snapped records facts stands dep) ∙ by (m.known.goal dep)
  where
    by : (goal : Option Goal) → option_map (λ (row : DepRow). row.goal)
        (option_map (λ goal. record { dep = dep; goal = goal; shared = m.known.shared dep }) goal) ≡ goal
    by (Some goal) = refl
    by None = refl

-- the deployment of a task
pub dep_is : (m : Moment) (snapped : ℕ) (records : Records) → Stands (told_at m snapped) records → (t : ℕ) → 1 ≤ t
    → t ≤ m.known.tasks
    → dep_of_task records t ≡ (m.known.task t).dep
dep_is m snapped records stands t low high =
    ap (option_and_then (λ (row : TaskRow). row.dep))
    (stands.tasks t ∙ (λ i. if le-leb 1 t low i && le-leb t m.known.tasks high i then Some (task_row m.known t)
    else None))

-- what is recorded of an instance, or nothing
pub row_is : (m : Moment) (snapped : ℕ) (records : Records) → KnownFacts m → Stands (told_at m snapped) records
    → (i : Inst)
    → unwrap_or (row_at records i) (bare i) ≡ m.known.row i
row_is m snapped records facts stands i = ap (λ o. unwrap_or o (bare i)) (stands.rows i)
    ∙ by (is_among same_inst i m.known.instances) refl
  where
    by : (b : Bool) → is_among same_inst i m.known.instances ≡ b
        → unwrap_or (if b then Some (m.known.row i) else None) (bare i) ≡ m.known.row i
    by true is = refl
    by false out = sym (facts.lists.bare i out)

-- the number of the next call
pub number_is : (m : Moment) (snapped : ℕ) (records : Records) → Stands (told_at m snapped) records
    → m.known.last_call < 18446744073709551615
    → min (records.last_call + 1) 18446744073709551615 ≡ m.known.last_call + 1
number_is m snapped records stands low = ap (λ n. min (n + 1) 18446744073709551615)
    (ap (λ (it : Arrivals). it.last_call) stands.uploads) ∙ within m.known.last_call low
  where
    within : (n : ℕ) → n < 18446744073709551615 → min (n + 1) 18446744073709551615 ≡ n + 1
    within n low = omega arith
