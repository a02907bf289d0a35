-- There is room for what a task brings that opens.
use Rattle.std.proofs.Common.{◌≡◌, ◌∙◌, Bool, true, false, ◌||◌, List, [], ◌∷◌, Option, Some, None, ap, refl}
use Rattle.std.specs.Prelude.{fold, is_some}
use Rattle.std.specs.BTreeMap.{is_at}
use Rattle.std.specs.Ordering.{nat_cmp}
use Rattle.std.proofs.lemmas.Bool.{eq-eqb, false≢true}
use Rattle.bosh_base.specs.Inst.{inst_cmp}
use Rattle.bosh_base.specs.declared.entry.TaskOpen.{TaskOpen}
use Rattle.bosh_base.specs.declared.goal.Goal.{Goal}
use Rattle.bosh_base.specs.declared.goal.GoalRow.{GoalRow}
use Rattle.bosh_base.specs.declared.inst.Inst.{Inst}
use Rattle.bosh_history.specs.Words.{is_among}
use Rattle.bosh_plan.specs.Roomy.{roomy_for_deployment, roomy_for_task, want_room}
use Rattle.bosh_records.specs.Changes.{since_cmp}
use Rattle.bosh_records.specs.Instances.{unknown}
use Rattle.bosh_records.specs.Recorded.{Recorded}
use Rattle.bosh_records.specs.Table.{found, with_room}
use Rattle.bosh_records.specs.declared.instances.Instance.{Instance}
use Rattle.bosh_records.specs.declared.records.Since.TheVariants as sinces
use Rattle.bosh_rows.proofs.SameLemmas.{itself}
use Rattle.bosh_rows.specs.Same.{same_inst}
use Rattle.laws_stands_on.proofs.KeyLemmas.{inst_at, inst_keys}
use Rattle.laws_stands_on.proofs.TableLemmas.{found_roomy, nat_at, nat_keys, there_roomy}
use Rattle.laws_stands_fits.proofs.SinceLemmas.{since_keys, since_own}
use Rattle.laws_stands_opened.proofs.WantLemmas.{insts}

-- a place stays
stays : (rows : List GoalRow) (es : List (Inst × Instance)) (i : Inst) → is_some (found inst_cmp es i) ≡ true
    → is_some (found inst_cmp (fold want_room es rows) i) ≡ true
stays [] es i there = there
stays (want ∷ rows) es i there =
    stays rows (with_room inst_cmp want.inst unknown es) i
    (found_roomy inst_cmp inst_keys want.inst unknown es i there)

-- each of a goal has one
wanted_there : (rows : List GoalRow) (es : List (Inst × Instance)) (i : Inst)
    → is_among same_inst i (insts rows) ≡ true → is_some (found inst_cmp (fold want_room es rows) i) ≡ true
wanted_there [] es i is = absurd (false≢true is)
wanted_there (want ∷ rows) es i is =
    by (same_inst i want.inst) refl is (wanted_there rows (with_room inst_cmp want.inst unknown es) i)
  where
    by : (b : Bool) → same_inst i want.inst ≡ b → (b || is_among same_inst i (insts rows)) ≡ true
        → (is_among same_inst i (insts rows) ≡ true
        → is_some (found inst_cmp (fold want_room (with_room inst_cmp want.inst unknown es) rows) i) ≡ true)
        → is_some (found inst_cmp (fold want_room (with_room inst_cmp want.inst unknown es) rows) i) ≡ true
    by true same is more =
        stays rows (with_room inst_cmp want.inst unknown es) i
        (ap (λ key. is_some (found inst_cmp (with_room inst_cmp want.inst unknown es) key))
        (inst_keys i want.inst (inst_at i want.inst ∙ same))
        ∙ there_roomy inst_cmp inst_keys want.inst unknown es (inst_at want.inst want.inst ∙ itself want.inst))
    by false other is more = more is

module _ (o : TaskOpen) (it : Recorded) where
  -- with a place for the task and its work
  abbrev placed : Recorded
  placed = record it {
    tasks = with_room nat_cmp o.task None it.tasks;
    works = with_room nat_cmp o.task None it.works;
  }

  own : is_at (nat_cmp o.task) o.task ≡ true
  own = nat_at o.task o.task ∙ eq-eqb o.task o.task refl

  pub task_there : is_some (found nat_cmp (roomy_for_task o it).tasks o.task) ≡ true
  task_there = by o.goal
    where
      by : (goal : Option Goal) → is_some (found nat_cmp (roomy_for_deployment o.task goal placed).tasks o.task) ≡ true
      by (Some goal) = there_roomy nat_cmp nat_keys o.task None it.tasks own
      by None = there_roomy nat_cmp nat_keys o.task None it.tasks own

  pub work_there : is_some (found nat_cmp (roomy_for_task o it).works o.task) ≡ true
  work_there = by o.goal
    where
      by : (goal : Option Goal) → is_some (found nat_cmp (roomy_for_deployment o.task goal placed).works o.task) ≡ true
      by (Some goal) = there_roomy nat_cmp nat_keys o.task None it.works own
      by None = there_roomy nat_cmp nat_keys o.task None it.works own

  pub deployment_there : (goal : Goal) → o.goal ≡ Some goal
      → is_some (found since_cmp (roomy_for_task o it).deployments (sinces.Task o.task)) ≡ true
  deployment_there goal is =
      ap (λ goal. is_some (found since_cmp (roomy_for_deployment o.task goal placed).deployments (sinces.Task o.task))) is
      ∙ there_roomy since_cmp since_keys (sinces.Task o.task) None it.deployments (since_own (sinces.Task o.task))

  pub wants_there : (goal : Goal) → o.goal ≡ Some goal → (i : Inst) → is_among same_inst i (insts goal.rows) ≡ true
      → is_some (found inst_cmp (roomy_for_task o it).instances i) ≡ true
  wants_there goal is i among =
      ap (λ goal. is_some (found inst_cmp (roomy_for_deployment o.task goal placed).instances i)) is
      ∙ wanted_there goal.rows it.instances i among
