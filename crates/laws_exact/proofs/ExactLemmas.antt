-- Where nothing is left to do of a deployment or of an instance it is exact, and so is what a clean-up leaves.
use Rattle.std.proofs.Common.{◌≡◌, ◌∙◌, ℕ, Bool, true, false, ◌&&◌, ◌||◌, not, List, [], ◌∷◌, Some}
use Rattle.std.proofs.Common.{ap, refl, sym}
use Rattle.std.specs.Prelude.{eqb, if◌then◌else◌, is_some}
use Rattle.std.specs.List.{list_all, list_any}
use Rattle.std.proofs.lemmas.Bool.{and_from, and_parts, eq-eqb, false≢true}
use Rattle.bosh_base.specs.declared.goal.Goal.{Goal}
use Rattle.bosh_base.specs.declared.goal.GoalRow.{GoalRow}
use Rattle.bosh_base.specs.declared.inst.Inst.{Inst}
use Rattle.bosh_base.specs.declared.owner.Owner.TheVariants.{Instance}
use Rattle.bosh_base.specs.Cloud.{disks_created, is_disk_there}
use Rattle.laws_effects.specs.Orderly.{is_created}
use Rattle.laws_row_facts.specs.Rows.{RowFacts}
use Rattle.laws_exact.specs.Premises.{WorksWell}
use Rattle.bosh_history.specs.Exact.{asks, has_its_ties, has_no_other_machine, is_put_away, is_spoiled_late}
use Rattle.bosh_history.specs.Goals.{rows_of}
use Rattle.bosh_history.specs.Known.{Task, want_in}
use Rattle.bosh_history.specs.Moments.{Moment}
use Rattle.bosh_history.specs.Notes.{EndsTask}
use Rattle.bosh_history.specs.Words.{holds, is_among}
use Rattle.bosh_rows.specs.Tied.{is_spoiled, is_tied_to, is_tied_to_lost, as_done, vms_of, without_doubt}
use Rattle.laws_rows.proofs.SteadyLemmas.{tied-known}
use Rattle.laws_exact.proofs.DiskLemmas.{disks_accounted, own_disks_accounted}
use Rattle.laws_items.proofs.ListLemmas.{all_from, any_in, is_among_in}
use Rattle.laws_items.specs.Lists.{IsIn}
use Rattle.laws_exact.proofs.MachineLemmas.{machines_belong}
use Rattle.laws_exact.proofs.RowLemmas.{its_machine, lost_alone, machines_up, one_kept, put_away}
use Rattle.laws_exact.proofs.SettledLemmas.{IsOneOver, IsOver, IsSettled}
use Rattle.laws_exact.proofs.StandLemmas.{Stands, no_machines}
use Rattle.laws_exact.proofs.TaskLemmas.{implied, of_either}
use Rattle.laws_exact.proofs.TieLemmas.{ties_kept}
use Rattle.bosh_history.specs.Exact.{are_at_most_one, is_as_wanted, is_exact_clean_up, is_exact_deploy, is_exact_instance}
use Rattle.bosh_history.specs.Known.{dep_named}
use Rattle.bosh_history.specs.Exact.{is_exact_row, is_machine_of, is_of_inst, keeps_disk, leaves_no_disk}
use Rattle.bosh_history.specs.Exact.{is_made_in}
use Rattle.laws_exact.specs.Premises.{IsLeftWell}

-- ---- a row that stands

pub row_exact : (m : Moment) (t : ℕ) (task : Task) (want : GoalRow) → (m.known.row want.inst).inst ≡ want.inst
    → RowFacts m.effects (m.known.row want.inst) → Stands want (m.known.row want.inst)
    → (not (asks task.kind want.inst) || is_spoiled_late m t (m.known.row want.inst)) ≡ true
    → is_exact_row m t task want ≡ true
row_exact m t task want mine facts (Stands.away detached it) late =
    let none : vms_of m.effects (Instance want.inst) ≡ [] =
    no_machines m.effects want.inst (m.known.row want.inst) mine facts it.none it.known it.unlost in
    and_from (are_at_most_one (vms_of m.effects (Instance want.inst))) _ (ap are_at_most_one none)
    ((λ j. is_as_wanted m t task want (detached j) (is_spoiled m.effects (m.known.row want.inst)))
    ∙ (λ j. is_put_away m.effects (m.known.row want.inst) (none j))
    ∙ put_away m.effects want (m.known.row want.inst) mine facts it)
row_exact m t task want mine facts (Stands.up running it) late = by (is_spoiled m.effects (m.known.row want.inst)) refl
  where
    weak : is_spoiled m.effects (m.known.row want.inst) ≡ true
        → is_tied_to_lost m.effects (m.known.row want.inst) ≡ true
    weak spoils =
        (λ j. if (sym it.unlost j) || (sym spoils j) then is_tied_to_lost m.effects (m.known.row want.inst)
        else (is_tied_to m.effects (without_doubt (m.known.row want.inst))
        || is_tied_to m.effects (as_done m.effects (m.known.row want.inst)))) ∙ facts.tied

    by : (b : Bool) → is_spoiled m.effects (m.known.row want.inst) ≡ b → is_exact_row m t task want ≡ true
    by true spoils =
        and_from (are_at_most_one (vms_of m.effects (Instance want.inst))) _
        (lost_alone m.effects want (m.known.row want.inst) mine facts it.vm it.has (weak spoils))
        ((λ j. is_as_wanted m t task want (running j) (spoils j))
        ∙ and_from (keeps_disk m.effects want.inst want.disk (m.known.row want.inst)) _
        (one_kept m.effects want (m.known.row want.inst) mine facts want.disk it.disks) late)
    by false whole =
        let one : vms_of m.effects (Instance want.inst) ≡ it.vm.vm ∷ [] =
        machines_up m.effects want (m.known.row want.inst) mine facts it.vm it.has
        (tied-known m.effects (m.known.row want.inst) facts.tied it.unlost whole it.known) in
        and_from (are_at_most_one (vms_of m.effects (Instance want.inst))) _ (ap are_at_most_one one)
        ((λ j. is_as_wanted m t task want (running j) (whole j))
        ∙ ap (is_machine_of m.effects want (m.known.row want.inst)) one
        ∙ its_machine m.effects want (m.known.row want.inst) mine facts it whole)

-- ---- a whole deployment

pub over_exact : (m : Moment) (t : ℕ) (dep : List ℕ) (goal : Goal) → IsLeftWell m
    → IsOver m t dep goal → is_exact_deploy m t (m.known.task t) ≡ true
over_exact m t dep goal facts over =
    (λ j. has_no_other_machine m.effects (dep_named (over.dep_is j)) (over.goal_is j)
    && (list_all (is_exact_row m t (m.known.task t)) (rows_of (over.goal_is j))
    && (leaves_no_disk m (is_made_in (dep_named (over.dep_is j))) (over.goal_is j)
    && has_its_ties m.known (dep_named (over.dep_is j)) (over.goal_is j))))
    ∙ and_from (has_no_other_machine m.effects dep (Some goal)) _ (machines_belong m facts t dep goal over)
    (and_from (list_all (is_exact_row m t (m.known.task t)) goal.rows) _
    (all_from (is_exact_row m t (m.known.task t)) goal.rows
    (λ want is.
    row_exact m t (m.known.task t) want (facts.own_row want.inst) (facts.rows want.inst) (over.stands want is)
    (over.heard want is)))
    (and_from (leaves_no_disk m (is_made_in dep) (Some goal)) _ (disks_accounted m facts goal dep over.settled)
    (ties_kept m.known dep goal over.current)))

-- ---- one instance

pub one_exact : (m : Moment) (t : ℕ) (i : Inst) (goal : Goal) → IsLeftWell m → IsOneOver m t i goal
    → is_exact_instance m t (m.known.task t) i ≡ true
one_exact m t i goal facts over =
    (λ j. holds (is_exact_row m t (m.known.task t)) (want_in (over.goal_is j) i)
    && leaves_no_disk m (is_of_inst i) (over.goal_is j))
    ∙ and_from (holds (is_exact_row m t (m.known.task t)) (want_in (Some goal) i)) _
    (ap (holds (is_exact_row m t (m.known.task t))) over.found
    ∙ row_exact m t (m.known.task t) over.want (facts.own_row over.want.inst) (facts.rows over.want.inst)
    over.stands over.heard)
    (own_disks_accounted m facts goal i (IsSettled.wanted over.want over.among over.same over.found over.stands))

-- ---- a clean-up

pub clean_exact : (m : Moment) (t : ℕ) → WorksWell m t → EndsTask m t → is_exact_clean_up m (m.known.task t) ≡ true
clean_exact m t working may =
    all_from (λ d. not (is_disk_there m.effects d)) (m.known.task t).disks
    (λ d is.
    (and_parts (is_created (disks_created m.effects) d) _
    (of_either (is_some (m.known.orphan d)) _
    (implied (is_among eqb d (m.known.task t).disks) _ (working.to_delete d)
    (is_among_in eqb d (m.known.task t).disks (eq-eqb d d refl) is))
    (none_in_any (λ d. is_some (m.known.orphan d)) d (m.known.task t).disks may.all_deleted is))).1)
  where
    none_in_any : (p : ℕ → Bool) (d : ℕ) (xs : List ℕ) → list_any p xs ≡ false → IsIn d xs → p d ≡ false
    none_in_any p d xs none is = by (p d) refl
      where
        by : (b : Bool) → p d ≡ b → p d ≡ false
        by false fails = fails
        by true meets = absurd (false≢true (sym none ∙ any_in p d xs is meets))
