-- A task that works on a deployment settles it by its current goal.
use Rattle.std.proofs.Common.{◌≡◌, ◌∙◌, ℕ, true, false, ◌&&◌, List, map, Some, ap, subst, sym}
use Rattle.std.specs.Prelude.{is_some}
use Rattle.std.specs.List.{list_all}
use Rattle.std.specs.Str.{bytes_eq}
use Rattle.std.proofs.lemmas.Bool.{and_parts, true≢false}
use Rattle.bosh_base.specs.declared.goal.Goal.{Goal}
use Rattle.bosh_history.specs.Deletions.{is_clean_up}
use Rattle.bosh_history.specs.Known.{Known}
use Rattle.bosh_history.specs.Moments.{Moment}
use Rattle.bosh_history.specs.Goals.{inst_of}
use Rattle.bosh_history.specs.Sound.{has_plan}
use Rattle.bosh_history.specs.Words.{is_among}
use Rattle.bosh_rows.specs.Same.{same_inst}
use Rattle.bosh_rows.specs.SoundSnapshot.{are_distinct}
use Rattle.laws_choices.proofs.SameCallLemmas.{told_at}
use Rattle.laws_facts.specs.KnownFacts.{KnownFacts}
use Rattle.laws_facts.specs.Owners.{works}
use Rattle.laws_facts.specs.TaskFacts.{WorkFacts}
use Rattle.laws_items.proofs.ItemFrames.{truth_from}
use Rattle.laws_items.proofs.ListedLemmas.{Lists, disks, instances, listed, works_at}
use Rattle.laws_stands_opened.proofs.WantLemmas.{none_wanted}
use Rattle.laws_stands_done.specs.Settles.{Settles}

module _ (m : Moment) (snapped t : ℕ) (facts : KnownFacts m) (working : works m t ≡ true) where
  abbrev k : Known
  k = m.known

  -- the deployment and the goal of the task
  pub record SettlesOne : Type 0 where
    pub dep : List ℕ
    pub goal : Goal
    pub settles : Settles (told_at m snapped) t dep goal

  own_wants : (dep : List ℕ) (goal : Goal) → k.goal dep ≡ Some goal
      → list_all (λ want. bytes_eq want.inst.dep dep && has_plan goal want) goal.rows ≡ true
  own_wants dep goal current =
      let (apart, own) =
      and_parts (are_distinct same_inst (map inst_of goal.rows)) _ (facts.goals dep goal current).sound_rows in
      subst (λ dep. list_all (λ want. bytes_eq want.inst.dep dep && has_plan goal want) goal.rows ≡ true)
      (facts.goals dep goal current).of_dep own

  pub settles_one : is_clean_up (k.task t).kind ≡ false → SettlesOne
  settles_one deploys = by (listed (k.task t) work.lists_well)
    where
      work : WorkFacts m t
      work = (facts.tasks t).working working

      by : Lists (k.task t) → SettlesOne
      by (disks it) = absurd (true≢false (sym it.is_clean_up ∙ deploys))
      by (instances it) = record {
        dep = it.dep;
        goal = it.goal;
        settles = record {
          low = (works_at m t working).low;
          high = (works_at m t working).high;
          dep_is = it.dep_is;
          goal_is = it.goal_is;
          current = current;
          listed = truth_from (is_among bytes_eq it.dep k.deployments) (is_some (k.goal it.dep))
              (facts.lists.deployment_listed it.dep) (ap is_some current);
          apart = facts.lists.deployments_apart;
          wants_own = λ i other. none_wanted it.dep (has_plan it.goal) it.goal.rows i
              (own_wants it.dep it.goal current) other;
        };
      }
        where
          current : k.goal it.dep ≡ Some it.goal
          current = work.current it.dep it.dep_is ∙ it.goal_is
