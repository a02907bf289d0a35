-- A task that opens has heard of no machine, and is to ask each that it asks.
use Rattle.std.proofs.Common.{◌≡◌, ◌∙◌, Bool, true, false, Option, Some, None, ap, refl, sym}
use Rattle.std.specs.Prelude.{◌&&◌, ◌||◌, is_some, map, not}
use Rattle.std.specs.List.{list_all}
use Rattle.std.specs.Str.{bytes_eq}
use Rattle.std.proofs.lemmas.Slice.Eq.{bytes_eq-Decides}
use Rattle.std.proofs.lemmas.Bool.{and_from, and_parts, false≢true, or_left, or_right}
use Rattle.bosh_base.specs.declared.entry.TaskOpen.{TaskOpen}
use Rattle.bosh_base.specs.declared.goal.Goal.{Goal}
use Rattle.bosh_base.specs.declared.goal.GoalRow.{GoalRow}
use Rattle.bosh_base.specs.declared.inst.Inst.{Inst}
use Rattle.bosh_base.specs.declared.row.Vm.{Vm}
use Rattle.bosh_base.specs.declared.task.TaskKind.{TaskKind}
use Rattle.bosh_base.specs.declared.task.TaskKind.TheVariants as kinds
use Rattle.bosh_history.specs.Exact.{asks}
use Rattle.bosh_history.specs.Goals.{inst_of, is_in}
use Rattle.bosh_history.specs.Items.{is_to_ping}
use Rattle.bosh_history.specs.Known.{want_in}
use Rattle.bosh_history.specs.Moments.{Moment}
use Rattle.bosh_history.specs.Openings.{MayOpen}
use Rattle.bosh_history.specs.Sound.{has_instances, is_row_of, IsSound}
use Rattle.bosh_history.specs.Tasks.{asks_of, has_machine, is_of_dep, task_opened, to_ping}
use Rattle.bosh_history.specs.Words.{holds, is_among}
use Rattle.bosh_rows.proofs.SameLemmas.{same_inst_decides}
use Rattle.bosh_rows.specs.Same.{same_inst}
use Rattle.bosh_rows.specs.SoundSnapshot.{are_distinct}
use Rattle.laws_facts.proofs.GoalLemmas.{of_dep, of_none, opens_of, OpensOf, sound_of}
use Rattle.laws_facts.specs.Facts.{Holds}
use Rattle.laws_facts.specs.Tasks.{has_to_hear, is_row_heard_of}
use Rattle.laws_heard.proofs.RowLemmas.{lost_heard, none_heard}
use Rattle.laws_items.proofs.ListLemmas.{all_in, among_is, any_in, find_in, in_filtered}
use Rattle.laws_row_facts.specs.Words.{implies}

module _ (m : Moment) (h : Holds m) (o : TaskOpen) (may : MayOpen m.known o) (sound : IsSound m.known o) (i : Inst) where
  -- an instance of its goal is of its deployment
  in_dep : is_in o.goal i ≡ true → is_of_dep o.dep i ≡ true
  in_dep there = by (opens_of m.known o may)
    where
      wanted : (goal : Goal) → o.goal ≡ Some goal → (want : Option GoalRow) → want_in (Some goal) i ≡ want
          → is_some want ≡ true → i.dep ≡ goal.dep
      wanted goal is (Some want) wants some =
          let (isin, one) = find_in (λ want. same_inst i want.inst) want goal.rows wants in
          let whole : has_instances m.known goal ≡ true =
          (and_parts (has_instances m.known goal) _ (sound_of m.known o goal is sound)).0 in
          let rows : list_all (is_row_of m.known goal) goal.rows ≡ true =
          (and_parts (are_distinct same_inst (map inst_of goal.rows)) _ whole).1 in
          ap (λ (x : Inst). x.dep) ((same_inst_decides i want.inst).0 one)
          ∙ (bytes_eq-Decides want.inst.dep goal.dep).0
          (and_parts (bytes_eq want.inst.dep goal.dep) _
          (all_in (is_row_of m.known goal) want goal.rows rows isin)).0
      wanted goal is None wants some = absurd (false≢true some)

      by : OpensOf o → is_of_dep o.dep i ≡ true
      by (of_dep dep goal dep_is goal_is same) =
          (λ j. holds (bytes_eq i.dep) (dep_is j))
          ∙ (bytes_eq-Decides i.dep dep).1
          (wanted goal goal_is (want_in (Some goal) i) refl ((λ j. is_in (sym goal_is j) i) ∙ there) ∙ same)
      by (of_none dep_is goal_is) = absurd (false≢true ((λ j. is_in (sym goal_is j) i) ∙ there))

  asked_of : (kind : TaskKind) → asks kind i ≡ true → is_of_dep o.dep i ≡ true → asks_of kind o.dep i ≡ true
  asked_of kinds.Fix asks of = of
  asked_of (kinds.Resolve named) asks of = asks
  asked_of kind asks of = absurd (false≢true asks)

  -- one with a machine that is not lost is to be asked
  to_ask : has_to_hear (task_opened m.known o) i ≡ true → (it : Vm) → (m.known.row i).vm ≡ Some it
      → (m.known.row i).lost ≡ false → is_to_ping (task_opened m.known o) i ≡ true
  to_ask hears it has found =
      and_from (is_among same_inst i (to_ping m.known o)) true
      (any_in (same_inst i) i (to_ping m.known o)
      (in_filtered (λ i. asks_of o.kind o.dep i && has_machine m.known i) i m.known.instances
      (among_is same_inst (λ a b. (same_inst_decides a b).0) i m.known.instances
      (listed (is_among same_inst i m.known.instances) refl))
      (and_from (asks_of o.kind o.dep i) _ (asked_of o.kind parts.0 (in_dep (and_parts (is_in o.goal i) true parts.1).0))
      (λ j. is_some (has j) && not (found j))))
      ((same_inst_decides i i).1 refl)) refl
    where
      parts : (asks o.kind i ≡ true) × ((is_in o.goal i && true) ≡ true)
      parts = and_parts (asks o.kind i) (is_in o.goal i && true) hears

      listed : (b : Bool) → is_among same_inst i m.known.instances ≡ b → is_among same_inst i m.known.instances ≡ true
      listed true is = is
      listed false is =
          let none : None ≡ Some it = sym (λ j. (h.known.lists.bare i is j).vm) ∙ has in absurd cc

  pub opened_heard : implies (has_to_hear (task_opened m.known o) i)
      (is_to_ping (task_opened m.known o) i || is_row_heard_of m o.task (m.known.row i)) ≡ true
  opened_heard = by (has_to_hear (task_opened m.known o) i) refl
    where
      of : has_to_hear (task_opened m.known o) i ≡ true → (vm : Option Vm) → (m.known.row i).vm ≡ vm → (lost : Bool)
          → (m.known.row i).lost ≡ lost
          → (is_to_ping (task_opened m.known o) i || is_row_heard_of m o.task (m.known.row i)) ≡ true
      of hears None none lost is =
          or_right (is_to_ping (task_opened m.known o) i) _ (none_heard m o.task (m.known.row i) none)
      of hears (Some it) has true lost =
          or_right (is_to_ping (task_opened m.known o) i) _ (lost_heard m o.task (m.known.row i) lost)
      of hears (Some it) has false found =
          or_left (is_to_ping (task_opened m.known o) i) _ (to_ask hears it has found)

      by : (hears : Bool) → has_to_hear (task_opened m.known o) i ≡ hears
          → implies (has_to_hear (task_opened m.known o) i)
          (is_to_ping (task_opened m.known o) i || is_row_heard_of m o.task (m.known.row i)) ≡ true
      by true hears =
          (λ j. implies (hears j)
          (is_to_ping (task_opened m.known o) i || is_row_heard_of m o.task (m.known.row i)))
          ∙ of hears (m.known.row i).vm refl (m.known.row i).lost refl
      by false hears =
          λ j. implies (hears j)
          (is_to_ping (task_opened m.known o) i || is_row_heard_of m o.task (m.known.row i))
