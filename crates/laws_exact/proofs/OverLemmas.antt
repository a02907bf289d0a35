-- Where a task may be reported done, nothing is left to do of its deployment, or of its one instance.
use Rattle.std.proofs.Common.{◌≡◌, ◌∙◌, ℕ, Bool, true, false, ◌&&◌, ◌||◌, not, List, Option, Some, None}
use Rattle.std.proofs.Common.{ap, map, refl, sym}
use Rattle.std.specs.Prelude.{is_some}
use Rattle.std.specs.List.{list_all}
use Rattle.std.specs.Option.{option_eq}
use Rattle.std.specs.Str.{bytes_eq}
use Rattle.std.proofs.lemmas.Bool.{and_from, and_parts, false≢true, or_left, or_right}
use Rattle.std.proofs.lemmas.Slice.Eq.{bytes_eq-Decides}
use Rattle.bosh_base.specs.declared.goal.Goal.{Goal}
use Rattle.bosh_base.specs.declared.goal.GoalRow.{GoalRow}
use Rattle.bosh_base.specs.declared.inst.Inst.{Inst}
use Rattle.bosh_base.specs.declared.row.Row.{Row}
use Rattle.bosh_base.specs.declared.spec.Spec.{Spec}
use Rattle.laws_exact.specs.Premises.{WorksWell}
use Rattle.laws_facts.specs.Tasks.{has_heard, has_to_hear, is_known_of, is_of, is_recorded, is_row_heard_of}
use Rattle.laws_facts.specs.Tasks.{is_through, are_those_of_one, was_lost_early}
use Rattle.laws_row_facts.specs.Words.{where_any}
use Rattle.bosh_history.specs.Exact.{asks, is_spoiled_late}
use Rattle.bosh_history.specs.Goals.{inst_of, is_in, named_instance}
use Rattle.bosh_history.specs.Known.{Task, want_in}
use Rattle.bosh_history.specs.Moments.{Moment}
use Rattle.bosh_history.specs.Notes.{EndsTask}
use Rattle.bosh_history.specs.Items.{is_finished, is_to_go, is_to_ping}
use Rattle.bosh_history.specs.Sound.{has_plan}
use Rattle.bosh_history.specs.Words.{is_among}
use Rattle.bosh_rows.specs.SoundSnapshot.{are_distinct}
use Rattle.bosh_rows.proofs.SameLemmas.{same_inst_decides}
use Rattle.bosh_rows.specs.After.{bare}
use Rattle.bosh_rows.specs.Same.{same_inst, same_spec}
use Rattle.bosh_rows.specs.Standing.{stands}
use Rattle.bosh_rows.specs.Tied.{number_of}
use Rattle.laws_items.proofs.ListLemmas.{all_in, among_is, any_in, find_in}
use Rattle.laws_items.specs.Lists.{IsIn}
use Rattle.laws_exact.proofs.SettledLemmas.{IsOneOver, IsOver, IsSettled}
use Rattle.laws_exact.proofs.StandLemmas.{Stands, stands_of}
use Rattle.laws_exact.proofs.TaskLemmas.{HasGoal, at_holds, found_first, implied, of_all, of_either, one_of}
use Rattle.laws_exact.specs.Premises.{IsLeftWell, is_whole}

-- ---- all

module _ (m : Moment) (t : ℕ) (facts : IsLeftWell m) (working : WorksWell m t) (may : EndsTask m t) where
  abbrev task : Task
  task = m.known.task t

  module _ (dep : List ℕ) (goal : Goal) (dep_is : (m.known.task t).dep ≡ Some dep)
      (goal_is : (m.known.task t).goal ≡ Some goal) where
    current : m.known.goal dep ≡ Some goal
    current = working.current dep dep_is ∙ goal_is

    rows : (are_distinct same_inst (map inst_of goal.rows) ≡ true)
        × (list_all (λ want. bytes_eq want.inst.dep goal.dep && has_plan goal want) goal.rows ≡ true)
    rows = and_parts (are_distinct same_inst (map inst_of goal.rows)) _ (facts.sound_rows dep goal current)

    found : (want : GoalRow) → IsIn want goal.rows → want_in task.goal want.inst ≡ Some want
    found want is = (λ j. want_in (goal_is j) want.inst) ∙ found_first want goal.rows rows.0 is

    row_stands : (want : GoalRow) → IsIn want goal.rows → is_through task want.inst ≡ true
        → Stands want (m.known.row want.inst)
    row_stands want is through =
        stands_of want (m.known.row want.inst) (facts.rows want.inst).has_machine
        ((λ j. stands (sym (found want is) j) (m.known.row want.inst))
        ∙ implied (is_through task want.inst) _ (working.stands want.inst) through)

    -- ---- what it heard

    not_asked : (i : Inst) → is_to_ping task i ≡ false
    not_asked i = by (is_to_ping task i) refl
      where
        by : (b : Bool) → is_to_ping task i ≡ b → is_to_ping task i ≡ false
        by false is = is
        by true is =
            absurd (false≢true (sym may.all_asked
            ∙ any_in (is_to_ping task) i task.to_ping
            (among_is same_inst (λ a b. (same_inst_decides a b).0) i task.to_ping
            (and_parts (is_among same_inst i task.to_ping) _ is).0) is))

    none_early : (row : Row) (want : GoalRow) → Stands want row → is_row_heard_of m t row ≡ true
        → is_spoiled_late m t row ≡ true
    none_early row want (Stands.away detached it) heard =
        λ j. list_all (λ v. not (m.early t v)) (number_of (it.none j))
    none_early row want (Stands.up running it) heard =
        let known : list_all (is_known_of m t row) (number_of row.vm) ≡ true =
        of_either row.lost _ heard it.unlost in
        let one : is_known_of m t row it.vm.vm ≡ true =
        (and_parts (is_known_of m t row it.vm.vm) true
        ((λ j. list_all (is_known_of m t row) (number_of (sym it.has j))) ∙ known)).0 in
        let late : not (was_lost_early m t it.vm.vm) ≡ true =
        of_first (not (was_lost_early m t it.vm.vm)) row.spec (and_parts (has_heard m t it.vm.vm) _ one).1
        (applied row.spec it.spec) in
        (λ j. list_all (λ v. not (m.early t v)) (number_of (it.has j)))
        ∙ and_from (not (was_lost_early m t it.vm.vm)) true late refl
      where
        applied : (spec : Option Spec) → option_eq same_spec spec (Some want.spec) ≡ true → is_some spec ≡ true
        applied (Some spec) is = refl
        applied None is = absurd (false≢true is)

        of_first : (a : Bool) (spec : Option Spec) → (a || not (is_some spec)) ≡ true → is_some spec ≡ true
            → a ≡ true
        of_first true spec is some = refl
        of_first false (Some spec) is some = is
        of_first false None is some = absurd (false≢true some)

    heard : (want : GoalRow) → IsIn want goal.rows → Stands want (m.known.row want.inst)
        → (not (asks task.kind want.inst) || is_spoiled_late m t (m.known.row want.inst)) ≡ true
    heard want is standing = by (asks task.kind want.inst) refl
      where
        by : (b : Bool) → asks task.kind want.inst ≡ b
            → (not (asks task.kind want.inst) || is_spoiled_late m t (m.known.row want.inst)) ≡ true
        by false no_ = λ j. not (no_ j) || is_spoiled_late m t (m.known.row want.inst)
        by true asked =
            or_right (not (asks task.kind want.inst)) _
            (none_early (m.known.row want.inst) want standing
            (of_either (is_to_ping task want.inst) _
            (implied (has_to_hear task want.inst) _ (working.is_heard_of want.inst)
            (and_from (asks task.kind want.inst) _ asked
            (and_from (is_in task.goal want.inst) _ (ap is_some (found want is)) (ap not may.none_failed))))
            (not_asked want.inst)))

    -- ---- a task of a whole deployment

    module _ (whole : is_whole (m.known.task t).kind ≡ true) where
      through : (i : Inst) → is_in task.goal i ≡ true → is_through task i ≡ true
      through i is = by (is_among same_inst i task.changed) refl
        where
          by : (b : Bool) → is_among same_inst i task.changed ≡ b → is_through task i ≡ true
          by true changes =
              or_left (is_finished (task.upd i)) _
              (all_in (λ i. is_finished (task.upd i)) i task.changed may.all_changed
              (among_is same_inst (λ a b. (same_inst_decides a b).0) i task.changed changes))
          by false stays =
              or_right (is_finished (task.upd i)) _
              (and_from (not (is_some (named_instance task.kind))) _ (of_all task.kind whole)
              (and_from (is_in task.goal i) _ is (ap not stays)))

      goal_stands : (want : GoalRow) → IsIn want goal.rows → Stands want (m.known.row want.inst)
      goal_stands want is = row_stands want is (through want.inst (ap is_some (found want is)))

      none_goes : (i : Inst) → is_to_go task i ≡ true → ⊥
      none_goes i is =
          let (among, stays) = and_parts (is_among same_inst i task.obsolete) (not (task.gone i)) is in
          false≢true (sym (ap not (all_in task.gone i task.obsolete may.all_gone
          (among_is same_inst (λ a b. (same_inst_decides a b).0) i task.obsolete among))) ∙ stays)

      bare_beside : (i : Inst) → i.dep ≡ dep → want_in (Some goal) i ≡ None → m.known.row i ≡ bare i
      bare_beside i here none = by (is_among same_inst i m.known.instances) refl
        where
          by : (b : Bool) → is_among same_inst i m.known.instances ≡ b → m.known.row i ≡ bare i
          by false unlisted = facts.bare i unlisted
          by true listed =
              absurd (none_goes i
              (of_either (is_in task.goal i) (is_to_go task i)
              (implied _ _ (working.has_place i)
              (and_from (not (is_some (named_instance task.kind))) _ (of_all task.kind whole)
              (and_from (is_recorded m.known i) _ listed
              (at_holds (λ dep. is_of dep i) task.dep dep dep_is ((bytes_eq-Decides i.dep dep).1 here)))))
              ((λ j. is_some (want_in (goal_is j) i)) ∙ ap is_some none)))

      settled : (i : Inst) → i.dep ≡ dep → IsSettled m.known goal i
      settled i here = by (want_in (Some goal) i) refl
        where
          by : (o : Option GoalRow) → want_in (Some goal) i ≡ o → IsSettled m.known goal i
          by None none = IsSettled.other none (bare_beside i here none)
          by (Some want) some =
              let it : IsIn want goal.rows × (same_inst i want.inst ≡ true) =
              find_in (λ it. same_inst i it.inst) want goal.rows some in
              IsSettled.wanted want it.0 ((same_inst_decides i want.inst).0 it.1) some (goal_stands want it.0)

      over_of : IsOver m t dep goal
      over_of = record {
        dep_is = dep_is;
        goal_is = goal_is;
        current = current;
        settled = settled;
        stands = goal_stands;
        heard = λ want is. heard want is (goal_stands want is);
        swept = may.no_machine;
      }

    -- ---- a task of one instance

    module _ (i : Inst) (named : named_instance (m.known.task t).kind ≡ Some i)
        (own : where_any (λ i. are_those_of_one i (m.known.task t)) (named_instance (m.known.task t).kind) ≡ true) where
      through_one : is_through task i ≡ true
      through_one =
          or_left (is_finished (task.upd i)) _
          (all_in (λ i. is_finished (task.upd i)) i task.changed may.all_changed (one_of task i named own).1)

      pub one_over : IsOneOver m t i goal
      one_over = by (want_in (Some goal) i) refl
          ((λ j. is_some (want_in (sym goal_is j) i)) ∙ (one_of task i named own).0)
        where
          by : (o : Option GoalRow) → want_in (Some goal) i ≡ o → is_some (want_in (Some goal) i) ≡ true
              → IsOneOver m t i goal
          by None none some = absurd (false≢true (sym (ap is_some none) ∙ some))
          by (Some want) is some =
              let it : IsIn want goal.rows × (same_inst i want.inst ≡ true) =
              find_in (λ it. same_inst i it.inst) want goal.rows is in
              let same : i ≡ want.inst = (same_inst_decides i want.inst).0 it.1 in
              let standing : Stands want (m.known.row want.inst) =
              row_stands want it.0 ((λ j. is_through task (sym same j)) ∙ through_one) in
              record {
                want = want;
                among = it.0;
                same = same;
                found = is;
                stands = standing;
                heard = heard want it.0 standing;
                goal_is = goal_is;
              }

pub over_some : (m : Moment) (t : ℕ) → IsLeftWell m → is_whole (m.known.task t).kind ≡ true → WorksWell m t
    → EndsTask m t → (it : HasGoal (m.known.task t)) → IsOver m t it.dep it.goal
over_some m t facts whole working may it = over_of m t facts working may it.dep it.goal it.dep_is it.goal_is whole

pub one_over_some : (m : Moment) (t : ℕ) (i : Inst) → IsLeftWell m → WorksWell m t → EndsTask m t
    → (it : HasGoal (m.known.task t)) → named_instance (m.known.task t).kind ≡ Some i
    → where_any (λ i. are_those_of_one i (m.known.task t)) (named_instance (m.known.task t).kind) ≡ true
    → IsOneOver m t i it.goal
one_over_some m t i facts working may it named own =
    one_over m t facts working may it.dep it.goal it.dep_is it.goal_is i named own
