-- An instance that is through stands.
use Rattle.std.proofs.Common.{◌≡◌, ◌∙◌, ℕ, ◌+◌, Bool, true, false, ◌&&◌, ◌||◌, not, Option, Some, None, List}
use Rattle.std.proofs.Common.{ap, refl, sym, inl, inr, arith, filter, map}
use Rattle.std.specs.Prelude.{◌⊎◌, ◌≢◌, ◌==◌, eqb, find, if◌then◌else◌, is_some}
use Rattle.std.proofs.lemmas.Bool.{and_parts, eqb-true, false≢true}
use Rattle.std.proofs.lemmas.Bool.Decides.{eqb_tells}
use Rattle.bosh_base.specs.declared.entry.Begin.{Begin}
use Rattle.bosh_base.specs.declared.entry.End.{End}
use Rattle.bosh_base.specs.declared.entry.Entry.{Entry}
use Rattle.bosh_base.specs.declared.entry.Entry.TheVariants as entries
use Rattle.bosh_base.specs.declared.entry.TaskOpen.{TaskOpen}
use Rattle.bosh_base.specs.declared.entry.Update.{Update}
use Rattle.bosh_base.specs.declared.goal.Goal.{Goal}
use Rattle.bosh_base.specs.declared.goal.GoalRow.{GoalRow}
use Rattle.bosh_base.specs.declared.inst.Inst.{Inst}
use Rattle.bosh_base.specs.declared.moves.Move.{Move}
use Rattle.bosh_base.specs.declared.moves.Move.TheVariants as moves
use Rattle.bosh_base.specs.declared.owner.Owner.{Owner}
use Rattle.bosh_base.specs.declared.owner.Owner.TheVariants.{Instance, Compile, Disk}
use Rattle.bosh_base.specs.declared.task.TaskKind.{TaskKind}
use Rattle.bosh_base.specs.declared.task.TaskKind.TheVariants as kinds
use Rattle.bosh_history.specs.Calls.{begins}
use Rattle.bosh_history.specs.Goals.{does_not_stand, inst_of, instances_of, is_in, named_instance, rows_of, to_change}
use Rattle.bosh_history.specs.Items.{is_finished, is_item, is_to_go}
use Rattle.bosh_history.specs.Known.{Known, Task, want_in}
use Rattle.bosh_history.specs.Learn.{learn}
use Rattle.bosh_history.specs.Moments.{Moment, OpenCall, later, noting}
use Rattle.bosh_history.specs.Notes.{EndsCall, EndsUpdate, MayNote, Outside}
use Rattle.bosh_history.specs.Openings.{MayOpen, OpensBy, OpensDisks, OpensFor}
use Rattle.bosh_history.specs.Permitted.{IsPermitted}
use Rattle.bosh_history.specs.Recovered.{may_follow}
use Rattle.bosh_history.specs.Steps.{want_of}
use Rattle.bosh_history.specs.Tasks.{task_opened}
use Rattle.bosh_history.specs.Updates.{update_at, update_done}
use Rattle.bosh_history.specs.Words.{at, is_among}
use Rattle.bosh_roll.specs.declared.upd.Upd.TheVariants.{Finished}
use Rattle.bosh_rows.proofs.SameLemmas.{same_inst_decides}
use Rattle.bosh_rows.specs.After.{begun_row, updated_row}
use Rattle.bosh_rows.specs.NextStep.{next_step}
use Rattle.bosh_rows.specs.Same.{same_inst}
use Rattle.bosh_rows.specs.Standing.{stands}
use Rattle.laws_facts.proofs.CurrentLemmas.{done_works, none_works, worked}
use Rattle.laws_facts.proofs.DepLemmas.{dep_updated}
use Rattle.laws_facts.proofs.LockLemmas.{is_opening, note_stays}
use Rattle.laws_facts.proofs.WorkLemmas.{begun_works, opens_next}
use Rattle.laws_facts.specs.Facts.{Holds}
use Rattle.laws_facts.specs.Owners.{works}
use Rattle.laws_facts.specs.Tasks.{is_through, stands_where_through}
use Rattle.laws_items.proofs.AskedLemmas.{in_goal}
use Rattle.laws_items.proofs.ListLemmas.{find_in, in_filtered, in_mapped, is_among_in}
use Rattle.laws_items.proofs.MarkLemmas.{mark_note}
use Rattle.laws_items.proofs.RowFrames.{ended_row, row_itself, row_note}
use Rattle.laws_items.specs.Lists.{IsIn}
use Rattle.laws_row_facts.specs.Words.{implies}
use Rattle.laws_rows.proofs.StandLemmas.{stands_done}
use Rattle.laws_rows.specs.SoundDisks.{are_distinct, has_one_active}
use Rattle.laws_standing.proofs.ThroughLemmas.{changed_in, gone_out, through_rests}
use Rattle.laws_standing.specs.Standing.{StandWhereThrough}
use Rattle.laws_tasks.proofs.TaskFrames.{OpenedAlike, opened_stays, same_updates}

-- ---- one instance of one task

-- where its update is as far, and its row is the same where it was through
standing_from : (old new : Known) (t : ℕ) (i : Inst) → OpenedAlike (old.task t) (new.task t)
    → is_finished ((new.task t).upd i) ≡ is_finished ((old.task t).upd i)
    → (is_through (old.task t) i ≡ true → new.row i ≡ old.row i)
    → stands_where_through old (old.task t) i ≡ true → stands_where_through new (new.task t) i ≡ true
standing_from old new t i alike finished row was = by (is_through (new.task t) i) refl
  where
    same : is_through (new.task t) i ≡ is_through (old.task t) i
    same =
        λ j. finished j
        || (not (is_some (named_instance (alike.kind j)))
        && (is_in (alike.goal j) i && not (is_among same_inst i (alike.changed j))))

    by : (b : Bool) → is_through (new.task t) i ≡ b → stands_where_through new (new.task t) i ≡ true
    by false rests_not = λ j. implies (rests_not j) (stands (want_in (new.task t).goal i) (new.row i))
    by true is =
        let before : is_through (old.task t) i ≡ true = sym same ∙ is in
        (λ j. implies (is j) (stands (want_in (alike.goal j) i) (row before j)))
        ∙ sym (λ j. implies (before j) (stands (want_in (old.task t).goal i) (old.row i))) ∙ was

implied_if : (a b : Bool) → b ≡ true → implies a b ≡ true
implied_if true b is = is
implied_if false b is = refl

-- ---- entries

module _ (outside : Outside) (m : Moment) (h : Holds m) (t : ℕ) (working : works m t ≡ true) (i : Inst) where
  was : stands_where_through m.known (m.known.task t) i ≡ true
  was = (h.outcomes t working).stands i

  -- one that is through is no item
  rests : is_through (m.known.task t) i ≡ true → (u : ℕ) → works m u ≡ true → is_item m.known u (Instance i) ≡ true → ⊥
  rests through u also item = through_rests m h.known t working i through u also item

  -- an entry but the word that an update is done
  stands_kept : (e : Entry) → MayNote outside m e → is_opening e ≡ false
      → is_finished (((learn m.known e).task t).upd i) ≡ is_finished ((m.known.task t).upd i)
      → (is_through (m.known.task t) i ≡ true → (learn m.known e).row i ≡ m.known.row i)
      → stands_where_through (learn m.known e) ((learn m.known e).task t) i ≡ true
  stands_kept e may none finished row =
      standing_from m.known (learn m.known e) t i (opened_stays outside m e t may none) finished row was

  begun_stands : (b : Begin) → may_follow m (entries.Begin b) ≡ true → MayNote outside m (entries.Begin b)
      → stands_where_through (learn m.known (entries.Begin b)) ((learn m.known (entries.Begin b)).task t) i ≡ true
  begun_stands b follows may =
      stands_kept (entries.Begin b) may refl
      (λ j. is_finished ((same_updates outside m (entries.Begin b) t may refl).upd j i))
      (λ through. by through b.owner refl)
    where
      by : is_through (m.known.task t) i ≡ true → (owner : Owner) → b.owner ≡ owner
          → (learn m.known (entries.Begin b)).row i ≡ m.known.row i
      by through (Instance k) own = here (same_inst k i) refl
        where
          here : (c : Bool) → same_inst k i ≡ c → (learn m.known (entries.Begin b)).row i ≡ m.known.row i
          here true same =
              let mine : b.owner ≡ Instance i = own ∙ ap Instance ((same_inst_decides k i).0 same) in
              absurd
              (rests through b.task (begun_works m b follows may)
              (sym (λ j. is_item m.known b.task (mine j)) ∙ may.is_item))
          here false other =
              (λ j. (begins b (own j) m.known).row i)
              ∙ (λ j. if other j then begun_row b.n b.call (m.known.row k) else m.known.row i)
      by through (Compile task s) own = λ j. (begins b (own j) m.known).row i
      by through (Disk d) own = λ j. (begins b (own j) m.known).row i

  ended_stands : (e : End) → EndsCall e (m.calls e.n)
      → stands_where_through (learn m.known (entries.End e)) ((learn m.known (entries.End e)).task t) i ≡ true
  ended_stands e may =
      stands_kept (entries.End e) may refl
      (λ j. is_finished ((same_updates outside m (entries.End e) t may refl).upd j i))
      (λ through. ended_row e.answer (m.known.begun e.n) m.known i (λ b known own. by through b known own
      (m.calls e.n) refl may))
    where
      by : is_through (m.known.task t) i ≡ true → (b : Begin) → m.known.begun e.n ≡ Some b → b.owner ≡ Instance i
          → (that : Option OpenCall) → m.calls e.n ≡ that → EndsCall e that → ⊥
      by through b known own (Some that) open_now ends =
          let begun : m.known.begun e.n ≡ Some that.begin = (h.known.calls e.n that open_now).begun in
          let same : that.begin ≡ b = cc in
          let mine : that.begin.owner ≡ Instance i = ap (λ (x : Begin). x.owner) same ∙ own in
          rests through that.begin.task (h.known.calls e.n that open_now).works
          (sym (λ j. is_item m.known that.begin.task (mine j))
          ∙ (and_parts (is_item m.known that.begin.task that.begin.owner) _ (h.known.calls e.n that open_now).of_item).0)
      by through b known own None open_now ends = ends

  gone_stands : (u : Update) → may_follow m (entries.Gone u) ≡ true → MayNote outside m (entries.Gone u)
      → stands_where_through (learn m.known (entries.Gone u)) ((learn m.known (entries.Gone u)).task t) i ≡ true
  gone_stands u follows may =
      stands_kept (entries.Gone u) may refl
      (λ j. is_finished ((same_updates outside m (entries.Gone u) t may refl).upd j i))
      (λ through. by through (same_inst u.inst i) refl)
    where
      by : is_through (m.known.task t) i ≡ true → (c : Bool) → same_inst u.inst i ≡ c
          → (learn m.known (entries.Gone u)).row i ≡ m.known.row i
      by through true same =
          absurd
          (rests through u.task (done_works m u.task follows may.is_open)
          (sym (λ j. is_item m.known u.task (Instance ((same_inst_decides u.inst i).0 same j))) ∙ may.is_item))
      by through false other =
          row_note outside m (entries.Gone u) i may refl
          (λ same. let one : u.inst ≡ i = cc in false≢true (sym other ∙ (same_inst_decides u.inst i).1 one))

  -- ---- an update is done

  module _ (u : Update) (follows : may_follow m (entries.UpdDone u) ≡ true) (may : EndsUpdate m u) where
    abbrev new : Known
    new = learn m.known (entries.UpdDone u)

    -- of another instance, or in another task
    done_other : is_finished ((new.task t).upd i) ≡ is_finished ((m.known.task t).upd i)
        → (is_through (m.known.task t) i ≡ true → new.row i ≡ m.known.row i)
        → stands_where_through new (new.task t) i ≡ true
    done_other finished row = stands_kept (entries.UpdDone u) may refl finished row

    -- of this one: nothing is left to do for it
    done_own : u.task ≡ t → u.inst ≡ i → stands_where_through new (new.task t) i ≡ true
    done_own task inst =
        implied_if (is_through (new.task t) i) (stands (want_in (new.task t).goal i) (new.row i))
        ((λ j. stands (want_in (alike.goal j) i) (new.row i)) ∙ by (want_in (m.known.task t).goal i) refl there)
      where
        alike : OpenedAlike (m.known.task t) (new.task t)
        alike = opened_stays outside m (entries.UpdDone u) t may refl

        changes : is_among same_inst i (m.known.task t).changed ≡ true
        changes =
            sym (λ j. is_among same_inst (inst j) (m.known.task (task j)).changed)
            ∙ (and_parts (is_among same_inst u.inst (m.known.task u.task).changed) _ may.is_changed).0

        there : is_in (m.known.task t).goal i ≡ true
        there = changed_in m h.known t working i changes

        stays : is_to_go (m.known.task t) i ≡ false
        stays = tells (is_to_go (m.known.task t) i) refl
          where
            tells : (b : Bool) → is_to_go (m.known.task t) i ≡ b → b ≡ false
            tells false is = refl
            tells true is =
                absurd
                (gone_out m h.known t working i
                (and_parts (is_among same_inst i (m.known.task t).obsolete) (not ((m.known.task t).gone i)) is).0 there)

        by : (want : Option GoalRow) → want_in (m.known.task t).goal i ≡ want → is_some want ≡ true
            → stands (want_in (m.known.task t).goal i) (new.row i) ≡ true
        by (Some want) wants some =
            (λ j. stands (wants j) (row_now j))
            ∙ stands_done want (m.known.row i)
            (and_parts (are_distinct (m.known.row i).disks) (has_one_active (m.known.row i).disks)
            (h.rows i).sound_disks).1 no_step
          where
            row_now : new.row i ≡ updated_row want (m.known.row i)
            row_now =
                (λ j. (update_done (want_in (m.known.task (task j)).goal (inst j)) (inst j) m.known).row i)
                ∙ (λ j. (update_done (wants j) i m.known).row i)
                ∙ row_itself i (updated_row want (m.known.row i)) m.known.row

            no_step : next_step (Some want) (m.known.row i) ≡ None
            no_step =
                sym ((λ j. next_step (want_of (m.known.task (task j)) (inst j)) (m.known.row (inst j)))
                ∙ (λ j. next_step (if stays j then None else want_in (m.known.task t).goal i) (m.known.row i))
                ∙ (λ j. next_step (wants j) (m.known.row i)))
                ∙ may.no_step
        by None wants some = absurd (false≢true some)

    apart_task : (u.task == t) ≡ false → is_finished ((new.task t).upd i) ≡ is_finished ((m.known.task t).upd i)
    apart_task other =
        (λ j. is_finished
        ((at eqb u.task (update_at Finished u.inst (same j u.task)) (same j) t).upd i))
        ∙ (λ j. is_finished
        ((if other j then update_at Finished u.inst (m.known.task u.task) else m.known.task t).upd i))
      where
        same : (update_done (want_in (m.known.task u.task).goal u.inst) u.inst m.known).task ≡ m.known.task
        same = dep_updated (want_in (m.known.task u.task).goal u.inst) u.inst m.known

    done_stands : stands_where_through new (new.task t) i ≡ true
    done_stands = by (same_inst u.inst i) refl (eqb u.task t) refl
      where
        by : (c : Bool) → same_inst u.inst i ≡ c → (d : Bool) → eqb u.task t ≡ d
            → stands_where_through new (new.task t) i ≡ true
        by true same true task = done_own (eqb-true u.task t task) ((same_inst_decides u.inst i).0 same)
        by true same false task =
            done_other (apart_task task)
            (λ through. absurd
            (rests through u.task (done_works m u.task follows may.is_open)
            (sym (λ j. is_item m.known u.task (Instance ((same_inst_decides u.inst i).0 same j))) ∙ may.is_item)))
        by false other d task =
            done_other (mark_note outside m (entries.UpdDone u) (Instance i) t may refl apart).finished
            (λ through. row_note outside m (entries.UpdDone u) i may refl apart)
          where
            apart : Instance u.inst ≢ Instance i
            apart same =
                let one : u.inst ≡ i = cc in false≢true (sym other ∙ (same_inst_decides u.inst i).1 one)

-- ---- a task opens

module _ (k : Known) (o : TaskOpen) (i : Inst) where
  -- a row that does not change stands
  unchanged : (rows : List GoalRow) (want : GoalRow) → find (λ it. same_inst i it.inst) rows ≡ Some want
      → not (is_among same_inst i (map inst_of (filter (does_not_stand k) rows))) ≡ true
      → stands (Some want) (k.row i) ≡ true
  unchanged rows want found none = by (does_not_stand k want) refl
    where
      it : IsIn want rows × (same_inst i want.inst ≡ true)
      it = find_in (λ it. same_inst i it.inst) want rows found

      one : i ≡ want.inst
      one = (same_inst_decides i want.inst).0 it.1

      double : (b : Bool) → not b ≡ false → b ≡ true
      double true is = refl
      double false is = absurd (false≢true (sym is))

      by : (b : Bool) → does_not_stand k want ≡ b → stands (Some want) (k.row i) ≡ true
      by true falls =
          absurd
          (false≢true
          (sym (ap not
          ((λ j. is_among same_inst (one j) (map inst_of (filter (does_not_stand k) rows)))
          ∙ is_among_in same_inst want.inst (map inst_of (filter (does_not_stand k) rows))
          ((same_inst_decides want.inst want.inst).1 refl)
          (in_mapped inst_of want (filter (does_not_stand k) rows) (in_filtered
          (does_not_stand k) want rows it.0 falls))))
          ∙ none))
      by false holds = (λ j. stands (Some want) (k.row (one j))) ∙ double (stands (Some want) (k.row want.inst)) holds

  abbrev new_task : Task
  new_task = task_opened k o

  -- a deploy, or a deletion
  deployed : (goal : Option Goal) → o.goal ≡ goal
      → (not (is_among same_inst i (map inst_of (filter (does_not_stand k) (rows_of goal)))) ≡ true)
      → is_in goal i ≡ true → stands (want_in goal i) (k.row i) ≡ true
  deployed (Some goal) goal_is none there = by (find (λ it. same_inst i it.inst) goal.rows) refl there
    where
      by : (want : Option GoalRow) → find (λ it. same_inst i it.inst) goal.rows ≡ want → is_some want ≡ true
          → stands (want_in (Some goal) i) (k.row i) ≡ true
      by (Some want) found some = (λ j. stands (found j) (k.row i)) ∙ unchanged goal.rows want found none
      by None found some = absurd (false≢true some)
  deployed None goal_is none there = absurd (false≢true there)

  changes_for : (kind : TaskKind) → o.kind ≡ kind → (goal : Option Goal) → OpensFor k o goal
      → o.changed ≡ to_change k kind o.goal
  changes_for kind is (Some goal) may = may.changes ∙ (λ j. to_change k (is j) o.goal)
  changes_for kind is None may = absurd may

  -- one that is through in a task that opens is of its goal and does not change
  fresh : (is_through new_task i ≡ true → stands (want_in o.goal i) (k.row i) ≡ true)
      → stands_where_through k new_task i ≡ true
  fresh goes = by (is_through new_task i) refl
    where
      by : (b : Bool) → is_through new_task i ≡ b → stands_where_through k new_task i ≡ true
      by true is = (λ j. implies (is j) (stands (want_in o.goal i) (k.row i))) ∙ goes is
      by false is = λ j. implies (is j) (stands (want_in o.goal i) (k.row i))

  through_parts : is_through new_task i ≡ true
      → (not (is_some (named_instance o.kind)) ≡ true)
      × ((is_in o.goal i && not (is_among same_inst i o.changed)) ≡ true)
  through_parts is =
      and_parts (not (is_some (named_instance o.kind))) (is_in o.goal i && not (is_among same_inst i o.changed)) is

  settled : (kind : TaskKind) → o.kind ≡ kind → OpensFor k o o.goal
      → to_change k kind o.goal ≡ map inst_of (filter (does_not_stand k) (rows_of o.goal))
      → stands_where_through k new_task i ≡ true
  settled kind is may changes =
      fresh
      (λ through.
      let parts : (is_in o.goal i ≡ true) × (not (is_among same_inst i o.changed) ≡ true) =
      and_parts (is_in o.goal i) (not (is_among same_inst i o.changed)) (through_parts through).1 in
      let all : o.changed ≡ map inst_of (filter (does_not_stand k) (rows_of o.goal)) =
      changes_for kind is o.goal may ∙ changes in
      deployed o.goal refl (sym (λ j. not (is_among same_inst i (all j))) ∙ parts.1) parts.0)

  -- where all change none is through
  all_change : (kind : TaskKind) → o.kind ≡ kind → OpensFor k o o.goal → to_change k kind o.goal ≡ instances_of o.goal
      → stands_where_through k new_task i ≡ true
  all_change kind is may changes =
      fresh
      (λ through.
      let parts : (is_in o.goal i ≡ true) × (not (is_among same_inst i o.changed) ≡ true) =
      and_parts (is_in o.goal i) (not (is_among same_inst i o.changed)) (through_parts through).1 in
      let all : o.changed ≡ instances_of o.goal = changes_for kind is o.goal may ∙ changes in
      absurd
      (false≢true
      (sym (ap not ((λ j. is_among same_inst i (all j)) ∙ in_goal o.goal i parts.0)) ∙ parts.1)))

  named : (kind : TaskKind) → o.kind ≡ kind → is_some (named_instance kind) ≡ true
      → stands_where_through k new_task i ≡ true
  named kind is some =
      fresh
      (λ through.
      absurd
      (false≢true
      (sym (ap not ((λ j. is_some (named_instance (is j))) ∙ some)) ∙ (through_parts through).0)))

  goalless : (goal : Option Goal) → o.goal ≡ goal → OpensDisks k o goal → stands_where_through k new_task i ≡ true
  goalless (Some goal) goal_is may = absurd may
  goalless None goal_is may =
      fresh
      (λ through.
      let parts : (is_in o.goal i ≡ true) × (not (is_among same_inst i o.changed) ≡ true) =
      and_parts (is_in o.goal i) (not (is_among same_inst i o.changed)) (through_parts through).1 in
      absurd (false≢true (sym (λ j. is_in (goal_is j) i) ∙ parts.0)))

  fresh_stands : (kind : TaskKind) → o.kind ≡ kind → OpensBy k o kind → stands_where_through k new_task i ≡ true
  fresh_stands kinds.CleanUp is may = goalless o.goal refl may.0
  fresh_stands (kinds.DeleteDisk d) is may = goalless o.goal refl may.0
  fresh_stands kinds.Deploy is may = settled kinds.Deploy is may refl
  fresh_stands kinds.Fix is may = all_change kinds.Fix is may refl
  fresh_stands kinds.DeleteDeployment is may = settled kinds.DeleteDeployment is may refl
  fresh_stands kind is may = named kind is refl

opened_stands : (m : Moment) (o : TaskOpen) → Holds m → MayOpen m.known o → (t : ℕ) (i : Inst)
    → works (noting m (entries.TaskOpen o)) t ≡ true
    → stands_where_through (learn m.known (entries.TaskOpen o)) ((learn m.known (entries.TaskOpen o)).task t) i ≡ true
opened_stands m o h may t i working = by (eqb_tells o.task t)
  where
    number : o.task ≡ m.known.tasks + 1
    number = opens_next m.known o may

    by : ((o.task == t) ≡ true) × (o.task ≡ t) ⊎ ((o.task == t) ≡ false) × (o.task ≢ t)
        → stands_where_through (learn m.known (entries.TaskOpen o)) ((learn m.known (entries.TaskOpen o)).task t) i ≡ true
    by (inl same) =
        (λ j. stands_where_through m.known (if same.0 j then task_opened m.known o else m.known.task t) i)
        ∙ fresh_stands m.known o i o.kind refl may
    by (inr apart) =
        (λ j. stands_where_through m.known (if apart.0 j then task_opened m.known o else m.known.task t) i)
        ∙ (h.outcomes t (grind (arith, apart, working, number))).stands i

-- ---- moves

pub stands_note : (outside : Outside) (m : Moment) (e : Entry) → Holds m → may_follow m e ≡ true → MayNote outside m e
    → StandWhereThrough (noting m e)
stands_note outside m (entries.TaskOpen o) h follows may t i working = opened_stands m o h may.0 t i working
stands_note outside m (entries.Begin b) h follows may t i working =
    begun_stands outside m h t (worked m (entries.Begin b) t (note_stays outside m
    (entries.Begin b) may refl t) working) i
    b follows may
stands_note outside m (entries.End e) h follows may t i working =
    ended_stands outside m h t (worked m (entries.End e) t (note_stays outside m
    (entries.End e) may refl t) working) i e
    may
stands_note outside m (entries.UpdBegin u) h follows may t i working =
    stands_kept outside m h t
    (worked m (entries.UpdBegin u) t (note_stays outside m (entries.UpdBegin u) may refl t) working) i
    (entries.UpdBegin u) may refl
    (mark_note outside m (entries.UpdBegin u) (Instance i) t may refl tt).finished (λ through. refl)
stands_note outside m (entries.UpdDone u) h follows may t i working =
    done_stands outside m h t
    (worked m (entries.UpdDone u) t (note_stays outside m (entries.UpdDone u) may refl t) working) i u follows may
stands_note outside m (entries.Gone u) h follows may t i working =
    gone_stands outside m h t (worked m (entries.Gone u) t (note_stays outside m (entries.Gone u) may refl t) working) i
    u follows may
stands_note outside m (entries.Snapshot s) h follows may t i working = absurd may
stands_note outside m entry h follows may t i working =
    stands_kept outside m h t (worked m entry t (note_stays outside m entry may refl t) working) i entry may refl
    (mark_note outside m entry (Instance i) t may refl tt).finished
    (λ through. row_note outside m entry i may refl tt)

stands_move : (outside : Outside) (m : Moment) (move : Move) → IsPermitted outside m move → Holds m
    → StandWhereThrough (later m move)
stands_move outside m (moves.Note e) may h t i working = stands_note outside m e h may.1 may.2 t i working
stands_move outside m (moves.Stop s) may h t i working = absurd (false≢true (sym (none_works m s t) ∙ working))
stands_move outside m move may h t i working = (h.outcomes t working).stands i

pub stands_kept_along : (outside : Outside) (m : Moment) (move : Move) → IsPermitted outside m move → Holds m
    → StandWhereThrough (later m move)
stands_kept_along outside m move may h = stands_move outside m move may h
