-- Where an update is done, or an instance is gone, nothing was left to do for its row, and the disks that go are there.
use Rattle.std.proofs.Common.{◌≡◌, ◌∙◌, Bool, true, false, Some, None, refl, sym}
use Rattle.std.specs.Prelude.{if◌then◌else◌, not}
use Rattle.std.specs.List.{list_all}
use Rattle.std.proofs.lemmas.Bool.{and_parts}
use Rattle.bosh_base.specs.declared.entry.Entry.TheVariants as entries
use Rattle.bosh_base.specs.declared.entry.Update.{Update}
use Rattle.bosh_base.specs.declared.goal.GoalRow.{GoalRow}
use Rattle.bosh_base.specs.declared.row.Row.{Row}
use Rattle.bosh_history.specs.Items.{is_finished, is_to_go}
use Rattle.bosh_history.specs.Known.{Task, want_in}
use Rattle.bosh_history.specs.Moments.{Moment}
use Rattle.bosh_history.specs.Notes.{EndsUpdate, Leaves}
use Rattle.bosh_history.specs.Recovered.{may_follow}
use Rattle.bosh_history.specs.Words.{is_among}
use Rattle.bosh_rows.specs.After.{left_behind}
use Rattle.bosh_rows.specs.NextStep.{next_step}
use Rattle.bosh_rows.specs.Same.{same_inst}
use Rattle.laws_facts.proofs.CurrentLemmas.{done_works}
use Rattle.laws_facts.specs.Facts.{Holds}
use Rattle.laws_facts.specs.Owners.{works}
use Rattle.laws_row_frames.proofs.DroppedCases.{dropped_free, left_free}
use Rattle.laws_row_frames.specs.Updates.{is_let_go_of}
use Rattle.laws_standing.proofs.ThroughLemmas.{changed_in, gone_out}

module _ (m : Moment) (h : Holds m) (u : Update) where
  abbrev task : Task
  task = m.known.task u.task

  abbrev row : Row
  row = m.known.row u.inst

  -- ---- the update is done

  module _ (follows : may_follow m (entries.UpdDone u) ≡ true) (may : EndsUpdate m u) (want : GoalRow)
      (wants : want_in task.goal u.inst ≡ Some want) where
    working : works m u.task ≡ true
    working = done_works m u.task follows may.is_open

    stays : is_to_go task u.inst ≡ false
    stays = tells (is_to_go task u.inst) refl
      where
        tells : (goes : Bool) → is_to_go task u.inst ≡ goes → goes ≡ false
        tells false is = refl
        tells true is =
            absurd
            (gone_out m h.known u.task working u.inst
            (and_parts (is_among same_inst u.inst task.obsolete) (not (task.gone u.inst)) is).0
            (changed_in m h.known u.task working u.inst
            (and_parts (is_among same_inst u.inst task.changed) (not (is_finished (task.upd u.inst))) may.is_changed).0))

    pub done_step : next_step (Some want) row ≡ None
    done_step =
        sym ((λ j. next_step (if stays j then None else want_in task.goal u.inst) row)
        ∙ (λ j. next_step (wants j) row))
        ∙ may.no_step

    pub done_free : list_all (is_let_go_of m.effects row) (left_behind want row) ≡ true
    done_free = left_free m.effects want row (h.rows u.inst) h.cloud.held_by_own done_step

  -- ---- the instance is gone

  module _ (may : Leaves m u) where
    pub gone_step : next_step None row ≡ None
    gone_step = sym (λ j. next_step (if may.is_obsolete j then None else want_in task.goal u.inst) row) ∙ may.no_step

    pub gone_free : list_all (is_let_go_of m.effects row) row.disks ≡ true
    gone_free = dropped_free m.effects row (h.rows u.inst) h.cloud.held_by_own gone_step
