-- An update is done, as it is planned: with what is recorded of the instance, and the disks that it leaves behind.
use Rattle.std.proofs.Common.{◌≡◌, ◌∙◌, ℕ, Bool, true, false, List, Option, Some, None, ap, refl, sym, subst}
use Rattle.std.specs.Prelude.{fold, not, if◌then◌else◌}
use Rattle.std.specs.Ordering.{nat_cmp}
use Rattle.bosh_base.specs.declared.entry.Entry.TheVariants as entries
use Rattle.bosh_base.specs.declared.entry.Update.{Update}
use Rattle.bosh_base.specs.declared.goal.GoalRow.{GoalRow}
use Rattle.bosh_base.specs.declared.inst.Inst.{Inst}
use Rattle.bosh_base.specs.declared.row.DiskRow.{DiskRow}
use Rattle.bosh_base.specs.declared.row.Row.{Row}
use Rattle.bosh_fold.specs.Learned.{learned}
use Rattle.bosh_fold.specs.Learns.{Learns}
use Rattle.bosh_fold.specs.Planned.{IsPlanned}
use Rattle.bosh_fold.specs.Updates.{update_finished_in, with_left_behind, with_orphans, with_row_of}
use Rattle.bosh_fold.specs.declared.change.Change.{Change}
use Rattle.bosh_fold.specs.declared.change.Change.TheVariants as changes
use Rattle.bosh_history.specs.Known.{Known, want_in, with_task}
use Rattle.bosh_history.specs.Updates.{orphans_after, update_at, update_done}
use Rattle.bosh_history.specs.Words.{all_inserted, is_among}
use Rattle.bosh_plan.specs.Roomy.{disk_room}
use Rattle.bosh_roll.specs.declared.upd.Upd.TheVariants.{Finished}
use Rattle.bosh_rows.specs.Disks.{stays}
use Rattle.bosh_plan.specs.Updated.{left_by, left_updated, orphans_of, row_by, row_updated}
use Rattle.bosh_records.specs.Readers.{want_of}
use Rattle.bosh_records.specs.Recorded.{Recorded, recorded}
use Rattle.bosh_records.specs.declared.records.Records.{Records}
use Rattle.bosh_rows.specs.After.{left_behind, updated_row}
use Rattle.bosh_rows.specs.Same.{same_inst}
use Rattle.laws_stands.proofs.DeploymentLemmas.{goal_is}
use Rattle.laws_stands.proofs.WantLemmas.{want_is}
use Rattle.bosh_records.specs.Ordered.{AreInOrder, AreOrdered}
use Rattle.laws_stands.specs.Stands.{Stands, StandsIn, StandsInOrder}
use Rattle.laws_stands.specs.Told.{Told, telling}
use Rattle.laws_stands_on.proofs.RoomyLemmas.{roomy_stands}
use Rattle.laws_stands_updates.proofs.DisksLeftLemmas.{left_stands}
use Rattle.laws_stands_updates.proofs.FinishedLemmas.{after_finished}
use Rattle.laws_stands_updates.proofs.LeftLemmas.{fewer_left, room_left}
use Rattle.laws_stands_updates.specs.Finished.{AllowsFinish, HavePlaces, numbers_of}

module _ (u : Update) (told : Told) (was now : Records) (allows : AllowsFinish told u)
    (learns : Learns was (entries.UpdDone u) now) (stands : Stands told was) where
  abbrev n : ℕ
  n = u.task

  abbrev i : Inst
  i = u.inst

  abbrev k : Known
  k = told.known

  abbrev row : Row
  row = updated_row allows.want (k.row i)

  abbrev disks : List DiskRow
  disks = left_behind allows.want (k.row i)

  abbrev it : Recorded
  it = recorded learns.roomy

  roomy : StandsIn told it
  roomy = roomy_stands told was (entries.UpdDone u) now learns stands

  -- ---- what is planned

  wants : want_of was i ≡ Some allows.want
  wants =
      want_is was i stands.linked
      ∙ ap (λ goal. want_in goal i) (goal_is told (recorded was) stands i.dep allows.listed ∙ allows.current)
      ∙ allows.wanted

  row_is : row_updated was i ≡ (if is_among same_inst i k.instances then Some row else None)
  row_is = (λ j. row_by (stands.rows i j) (wants j)) ∙ by (is_among same_inst i k.instances)
    where
      by : (b : Bool) → row_by (if b then Some (k.row i) else None) (Some allows.want)
          ≡ (if b then Some row else None)
      by true = refl
      by false = refl

  left_is : left_updated was i ≡ orphans_of i disks
  left_is = (λ j. left_by i (stands.rows i j) (wants j)) ∙ by (is_among same_inst i k.instances) refl
    where
      by : (b : Bool) → is_among same_inst i k.instances ≡ b
          → left_by i (if b then Some (k.row i) else None) (Some allows.want) ≡ orphans_of i disks
      by true is = refl
      by false out = ap (λ row. orphans_of i (left_behind allows.want row)) (sym (allows.bare_row out))

  -- ---- what is learned

  places : HavePlaces it.orphans disks
  places = subst (λ (it : Recorded). HavePlaces it.orphans disks) (sym learns.room)
      (subst (λ left. HavePlaces (fold disk_room (recorded was).orphans left) disks) (sym left_is)
      (room_left i disks (recorded was).orphans))

  abbrev new : Told
  new = telling told (entries.UpdDone u)

  -- as it is told
  abbrev new_by : Option GoalRow → Told
  new_by want = record told {
    known = with_task n (update_at Finished i) (update_done want i k);
  }

  -- the disks may be left behind first
  left_first : (b : Bool)
      → with_row_of (if b then Some row else None)
      (update_finished_in u (record it { orphans = with_orphans (orphans_of i disks) it.orphans }))
      ≡ with_left_behind (orphans_of i disks) (with_row_of (if b then Some row else None) (update_finished_in u it))
  left_first true = refl
  left_first false = refl

  -- the row stands in its place
  in_order : (noted : Option Row)
      → AreOrdered (with_row_of noted (update_finished_in u (record it { orphans = with_orphans (orphans_of i disks) it.orphans })))
      → AreInOrder nat_cmp (with_orphans (orphans_of i disks) it.orphans)
  in_order (Some row) = λ ordered. ordered.orphans
  in_order None = λ ordered. ordered.orphans

  planned_stands : StandsInOrder (new_by (Some allows.want))
      (with_left_behind (orphans_of i disks)
      (with_row_of (if is_among same_inst i k.instances then Some row else None) (update_finished_in u it)))
  planned_stands = subst (StandsInOrder (new_by (Some allows.want))) (left_first (is_among same_inst i k.instances))
      (λ ordered. after_finished u
      (record told {
        known = record k {
          orphans = all_inserted nat_cmp (numbers_of disks) k.orphans;
          orphan = orphans_after i disks k.orphan;
        };
      })
      (record it { orphans = with_orphans (orphans_of i disks) it.orphans }) row allows.going allows.dep
      allows.changed_apart allows.own_row
      (left_stands told it i disks (all_inserted nat_cmp (numbers_of disks) k.orphans)
      (fewer_left told (λ d. not (stays allows.want d)) (k.row i).disks allows.left) places roomy
      (in_order (if is_among same_inst i k.instances then Some row else None) ordered)) ordered)

  by_change : (change : Change) → IsPlanned was learns.roomy (entries.UpdDone u) change
      → StandsInOrder new (learned (entries.UpdDone u) change it)
  by_change (changes.Updated updated) (row_planned, left_planned) =
      subst (λ want. StandsInOrder (new_by want) (learned (entries.UpdDone u) (changes.Updated updated) it))
      (sym allows.wanted)
      (subst (λ left. StandsInOrder (new_by (Some allows.want))
      (with_left_behind left (with_row_of updated.row (update_finished_in u it)))) (sym (left_planned ∙ left_is))
      (subst (λ (row : Option Row). StandsInOrder (new_by (Some allows.want))
      (with_left_behind (orphans_of i disks) (with_row_of row (update_finished_in u it))))
      (sym (row_planned ∙ row_is)) planned_stands))
  by_change (changes.Release other) planned = absurd planned
  by_change (changes.Stemcell other) planned = absurd planned
  by_change (changes.Config other) planned = absurd planned
  by_change (changes.Opened other) planned = absurd planned
  by_change (changes.Begun other) planned = absurd planned
  by_change (changes.Ended other) planned = absurd planned
  by_change (changes.Offers other) planned = absurd planned
  by_change (changes.End other) planned = absurd planned
  by_change (changes.Records other) planned = absurd planned
  by_change changes.Nothing planned = absurd planned

  pub after_update_done : Stands new now
  after_update_done =
      subst (StandsInOrder new) (sym learns.is_learned) (by_change learns.change learns.planned) learns.ordered
