-- An instance leaves, as it is planned: with the disks that it leaves behind.
use Rattle.std.proofs.Common.{◌≡◌, ◌∙◌, Bool, true, false, List, [], Some, None, ap, refl, sym, subst}
use Rattle.std.specs.Prelude.{fold, if◌then◌else◌}
use Rattle.std.specs.Option.{option_map_or}
use Rattle.std.specs.Ordering.{nat_cmp}
use Rattle.bosh_base.specs.declared.entry.Entry.TheVariants as entries
use Rattle.bosh_base.specs.declared.entry.Update.{Update}
use Rattle.bosh_base.specs.declared.inst.Inst.{Inst}
use Rattle.bosh_base.specs.declared.row.DiskRow.{DiskRow}
use Rattle.bosh_base.specs.declared.row.Row.{Row}
use Rattle.bosh_fold.specs.Learned.{learned}
use Rattle.bosh_fold.specs.Learns.{Learns}
use Rattle.bosh_fold.specs.Planned.{IsPlanned}
use Rattle.bosh_fold.specs.Updates.{left_in, with_left_behind, with_orphans, with_row_of}
use Rattle.bosh_fold.specs.declared.change.Change.{Change}
use Rattle.bosh_fold.specs.declared.change.Change.TheVariants as changes
use Rattle.bosh_history.specs.Known.{Known}
use Rattle.bosh_history.specs.Updates.{orphans_after}
use Rattle.bosh_history.specs.Words.{all_inserted, is_among}
use Rattle.bosh_plan.specs.Roomy.{disk_room}
use Rattle.bosh_plan.specs.Updated.{left_gone, orphans_of}
use Rattle.bosh_records.specs.Recorded.{Recorded, recorded}
use Rattle.bosh_records.specs.declared.records.Records.{Records}
use Rattle.bosh_rows.specs.Same.{same_inst}
use Rattle.laws_stands.specs.Stands.{Stands, StandsIn, StandsInOrder}
use Rattle.laws_stands.specs.Told.{Told, telling}
use Rattle.laws_stands_on.proofs.RoomyLemmas.{roomy_stands}
use Rattle.laws_stands_updates.proofs.DisksLeftLemmas.{left_stands}
use Rattle.laws_stands_updates.proofs.GoneLemmas.{gone_stands}
use Rattle.laws_stands_updates.proofs.LeftLemmas.{room_left}
use Rattle.laws_stands_updates.specs.Finished.{AllowsLeave, HavePlaces, numbers_of}

module _ (u : Update) (told : Told) (was now : Records) (allows : AllowsLeave told u)
    (learns : Learns was (entries.Gone u) now) (stands : Stands told was) where
  abbrev i : Inst
  i = u.inst

  abbrev k : Known
  k = told.known

  abbrev disks : List DiskRow
  disks = (k.row i).disks

  abbrev it : Recorded
  it = recorded learns.roomy

  roomy : StandsIn told it
  roomy = roomy_stands told was (entries.Gone u) now learns stands

  left_is : left_gone was i ≡ orphans_of i disks
  left_is = ap (λ o. option_map_or (λ (row : Row). orphans_of i row.disks) o []) (stands.rows i)
      ∙ by (is_among same_inst i k.instances) refl
    where
      by : (b : Bool) → is_among same_inst i k.instances ≡ b
          → option_map_or (λ (row : Row). orphans_of i row.disks) (if b then Some (k.row i) else None) []
          ≡ orphans_of i disks
      by true is = refl
      by false out = ap (λ (row : Row). orphans_of i row.disks) (sym (allows.bare_row out))

  places : HavePlaces it.orphans disks
  places = subst (λ (it : Recorded). HavePlaces it.orphans disks) (sym learns.room)
      (subst (λ left. HavePlaces (fold disk_room (recorded was).orphans left) disks) (sym left_is)
      (room_left i disks (recorded was).orphans))

  abbrev new : Told
  new = telling told (entries.Gone u)

  planned_stands : StandsInOrder new (with_left_behind (orphans_of i disks) (left_in u it))
  planned_stands ordered = gone_stands u
      (record told {
        known = record k {
          orphans = all_inserted nat_cmp (numbers_of disks) k.orphans;
          orphan = orphans_after i disks k.orphan;
        };
      })
      (record it { orphans = with_orphans (orphans_of i disks) it.orphans }) allows.going allows.dep
      allows.obsolete_apart allows.idle
      (left_stands told it i disks (all_inserted nat_cmp (numbers_of disks) k.orphans) allows.left places roomy
      ordered.orphans) ordered

  by_change : (change : Change) → IsPlanned was learns.roomy (entries.Gone u) change
      → StandsInOrder new (learned (entries.Gone u) change it)
  by_change (changes.Updated updated) (row_planned, left_planned) =
      subst (λ left. StandsInOrder new (with_left_behind left (with_row_of updated.row (left_in u it))))
      (sym (left_planned ∙ left_is))
      (subst (λ row. StandsInOrder new (with_left_behind (orphans_of i disks) (with_row_of row (left_in u it))))
      (sym row_planned) planned_stands)
  by_change (changes.Release other) planned = absurd planned
  by_change (changes.Stemcell other) planned = absurd planned
  by_change (changes.Config other) planned = absurd planned
  by_change (changes.Opened other) planned = absurd planned
  by_change (changes.Begun other) planned = absurd planned
  by_change (changes.Ended other) planned = absurd planned
  by_change (changes.Offers other) planned = absurd planned
  by_change (changes.End other) planned = absurd planned
  by_change (changes.Records other) planned = absurd planned
  by_change changes.Nothing planned = absurd planned

  pub after_gone : Stands new now
  after_gone =
      subst (StandsInOrder new) (sym learns.is_learned) (by_change learns.change learns.planned) learns.ordered
