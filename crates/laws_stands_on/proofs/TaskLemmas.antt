-- What is recorded of an open task, and where its work lists an instance.
use Rattle.std.proofs.Common.{◌≡◌, ◌∙◌, ℕ, Bool, true, false, ◌&&◌, List, Some, None, ap, refl}
use Rattle.std.specs.Prelude.{nat_le, if◌then◌else◌}
use Rattle.std.specs.Option.{option_and_then}
use Rattle.bosh_base.specs.declared.inst.Inst.{Inst}
use Rattle.bosh_base.specs.declared.task.TaskRow.{TaskRow}
use Rattle.bosh_history.specs.Held.{is_open}
use Rattle.bosh_history.specs.Snapshots.{task_row}
use Rattle.bosh_records.specs.Places.{part_of}
use Rattle.bosh_records.specs.Recorded.{Recorded}
use Rattle.bosh_rows.specs.Same.{same_inst}
use Rattle.bosh_work.specs.declared.part.MachineName.{MachineName}
use Rattle.bosh_work.specs.declared.work.Work.{Work}
use Rattle.laws_stands.specs.GroupsStand.{change_place}
use Rattle.laws_stands.specs.LineStands.{place_of}
use Rattle.laws_stands.specs.Reading.{dep_of, work_of}
use Rattle.laws_stands.specs.Stands.{StandsIn}
use Rattle.laws_stands.specs.Told.{Told, is_going}
use Rattle.laws_stands.specs.WorkStands.{StandsFor, places_of}

module _ (told : Told) (it : Recorded) (n : ℕ) (stands : StandsIn told it) where
  -- its deployment
  pub dep_recorded : is_going told.known n ≡ true → dep_of it n ≡ (told.known.task n).dep
  dep_recorded going =
      ap (option_and_then (λ (row : TaskRow). row.dep))
      (stands.tasks n
      ∙ (λ j. if opened (nat_le 1 n) (nat_le n told.known.tasks) (is_open told.known n) going j
      then Some (task_row told.known n) else None))
    where
      opened : (a b c : Bool) → (a && (b && c)) ≡ true → (a && b) ≡ true
      opened true true c is = refl
      opened true false c is = is
      opened false b c is = is

  -- the places of an instance of it
  pub part_listed : (i : Inst) (swept : List MachineName) (work : Work) → dep_of it n ≡ Some i.dep
      → work_of it n ≡ Some work → StandsFor told (told.known.task n) n swept work
      → part_of it i ≡ (places_of (told.known.task n) i).part
  part_listed i swept work dep is work_stands = λ j. record {
    ping = (stands.linked.pings n work i is dep ∙ ap (place_of same_inst i) (work_stands.pings).items_are) j;
    leaving = (stands.linked.leaving n work i is dep ∙ ap (place_of same_inst i) (work_stands.obsolete).items_are) j;
    change = (stands.linked.changes n work i is dep ∙ ap (λ changed. change_place changed i) work_stands.changed_are) j;
  }
