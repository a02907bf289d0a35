-- The places that the tables tell of their owners are those at which the work of an open task lists them. This speaks of
-- what is recorded alone: it changes where a task opens or ends, and else stays.
use Rattle.std.specs.Prelude.{◌≡◌, ℕ, Bool, ◌==◌, ◌&&◌, eqb, List, Option, Some, None, map}
use Rattle.std.specs.Option.{option_and_then}
use Rattle.bosh_base.specs.declared.goal.GoalRow.{GoalRow}
use Rattle.bosh_base.specs.declared.inst.Inst.{Inst}
use Rattle.bosh_progress.specs.Tree.{first_marked}
use Rattle.bosh_records.specs.Places.{part_of}
use Rattle.bosh_records.specs.Recorded.{Recorded}
use Rattle.bosh_records.specs.declared.machines.Machine.{Machine}
use Rattle.bosh_records.specs.declared.orphans.LooseDisk.{LooseDisk}
use Rattle.bosh_rows.specs.Same.{same_inst}
use Rattle.bosh_work.specs.declared.part.MachineName.{MachineName}
use Rattle.bosh_work.specs.declared.work.Work.{Work}
use Rattle.laws_stands.specs.GroupsStand.{change_place}
use Rattle.laws_stands.specs.LineStands.{place_of}
use Rattle.laws_stands.specs.Reading.{dep_of, goal_of, instance_of, machine_of, orphan_of, work_of}

-- two names of compile machines are one
abbrev pub same_machine : MachineName → MachineName → Bool
same_machine a b = a.task == b.task && a.slot == b.slot

-- the place of a row among those of a goal
abbrev pub want_place : List GoalRow → Inst → Option ℕ
want_place rows i = first_marked (map (λ want. same_inst i want.inst) rows)

-- each place is told, and none else
pub record IsLinked (it : Recorded) : Type 0 where
  pub wants : (i : Inst) →
      option_and_then (λ known. known.want) (instance_of it i)
      ≡ option_and_then (λ goal. want_place goal.rows i) (goal_of it i.dep)
  pub pings : (t : ℕ) (w : Work) (i : Inst) → work_of it t ≡ Some w → dep_of it t ≡ Some i.dep →
      (part_of it i).ping ≡ place_of same_inst i w.pings.items
  pub leaving : (t : ℕ) (w : Work) (i : Inst) → work_of it t ≡ Some w → dep_of it t ≡ Some i.dep →
      (part_of it i).leaving ≡ place_of same_inst i w.obsolete.items
  pub changes : (t : ℕ) (w : Work) (i : Inst) → work_of it t ≡ Some w → dep_of it t ≡ Some i.dep →
      (part_of it i).change ≡ change_place w.changed i
  pub sweeps : (t : ℕ) (w : Work) (name : MachineName) (machine : Machine) → work_of it t ≡ Some w →
      machine_of it name ≡ Some machine → dep_of it t ≡ Some machine.row.dep →
      machine.sweep ≡ place_of same_machine name w.sweep.items
  pub deletions : (t : ℕ) (w : Work) (d : ℕ) (loose : LooseDisk) → work_of it t ≡ Some w →
      orphan_of it d ≡ Some loose → dep_of it t ≡ None → loose.deleting ≡ place_of eqb d w.disks.items
