use Rattle.std.proofs.Common.{◌≡◌, ◌++◌, false}
use Rattle.bosh_views.specs.View.{held_by_goals, held_by_machines, held_by_rows, held_by_tasks}
use Rattle.bosh_views.proofs.views.taken.Given as goal

abbrev pub invariant-loop-row : goal.invariant-loop-row
invariant-loop-row l =
    l.held.items ++ held_by_goals l.dep l.row-iterator
    ≡ held_by_rows l.dep l.records.instances.by_inst.entries ++ held_by_goals l.dep l.records.deployments.places.entries

abbrev pub invariant-loop-row-2 : goal.invariant-loop-row-2
invariant-loop-row-2 l =
    l.held.items ++ held_by_tasks l.records l.dep l.row-iterator
    ≡ held_by_rows l.dep l.records.instances.by_inst.entries
    ++ held_by_goals l.dep l.records.deployments.places.entries
    ++ held_by_machines l.dep false l.records.machines.places.entries
    ++ held_by_tasks l.records l.dep l.records.tasks.places.entries
