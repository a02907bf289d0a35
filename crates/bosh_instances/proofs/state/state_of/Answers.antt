use Rattle.std.proofs.Common.{◌∙◌, List, Option, ap, find, sym}
use Rattle.bosh_base.specs.declared.goal.Goal.{Goal}
use Rattle.bosh_base.specs.declared.goal.GoalRow.{GoalRow}
use Rattle.bosh_instances.specs.Machines.{state_in, state_of}
use Rattle.bosh_wants.specs.Zones.{inst_of}
use Rattle.bosh_pool.specs.Fixed.{same_inst}
use Rattle.bosh_instances.proofs.state.state_of.Goals as goal

pub returns-in-Some : goal.returns-in-Some
returns-in-Some c =
    let inst = inst_of c.args.dep.now c.args.group.now c.args.index in
    c.state_in.ensures ∙ (ap state_in c.goal_row.ensures
    ∙ (ap (λ (rows : List GoalRow). state_in (find (λ row. same_inst row.inst inst) rows)) c.as_slice.ensures
    ∙ sym (ap (λ (g : Option Goal). state_of g inst) c.in-Some.is)))
