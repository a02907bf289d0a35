use Rattle.std.proofs.Common.{arith, Option, List, sym, ◌∙◌, ap, subst}
use Rattle.std.proofs.lemmas.List.{set-set}
use Rattle.bosh_agent.specs.Change.{IsIn, IsMade}
use Rattle.bosh_base.specs.declared.machine.Machine.{Machine}
use Rattle.bosh_registers.proofs.RegisterLemmas.{AreIndexed-acted, AreIndexed-put, agent-changed}
use Rattle.bosh_registers.proofs.change.act.Goals as goal

pub returns-in-Some : goal.returns-in-Some
returns-in-Some c = grind (arith, set-set)

pub invariant_of-vms : goal.invariant_of-vms
invariant_of-vms c =
    AreIndexed-put (λ (it : Machine). it.agent) c.vms.inside.things c.take.new.self c.set.new.self
    c.vms.inside.numbers c.args.vm c.in-Some.machine _
    (subst (λ (list : List (Option Machine)). IsMade list c.args.vm) (sym c.vms.view_is) c.requires.there.0)
    (sym c.take.ensures.taken ∙ c.in-Some.is) c.take.ensures.slot c.set.ensures
    (ap (λ (it : Machine). it.agent) c.carry.ensures.machine ∙ agent-changed c.in-Some.machine c.args.change) c.vms.invariant

pub invariant_of-disks : goal.invariant_of-disks
invariant_of-disks c =
    AreIndexed-acted c.disks.inside.things c.carry.new.disks c.disks.inside.numbers c.args.change
    (subst (IsIn c.args.change) (sym c.disks.view_is) c.requires.fits) c.carry.ensures.disks c.disks.invariant
