use Rattle.std.proofs.Common.{arith, Option, List, refl, sym, ◌∙◌, subst}
use Rattle.std.proofs.lemmas.List.{set-set}
use Rattle.bosh_agent.specs.Change.{IsMade}
use Rattle.bosh_base.specs.declared.machine.Machine.{Machine}
use Rattle.bosh_registers.proofs.RegisterLemmas.{AreIndexed-put}
use Rattle.bosh_registers.proofs.change.silence.Goals as goal

pub returns-in-Some : goal.returns-in-Some
returns-in-Some c = grind (arith, set-set)

pub invariant_of-vms : goal.invariant_of-vms
invariant_of-vms c =
    AreIndexed-put (λ (it : Machine). it.agent) c.vms.inside.things c.take.new.self c.set.new.self
    c.vms.inside.numbers c.args.vm c.in-Some.machine _
    (subst (λ (list : List (Option Machine)). IsMade list c.args.vm) (sym c.vms.view_is) c.requires.0)
    (sym c.take.ensures.taken ∙ c.in-Some.is) c.take.ensures.slot c.set.ensures
    refl c.vms.invariant
