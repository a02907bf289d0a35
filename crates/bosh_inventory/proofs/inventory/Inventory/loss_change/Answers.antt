use Rattle.bosh_inventory.proofs.LeadLossLemmas.{Leads-lost}
use Rattle.bosh_inventory.proofs.inventory.Inventory.loss_change.Goals as goal
use Rattle.std.proofs.Common.{Bool, sym, subst}
use Rattle.bosh_base.specs.declared.entry.Entry.TheVariants.{Lost}
use Rattle.bosh_inventory.proofs.LeadLossLemmas.{Leads-silenced}
use Rattle.bosh_inventory.specs.Changes.{Leads}
use Rattle.bosh_registers.specs.declared.change.Change.TheVariants.{NoVm, Silent}

pub returns-then-whole : goal.returns-then-whole
returns-then-whole c =
    let P : Bool → Type 0 = λ whole. Leads c.args.self.now (Lost (record { vm = c.args.vm; whole = whole }))
    (NoVm c.args.vm) in subst P (sym c.if-whole.true) (Leads-lost c.args.self.now c.args.vm c.requires)

pub returns-else-whole : goal.returns-else-whole
returns-else-whole c =
    let P : Bool → Type 0 = λ whole. Leads c.args.self.now (Lost (record { vm = c.args.vm; whole = whole }))
    (Silent c.args.vm) in subst P (sym c.if-whole.false) (Leads-silenced c.args.self.now c.args.vm c.requires)
