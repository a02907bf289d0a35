use Rattle.std.proofs.Common.{sym, ◌∙◌, ap, subst}
use Rattle.bosh_agent.specs.Compiled.{compiled_digest}
use Rattle.bosh_base.specs.CallStep.{takes_effect}
use Rattle.bosh_base.specs.declared.call.Call.{Call}
use Rattle.bosh_inventory.proofs.LeadLemmas.{Leads-deleted, Leads-disk_deleted, done_there}
use Rattle.bosh_inventory.specs.Changes.{LeadsBy}
use Rattle.bosh_registers.specs.declared.change.Change.TheVariants.{NoVm, NoDisk}
use Rattle.bosh_inventory.proofs.inventory.Inventory.change.Goals as goal

pub returns-in-DeleteVm : goal.returns-in-DeleteVm
returns-in-DeleteVm c =
    let P : Call → Type 0 = λ call. LeadsBy c.args.self.now call (NoVm c.in-DeleteVm.vm) in
    subst P (sym c.in-DeleteVm.is) (Leads-deleted c.args.self.now _
    (done_there _ (ap (takes_effect compiled_digest c.args.self.now) (sym c.in-DeleteVm.is) ∙ c.requires.effect)))

pub returns-in-DeleteDisk : goal.returns-in-DeleteDisk
returns-in-DeleteDisk c =
    let P : Call → Type 0 = λ call. LeadsBy c.args.self.now call (NoDisk c.in-DeleteDisk.disk) in
    subst P (sym c.in-DeleteDisk.is) (Leads-disk_deleted c.args.self.now _
    (done_there _ (ap (takes_effect compiled_digest c.args.self.now) (sym c.in-DeleteDisk.is) ∙ c.requires.effect)))
