use Rattle.std.proofs.Common.{◌≡◌, ℕ, List, Some, sym, ◌∙◌, ap, subst}
use Rattle.std.specs.Option.{option_copied}
use Rattle.bosh_base.specs.Cloud.{machine_of}
use Rattle.bosh_base.specs.declared.call.Call.TheVariants.{AttachDisk}
use Rattle.bosh_inventory.proofs.LeadLemmas.{Leads-attach}
use Rattle.bosh_inventory.specs.Changes.{LeadsBy}
use Rattle.bosh_registers.specs.declared.change.Change.TheVariants.{Moved}
use Rattle.bosh_inventory.proofs.inventory.Inventory.attach.Goals as goal

pub returns : goal.returns
returns c =
    let found : machine_of c.args.self.now c.args.vm ≡ Some c.in-Some.machine.now =
    sym c.machine.ensures.machine ∙ ap option_copied c.in-Some.is in
    let P : List ℕ → Type 0 =
    λ list. LeadsBy c.args.self.now (AttachDisk c.args.vm c.args.disk)
    (Moved c.args.vm c.args.disk (Some c.args.vm) list) in
    subst P (sym c.in_ok-with_number-in-Some.ensures)
    (Leads-attach c.args.self.now c.args.vm c.args.disk c.in-Some.machine.now found c.requires.movable)
