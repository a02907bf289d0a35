use Rattle.std.proofs.Common.{◌≡◌, ◌∙◌}
use Rattle.bosh_base.specs.Cloud.{vms_created}
use Rattle.bosh_inventory.proofs.LookupLemmas.{seen, vms_made}
use Rattle.bosh_inventory.proofs.MadeLemmas.{new_machine-is}
use Rattle.bosh_inventory.proofs.inventory.Inventory.new_vm.Goals as goal

pub returns : goal.returns
returns c =
    let made : c.made.result ≡ vms_created c.args.self.now =
    c.made.ensures.made ∙ vms_made _ _ _ _ (seen _ _ _ _ _ c.self.view_is c.self.invariant.0) in
    new_machine-is c.made.result _ c.args.creation.now c.in_ok-owner.owner c.in_ok-owner.dep c.in_ok-owner.make _
    c.new.result c.new-2.result made c.in_ok-owner.ensures.0 c.in_ok-owner.ensures.1 c.in_ok-owner.ensures.2
    c.new.ensures c.new-2.ensures
