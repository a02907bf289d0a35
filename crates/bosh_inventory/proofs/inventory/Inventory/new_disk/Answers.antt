use Rattle.std.proofs.Common.{◌≡◌, ◌∙◌}
use Rattle.bosh_base.specs.Cloud.{disks_created}
use Rattle.bosh_inventory.proofs.LookupLemmas.{disks_made, seen}
use Rattle.bosh_inventory.proofs.MadeLemmas.{new_disk-is}
use Rattle.bosh_inventory.proofs.inventory.Inventory.new_disk.Goals as goal

pub returns : goal.returns
returns c =
    let made : c.made.result ≡ disks_created c.args.self.now =
    c.made.ensures.made ∙ disks_made _ _ _ _ (seen _ _ _ _ _ c.self.view_is c.self.invariant.0) in
    new_disk-is c.made.result _ c.args.creation.now c.in_ok-owner.owner c.in_ok-owner.want _ c.new.result made
    c.in_ok-owner.ensures.0 c.in_ok-owner.ensures.1 c.new.ensures
