use Rattle.bosh_inventory.proofs.PutLemmas.{invariant-vm_kept}
use Rattle.bosh_inventory.proofs.inventory.Inventory.add_vm.Goals as goal

pub invariant_of-self : goal.invariant_of-self
invariant_of-self c =
    invariant-vm_kept c.push_made.result c.args.self.now c.self.inside.effects.items c.push_made.new.items.items
    c.self.inside.tables c.push_made.new.slots c.args.entry c.args.machine
    c.self.view_is c.push_made.ensures.ok c.push_made.ensures.made c.push_made.ensures.refused
    c.push_made.ensures.not_made c.requires.makes c.requires.follows c.self.invariant.0 c.self.invariant.1
