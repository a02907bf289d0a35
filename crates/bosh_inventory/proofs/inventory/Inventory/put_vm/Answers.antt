use Rattle.bosh_inventory.proofs.PutLemmas.{invariant-vm_kept}
use Rattle.bosh_inventory.proofs.inventory.Inventory.put_vm.Goals as goal

pub invariant_of-self : goal.invariant_of-self
invariant_of-self g c =
    invariant-vm_kept c.keep_made.result c.args.self.now c.self.inside.effects.items c.keep_made.new.items.items
    c.self.inside.tables c.keep_made.new.slots c.args.entry c.args.machine
    c.self.view_is c.keep_made.ensures.ok c.keep_made.ensures.made c.keep_made.ensures.refused
    c.keep_made.ensures.not_made c.requires.makes c.requires.follows c.self.invariant.0 c.self.invariant.1
