use Rattle.bosh_inventory.proofs.PutLemmas.{invariant-disk_kept}
use Rattle.bosh_inventory.proofs.inventory.Inventory.add_disk.Goals as goal

pub invariant_of-self : goal.invariant_of-self
invariant_of-self c =
    invariant-disk_kept c.push_held.result c.args.self.now c.self.inside.effects.items c.push_held.new.items.items
    c.self.inside.tables c.push_held.new.tables c.args.entry c.args.disk
    c.self.view_is c.push_held.ensures.ok c.push_held.ensures.made c.push_held.ensures.refused
    c.push_held.ensures.not_made c.requires.makes c.requires.follows c.self.invariant.0 c.self.invariant.1
