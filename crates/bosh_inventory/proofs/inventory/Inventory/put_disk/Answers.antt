use Rattle.bosh_inventory.proofs.PutLemmas.{invariant-disk_kept}
use Rattle.bosh_inventory.proofs.inventory.Inventory.put_disk.Goals as goal

pub invariant_of-self : goal.invariant_of-self
invariant_of-self g c =
    invariant-disk_kept c.keep_held.result c.args.self.now c.self.inside.effects.items c.keep_held.new.items.items
    c.self.inside.tables c.keep_held.new.tables c.args.entry c.args.disk
    c.self.view_is c.keep_held.ensures.ok c.keep_held.ensures.made c.keep_held.ensures.refused
    c.keep_held.ensures.not_made c.requires.makes c.requires.follows c.self.invariant.0 c.self.invariant.1
