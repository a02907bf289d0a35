use Rattle.std.proofs.Common.{sym, ◌∙◌}
use Rattle.bosh_inventory.proofs.PutLemmas.{invariant-put, on_ok}
use Rattle.bosh_inventory.proofs.inventory.Inventory.add_change.Goals as goal

pub invariant_of-self : goal.invariant_of-self
invariant_of-self c =
    invariant-put c.args.self.now c.self.inside.effects.items c.push-added.new.items.items c.self.inside.tables
    c.carry.new.tables c.args.entry c.args.change
    c.self.view_is (on_ok c.push-added.result (sym c.is_ok.ensures.value ∙ c.if-is_ok.true) c.push-added.ensures.ok)
    c.carry.ensures c.requires.leads c.requires.follows c.self.invariant.0 c.self.invariant.1
