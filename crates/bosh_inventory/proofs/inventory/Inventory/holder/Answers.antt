use Rattle.std.proofs.Common.{sym, ◌∙◌, ap}
use Rattle.std.specs.Option.{option_copied}
use Rattle.bosh_inventory.proofs.LookupLemmas.{holder-is, seen}
use Rattle.bosh_inventory.proofs.inventory.Inventory.holder.Goals as goal

pub returns-in-Some : goal.returns-in-Some
returns-in-Some c =
    c.if_there.ensures
    ∙ holder-is _ _ _ _ (seen _ _ _ _ _ c.self.view_is c.self.invariant.0) c.args.disk c.requires _
    (ap option_copied (sym c.in-Some.is) ∙ c.get.ensures)

pub returns-in-None : goal.returns-in-None
returns-in-None c =
    holder-is _ _ _ _ (seen _ _ _ _ _ c.self.view_is c.self.invariant.0) c.args.disk c.requires _
    (ap option_copied (sym c.in-None.is) ∙ c.get.ensures)
