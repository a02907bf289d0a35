use Rattle.std.proofs.Common.{sym, ◌∙◌, ap}
use Rattle.std.specs.Option.{option_copied}
use Rattle.bosh_base.specs.Cloud.{is_vm_there}
use Rattle.bosh_inventory.proofs.LookupLemmas.{holder_there, mounted-is, not_none, seen}
use Rattle.bosh_inventory.proofs.inventory.Inventory.is_mounted.Goals as goal

pub returns-in-Some : goal.returns-in-Some
returns-in-Some c =
    c.has.ensures
    ∙ mounted-is _ (seen _ _ _ _ _ c.self.view_is c.self.invariant.0).are_orderly c.args.vm c.args.disk _
    (sym c.machine.ensures.machine ∙ ap option_copied c.in-Some.is) c.requires

pub returns-in-None : goal.returns-in-None
returns-in-None c =
    absurd (not_none c.machine.result (is_vm_there c.args.self.now c.args.vm) c.machine.ensures.there
    (holder_there c.args.self.now c.args.disk c.args.vm c.requires) c.in-None.is)
