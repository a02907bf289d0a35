use Rattle.std.proofs.Common.{ℕ, List, sym, subst}
use Rattle.bosh_base.specs.declared.entry.Entry.TheVariants.{Write}
use Rattle.bosh_inventory.proofs.LeadLossLemmas.{Leads-written}
use Rattle.bosh_inventory.specs.Changes.{Leads}
use Rattle.bosh_registers.specs.declared.change.Change.TheVariants.{Written}
use Rattle.bosh_inventory.proofs.inventory.Inventory.write_change.Goals as goal

pub returns : goal.returns
returns c =
    let P : List ℕ → Type 0 =
    λ text. Leads c.args.self.now (Write (record { disk = c.args.disk; text = c.args.text.now }))
    (Written c.args.disk text) in
    subst P (sym c.in_ok-copy.ensures) (Leads-written c.args.self.now
    (record { disk = c.args.disk; text = c.args.text.now }) c.requires)
