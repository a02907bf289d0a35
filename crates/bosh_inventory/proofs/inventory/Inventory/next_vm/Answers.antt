use Rattle.std.proofs.Common.{◌+◌, ◌∙◌, ap}
use Rattle.bosh_base.specs.declared.answer.Answer.TheVariants.{Cid}
use Rattle.bosh_inventory.proofs.LookupLemmas.{seen, vms_made}
use Rattle.bosh_inventory.proofs.inventory.Inventory.next_vm.Goals as goal

pub returns : goal.returns
returns c =
    ap (λ n. Cid (n + 1)) (c.made.ensures.made ∙ vms_made _ _ _ _ (seen _ _ _ _ _ c.self.view_is c.self.invariant.0))
