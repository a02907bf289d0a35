-- Each group that stands with its addresses has a zone.
use Rattle.std.proofs.Common.{◌∙◌, All, List, subst, sym}
use Rattle.bosh_offers.specs.Sited.{Sited}
use Rattle.bosh_goal.proofs.UsedLemmas.{HasZone, sited-zones}
use Rattle.bosh_goal.proofs.whole.with_addrs.Goals as goal

pub with_keys-requires : goal.with_keys-requires
with_keys-requires c =
    let same = c.as_slice.ensures.value ∙ c.in_ok-groups.ensures in
    subst (λ (groups : List Sited). All (λ it. HasZone it.used.group) groups) (sym same)
    (sited-zones c.args.used.now c.args.addrs.now c.requires)
