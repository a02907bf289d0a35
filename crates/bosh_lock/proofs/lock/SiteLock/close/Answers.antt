use Rattle.std.proofs.Common.{rules, List, ap, subst}
use Rattle.bosh_lock.specs.Extends.{Extends}
use Rattle.bosh_lock.specs.Views.{PassView}
use Rattle.bosh_lock.proofs.Ends.{ends, ends_with}
use Rattle.bosh_lock.proofs.lock.SiteLock.close.Goals as goal

pub unreachable-requires : goal.unreachable-requires
unreachable-requires g c =
    let end = ends g.S.Chronicle.items _ _ _ _ _ (search rules) (search rules) c.close_with-closed.ensures.values.2 c.take-slot.ensures.value in
    c.in_default.not-Some end.0 end.1

pub returns : goal.returns
returns g c =
    let end = ends_with g.S.Chronicle.items _ _ _ _ _ c.in-Some.value (search rules) (search rules) c.close_with-closed.ensures.values.2
    c.take-slot.ensures.value c.in-Some.is in
    subst (λ (seen : List g.row.S-Item.Denot). Extends seen (g.S.Chronicle.items c.in-Some.value)) (ap (λ (p : PassView g.row.S-Item.Denot). p.seen) c.pass.view_is) end
