-- The bands of one subnet more are in order.
use Rattle.std.proofs.Common.{◌≡◌, ◌+◌, ◌∷◌, [], ◌++◌, List, take, ap, sym, subst, ◌∙◌}
use Rattle.std.proofs.lemmas.List.{take_more}
use Rattle.bosh_base.specs.declared.plan.Subnet.{Subnet}
use Rattle.bosh_pool.specs.Closed.{AreAllClosed}
use Rattle.bosh_pool.specs.declared.closed.Closed.{Closed}
use Rattle.bosh_pool.proofs.ClosedLemmas.{AreAllClosed-push}
use Rattle.bosh_pool.proofs.closed.all_closed.Goals as goal

pub loop-subnet-preserved : goal.loop-subnet-preserved
loop-subnet-preserved c =
    let i = c.loop-subnet.subnet-index in
    let subnets = c.args.subnets.now in
    let subnet = c.subnet-item.result in
    let one = c.in_ok-closed_of.field-0 in
    let more : take i subnets ++ subnet ∷ [] ≡ take (i + 1) subnets =
    sym (take_more subnets i subnet c.loop-subnet-test.true ∙ ap (λ (s : Subnet). take i subnets ++ s ∷ []) (sym c.subnet-item.is)) in
    let pushed : AreAllClosed (take i subnets ++ subnet ∷ []) (c.loop-subnet.closed.items ++ one ∷ []) =
    AreAllClosed-push (take i subnets) c.loop-subnet.closed.items subnet one c.in_ok-closed_of.ensures c.loop-subnet.invariant in
    let grown : AreAllClosed (take (i + 1) subnets) (c.loop-subnet.closed.items ++ one ∷ []) = subst (λ (xs : List Subnet). AreAllClosed xs (c.loop-subnet.closed.items ++ one ∷ [])) more pushed in
    subst (λ (xs : List Closed). AreAllClosed (take (i + 1) subnets) xs) (sym c.in_ok-push.ensures.items) grown
