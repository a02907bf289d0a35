-- The search in one subnet more is begun.
use Rattle.std.proofs.Common.{◌≡◌, ◌+◌, ◌<◌, ◌∷◌, [], ◌++◌, List, length, take, ap, sym, subst, ◌∙◌, arith}
use Rattle.std.proofs.lemmas.List.{take_more}
use Rattle.bosh_base.specs.Plan.{is_in_some}
use Rattle.bosh_base.specs.declared.addr.Band.{Band}
use Rattle.bosh_base.specs.declared.plan.Subnet.{Subnet}
use Rattle.bosh_bands.specs.Order.{IsInOrder}
use Rattle.bosh_pool.specs.Free.{IsReady}
use Rattle.bosh_pool.specs.Search.{AreReady}
use Rattle.bosh_pool.specs.declared.closed.Closed.{Closed}
use Rattle.bosh_pool.specs.declared.spot.Spot.{Spot}
use Rattle.bosh_pool.proofs.ClosedLemmas.{closed_at}
use Rattle.bosh_pool.proofs.SearchLemmas.{AreReady-push}
use Rattle.bosh_pool.proofs.assignment.first_spots.Goals as goal

pub first_spot-requires-clause-order : goal.first_spot-requires-clause-order
first_spot-requires-clause-order c =
    let is = closed_at c.args.subnets.now c.args.closed.now c.loop-i.i c.index-subnets-i.result c.index-closed-i.result c.requires c.loop-i-test.true c.index-subnets-i.is in
    subst (λ (xs : List Band). IsInOrder xs) (sym c.as_slice.ensures) is.order

pub first_spot-requires-clause-closed : goal.first_spot-requires-clause-closed
first_spot-requires-clause-closed c = λ addr.
    let is = closed_at c.args.subnets.now c.args.closed.now c.loop-i.i c.index-subnets-i.result c.index-closed-i.result c.requires c.loop-i-test.true c.index-subnets-i.is in
    ap (is_in_some addr) c.as_slice.ensures ∙ is.bands addr

pub loop-i-preserved : goal.loop-i-preserved
loop-i-preserved c =
    let i = c.loop-i.i in
    let subnets = c.args.subnets.now in
    let closed = c.args.closed.now in
    let used = c.args.used.now in
    let subnet = c.index-subnets-i.result in
    let one = c.index-closed-i.result in
    let spot = c.first_spot.result in
    let within : i < length closed = omega (arith, c.requires.count) in
    let ready : IsReady subnet one.bands used spot = subst (λ (xs : List Band). IsReady subnet xs used spot) (c.as_slice.ensures ∙ ap (λ (k : Closed). k.bands) (sym c.index-closed-i.is)) c.first_spot.ensures in
    let more : take i subnets ++ subnet ∷ [] ≡ take (i + 1) subnets =
    sym (take_more subnets i subnet c.loop-i-test.true ∙ ap (λ (s : Subnet). take i subnets ++ s ∷ []) (sym c.index-subnets-i.is)) in
    let more_closed : take i closed ++ one ∷ [] ≡ take (i + 1) closed =
    sym (take_more closed i one within ∙ ap (λ (k : Closed). take i closed ++ k ∷ []) (sym c.index-closed-i.is)) in
    let pushed : AreReady (take i subnets ++ subnet ∷ []) (take i closed ++ one ∷ []) used (c.loop-i.spots.items ++ spot ∷ []) =
    AreReady-push (take i subnets) (take i closed) used c.loop-i.spots.items subnet one spot ready c.loop-i.invariant in
    let grown : AreReady (take (i + 1) subnets) (take i closed ++ one ∷ []) used (c.loop-i.spots.items ++ spot ∷ []) =
    subst (λ (xs : List Subnet). AreReady xs (take i closed ++ one ∷ []) used (c.loop-i.spots.items ++ spot ∷ [])) more pushed in
    let with_closed : AreReady (take (i + 1) subnets) (take (i + 1) closed) used (c.loop-i.spots.items ++ spot ∷ []) =
    subst (λ (xs : List Closed). AreReady (take (i + 1) subnets) xs used (c.loop-i.spots.items ++ spot ∷ [])) more_closed grown in
    subst (λ (xs : List Spot). AreReady (take (i + 1) subnets) (take (i + 1) closed) used xs) (sym c.in_ok-push.ensures.items) with_closed
