-- One more subnet is looked through.
use Rattle.std.proofs.Common.{◌≡◌, ◌+◌, List, take, subst, sym, get_or}
use Rattle.std.proofs.lemmas.List.{take_all}
use Rattle.bosh_base.specs.declared.addr.Band.{Band}
use Rattle.bosh_base.specs.declared.plan.Subnet.{Subnet}
use Rattle.bosh_pool.specs.Free.{IsReady}
use Rattle.bosh_pool.specs.Search.{Finds, is_free_in}
use Rattle.bosh_pool.proofs.SearchLemmas.{AreReady-set, Finds-least, least_more}
use Rattle.bosh_pool.proofs.search.least_free.Goals as goal

pub loop-i-preserved : goal.loop-i-preserved
loop-i-preserved c =
    let i = c.loop-i.i in
    let subnets = c.args.subnets.now in
    let closed = c.args.closed.now in
    let used = c.args.used.now in
    let subnet = c.index-subnets-i.result in
    let one = c.index-closed-i.result in
    let spot = c.visit-found.result.0 in
    let here : IsReady subnet (get_or closed i one).bands used spot =
    subst (λ (xs : List Band). IsReady subnet xs used spot) c.as_slice.ensures c.visit-found.ensures.ready in
    let both : IsReady (get_or subnets i subnet) (get_or closed i one).bands used spot =
    subst (λ (s : Subnet). IsReady s (get_or closed i one).bands used spot) c.index-subnets-i.is here in
    record {
      ready = AreReady-set subnets closed used c.loop-i.spots i spot subnet one c.loop-i-test.true both c.loop-i.invariant.ready;
      best =
          subst (Finds (is_free_in c.args.net.now c.args.az.now used (take (i + 1) subnets))) (sym c.lesser-best.ensures)
          (least_more c.args.net.now c.args.az.now used subnets i subnet c.loop-i.best c.visit-found.result.1 c.loop-i-test.true c.index-subnets-i.is c.loop-i.invariant.best c.visit-found.ensures.found);
    }

pub returns-clause-least : goal.returns-clause-least
returns-clause-least c =
    let all : take c.loop-i.i c.args.subnets.now ≡ c.args.subnets.now = take_all c.loop-i.i c.args.subnets.now c.loop-i-test.false in
    Finds-least _ c.loop-i.best (subst (λ (xs : List Subnet). Finds (is_free_in c.args.net.now c.args.az.now c.args.used.now xs) c.loop-i.best) all c.loop-i.invariant.best)
