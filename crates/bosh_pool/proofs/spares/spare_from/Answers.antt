-- One more address is found, or there is none.
use Rattle.std.proofs.Common.{◌≡◌, ◌∙◌, ℕ, suc, ◌+◌, ◌-◌, [], ◌++◌, List, Some, None, append-nil, ap, sym, subst, refl, arith}
use Rattle.std.proofs.lemmas.Bool.{or_left}
use Rattle.bosh_base.specs.declared.addr.Addr.{Addr}
use Rattle.bosh_base.specs.declared.plan.Subnet.{Subnet}
use Rattle.bosh_bands.specs.Least.{least}
use Rattle.bosh_pool.specs.Fixed.{same_addr}
use Rattle.bosh_pool.specs.Free.{is_used}
use Rattle.bosh_pool.specs.Search.{AreReady, is_free_in}
use Rattle.bosh_pool.specs.Spare.{is_spare, spares}
use Rattle.bosh_pool.proofs.SearchLemmas.{AreReady-note}
use Rattle.bosh_pool.proofs.SpareLemmas.{spares-end, spares-more}
use Rattle.bosh_pool.proofs.spares.spare_from.Goals as goal

pub loop-init : goal.loop-init
loop-init c =
    let given = λ (n : ℕ). spares c.args.plan.now c.args.net.now c.args.az.now n (is_used c.args.used.now) in
    let whole : c.args.most ≡ c.args.most - 0 = omega arith in
    record {
      ready = c.requires;
      same = ap given whole ∙ ap (λ (addrs : List Addr). addrs ++ given (c.args.most - 0)) (sym c.new-addrs.ensures.items);
    }

pub least_free-requires : goal.least_free-requires
least_free-requires c =
    subst (λ (subnets : List Subnet). AreReady subnets c.args.closed.now c.loop.used c.loop.spots) (sym c.as_slice.ensures) c.loop.invariant.ready

pub returns-in_default : goal.returns-in_default
returns-in_default c =
    let plan = c.args.plan.now in
    let net = c.args.net.now in
    let az = c.args.az.now in
    let most = c.args.most in
    let used = c.loop.used in
    let addrs = c.loop.addrs.items in
    let rest = most - (c.loop.counter + 1) in
    let count : most - c.loop.counter ≡ suc rest = omega arith in
    let none : least (is_spare plan net az (is_used used)) ≡ None =
    sym (ap (λ (subnets : List Subnet). least (is_free_in net az used subnets)) c.as_slice.ensures) ∙ (sym c.least_free.ensures.least ∙ c.in_default.is) in
    c.from.ensures
    ∙ sym (c.loop.invariant.same
    ∙ (ap (λ (n : ℕ). addrs ++ spares plan net az n (is_used used)) count
    ∙ spares-end plan net az rest used addrs none))

pub loop-preserved : goal.loop-preserved
loop-preserved c =
    let plan = c.args.plan.now in
    let net = c.args.net.now in
    let az = c.args.az.now in
    let most = c.args.most in
    let used = c.loop.used in
    let next = c.note.new.used in
    let addr = c.in-Some.addr in
    let addrs = c.loop.addrs.items in
    let rest = most - (c.loop.counter + 1) in
    let count : most - c.loop.counter ≡ suc rest = omega arith in
    let found : least (is_spare plan net az (is_used used)) ≡ Some addr =
    sym (ap (λ (subnets : List Subnet). least (is_free_in net az used subnets)) c.as_slice.ensures) ∙ (sym c.least_free.ensures.least ∙ c.in-Some.is) in
    let ready : AreReady plan.subnets c.args.closed.now used c.least_free.new.spots =
    subst (λ (subnets : List Subnet). AreReady subnets c.args.closed.now used c.least_free.new.spots) c.as_slice.ensures c.least_free.ensures.ready in
    record {
      ready = AreReady-note plan.subnets c.args.closed.now used next c.least_free.new.spots
          (λ other held. c.in_ok-note.ensures other ∙ or_left (is_used used other) (same_addr other addr) held) ready;
      same =
          c.loop.invariant.same
          ∙ (ap (λ (n : ℕ). addrs ++ spares plan net az n (is_used used)) count
          ∙ (spares-more plan net az rest used next addr addrs found c.in_ok-note.ensures
          ∙ ap (λ (all : List Addr). all ++ spares plan net az rest (is_used next)) (sym c.in_ok-push.ensures.items)));
    }

pub returns : goal.returns
returns c =
    let none : c.args.most - c.loop.counter ≡ 0 = omega arith in
    c.from-2.ensures
    ∙ sym (c.loop.invariant.same
    ∙ (ap (λ (n : ℕ). c.loop.addrs.items ++ spares c.args.plan.now c.args.net.now c.args.az.now n (is_used c.loop.used)) none
    ∙ append-nil c.loop.addrs.items))
