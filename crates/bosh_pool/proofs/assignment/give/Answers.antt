-- One more want has its address, or has none.
use Rattle.std.proofs.Common.{◌≡◌, ◌+◌, ◌⊎◌, Ok, Err, Option, drop, get_or, ap, sym, ◌∙◌, inl, inr, rules}
use Rattle.std.proofs.lemmas.Bool.{or_left}
use Rattle.bosh_base.specs.declared.addr.Addr.{Addr}
use Rattle.bosh_bands.specs.Least.{first_of}
use Rattle.bosh_pool.specs.Assignment.{free_for, given_addresses, placed}
use Rattle.bosh_pool.specs.Fixed.{same_addr}
use Rattle.bosh_pool.specs.Free.{is_used}
use Rattle.bosh_pool.specs.declared.fault.PoolFault.TheVariants.{Memory}
use Rattle.bosh_pool.proofs.AssignmentLemmas.{after, given-more, given-none, own-at}
use Rattle.bosh_pool.proofs.SearchLemmas.{AreReady-note}
use Rattle.bosh_pool.proofs.assignment.give.Goals as goal

pub returns-in_err-addr : goal.returns-in_err-addr
returns-in_err-addr c = λ find is.
    let i = c.loop-i.i in
    let wants = c.args.wants.now in
    let want = c.index-wants-i.result in
    let fault = c.in_err-addr.field-0.0 in
    let mine : (d : Option Addr) → get_or c.args.own.now i d ≡ find want = λ d. own-at find wants c.args.own.now i want d is c.loop-i-test.true c.index-wants-i.is in
    let told : (fault ≡ Memory) ⊎ (placed want (first_of (find want) (free_for c.args.plan.now (is_used c.loop-i.used) want)) ≡ Err fault) = rw mine at c.in_err-addr.ensures.place in
    let whole : (fault ≡ Memory) ⊎ (given_addresses c.args.plan.now find (is_used c.args.used.now) wants ≡ Err fault) =
    elim told [
      | inl memory ↦ inl memory
      | inr none ↦ inr (c.loop-i.invariant.same find is ∙ given-none c.args.plan.now find c.loop-i.used wants i want fault c.loop-i.addrs.items c.loop-i-test.true c.index-wants-i.is none)
    ] in
    search (rules, whole)

pub loop-i-preserved : goal.loop-i-preserved
loop-i-preserved c =
    let i = c.loop-i.i in
    let wants = c.args.wants.now in
    let want = c.index-wants-i.result in
    let addr = c.in_ok-addr.addr in
    record {
      ready = AreReady-note c.args.plan.now.subnets c.args.closed.now c.loop-i.used c.note.new.used c.place.new.spots
          (λ other held. c.in_ok-note.ensures other ∙ or_left (is_used c.loop-i.used other) (same_addr other addr) held) c.in_ok-addr.ensures.ready;
      same = λ find is.
          let mine : (d : Option Addr) → get_or c.args.own.now i d ≡ find want = λ d. own-at find wants c.args.own.now i want d is c.loop-i-test.true c.index-wants-i.is in
          let has : placed want (first_of (find want) (free_for c.args.plan.now (is_used c.loop-i.used) want)) ≡ Ok addr = rw mine at c.in_ok-addr.ensures.place in
          c.loop-i.invariant.same find is
          ∙ given-more c.args.plan.now find c.loop-i.used c.note.new.used wants i want addr c.loop-i.addrs.items c.loop-i-test.true c.index-wants-i.is has c.in_ok-note.ensures
          ∙ ap (λ addrs. after addrs (given_addresses c.args.plan.now find (is_used c.note.new.used) (drop (i + 1) wants))) (sym c.in_ok-push.ensures.items);
    }
