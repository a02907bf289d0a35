use Rattle.std.proofs.lemmas.Result.{err_from_is_err_and}
use Rattle.bosh_entry.specs.List.{items_at}
use Rattle.bosh_entry.proofs.ListLemmas.{goes_on, ends, is_done}
use Rattle.bosh_entry.proofs.list.read_one_by_one.Goals as goal

pub returns-in_err-read : goal.returns-in_err-read
returns-in_err-read g c =
    let r = g.T.Coded.reading c.args.format in
    let p = err_from_is_err_and c.from_residual.result c.from_residual.ensures.1 in
    rw (p.1, p.2) (ends r c.in_err-read.field-0.0 c.loop.items.items c.args.count c.loop.counter c.loop.from.rest.now c.read.new.from.rest.now c.read.new.from.rest.now (items_at r c.args.count c.args.from.now.rest.now) c.loop-test.true c.in_err-read.ensures c.loop.invariant)

pub loop-preserved : goal.loop-preserved
loop-preserved g c =
    let r = g.T.Coded.reading c.args.format in
    rw c.in_ok-push.ensures.items (goes_on r c.loop.items.items c.args.count c.loop.counter c.loop.from.rest.now c.in_ok-read.field-0 c.read.new.from.rest.now (items_at r c.args.count c.args.from.now.rest.now) c.loop-test.true c.in_ok-read.ensures c.loop.invariant)

pub returns : goal.returns
returns g c =
    let r = g.T.Coded.reading c.args.format in
    rw c.from.ensures (is_done r c.loop.items.items c.args.count c.loop.counter c.loop.from.rest.now (items_at r c.args.count c.args.from.now.rest.now) c.loop-test.false c.loop.invariant)
