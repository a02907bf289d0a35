use Rattle.bosh_cloud.proofs.ReadLemmas.{Reads-refused, Reads-told, SoFar-more}
use Rattle.bosh_cloud.proofs.load.read_bodies.Goals as goal

pub returns-in_err-read_body-clause-reads : goal.returns-in_err-read_body-clause-reads
returns-in_err-read_body-clause-reads g c =
    Reads-told g.L.Keeper.bodies g.L.Keeper.faults c.args.store.now c.read_body.new.store c.from_residual.result
    c.in_err-read_body.field-0.0 c.read_body.new.inventory c.from_residual.ensures.1
    (Reads-refused g.L.Keeper.bodies g.L.Keeper.faults c.args.store.now c.loop-place.store c.read_body.new.store
    c.loop-place.place c.len-place-end.result c.loop-place.inventory c.in_err-read_body.field-0.0
    c.loop-place-test.true c.loop-place.invariant.0 c.in_err-read_body.ensures.reads)

pub loop-place-preserved : goal.loop-place-preserved
loop-place-preserved g c = (
  SoFar-more g.L.Keeper.bodies g.L.Keeper.faults c.args.store.now c.loop-place.store c.read_body.new.store
      c.loop-place.place c.len-place-end.result c.loop-place.inventory c.read_body.new.inventory
      c.loop-place-test.true c.loop-place.invariant.0 c.in_ok-read_body.ensures.reads,
  c.in_ok-read_body.ensures.mends,
)
