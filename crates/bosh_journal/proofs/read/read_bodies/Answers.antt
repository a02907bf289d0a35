use Rattle.bosh_journal.proofs.ReadLemmas.{SoFar-more}
use Rattle.bosh_journal.proofs.read.read_bodies.Goals as goal

pub loop-place-preserved : goal.loop-place-preserved
loop-place-preserved g c = (
  SoFar-more g.K.Keeper.bodies g.K.Keeper.faults g.K.Keeper.is_broken c.args.store.now c.loop-place.store
      c.read_body.new.store c.args.format c.loop-place.place c.len-place-end.result c.loop-place.entries.items
      c.read_body.new.entries.items c.loop-place-test.true c.loop-place.invariant.0 c.in_ok-read_body.ensures.reads,
  c.in_ok-read_body.ensures.reads.mends,
)
