use Rattle.bosh_world.proofs.LoadLemmas.{begins}
use Rattle.bosh_world.proofs.loading.joined.Goals as goal

pub invariant_of-result : goal.invariant_of-result
invariant_of-result g c = record {
  is_site =
      begins c.args.book c.new.result c.read-entries.result _ _ _ c.new.ensures c.read-entries.ensures c.requires.running
      c.requires.fresh;
}
