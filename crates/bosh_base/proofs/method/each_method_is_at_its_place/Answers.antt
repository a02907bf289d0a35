use Rattle.bosh_base.proofs.MethodLemmas.{at_its_place}
use Rattle.bosh_base.proofs.method.each_method_is_at_its_place.Goals as goal

pub returns : goal.returns
returns c = at_its_place c.args.method
