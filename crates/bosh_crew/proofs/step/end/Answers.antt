use Rattle.std.proofs.Common.{refl}
use Rattle.bosh_crew.specs.Carried.Stops.{in_end}
use Rattle.bosh_crew.proofs.step.end.Goals as goal

pub returns-in-Ok-clause-ends : goal.returns-in-Ok-clause-ends
returns-in-Ok-clause-ends g c = (c.in-Ok.field-0, c.in-Ok.ensures.ends, c.in-Ok.ensures.calls)

pub returns-clause-ends : goal.returns-clause-ends
returns-clause-ends g c = λ tasks worker there over.
    in_end c.args.task refl there over c.in-Err.ensures.refused c.in-Err.ensures.fault c.in-Err.ensures.calls
    c.in-Err.ensures.pending
