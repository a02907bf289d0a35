use Rattle.bosh_template.proofs.RenderingLemmas.{IsWritten}
use Rattle.bosh_template.proofs.rendering.add_parts.Given as goal

abbrev pub invariant-loop-part : goal.invariant-loop-part
invariant-loop-part l = IsWritten l.env l.parts l.part-index l.initial.output l.output
