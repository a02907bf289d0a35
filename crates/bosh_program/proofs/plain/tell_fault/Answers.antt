use Rattle.std.proofs.Common.{◌∙◌}
use Rattle.bosh_program.proofs.EndLemmas.{line_written}
use Rattle.bosh_program.proofs.plain.tell_fault.Goals as goal

pub returns-clause-line : goal.returns-clause-line
returns-clause-line g c =
    line_written g.O.Sink.written g.O.Sink.faults c.args.fault.now c.in_ok-text.ensures.line.0 c.as_slice.result.now c.args.out.now
    c.write_all.new.sink c.write_all.result c.in_ok-text.ensures.line.1
    (c.as_slice.ensures.value ∙ c.in_ok-text.ensures.line.2) c.write_all.ensures.all c.write_all.ensures.failed
    c.write_all.ensures.front
