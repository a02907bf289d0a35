use Rattle.std.proofs.Common.{codes}
use Rattle.bosh_program.proofs.EndLemmas.{text_written}
use Rattle.bosh_program.proofs.program.usage.Goals as goal

pub returns-clause-text : goal.returns-clause-text
returns-clause-text g c =
    text_written g.O.Sink.written g.O.Sink.faults (codes "usage: boshd [--threads=N]\n") c.args.out.now c.write_all.new.sink
    c.write_all.result c.write_all.ensures.all c.write_all.ensures.failed c.write_all.ensures.front
