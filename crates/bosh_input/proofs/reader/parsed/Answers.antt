use Rattle.bosh_lines.specs.Lines.{found_in}
use Rattle.bosh_input.proofs.AskedLemmas.{asked_then, asked_well}
use Rattle.bosh_input.proofs.reader.parsed.Goals as goal

pub returns-in-Ok-clause-ok : goal.returns-in-Ok-clause-ok
returns-in-Ok-clause-ok c = asked_well (found_in c.args.line.now) c.in-Ok.command c.in-Ok.ensures

pub returns-in-Err-clause-ok : goal.returns-in-Err-clause-ok
returns-in-Err-clause-ok c = asked_then (found_in c.args.line.now) c.in-Err.fault c.refused.result c.in-Err.ensures c.refused.ensures.ok
