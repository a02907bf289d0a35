use Rattle.std.proofs.Common.{◌+◌, arith}
use Rattle.std.proofs.lemmas.Bool.Decides.{nat_tests}
use Rattle.bosh_yaml.proofs.LineLemmas.{take_rest, lines_found, lines_not_found}
use Rattle.bosh_yaml.proofs.line.next_line.Goals as goal

pub returns-in-Some-clause-some : goal.returns-in-Some-clause-some
returns-in-Some-clause-some c =
    rw (take_rest (c.in-Some.end + 1) c.args.bytes.now, c.without_return.ensures.cut) (lines_found c.args.bytes.now c.in-Some.end c.in-Some.ensures.0 c.in-Some.ensures.1)

pub returns-in-None-clause-some : goal.returns-in-None-clause-some
returns-in-None-clause-some c = lines_not_found c.args.bytes.now (grind (arith, nat_tests)) c.in-None.ensures
