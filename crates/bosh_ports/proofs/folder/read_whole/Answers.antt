use Rattle.std.proofs.Common.{◌≤◌, length, arith}
use Rattle.bosh_ports.proofs.StreamLemmas.{whole-within_limit}
use Rattle.bosh_ports.proofs.folder.read_whole.Goals as goal

pub returns-in-Ok-2-clause-answer : goal.returns-in-Ok-2-clause-answer
returns-in-Ok-2-clause-answer g c =
    let few : length c.read_to_end.new.buf.items ≤ 1048576 = omega arith in
    let read = rw (c.take.ensures.inner, c.take.ensures.limit, c.new-bytes.ensures.items) at c.in-Ok-2.ensures.bytes in
    whole-within_limit (g.F.Read.remaining c.args.file) c.read_to_end.new.buf.items read few
