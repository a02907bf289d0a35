use Rattle.std.proofs.Common.{arith}
use Rattle.bosh_entry.proofs.TextLemmas.{bytes_read, bytes_missing}
use Rattle.bosh_entry.proofs.text.read_bytes.Goals as goal

pub returns-then-count-from : goal.returns-then-count-from
returns-then-count-from c = bytes_missing c.args.count c.args.from.now.rest.now c.if-count-from.true

pub returns : goal.returns
returns c = rw (c.from.ensures, c.in_ok-from_slice.ensures.items, c.split_at.ensures.front, c.split_at.ensures.back) (bytes_read c.args.count c.args.from.now.rest.now (omega (arith, c.if-count-from.false)))
