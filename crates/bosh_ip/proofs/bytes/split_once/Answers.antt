use Rattle.std.proofs.Common.{sym}
use Rattle.std.proofs.lemmas.List.{take_rest}
use Rattle.bosh_ip.proofs.BytesLemmas.{split_at_position, Lacks-position}
use Rattle.bosh_ip.proofs.bytes.split_once.Goals as goal

pub returns-in-Some : goal.returns-in-Some
returns-in-Some c =
    let (within, split, lacks) = split_at_position c.args.byte c.args.text.now c.in-Some.at (sym c.in-Some.ensures) in
    (rw take_rest split, lacks)

pub returns-in-None : goal.returns-in-None
returns-in-None c = Lacks-position c.args.byte c.args.text.now (sym c.in-None.ensures)
