use Rattle.bosh_needed.proofs.MarkLemmas.{marked-more}
use Rattle.bosh_needed.proofs.marks.mark.Goals as goal

pub returns : goal.returns
returns c = marked-more c.args.marks.now c.insert.new.self c.args.key.now c.in_ok-insert.ensures.updates
