use Rattle.std.proofs.Common.{arith}
use Rattle.std.proofs.lemmas.Str.Pattern.{split_parts}
use Rattle.cpi_proc.proofs.CutLemmas.{cut_is}
use Rattle.cpi_proc.proofs.owner.cut.Goals as goal

pub returns : goal.returns
returns c = cut_is c.args.text.now c.split_once.result (split_parts 47 c.args.text.now c.split_once.result c.split_once.ensures.cases (omega arith))
