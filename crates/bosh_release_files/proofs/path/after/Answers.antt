use Rattle.std.proofs.Common.{eqb}
use Rattle.std.proofs.lemmas.Bool.Decides.{Decides-eqb}
use Rattle.std.proofs.lemmas.Slice.Eq.{strip_prefix_is}
use Rattle.bosh_release_files.proofs.PathLemmas.{after_is}
use Rattle.bosh_release_files.proofs.path.after.Goals as goal

pub returns : goal.returns
returns c = after_is c.args.front.now c.args.path.now c.strip_prefix.result (strip_prefix_is {E = eqb} Decides-eqb c.args.path.now c.args.front.now c.strip_prefix.result c.strip_prefix.ensures.cases)
