use Rattle.std.proofs.Common.{eqb}
use Rattle.std.proofs.lemmas.Bool.Decides.{Decides-eqb}
use Rattle.std.proofs.lemmas.Slice.Eq.{strip_suffix_is}
use Rattle.bosh_release_files.proofs.PathLemmas.{before_is}
use Rattle.bosh_release_files.proofs.pattern.before.Goals as goal

pub returns : goal.returns
returns c = before_is c.args.end.now c.args.text.now c.strip_suffix.result (strip_suffix_is {E = eqb} Decides-eqb c.args.text.now c.args.end.now c.strip_suffix.result c.strip_suffix.ensures.cases)
