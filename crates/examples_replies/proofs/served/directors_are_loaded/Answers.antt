use Rattle.std.proofs.Common.{arith, refl}
use Rattle.examples_replies.proofs.served.directors_are_loaded.Goals as goal

pub returns-clause-loaded : goal.returns-clause-loaded
returns-clause-loaded c = record { ends = refl; rests = refl; may_find = λ tells. refl }

pub returns-clause-silent : goal.returns-clause-silent
returns-clause-silent c loaded = grind (arith, loaded.ends)

pub returns-clause-idle : goal.returns-clause-idle
returns-clause-idle c loaded = grind (arith, loaded.rests)

pub returns-clause-finds_more : goal.returns-clause-finds_more
returns-clause-finds_more c loaded = loaded.may_find tt
