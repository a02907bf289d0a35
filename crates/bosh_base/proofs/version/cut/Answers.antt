use Rattle.std.proofs.Common.{◌∙◌, sym}
use Rattle.bosh_base.proofs.VersionLemmas.{before_found, before_none, after_found, after_none}
use Rattle.bosh_base.proofs.version.cut.Goals as goal

pub returns-in-Some-clause-before : goal.returns-in-Some-clause-before
returns-in-Some-clause-before c = before_found _ _ _ (sym c.place_of.ensures ∙ c.in-Some.is)

pub returns-in-Some-clause-after : goal.returns-in-Some-clause-after
returns-in-Some-clause-after c = after_found c.args.byte c.args.text.now c.in-Some.place (sym c.place_of.ensures ∙ c.in-Some.is)

pub returns-in-None-clause-before : goal.returns-in-None-clause-before
returns-in-None-clause-before c = before_none _ _ (sym c.place_of.ensures ∙ c.in-None.is)

pub returns-in-None-clause-after : goal.returns-in-None-clause-after
returns-in-None-clause-after c = after_none c.args.byte c.args.text.now (sym c.place_of.ensures ∙ c.in-None.is)
