use Rattle.std.proofs.Common.{◌∙◌, List, ap, map, subst, IfOk}
use Rattle.bosh_links.specs.Candidate.{provider_of}
use Rattle.bosh_links.specs.Table.{AreOf}
use Rattle.bosh_links.specs.declared.provider.Provider.{Provider}
use Rattle.bosh_links.proofs.resolution.candidates_of.Goals as goal

pub returns-clause-ok : goal.returns-clause-ok
returns-clause-ok c =
    subst (λ (ps : List Provider). IfOk c.of.result (AreOf ps)) (ap (map provider_of) c.as_slice.ensures.value ∙ c.in_ok-provided.ensures) c.of.ensures.ok
