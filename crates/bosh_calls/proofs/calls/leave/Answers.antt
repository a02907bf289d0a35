use Rattle.std.proofs.Common.{rules}
use Rattle.std.proofs.lemmas.Fn.{filter_same}
use Rattle.bosh_calls.proofs.calls.leave.Goals as goal

pub returns-clause-others : goal.returns-clause-others
returns-clause-others c = filter_same _ _ _ (λ it b f call. search rules) _ _ c.retain.ensures.filtered
