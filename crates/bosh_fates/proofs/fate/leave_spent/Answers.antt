use Rattle.std.proofs.Common.{rules}
use Rattle.std.proofs.lemmas.Fn.{filter_same}
use Rattle.bosh_fates.proofs.fate.leave_spent.Goals as goal

pub returns : goal.returns
returns c = filter_same _ _ _ (λ doom b f call. search rules) _ _ c.retain.ensures.filtered
