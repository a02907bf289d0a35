use Rattle.std.proofs.Common.{rules}
use Rattle.std.proofs.lemmas.Fn.{filter_same}
use Rattle.bosh_traps.proofs.trap.leave_spent.Goals as goal

pub returns : goal.returns
returns c = filter_same _ _ _ (λ trap b f call. search rules) _ _ c.retain.ensures.filtered
