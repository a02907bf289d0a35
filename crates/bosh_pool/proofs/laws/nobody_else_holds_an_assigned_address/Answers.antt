use Rattle.bosh_pool.proofs.SafeLemmas.{all_unshared, all_untaken}
use Rattle.bosh_pool.proofs.laws.nobody_else_holds_an_assigned_address.Goals as goal

pub returns-clause-untaken : goal.returns-clause-untaken
returns-clause-untaken c = all_untaken

pub returns-clause-unshared : goal.returns-clause-unshared
returns-clause-unshared c = λ wants plan taken kept addrs once h. all_unshared wants plan taken kept addrs h once
