use Rattle.bosh_pool.proofs.SafeLemmas.{all_different}
use Rattle.bosh_pool.proofs.laws.assigned_addresses_are_different.Goals as goal

pub returns : goal.returns
returns c = λ wants plan taken kept addrs wanted apart once h. all_different wants plan taken kept addrs h wanted apart once
