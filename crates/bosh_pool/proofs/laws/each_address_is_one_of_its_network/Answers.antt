use Rattle.bosh_pool.proofs.SafeLemmas.{all_lent, all_unreserved}
use Rattle.bosh_pool.proofs.laws.each_address_is_one_of_its_network.Goals as goal

pub returns-clause-lent : goal.returns-clause-lent
returns-clause-lent c = all_lent

pub returns-clause-unreserved : goal.returns-clause-unreserved
returns-clause-unreserved c = λ wants plan taken kept addrs apart h. all_unreserved wants plan taken kept addrs h apart
