use Rattle.bosh_bands.proofs.LeastLemmas.{least-found, least-is, least-none, least-nowhere}
use Rattle.bosh_bands.proofs.laws.least_is_least.Goals as goal

pub returns-clause-is : goal.returns-clause-is
returns-clause-is c = least-is

pub returns-clause-found : goal.returns-clause-found
returns-clause-found c = least-found

pub returns-clause-none : goal.returns-clause-none
returns-clause-none c = least-none

pub returns-clause-nowhere : goal.returns-clause-nowhere
returns-clause-nowhere c = least-nowhere
