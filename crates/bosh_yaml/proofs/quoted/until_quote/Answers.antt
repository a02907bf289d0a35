use Rattle.bosh_yaml.proofs.QuoteLemmas.{single_found, single_none}
use Rattle.bosh_yaml.proofs.quoted.until_quote.Goals as goal

pub returns-in-Some-clause-found : goal.returns-in-Some-clause-found
returns-in-Some-clause-found c = single_found c.args.bytes.now c.in-Some.end c.in-Some.ensures.0 c.in-Some.ensures.1

pub returns-in-None-clause-none : goal.returns-in-None-clause-none
returns-in-None-clause-none c = single_none c.args.bytes.now c.in-None.ensures
