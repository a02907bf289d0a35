use Rattle.std.proofs.Common.{get_or}
use Rattle.bosh_yaml.proofs.QuoteLemmas.{double_found, double_none, other_is_escape}
use Rattle.bosh_yaml.proofs.quoted.until_sign.Goals as goal

pub returns-in-Some-clause-found : goal.returns-in-Some-clause-found
returns-in-Some-clause-found c = double_found c.args.bytes.now c.in-Some.end c.in-Some.ensures.0

pub returns-in-Some-clause-sign : goal.returns-in-Some-clause-sign
returns-in-Some-clause-sign c = other_is_escape (get_or c.args.bytes.now c.in-Some.end 0) c.in-Some.ensures.1

pub returns-in-None-clause-none : goal.returns-in-None-clause-none
returns-in-None-clause-none c = double_none c.args.bytes.now c.in-None.ensures
