use Rattle.bosh_yaml.proofs.QuoteLemmas.{unicode_at}
use Rattle.bosh_yaml.proofs.quoted.unicode_of.Goals as goal

pub returns-clause-found : goal.returns-clause-found
returns-clause-found c =
    unicode_at c.args.bytes.now c.split_at.result.0.now c.split_at.result.1.now c.in_ok-c.c c.if-bytes-lt4.false c.split_at.ensures.front c.split_at.ensures.back c.in_ok-c.ensures
