use Rattle.bosh_compile.proofs.TableLemmas.{keys_more}
use Rattle.bosh_compile.proofs.key_set.add_key.Goals as goal

pub returns : goal.returns
returns c = λ keys are. keys_more c.args.table.now c.insert.new.self c.args.key.now keys c.in_ok-insert.ensures.updates are
