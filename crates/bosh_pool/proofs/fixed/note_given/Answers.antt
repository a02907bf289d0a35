use Rattle.std.proofs.lemmas.Result.{on_ok_weaker}
use Rattle.bosh_pool.proofs.TableLemmas.{FirstWants-put, FirstWants-same}
use Rattle.bosh_pool.proofs.fixed.note_given.Goals as goal

pub returns-in-None : goal.returns-in-None
returns-in-None c = λ before first. FirstWants-same before c.args.want.now c.args.given.now c.in-None.is first

pub returns-in-Some : goal.returns-in-Some
returns-in-Some c =
    on_ok_weaker c.note_first.result
    (λ more before first. FirstWants-put before c.args.want.now c.in-Some.addr c.args.given.now c.note_first.new.table c.in-Some.is more first)
    c.note_first.ensures
