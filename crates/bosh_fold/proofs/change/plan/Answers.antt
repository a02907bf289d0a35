use Rattle.bosh_fold.proofs.BringsLemmas.{it_brings_where}
use Rattle.bosh_fold.proofs.change.plan.Goals as goal

pub returns-clause-comes : goal.returns-clause-comes
returns-clause-comes c =
    it_brings_where c.args.records.now c.plan_entry-change.new.records c.args.entry.now c.plan_entry-change.result c.plan_entry-change.ensures.planned

pub returns-clause-alike : goal.returns-clause-alike
returns-clause-alike c = record {
  same = c.plan_entry-change.ensures.alike;
  ordered = λ ordered. c.tell_order.ensures;
}
