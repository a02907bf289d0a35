use Rattle.std.proofs.Common.{◌≡◌, ◌∙◌, ap, None}
use Rattle.bosh_asks.proofs.GoalLemmas.{at_ok}
use Rattle.bosh_asks.specs.Asked.{dep_of}
use Rattle.bosh_asks.specs.Known.{lock_holder}
use Rattle.bosh_asks.specs.Opened.{Does}
use Rattle.bosh_asks.specs.Over.{DoesOver, IsNamed}
use Rattle.bosh_asks.proofs.opened.opening.Goals as goal

pub returns-clause-ok : goal.returns-clause-ok
returns-clause-ok c =
    let (named, planned) = c.in_ok-kind.ensures.ok in
    let (kind, dep) = c.in_ok-named.ensures in
    record {
      kind = ap (λ both. both.0) named ∙ kind;
      dep = ap (λ both. both.1) named ∙ dep;
      source = c.source_of.ensures;
      does = at_ok c.planned-plan.result c.in_ok-kind.plan (Does c.args.ask.now) planned c.planned-plan.ensures.ok;
    }

pub returns-clause-free : goal.returns-clause-free
returns-clause-free c =
    at_ok c.planned-plan.result c.in_ok-kind.plan (λ plan. lock_holder c.args.records.now (dep_of c.args.ask.now) ≡ None)
    c.in_ok-kind.ensures.ok.1 c.planned-plan.ensures.free

pub returns-clause-named : goal.returns-clause-named
returns-clause-named c =
    at_ok c.planned-plan.result c.in_ok-kind.plan (λ plan. IsNamed c.args.records.now c.args.ask.now)
    c.in_ok-kind.ensures.ok.1 c.planned-plan.ensures.named

pub returns-clause-over : goal.returns-clause-over
returns-clause-over c =
    at_ok c.planned-plan.result c.in_ok-kind.plan (DoesOver c.args.records.now c.args.ask.now)
    c.in_ok-kind.ensures.ok.1 c.planned-plan.ensures.over
