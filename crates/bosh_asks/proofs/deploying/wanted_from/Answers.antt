use Rattle.std.proofs.Common.{◌∙◌, ap, Some}
use Rattle.bosh_asks.proofs.AnswerLemmas.{given, gives, refused}
use Rattle.bosh_asks.proofs.OverLemmas.{gives_over}
use Rattle.bosh_asks.specs.Cause.{IsCause}
use Rattle.bosh_asks.specs.Goals.{Gives}
use Rattle.bosh_asks.specs.Over.{GivesOver}
use Rattle.bosh_views.specs.View.{view_of}
use Rattle.bosh_manifest.specs.declared.manifest.Contents.{Contents}
use Rattle.bosh_asks.specs.Refused.{RefusesDeploy}
use Rattle.bosh_asks.proofs.deploying.wanted_from.Goals as goal

pub returns-clause-ok : goal.returns-clause-ok
returns-clause-ok c = λ file is.
    given (Gives c.args.deploy.now) c.goal-goal.result c.after.result (c.after.ensures ∙ c.answered.ensures)
    (gives c.args.deploy.now _ _ _ _ file c.goal-goal.result c.requires is c.goal-goal.ensures)

pub returns-clause-err : goal.returns-clause-err
returns-clause-err c = λ file is.
    refused (Gives c.args.deploy.now) (RefusesDeploy c.args.deploy.now) tt (λ fault told why. why)
    c.goal-goal.result c.after.result (c.after.ensures ∙ c.answered.ensures)
    (gives c.args.deploy.now _ _ _ _ file c.goal-goal.result c.requires is c.goal-goal.ensures)

pub returns-clause-over : goal.returns-clause-over
returns-clause-over c = λ same is.
    given (GivesOver c.args.records.now c.args.deploy.now) c.goal-goal.result c.after.result
    (c.after.ensures ∙ c.answered.ensures)
    (gives_over c.args.records.now c.args.deploy.now _ _ _ _ c.goal-goal.result c.requires same c.stemcells.ensures
    (c.in_ok-view.ensures ∙ ap (λ (it : Contents). view_of c.args.records.now it.name) c.contents.ensures.contents) is
    c.goal-goal.ensures)

pub returns-clause-cause : goal.returns-clause-cause
returns-clause-cause c = λ same is free.
    refused (GivesOver c.args.records.now c.args.deploy.now)
    (IsCause c.args.records.now (Unit {0}) (Some c.args.deploy.now.manifest.name)
    (GivesOver c.args.records.now c.args.deploy.now)) tt (λ fault told why. (tt, free, record { why = why; told = told }))
    c.goal-goal.result c.after.result (c.after.ensures ∙ c.answered.ensures)
    (gives_over c.args.records.now c.args.deploy.now _ _ _ _ c.goal-goal.result c.requires same c.stemcells.ensures
    (c.in_ok-view.ensures ∙ ap (λ (it : Contents). view_of c.args.records.now it.name) c.contents.ensures.contents) is
    c.goal-goal.ensures)
