use Rattle.std.proofs.Common.{◌≡◌, subst, ℕ, List, None, Ok, Option, Some, false}
use Rattle.std.specs.Prelude.{OnOk}
use Rattle.bosh_asks.proofs.AnswerLemmas.{failed_goal, passed_goal}
use Rattle.bosh_asks.proofs.GoalLemmas.{given_dep}
use Rattle.bosh_asks.proofs.OverLemmas.{always, failed_over, passed_as, tested}
use Rattle.bosh_asks.specs.Known.{lacks_room}
use Rattle.bosh_asks.specs.Over.{GivesOver}
use Rattle.bosh_asks.specs.Recorded.{first_consumer, holder}
use Rattle.bosh_base.specs.declared.goal.Goal.{Goal}
use Rattle.bosh_base.specs.declared.task.TaskRow.{TaskRow}
use Rattle.bosh_manifest.specs.declared.manifest.Contents.{Contents}
use Rattle.bosh_asks.proofs.deploying.checked_goal.Goals as goal

pub returns-clause-ok : goal.returns-clause-ok
returns-clause-ok c =
    passed_goal c.args.deploy.now c.in_ok-goal.goal c.passed.result c.in_ok-goal.ensures.ok c.passed.ensures.ok

pub returns-clause-err : goal.returns-clause-err
returns-clause-err c =
    failed_goal c.args.deploy.now c.in_ok-goal.goal c.check-checked.result c.passed.result c.in_ok-goal.ensures.ok
    c.check-checked.ensures.err c.passed.ensures.err

pub returns-clause-free : goal.returns-clause-free
returns-clause-free c =
    always _ c.passed.result
    (subst (λ (entries : List (ℕ × Option TaskRow)). holder (Some c.args.deploy.now.manifest.name) entries ≡ None)
    c.tasks.ensures.rest
    (subst (λ (it : Contents). holder (Some it.name) c.tasks.result ≡ None) c.contents.ensures.contents
    c.in_ok-check_free.ensures.free))

pub returns-clause-over : goal.returns-clause-over
returns-clause-over c =
    passed_as (λ (it : Goal). GivesOver c.args.records.now c.args.deploy.now (Ok it)) c.in_ok-goal.goal c.passed.result
    c.passed.ensures.ok (always _ c.passed.result c.in_ok-goal.ensures.over)

pub returns-clause-kept : goal.returns-clause-kept
returns-clause-kept c =
    passed_as (λ (it : Goal). first_consumer it c.args.records.now.deployments.places.entries ≡ None) c.in_ok-goal.goal
    c.passed.result c.passed.ensures.ok
    (tested _ c.check-checked.result c.passed.result c.passed.ensures.tested c.check-checked.ensures.kept)

pub returns-clause-room : goal.returns-clause-room
returns-clause-room c =
    subst (λ (dep : List ℕ). OnOk c.passed.result (lacks_room c.args.records.now dep ≡ false))
    (given_dep c.args.deploy.now c.in_ok-goal.goal c.in_ok-goal.ensures.ok)
    (tested _ c.check-checked.result c.passed.result c.passed.ensures.tested c.check-checked.ensures.room)

pub returns-clause-cause : goal.returns-clause-cause
returns-clause-cause c =
    failed_over c.args.records.now c.args.deploy.now c.in_ok-goal.goal c.check-checked.result c.passed.result
    c.in_ok-goal.ensures.over (given_dep c.args.deploy.now c.in_ok-goal.goal c.in_ok-goal.ensures.ok)
    (subst (λ (entries : List (ℕ × Option TaskRow)). holder (Some c.args.deploy.now.manifest.name) entries ≡ None)
    c.tasks.ensures.rest
    (subst (λ (it : Contents). holder (Some it.name) c.tasks.result ≡ None) c.contents.ensures.contents
    c.in_ok-check_free.ensures.free))
    c.check-checked.ensures.cause c.passed.ensures.err
