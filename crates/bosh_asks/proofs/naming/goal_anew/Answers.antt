use Rattle.std.proofs.Common.{◌≡◌, ◌∙◌, Some, true}
use Rattle.std.specs.Option.{option_copied}
use Rattle.bosh_asks.proofs.AnswerLemmas.{given, refused, renews}
use Rattle.bosh_asks.proofs.OverLemmas.{renews_over}
use Rattle.bosh_asks.specs.Cause.{IsCause}
use Rattle.bosh_asks.specs.Goals.{Renews}
use Rattle.bosh_asks.specs.Known.{is_wanted}
use Rattle.bosh_asks.specs.Over.{RenewsOver}
use Rattle.bosh_asks.specs.Refused.{RefusesChange}
use Rattle.bosh_asks.proofs.naming.goal_anew.Goals as goal

pub returns-clause-ok : goal.returns-clause-ok
returns-clause-ok c = λ file is.
    given (Renews c.args.inst.now c.args.change) c.anew-goal.result c.after.result
    (c.after.ensures ∙ c.answered.ensures)
    (renews c.args.inst.now c.args.change c.args.goal.now c.in_ok-view.view (option_copied c.args.config) file
    c.anew-goal.result c.requires is c.anew-goal.ensures)

pub returns-clause-err : goal.returns-clause-err
returns-clause-err c = λ file is.
    refused (Renews c.args.inst.now c.args.change) (RefusesChange c.args.inst.now c.args.change) tt (λ fault told why. why)
    c.anew-goal.result c.after.result (c.after.ensures ∙ c.answered.ensures)
    (renews c.args.inst.now c.args.change c.args.goal.now c.in_ok-view.view (option_copied c.args.config) file
    c.anew-goal.result c.requires is c.anew-goal.ensures)

pub returns-clause-over : goal.returns-clause-over
returns-clause-over c = λ recorded is.
    given (RenewsOver c.args.records.now c.args.inst.now c.args.change) c.anew-goal.result c.after.result
    (c.after.ensures ∙ c.answered.ensures)
    (renews_over c.args.records.now c.args.inst.now c.args.change c.args.goal.now c.in_ok-view.view
    (option_copied c.args.config) c.anew-goal.result recorded c.in_ok-view.ensures is c.anew-goal.ensures)

pub returns-clause-cause : goal.returns-clause-cause
returns-clause-cause c = λ recorded is wanted free.
    refused (RenewsOver c.args.records.now c.args.inst.now c.args.change)
    (IsCause c.args.records.now (is_wanted c.args.records.now c.args.inst.now ≡ true) (Some c.args.inst.now.dep)
    (RenewsOver c.args.records.now c.args.inst.now c.args.change)) tt (λ fault told why. (wanted, free, record { why = why; told = told }))
    c.anew-goal.result c.after.result (c.after.ensures ∙ c.answered.ensures)
    (renews_over c.args.records.now c.args.inst.now c.args.change c.args.goal.now c.in_ok-view.view
    (option_copied c.args.config) c.anew-goal.result recorded c.in_ok-view.ensures is c.anew-goal.ensures)
