use Rattle.std.proofs.Common.{◌∙◌, [], ◌∷◌, codes, ap, sym}
use Rattle.bosh_line_words.specs.Grammar.{IsRefused, has}
use Rattle.bosh_line_words.specs.Kinds.{is_path}
use Rattle.bosh_line_words.specs.Words.{words_in}
use Rattle.bosh_line_words.proofs.GrammarLemmas.{fault_taken, out_of_memory, refused, refused_taken}
use Rattle.bosh_lines.specs.Forms.{deploy_command, deploy_form}
use Rattle.bosh_lines.specs.Variable.{variables_in}
use Rattle.bosh_lines.proofs.LineLemmas.{passed_on, same_deploy}
use Rattle.bosh_lines.proofs.deployment.deploy.Goals as goal

pub returns-in_err-options-clause-refused : goal.returns-in_err-options-clause-refused
returns-in_err-options-clause-refused c =
    let form = deploy_form c.args.dep.now in
    let words = words_in c.args.rest in
    let left = words_in c.in_ok-path.left in
    let taken = c.in_ok-path.ensures.ok in
    let fault = c.in_err-options.field-0.0 in
    passed_on (IsRefused form.places form.options words) c.from_residual-in_err-options.result fault c.from_residual-in_err-options.ensures.1
    (refused_taken is_path [] form.options words taken.word left fault taken.first taken.suits (refused [] form.options left fault c.in_err-options.ensures.refused))

pub returns-in_err-dep-clause-refused : goal.returns-in_err-dep-clause-refused
returns-in_err-dep-clause-refused c =
    let form = deploy_form c.args.dep.now in
    let words = words_in c.args.rest in
    let left = words_in c.in_ok-path.left in
    let taken = c.in_ok-path.ensures.ok in
    let fault = c.in_err-dep.field-0.0 in
    passed_on (IsRefused form.places form.options words) c.from_residual-in_err-dep.result fault c.from_residual-in_err-dep.ensures.1
    (out_of_memory form.places form.options words fault c.in_err-dep.ensures.refused (fault_taken is_path [] form.options words taken.word left taken.first taken.suits ∙ c.in_ok-options.ensures.ok))

pub returns-in_err-vars-clause-refused : goal.returns-in_err-vars-clause-refused
returns-in_err-vars-clause-refused c =
    let form = deploy_form c.args.dep.now in
    let words = words_in c.args.rest in
    let left = words_in c.in_ok-path.left in
    let taken = c.in_ok-path.ensures.ok in
    let fault = c.in_err-vars.field-0.0 in
    passed_on (IsRefused form.places form.options words) c.from_residual-in_err-vars.result fault c.from_residual-in_err-vars.ensures.1
    (out_of_memory form.places form.options words fault c.in_err-vars.ensures.refused (fault_taken is_path [] form.options words taken.word left taken.first taken.suits ∙ c.in_ok-options.ensures.ok))

pub returns-clause-ok : goal.returns-clause-ok
returns-clause-ok c =
    let dep = c.args.dep.now in
    let form = deploy_form dep in
    let words = words_in c.args.rest in
    let left = words_in c.in_ok-path.left in
    let taken = c.in_ok-path.ensures.ok in (
      fault_taken is_path [] form.options words taken.word left taken.first taken.suits ∙ c.in_ok-options.ensures.ok,
      ap (deploy_command dep) taken.first
          ∙ same_deploy dep c.in_ok-dep.dep taken.word.text c.in_ok-dep.path (variables_in left) c.in_ok-vars.vars (has (codes "--recreate") left) c.has-recreate.result (has (codes "--fix") left) c.has-fix.result
          c.in_ok-dep.ensures.ok.0 (c.in_ok-dep.ensures.ok.1 ∙ taken.means) c.in_ok-vars.ensures.ok c.has-recreate.ensures c.has-fix.ensures,
    )
