use Rattle.std.proofs.Common.{[], ◌∷◌, codes, false, Some, refl}
use Rattle.bosh_line_words.specs.Grammar.{Choice, IsRefused}
use Rattle.bosh_line_words.specs.Words.{word_of, words_in}
use Rattle.bosh_line_words.proofs.GrammarLemmas.{out_of_memory, refused, value_follows}
use Rattle.bosh_lines.specs.Forms.{cloud_check_form, is_member}
use Rattle.bosh_lines.proofs.LineLemmas.{passed_on}
use Rattle.bosh_lines.proofs.deployment.cloud_check.Goals as goal

pub returns-in_err-options-clause-refused : goal.returns-in_err-options-clause-refused
returns-in_err-options-clause-refused c =
    let form = cloud_check_form c.args.dep.now in
    let words = words_in c.args.rest in
    passed_on (IsRefused [] form.options words) c.from_residual.result c.in_err-options.field-0.0 c.from_residual.ensures.1
    (refused [] form.options words c.in_err-options.field-0.0 c.in_err-options.ensures.refused)

pub returns-in_err-dep-clause-refused : goal.returns-in_err-dep-clause-refused
returns-in_err-dep-clause-refused c =
    let form = cloud_check_form c.args.dep.now in
    let words = words_in c.args.rest in
    passed_on (IsRefused [] form.options words) c.from_residual-in_err-dep.result c.in_err-dep.field-0.0 c.from_residual-in_err-dep.ensures.1
    (out_of_memory [] form.options words c.in_err-dep.field-0.0 c.in_err-dep.ensures.refused c.in_ok-options.ensures.ok)

pub returns-in_err-member-clause-refused : goal.returns-in_err-member-clause-refused
returns-in_err-member-clause-refused c =
    let choice : Choice = record { name = codes "--resolve"; value = Some is_member; repeats = false } in
    absurd (value_follows choice is_member (words_in c.args.rest) (words_in c.in-Some.left) (word_of c.in-Some.field-0-0) c.in_err-member.field-0.0 refl c.in_ok-options.ensures.ok c.in-Some.ensures c.in_err-member.ensures.refused)

pub returns-in_err-inst-clause-refused : goal.returns-in_err-inst-clause-refused
returns-in_err-inst-clause-refused c =
    let form = cloud_check_form c.args.dep.now in
    let words = words_in c.args.rest in
    passed_on (IsRefused [] form.options words) c.from_residual-in_err-inst.result c.in_err-inst.field-0.0 c.from_residual-in_err-inst.ensures.1
    (out_of_memory [] form.options words c.in_err-inst.field-0.0 c.in_err-inst.ensures.refused c.in_ok-options.ensures.ok)
