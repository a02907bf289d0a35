use Rattle.std.proofs.Common.{◌∙◌, [], ◌∷◌, codes, ap, sym}
use Rattle.std.specs.Option.{option_map}
use Rattle.bosh_line_words.specs.Grammar.{IsRefused, has}
use Rattle.bosh_line_words.specs.Kinds.{inst_from}
use Rattle.bosh_line_words.specs.Words.{words_in}
use Rattle.bosh_line_words.proofs.GrammarLemmas.{fault_taken, out_of_memory, refused, refused_taken}
use Rattle.bosh_lines.specs.Forms.{is_member, stop_command, stop_form}
use Rattle.bosh_lines.specs.declared.command.Command.TheVariants as command
use Rattle.bosh_lines.proofs.LineLemmas.{passed_on, same_stop}
use Rattle.bosh_lines.proofs.deployment.stop.Goals as goal

pub returns-in_err-options-clause-refused : goal.returns-in_err-options-clause-refused
returns-in_err-options-clause-refused c =
    let form = stop_form c.args.dep.now in
    let words = words_in c.args.rest in
    let left = words_in c.in_ok-member.left in
    let taken = c.in_ok-member.ensures.ok in
    let fault = c.in_err-options.field-0.0 in
    passed_on (IsRefused form.places form.options words) c.from_residual-in_err-options.result fault c.from_residual-in_err-options.ensures.1
    (refused_taken is_member [] form.options words taken.word left fault taken.first taken.suits (refused [] form.options left fault c.in_err-options.ensures.refused))

pub returns-in_err-inst-clause-refused : goal.returns-in_err-inst-clause-refused
returns-in_err-inst-clause-refused c =
    let form = stop_form c.args.dep.now in
    let words = words_in c.args.rest in
    let left = words_in c.in_ok-member.left in
    let taken = c.in_ok-member.ensures.ok in
    let fault = c.in_err-inst.field-0.0 in
    passed_on (IsRefused form.places form.options words) c.from_residual-in_err-inst.result fault c.from_residual-in_err-inst.ensures.1
    (out_of_memory form.places form.options words fault c.in_err-inst.ensures.refused (fault_taken is_member [] form.options words taken.word left taken.first taken.suits ∙ c.in_ok-options.ensures.ok))

pub returns-clause-ok : goal.returns-clause-ok
returns-clause-ok c =
    let dep = c.args.dep.now in
    let form = stop_form dep in
    let words = words_in c.args.rest in
    let left = words_in c.in_ok-member.left in
    let taken = c.in_ok-member.ensures.ok in
    let member = c.in_ok-member.member in (
      fault_taken is_member [] form.options words taken.word left taken.first taken.suits ∙ c.in_ok-options.ensures.ok,
      ap (stop_command dep) taken.first
          ∙ (ap (option_map (λ m. command.Stop (inst_from dep m) (has (codes "--hard") left))) taken.means.0
          ∙ same_stop (inst_from dep (member.group.now, member.index)) c.in_ok-inst.inst (has (codes "--hard") left) c.has-hard.result c.in_ok-inst.ensures.ok c.has-hard.ensures),
    )
