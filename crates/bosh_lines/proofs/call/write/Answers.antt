use Rattle.std.proofs.Common.{◌≡◌, ◌∙◌, ◌≤◌, ◌<◌, true, false, [], ◌∷◌, length, ap, sym, arith, rules, nat_le}
use Rattle.std.specs.Option.{option_map}
use Rattle.std.proofs.lemmas.Bool.Decides.{nat_tests}
use Rattle.bosh_line_words.specs.Grammar.{IsRefused}
use Rattle.bosh_line_words.specs.Kinds.{inst_from}
use Rattle.bosh_line_words.specs.Words.{word_of, words_in}
use Rattle.bosh_line_words.proofs.GrammarLemmas.{out_of_memory}
use Rattle.bosh_lines.specs.Forms.{is_inst, is_written, write_command, write_form}
use Rattle.bosh_lines.specs.Lines.{written, written_text}
use Rattle.bosh_lines.specs.declared.command.Command.TheVariants as command
use Rattle.bosh_lines.proofs.LineLemmas.{bad_inst, long_text, no_inst, no_text, passed_on, same_write, well_written}
use Rattle.bosh_lines.proofs.call.write.Goals as goal

pub returns-in_default-clause-refused : goal.returns-in_default-clause-refused
returns-in_default-clause-refused c = no_inst (written c.args.line.now (words_in c.args.rest)) (ap (written c.args.line.now) c.in_default.ensures)

pub returns-in_default-read-clause-refused : goal.returns-in_default-read-clause-refused
returns-in_default-read-clause-refused c =
    let line = c.args.line.now in
    let inst = word_of c.in-Some.word in
    bad_inst (written line (words_in c.args.rest)) (written_text line inst) inst (ap (written line) c.in-Some.ensures) c.in_default-read.ensures

pub returns-in_default-text_after-clause-refused : goal.returns-in_default-text_after-clause-refused
returns-in_default-text_after-clause-refused c =
    let line = c.args.line.now in
    let inst = word_of c.in-Some.word in
    no_text (written line (words_in c.args.rest)) (written_text line inst) inst (ap (written line) c.in-Some.ensures) c.in-Some-read.ensures.0 c.in_default-text_after.ensures

pub returns-then-text-gt-MOST_WRITTEN-clause-refused : goal.returns-then-text-gt-MOST_WRITTEN-clause-refused
returns-then-text-gt-MOST_WRITTEN-clause-refused c =
    let line = c.args.line.now in
    let inst = word_of c.in-Some.word in
    let text = word_of c.in-Some-text_after.text in
    let long : is_written text.text ≡ false = grind (arith, nat_tests) in
    long_text (written line (words_in c.args.rest)) (written_text line inst) inst text (ap (written line) c.in-Some.ensures) c.in-Some-read.ensures.0 c.in-Some-text_after.ensures long

pub returns-in_err-inst-clause-refused : goal.returns-in_err-inst-clause-refused
returns-in_err-inst-clause-refused c =
    let line = c.args.line.now in
    let inst = word_of c.in-Some.word in
    let text = word_of c.in-Some-text_after.text in
    let words = written line (words_in c.args.rest) in
    let fits : is_written text.text ≡ true = grind (arith, nat_tests) in
    let fault = c.in_err-inst.field-0.0 in
    passed_on (IsRefused write_form.places [] words) c.from_residual.result fault c.from_residual.ensures.1
    (out_of_memory write_form.places [] words fault c.in_err-inst.ensures.refused
    (well_written words (written_text line inst) inst text (ap (written line) c.in-Some.ensures) c.in-Some-read.ensures.0 c.in-Some-text_after.ensures fits))

pub returns-in_err-text-clause-refused : goal.returns-in_err-text-clause-refused
returns-in_err-text-clause-refused c =
    let line = c.args.line.now in
    let inst = word_of c.in-Some.word in
    let text = word_of c.in-Some-text_after.text in
    let words = written line (words_in c.args.rest) in
    let fits : is_written text.text ≡ true = grind (arith, nat_tests) in
    let fault = c.in_err-text.field-0.0 in
    passed_on (IsRefused write_form.places [] words) c.from_residual-in_err-text.result fault c.from_residual-in_err-text.ensures.1
    (out_of_memory write_form.places [] words fault c.in_err-text.ensures.refused
    (well_written words (written_text line inst) inst text (ap (written line) c.in-Some.ensures) c.in-Some-read.ensures.0 c.in-Some-text_after.ensures fits))

pub returns-clause-ok : goal.returns-clause-ok
returns-clause-ok c =
    let line = c.args.line.now in
    let inst = word_of c.in-Some.word in
    let text = word_of c.in-Some-text_after.text in
    let words = written line (words_in c.args.rest) in
    let fits : is_written text.text ≡ true = grind (arith, nat_tests) in
    let read = c.in-Some-read.inst in (
      well_written words (written_text line inst) inst text (ap (written line) c.in-Some.ensures) c.in-Some-read.ensures.0 c.in-Some-text_after.ensures fits,
      ap (λ ws. write_command (written line ws)) c.in-Some.ensures
          ∙ (ap (λ ws. write_command (inst ∷ ws)) c.in-Some-text_after.ensures
          ∙ (ap (option_map (λ i. command.Write i text.text)) c.in-Some-read.ensures.1.0
          ∙ same_write (inst_from read.dep.now (read.member.group.now, read.member.index)) c.in_ok-inst.inst text.text c.in_ok-text.text c.in_ok-inst.ensures.ok c.in_ok-text.ensures.ok)),
    )
