use Rattle.std.proofs.Common.{◌≡◌, ◌∙◌, sym, ℕ, Bool, List, [], rules}
use Rattle.std.specs.Prelude.{map}
use Rattle.bosh_line_words.specs.Grammar.{choice_of, fault_of}
use Rattle.bosh_line_words.specs.Words.{word_of, words_in}
use Rattle.bosh_line_words.proofs.GrammarLemmas.{left_bytes, left_flag, left_over, left_well, left_spare, left_unfit, left_value, named-none, named-some, told, value-none, value-some}
use Rattle.bosh_line_words.proofs.choice.options.Goals as goal

pub loop-word-preserved : goal.loop-word-preserved
loop-word-preserved g c =
    let fits = g.V.Place.fits in
    let cs = c.args.choices.now in
    let word = word_of c.in-Some.word in
    c.loop-word.invariant ∙ left_spare c.loop-word.spare (map (choice_of fits) cs) (words_in c.args.rest) (words_in c.loop-word.left) (words_in c.in-Some.more) word c.in-Some.ensures (named-none fits cs word.text c.in-None.ensures) (sym c.if-not-is_text.ensures.test)

pub returns-then-not-is_text-clause-refused : goal.returns-then-not-is_text-clause-refused
returns-then-not-is_text-clause-refused g c =
    let fits = g.V.Place.fits in
    let cs = c.args.choices.now in
    let word = word_of c.in-Some.word in
    c.loop-word.invariant ∙ left_bytes c.loop-word.spare (map (choice_of fits) cs) (words_in c.args.rest) (words_in c.loop-word.left) (words_in c.in-Some.more) word c.in-Some.ensures (named-none fits cs word.text c.in-None.ensures) (sym c.if-not-is_text.ensures.test)

pub loop-word-preserved-in-Some-2 : goal.loop-word-preserved-in-Some-2
loop-word-preserved-in-Some-2 g c =
    let fits = g.V.Place.fits in
    let cs = c.args.choices.now in
    let word = word_of c.in-Some.word in
    let choice = c.in-Some-2.field-0 in
    c.loop-word.invariant ∙ left_flag c.loop-word.spare (map (choice_of fits) cs) (words_in c.args.rest) (words_in c.loop-word.left) (words_in c.in-Some.more) word (choice_of fits choice) c.in-Some.ensures (named-some fits cs word.text choice c.in-Some-2.ensures) (value-none fits choice (search rules))

pub loop-word-preserved-then-choice : goal.loop-word-preserved-then-choice
loop-word-preserved-then-choice g c =
    let fits = g.V.Place.fits in
    let cs = c.args.choices.now in
    let word = word_of c.in-Some.word in
    let choice = c.in-Some-named.choice in
    let taken = c.in_ok-_value-in-Some-named.ensures.ok in
    c.loop-word.invariant ∙ left_value c.loop-word.spare (map (choice_of fits) cs) (words_in c.args.rest) (words_in c.loop-word.left) (words_in c.in-Some.more) (words_in c.in_ok-_value-in-Some-named.past) word taken.word (choice_of fits choice) fits c.in-Some.ensures (named-some fits cs word.text choice c.in-Some-named.ensures) (value-some fits choice c.if-choice.true) taken.first taken.suits

pub returns-in_err-_value-in-Some-named-clause-refused : goal.returns-in_err-_value-in-Some-named-clause-refused
returns-in_err-_value-in-Some-named-clause-refused g c =
    let fits = g.V.Place.fits in
    let cs = c.args.choices.now in
    let word = word_of c.in-Some.word in
    let choice = c.in-Some-named.choice in
    let refused = left_unfit c.loop-word.spare (map (choice_of fits) cs) (words_in c.args.rest) (words_in c.loop-word.left) (words_in c.in-Some.more) word (choice_of fits choice) fits _ c.in-Some.ensures (named-some fits cs word.text choice c.in-Some-named.ensures) (value-some fits choice c.if-choice.true) c.in_err-_value-in-Some-named.ensures.refused in
    told {T = Unit {0}} c.from_residual.result c.in_err-_value-in-Some-named.field-0.0 (fault_of [] (map (choice_of fits) cs) (words_in c.args.rest)) c.from_residual.ensures.1 (c.loop-word.invariant ∙ refused)

pub returns-then-is_over-clause-refused : goal.returns-then-is_over-clause-refused
returns-then-is_over-clause-refused g c =
    let fits = g.V.Place.fits in
    let cs = c.args.choices.now in
    let spare = c.loop-word.spare in
    let all = words_in c.args.rest in
    left_over spare fits cs all (words_in c.loop-word.left) (fault_of [] (map (choice_of fits) cs) all) c.loop-word.invariant c.in_default.ensures (sym c.if-is_over.ensures)

pub returns-else-is_over-clause-ok : goal.returns-else-is_over-clause-ok
returns-else-is_over-clause-ok g c =
    let fits = g.V.Place.fits in
    let cs = c.args.choices.now in
    let spare = c.loop-word.spare in
    let all = words_in c.args.rest in
    left_well spare fits cs all (words_in c.loop-word.left) (fault_of [] (map (choice_of fits) cs) all) c.loop-word.invariant c.in_default.ensures (sym c.if-is_over.ensures)
