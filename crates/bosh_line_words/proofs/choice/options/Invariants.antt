use Rattle.std.proofs.Common.{◌≡◌, [], length}
use Rattle.std.specs.Prelude.{map}
use Rattle.bosh_line_words.specs.Grammar.{choice_of, fault_of}
use Rattle.bosh_line_words.specs.Words.{words_in}
use Rattle.bosh_line_words.proofs.GrammarLemmas.{left_fault}
use Rattle.bosh_line_words.proofs.choice.options.Given as goal

abbrev pub invariant-loop-word : goal.invariant-loop-word
invariant-loop-word g l =
    let options = map (choice_of g.V.Place.fits) l.choices in
    fault_of [] options (words_in l.fn.rest) ≡ left_fault l.spare options (words_in l.fn.rest) (words_in l.left)

abbrev pub decreases-loop-word : goal.decreases-loop-word
decreases-loop-word g l = length (words_in l.left)
