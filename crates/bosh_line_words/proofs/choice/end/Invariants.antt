use Rattle.std.proofs.Common.{◌≡◌, false, [], length}
use Rattle.bosh_line_words.specs.Grammar.{fault_of}
use Rattle.bosh_line_words.specs.Words.{words_in}
use Rattle.bosh_line_words.proofs.GrammarLemmas.{left_fault}
use Rattle.bosh_line_words.proofs.choice.end.Given as goal

abbrev pub invariant-loop-word : goal.invariant-loop-word
invariant-loop-word l =
    (fault_of [] [] (words_in l.fn.rest) ≡ left_fault l.spare [] (words_in l.fn.rest) (words_in l.left))
    × (l.spare ≡ false → words_in l.fn.rest ≡ words_in l.left)

abbrev pub decreases-loop-word : goal.decreases-loop-word
decreases-loop-word l = length (words_in l.left)
