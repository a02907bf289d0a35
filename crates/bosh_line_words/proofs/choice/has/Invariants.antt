use Rattle.std.proofs.Common.{◌≡◌, length}
use Rattle.bosh_line_words.specs.Grammar.{has}
use Rattle.bosh_line_words.specs.Words.{words_in}
use Rattle.bosh_line_words.proofs.choice.has.Given as goal

abbrev pub invariant-loop-word : goal.invariant-loop-word
invariant-loop-word l = has l.text (words_in l.fn.rest) ≡ has l.text (words_in l.left)

abbrev pub decreases-loop-word : goal.decreases-loop-word
decreases-loop-word l = length (words_in l.left)
