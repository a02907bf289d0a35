use Rattle.std.proofs.Common.{◌≡◌, ◌++◌, length}
use Rattle.bosh_line_words.specs.Words.{words_in}
use Rattle.bosh_lines.specs.Variable.{variables_in}
use Rattle.bosh_lines.proofs.variable.variables.Given as goal

-- the variables so far, and those of the words that are left, are those of all
abbrev pub invariant-loop-word : goal.invariant-loop-word
invariant-loop-word l = variables_in (words_in l.fn.rest) ≡ l.all.items ++ variables_in (words_in l.left)

abbrev pub decreases-loop-word : goal.decreases-loop-word
decreases-loop-word l = length (words_in l.left)
