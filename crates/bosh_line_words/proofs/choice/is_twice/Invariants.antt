use Rattle.std.proofs.Common.{◌≡◌, ◌+◌, length}
use Rattle.std.specs.Prelude.{if◌then◌else◌}
use Rattle.bosh_line_words.specs.Grammar.{count}
use Rattle.bosh_line_words.specs.Words.{words_in}
use Rattle.bosh_line_words.proofs.choice.is_twice.Given as goal

-- the words that are left, and the one that was seen, are those of all
abbrev pub invariant-loop-word : goal.invariant-loop-word
invariant-loop-word l = count l.text (words_in l.fn.rest) ≡ (if l.seen then 1 else 0) + count l.text (words_in l.left)

abbrev pub decreases-loop-word : goal.decreases-loop-word
decreases-loop-word l = length (words_in l.left)
