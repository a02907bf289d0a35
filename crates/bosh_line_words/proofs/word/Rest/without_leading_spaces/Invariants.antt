use Rattle.std.proofs.Common.{◌≡◌, ◌+◌, ◌≤◌, length}
use Rattle.bosh_line_words.specs.Words.{words}
use Rattle.bosh_line_words.proofs.word.Rest.without_leading_spaces.Given as goal

-- the spaces that are passed by are in no word
abbrev pub invariant-loop-bytes : goal.invariant-loop-bytes
invariant-loop-bytes l = (words l.place l.bytes ≡ words l.fn.self.place l.fn.self.bytes.now) × (l.place + length l.bytes ≤ 1048576)

abbrev pub decreases-loop-bytes : goal.decreases-loop-bytes
decreases-loop-bytes l = length l.bytes
