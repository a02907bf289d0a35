-- The texts of replies, and which of them are errors.
use Rattle.std.specs.Prelude.{ℕ, Bool, true, false, List, map}
use Rattle.std.specs.List.{flat_map, list_any}
use Rattle.bosh_base.specs.declared.moves.Said as said
use Rattle.bosh_base.specs.declared.reply.Reply.{Reply}
use Rattle.bosh_base.specs.declared.reply.Reply.TheVariants.{TaskFailed, TaskGone, Refused}
use Rattle.bosh_report.specs.Reply.{text_of}

-- a failed task and a refusal are errors; every other reply is good
abbrev pub is_error : Reply → Bool
is_error (TaskFailed call) = true
is_error (TaskGone call) = true
is_error (Refused refusal) = true
is_error reply = false

abbrev pub is_bad : said.Said → Bool
is_bad reply = is_error reply.reply

-- a command was answered with an error
abbrev pub has_error : List said.Said → Bool
has_error replies = list_any is_bad replies

-- what is printed
abbrev pub transcript : List said.Said → List ℕ
transcript replies = flat_map (λ reply. text_of reply.reply) replies

-- the commands that were answered
abbrev pub answered_commands : List said.Said → List ℕ
answered_commands replies = map (λ reply. reply.command) replies
