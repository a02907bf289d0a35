-- A session of two lines: the director halts as a stemcell is noted, and is started anew, or is not.
use Rattle.std.specs.Prelude.{ℕ, false, List, [], ◌∷◌, codes, map, None, Some}
use Rattle.bosh_base.specs.declared.entry.Entry.{Entry}
use Rattle.bosh_base.specs.declared.entry.Entry.TheVariants as entries
use Rattle.bosh_base.specs.declared.moves.Cause.TheVariants.{Store}
use Rattle.bosh_base.specs.declared.moves.Move.{Move}
use Rattle.bosh_base.specs.declared.moves.Move.TheVariants.{Halt}
use Rattle.bosh_base.specs.declared.reply.Reply.{Reply}
use Rattle.bosh_base.specs.declared.reply.Reply.TheVariants as replies
use Rattle.bosh_due.specs.Generating.{said_reply}
use Rattle.bosh_due.specs.InTurn.{MakesSession, TurnMade}
use Rattle.bosh_due.specs.Together.{Numbered}
use Rattle.bosh_history.specs.Moments.{nothing}
use Rattle.bosh_lines.specs.declared.command.Command.{Command}
use Rattle.bosh_lines.specs.declared.command.Command.TheVariants as commands
use Rattle.bosh_transcript.specs.declared.status.Status.TheVariants.{Failed}
use Rattle.examples_histories.specs.Scenes.{stop}
use Rattle.examples_replies.specs.AtOnce.{asks}
use Rattle.examples_replies.specs.OneTurn.{counted, director_failed}
use Rattle.examples_replies.specs.Replies.{bare}
use Rattle.examples_replies.specs.Scenes.{no_files}
use Rattle.examples_replies.specs.Stemcells.{jammy}

-- the command of a number makes these moves, the last of which is its reply, and the director's store failed so often
abbrev pub makes : ℕ → Command → ℕ → List Move → TurnMade
makes number command failures segment = record {
  read = record { first = asks number command; others = []; is_end = false };
  files = no_files;
  failed = director_failed failures;
  segment = segment;
}

abbrev pub stemcell : Entry
stemcell = entries.Stemcell (jammy (codes "1.2"))

abbrev pub store_fault : Reply
store_fault = bare (codes "book") (codes "StoreFault")

abbrev pub both_lines : List Numbered
both_lines = asks 1 (commands.UploadStemcell (jammy (codes "1.2"))) ∷ asks 2 commands.Restart ∷ []

-- the director's store failed so often, and halted the director
abbrev pub halts : ℕ → TurnMade
halts failures =
    makes 1 (commands.UploadStemcell (jammy (codes "1.2"))) failures (Halt Store ∷ said_reply 1 store_fault ∷ [])

-- an entry is found
abbrev pub finds : Entry → TurnMade
finds entry =
    makes 2 commands.Restart 0 (stop (Some entry) [] None ∷ said_reply 2 replies.Restarted ∷ [])

-- .. after so many failures
abbrev pub IsFoundAfter : ℕ → Entry → Type 0
IsFoundAfter failures entry =
    MakesSession Failed nothing (map (λ it. it.request) both_lines)
    (Halt Store
    ∷ said_reply 1 store_fault
    ∷ stop (Some entry) [] None
    ∷ said_reply 2 replies.Restarted
    ∷ [])
    (Some []) (counted 0) (counted failures) (halts failures ∷ finds entry ∷ []) None

abbrev pub IsFound : Entry → Type 0
IsFound entry = IsFoundAfter 1 entry

-- the store is not read, since it failed so often
abbrev pub unread : ℕ → TurnMade
unread failures = makes 2 commands.Restart failures (said_reply 2 store_fault ∷ [])

-- .. and the count rose so often in both
abbrev pub IsUnreadAfter : (failures count : ℕ) → Type 0
IsUnreadAfter failures count =
    MakesSession Failed nothing (map (λ it. it.request) both_lines)
    (Halt Store ∷ said_reply 1 store_fault ∷ said_reply 2 store_fault ∷ []) (Some []) (counted 0) (counted count) (halts 1 ∷ unread failures ∷ []) None
