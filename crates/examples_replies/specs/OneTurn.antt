-- A session of one line.
use Rattle.std.specs.Prelude.{ℕ, Bool, false, true, List, [], ◌∷◌, codes, map, Option, None, Some}
use Rattle.bosh_base.specs.declared.reply.Reply.TheVariants as replies
use Rattle.bosh_due.specs.Causes.{StoreFailures}
use Rattle.bosh_due.specs.Files.{Shelved}
use Rattle.bosh_due.specs.Generating.{said_reply}
use Rattle.bosh_due.specs.InTurn.{Counts, MakesSession, TurnMade}
use Rattle.bosh_due.specs.Together.{Numbered}
use Rattle.bosh_history.specs.Moments.{nothing}
use Rattle.bosh_lines.specs.declared.command.Command.TheVariants as commands
use Rattle.bosh_transcript.specs.declared.status.Status.TheVariants.{Good}
use Rattle.examples_replies.specs.AtOnce.{asks}
use Rattle.examples_replies.specs.Scenes.{no_files}

-- no store failed
abbrev pub none_failed : StoreFailures
none_failed = record { director = 0; cloud = 0 }

-- .. or the director's did so often
abbrev pub director_failed : ℕ → StoreFailures
director_failed count = record { director = count; cloud = 0 }

-- the counts of faults, where the director's store alone failed
abbrev pub counted : ℕ → Counts
counted count = record { shelf = 0; director = count; cloud = 0 }

-- the tasks are asked for, by the command of a number, and none is told; the input may be told to end
abbrev pub asks_for_tasks : ℕ → Bool → TurnMade
asks_for_tasks number is_end = record {
  read = record { first = asks number commands.Tasks; others = []; is_end = is_end };
  files = no_files;
  failed = none_failed;
  segment = said_reply number (replies.Tasks []) ∷ [];
}

-- the session of a new director is this one line, under a number, over a shelf that has told this
abbrev pub IsSessionOver : Option Shelved → ℕ → Type 0
IsSessionOver shelf number =
    MakesSession Good nothing ((asks 1 commands.Tasks).request ∷ []) (said_reply number (replies.Tasks []) ∷ []) shelf
    (counted 0) (counted 0) (asks_for_tasks number false ∷ []) None

abbrev pub IsSessionOf : ℕ → Type 0
IsSessionOf number = IsSessionOver (Some []) number

-- .. this line stands in the input in its place, or none
abbrev pub IsSessionReading : List Numbered → Type 0
IsSessionReading lines =
    MakesSession Good nothing (map (λ it. it.request) lines) (said_reply 1 (replies.Tasks []) ∷ []) (Some [])
    (counted 0) (counted 0) (asks_for_tasks 1 false ∷ []) None

-- .. though it takes no others along, the input is told to end
abbrev pub IsToldToEnd : Type 0
IsToldToEnd =
    MakesSession Good nothing ((asks 1 commands.Tasks).request ∷ []) (said_reply 1 (replies.Tasks []) ∷ []) (Some [])
    (counted 0) (counted 0) (asks_for_tasks 1 true ∷ []) None

-- a shelf of one file
abbrev pub one_file : Shelved
one_file = (codes "a", codes "1") ∷ []
