-- Tasks that ran together, a director without room, and what was under way.
use Rattle.std.specs.Prelude.{◌≡◌, ◌++◌, ℕ, Bool, List, [], ◌∷◌, take}
use Rattle.bosh_base.specs.declared.call.Call.TheVariants.{CreateVm}
use Rattle.bosh_base.specs.declared.owner.Owner.TheVariants.{Instance}
use Rattle.bosh_base.specs.declared.reply.Reply.{Reply}
use Rattle.bosh_base.specs.declared.moves.Cause.TheVariants.{Stop}
use Rattle.bosh_base.specs.declared.moves.Move.TheVariants.{Halt}
use Rattle.bosh_due.specs.Before.{with_moves}
use Rattle.bosh_due.specs.Commands.{outcome_of}
use Rattle.bosh_due.specs.Due.{DueAt, DueBy}
use Rattle.bosh_due.specs.Ends.{EndsIn}
use Rattle.bosh_due.specs.Outcomes.Outcome.{Refuses}
use Rattle.bosh_due.specs.Together.{Running, by_end, halts_in_work}
use Rattle.bosh_due.specs.UnderWay.{UnderWay}
use Rattle.bosh_due.specs.UnderWay.UnderWay.{idle}
use Rattle.bosh_history.specs.Moments.{Moment, OpenCall, calls_after}
use Rattle.bosh_line_words.specs.declared.fault.LineFault.{LineFault}
use Rattle.bosh_lines.specs.declared.command.Command.{Command}
use Rattle.bosh_base.specs.declared.entry.Entry.{Entry}
use Rattle.bosh_base.specs.declared.moves.Stop as stop
use Rattle.examples_histories.specs.Scenes.{Builder, History, beginning_of, prepared}
use Rattle.examples_histories.specs.Two.{two, two_g1}
use Rattle.examples_histories.specs.Values.{plain, web, z1}
use Rattle.examples_replies.specs.Openings.{deploys}
use Rattle.examples_replies.specs.Scenes.{no_files, start}
use Rattle.std.specs.Prelude.{Option, None, Err}

abbrev pub runs : ℕ → ℕ → Running
runs number task = record { number = number; task = task }

abbrev pub AreToldSo : List Running → History → List Running → Type 0
AreToldSo running history told = (built : Builder) → by_end running (history built) ≡ told

-- a deploy of two instances halts after so many moves
abbrev pub halts_after : ℕ → Builder → Bool
halts_after count built =
    halts_in_work (with_moves (start prepared 2) (take count (two built) ++ Halt Stop ∷ []) idle) (1 ∷ [])
    (take count (two built) ++ Halt Stop ∷ [])

-- a director that noted so many entries since it started answers so
abbrev pub TellsAfter : ℕ → Moment → Command → Reply → Type 0
TellsAfter noted m command reply = DueBy (start m noted) no_files command [] reply idle

abbrev pub NeverTellsAfter : ℕ → Moment → Command → Reply → Type 0
NeverTellsAfter noted m command reply = (now : UnderWay) → DueBy (start m noted) no_files command [] reply now → ⊥

-- .. and so a deploy of two instances, after so many moves
abbrev pub EndsAfter : ℕ → ℕ → Reply → Type 0
EndsAfter noted count reply =
    (built : Builder) →
    EndsIn (deploys 1 two_g1 (web 0 ∷ web 1 ∷ [])) (start prepared noted) (take count (two built)) reply

abbrev pub NeverEndsAfter : ℕ → ℕ → Reply → Type 0
NeverEndsAfter noted count reply =
    (built : Builder) →
    EndsIn (deploys 1 two_g1 (web 0 ∷ web 1 ∷ [])) (start prepared noted) (take count (two built)) reply → ⊥

-- nothing is told of a command that is not settled by what is known
abbrev pub IsUnsettled : Command → Type 0
IsUnsettled command = outcome_of (start prepared 2) command ≡ Refuses None

-- a line that is no command is answered so
abbrev pub TellsLine : Moment → LineFault → Reply → Type 0
TellsLine m fault reply = DueAt (start m 0) no_files (Err fault) [] reply idle

abbrev pub NeverTellsLine : Moment → LineFault → Reply → Type 0
NeverTellsLine m fault reply = (now : UnderWay) → DueAt (start m 0) no_files (Err fault) [] reply now → ⊥

-- the first call is open, which the first task makes
abbrev pub first_call : ℕ → Option OpenCall
first_call =
    calls_after (beginning_of 1 1 0 (Instance (web 0)) (CreateVm (plain z1 10) [])) (λ n. None)

abbrev pub found : Option Entry → List ℕ → Option Entry → stop.Stop
found kept took wrote = record { kept = kept; took = took; wrote = wrote }
