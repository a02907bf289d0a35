-- What is due at a place of a worked history.
use Rattle.std.specs.Prelude.{ℕ, ◌-◌, List, [], None, Some, take}
use Rattle.bosh_base.specs.declared.moves.Move.{Move}
use Rattle.bosh_base.specs.declared.reply.Reply.{Reply}
use Rattle.bosh_due.specs.Before.{Before, with_moves}
use Rattle.bosh_due.specs.Due.{DueBy, MakesBy}
use Rattle.bosh_due.specs.Ends.{EndsIn}
use Rattle.bosh_due.specs.Files.{FilesRead}
use Rattle.bosh_due.specs.Outcomes.{Outcome}
use Rattle.bosh_due.specs.UnderWay.{UnderWay}
use Rattle.bosh_due.specs.UnderWay.UnderWay.{idle}
use Rattle.bosh_history.specs.Moments.{Moment}
use Rattle.bosh_lines.specs.declared.command.Command.{Command}
use Rattle.examples_histories.specs.Scenes.{Builder, History, part}

-- no block kept a file, and the shelf has none
abbrev pub no_files : FilesRead
no_files = record { kept = []; shelf = Some []; failures = 0 }

-- a director that noted so many entries since it started
abbrev pub start : Moment → ℕ → Before
start m noted = record { moment = m; last_halt = None; noted = noted; under_way = idle }

-- after so many moves of a history, which leave this under way
abbrev pub at_halt : UnderWay → Moment → ℕ → List Move → Before
at_halt under m k history = with_moves (start m 2) (take k history) under

-- .. which leave nothing
abbrev pub at : Moment → ℕ → List Move → Before
at m k history = at_halt idle m k history

-- ---- commands that make no move, after so many moves

abbrev pub Tells : Moment → ℕ → History → Command → Reply → Type 0
Tells m k history command reply = (built : Builder) → DueBy (at m k (history built)) no_files command [] reply idle

abbrev pub NeverTells : Moment → ℕ → History → Command → Reply → Type 0
NeverTells m k history command reply =
    (built : Builder) (now : UnderWay) → DueBy (at m k (history built)) no_files command [] reply now → ⊥

-- ---- commands whose moves stand from one place to another, counted from 1

-- on a director on which this was under way as it halted, and which leaves this
abbrev pub EndsFrom : UnderWay → Moment → ℕ → ℕ → History → Command → Reply → UnderWay → Type 0
EndsFrom under m first last history command reply now =
    (built : Builder) →
    DueBy (at_halt under m (first - 1) (history built)) no_files command (part first last (history built)) reply now

abbrev pub NeverEndsFrom : UnderWay → Moment → ℕ → ℕ → History → Command → Reply → Type 0
NeverEndsFrom under m first last history command reply =
    (built : Builder) (now : UnderWay) →
    DueBy (at_halt under m (first - 1) (history built)) no_files command (part first last (history built)) reply now → ⊥

-- .. where nothing was under way, and nothing is left
abbrev pub Ends : Moment → ℕ → ℕ → History → Command → Reply → Type 0
Ends m first last history command reply = EndsFrom idle m first last history command reply idle

abbrev pub NeverEnds : Moment → ℕ → ℕ → History → Command → Reply → Type 0
NeverEnds m first last history command reply = NeverEndsFrom idle m first last history command reply

-- .. whether or not they are told
abbrev pub MayMakeTo : Moment → ℕ → ℕ → History → Command → UnderWay → Type 0
MayMakeTo m first last history command now =
    (built : Builder) →
    MakesBy (at m (first - 1) (history built)) no_files command (part first last (history built)) now

abbrev pub NeverMakes : Moment → ℕ → ℕ → History → Command → Type 0
NeverMakes m first last history command =
    (built : Builder) (now : UnderWay) →
    MakesBy (at m (first - 1) (history built)) no_files command (part first last (history built)) now → ⊥

-- ---- outcomes

abbrev pub Comes : Moment → ℕ → ℕ → History → Outcome → Reply → Type 0
Comes m first last history outcome reply =
    (built : Builder) → EndsIn outcome (at m (first - 1) (history built)) (part first last (history built)) reply

abbrev pub NeverComes : Moment → ℕ → ℕ → History → Outcome → Reply → Type 0
NeverComes m first last history outcome reply =
    (built : Builder) → EndsIn outcome (at m (first - 1) (history built)) (part first last (history built)) reply → ⊥
