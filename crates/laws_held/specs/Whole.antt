-- All facts at a moment, with those that what tasks have heard rests on.
use Rattle.bosh_history.specs.Moments.{Moment}
use Rattle.bosh_history.specs.Notes.{Outside}
use Rattle.laws_facts.specs.Facts.{Holds}
use Rattle.laws_heard.specs.Heard.{HearingFacts}
use Rattle.laws_moves.specs.Parts.{MayHappen, Part, after_part}

-- all facts
pub record Whole (m : Moment) : Type 0 where
  pub holds : Holds m
  pub hearing : HearingFacts m

-- each part of a move keeps them
abbrev pub IsWholeKept : Type 0
IsWholeKept =
    (outside : Outside) (m : Moment) (part : Part) → MayHappen outside m part → Whole m → Whole (after_part m part)
