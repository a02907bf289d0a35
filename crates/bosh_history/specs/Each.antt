-- Tests of each move, and of each entry that a move makes durable.
use Rattle.std.specs.Prelude.{◌≡◌, Bool, true, Option, Some, None, List, [], ◌∷◌}
use Rattle.bosh_base.specs.declared.entry.Entry.{Entry}
use Rattle.bosh_base.specs.declared.moves.Move.{Move}
use Rattle.bosh_base.specs.declared.moves.Move.TheVariants as moves
use Rattle.bosh_history.specs.Known.{Known}
use Rattle.bosh_history.specs.Moments.{Moment, later}

-- the test holds of each move, at the moment before it
abbrev pub EachMove : (Moment → Move → Bool) → Moment → List Move → Type 0
EachMove test m [] = Unit {0}
EachMove test m (move ∷ moves) = (test m move ≡ true) × EachMove test (later m move) moves

-- the entry that is noted, or that a stop kept, meets the test, by what is known before it
abbrev pub noted_well : (Known → Entry → Bool) → Moment → Move → Bool
noted_well test m (moves.Note entry) = test m.known entry
noted_well test m (moves.Stop s) = by_kept s.kept
  where
    by_kept : Option Entry → Bool
    by_kept (Some entry) = test m.known entry
    by_kept None = true
noted_well test m move = true

-- .. by the moment before it
abbrev pub durable_well : (Moment → Entry → Bool) → Moment → Move → Bool
durable_well test m (moves.Note entry) = test m entry
durable_well test m (moves.Stop s) = by_kept s.kept
  where
    by_kept : Option Entry → Bool
    by_kept (Some entry) = test m entry
    by_kept None = true
durable_well test m move = true
