-- What has happened to a director, and what a call adds to it.
use Rattle.std.specs.Prelude.{◌≡◌, ℕ, List, [], ◌++◌}
use Rattle.bosh_base.specs.History.{Extends}
use Rattle.bosh_base.specs.declared.moves.Move.{Move}
use Rattle.bosh_moves.specs.Replies.{replies_in}

-- How many entries and effects there were before the first move; all that has happened since; and what was told of it.
pub record Past : Type 0 where
  pub opening : ℕ × ℕ
  pub story : List Move
  pub moves : List Move

-- these moves have come at the end, and those that were told only grow
pub record Continues (was : Past) (segment : List Move) (now : Past) : Type 0 where
  pub same_opening : now.opening ≡ was.opening
  pub story : now.story ≡ was.story ++ segment
  pub grows : Extends was.moves now.moves

-- no reply is among the moves
abbrev pub AreSilent : List Move → Type 0
AreSilent segment = replies_in segment ≡ []

-- moves have come, and no reply
pub record Proceeds (was now : Past) : Type 0 where
  pub segment : List Move
  pub continues : Continues was segment now
  pub silent : AreSilent segment
