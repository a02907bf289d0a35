-- The replies among moves.
use Rattle.std.specs.Prelude.{List, Option, Some, None}
use Rattle.std.specs.List.{filter_map}
use Rattle.bosh_base.specs.declared.moves.Move.{Move}
use Rattle.bosh_base.specs.declared.moves.Move.TheVariants.{Said}
use Rattle.bosh_base.specs.declared.moves.Said as said

-- the reply that a move is, with the number of its command
abbrev pub reply_of : Move → Option said.Said
reply_of (Said reply) = Some reply
reply_of move = None

-- what commands were answered, in order
abbrev pub replies_in : List Move → List said.Said
replies_in moves = filter_map reply_of moves
