use Rattle.std.proofs.Common.{◌≡◌, ◌++◌, take}
use Rattle.std.specs.List.{flat_map}
use Rattle.bosh_report.proofs.piece.add_each_after.Given as goal

-- the pieces so far are added
abbrev pub invariant-loop-piece : goal.invariant-loop-piece
invariant-loop-piece g l = l.out.items ≡ l.initial.out.items ++ flat_map (λ piece. l.before ++ g.T.Piece.text piece) (take l.piece-index l.pieces)
