use Rattle.std.proofs.Common.{◌≡◌}
use Rattle.bosh_moves.specs.Story.{TellsNotes}
use Rattle.bosh_moves.proofs.history.History.tell_notes.Given as goal

abbrev pub invariant-loop-place : goal.invariant-loop-place
invariant-loop-place l = TellsNotes l.initial.self l.entries l.self × (l.self.entries ≡ l.place)
