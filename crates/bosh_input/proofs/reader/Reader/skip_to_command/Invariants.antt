use Rattle.std.proofs.Common.{◌≡◌, ◌-◌}
use Rattle.bosh_input.specs.Reading.{IsNoneBetween, Reads}
use Rattle.bosh_input.proofs.reader.Reader.skip_to_command.Given as goal

-- no command stands between the place of the call and that of this turn
abbrev pub invariant-loop-byte : goal.invariant-loop-byte
invariant-loop-byte g l = record {
  reads : Reads g.S.Source.left g.S.Source.faults l.fn.source l.source l.fn.self.front l.self.front;
  given : l.self.given ≡ l.fn.self.given;
  none : IsNoneBetween l.self.front l.fn.self.at l.self.at;
}

-- each turn passes a byte at least, and a session takes no more than so many
abbrev pub decreases-loop-byte : goal.decreases-loop-byte
decreases-loop-byte g l = 8388609 - l.self.at
