use Rattle.std.proofs.Common.{◌≡◌, ℕ, ◌≤◌, List, ◌++◌, Some, length}
use Rattle.bosh_transcript.proofs.output.write_all.Given as goal

-- what was written and what is left are the bytes
abbrev pub invariant-loop-left : goal.invariant-loop-left
invariant-loop-left g l = record {
  count : g.O.Sink.faults l.fn.sink ≤ g.O.Sink.faults l.sink;
  written : (was : List ℕ) → g.O.Sink.written l.fn.sink ≡ Some was → (front : List ℕ) × (l.fn.bytes ≡ front ++ l.left) × (g.O.Sink.written l.sink ≡ Some (was ++ front));
}

abbrev pub decreases-loop-left : goal.decreases-loop-left
decreases-loop-left g l = length l.left
