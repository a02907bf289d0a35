use Rattle.laws_stands_slots.proofs.CompilationEndedLemmas.{after_compilation}
use Rattle.laws_stands_slots.proofs.calls.what_is_recorded_stands_after_a_compilation_ends.Goals as goal

pub returns : goal.returns
returns c = after_compilation
