use Rattle.laws_stands_machines.proofs.CallsLemmas.{ends_machine}
use Rattle.laws_stands_machines.proofs.calls.what_is_recorded_stands_after_a_call_of_a_compile_machine_that_may_end.Goals as goal

pub returns : goal.returns
returns c = ends_machine
