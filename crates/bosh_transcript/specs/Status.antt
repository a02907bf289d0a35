-- The numbers that a session ends with (this project's profile).
use Rattle.std.specs.Prelude.{ℕ, Bool, true, false}
use Rattle.bosh_input.specs.declared.fault.InputFault.{InputFault}
use Rattle.bosh_input.specs.declared.fault.InputFault.TheVariants as input
use Rattle.bosh_transcript.specs.declared.status.Status.{Status}
use Rattle.bosh_transcript.specs.declared.status.Status.TheVariants.{Good, Failed, Usage, Source, Sink, Memory, Limit, Unloaded}

abbrev pub code_of : Status → ℕ
code_of Good = 0
code_of Failed = 1
code_of Usage = 2
code_of Source = 3
code_of Sink = 4
code_of Memory = 5
code_of Limit = 6
code_of Unloaded = 7

-- an event of the input ends the session with it
abbrev pub of_input : InputFault → Status
of_input input.Source = Source
of_input input.Limit = Limit
of_input input.Memory = Memory

-- the input was read to its end, and a command may have been answered with an error
abbrev pub at_end : Bool → Status
at_end true = Failed
at_end false = Good
