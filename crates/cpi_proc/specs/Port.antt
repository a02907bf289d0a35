-- What a port says of what it asked its spawner, and of what it answers (this project's profile).
use Rattle.std.specs.Prelude.{◌≡◌, ℕ, ◌⊎◌, nat_lt, List, [], ◌∷◌, ◌++◌, length, Option, Some, None, Result, Ok, Err, true, false, Bool}
use Rattle.bosh_base.specs.declared.answer.Answer.{Answer}
use Rattle.bosh_base.specs.declared.method.Method.{Method}
use Rattle.bosh_ports.specs.Faults.{Rose, count_with}
use Rattle.bosh_spawner.specs.declared.spawner.TheConstants.{MOST_BYTES}
use Rattle.cpi_proc.specs.Reply.{GivesReply, reply_of}
use Rattle.cpi_proc.specs.declared.fault.PortFault.{PortFault}
use Rattle.cpi_proc.specs.declared.fault.PortFault.TheVariants.{NotAReply, SpawnFault, Refused, TooLong, Memory}

-- a port: its spawner, and how many outputs were no answer
pub record PortState (S : Type 0) : Type 0 where
  pub spawner : S
  pub refused : ℕ

-- The inputs have grown by the text alone, or not at all for want of memory.
abbrev pub AsksOnce : Result Answer PortFault → List (List ℕ) → List ℕ → Option (List (List ℕ)) → Type 0
AsksOnce answer before text after = (after ≡ Some (before ++ text ∷ [])) ⊎ ((answer ≡ Err Memory) × (after ≡ Some before))

-- what an output that is too long, or one that is not, comes to
abbrev pub ComesTo : Bool → Method → List ℕ → Result Answer PortFault → Type 0
ComesTo true m output answer = answer ≡ Err TooLong
ComesTo false m output answer = GivesReply answer (reply_of m output)

-- what an outcome comes to: a failure where there is no output
abbrev pub Answers : Method → Option (List ℕ) → Result Answer PortFault → Type 0
Answers m None answer = answer ≡ Err SpawnFault
Answers m (Some output) answer = ComesTo (nat_lt MOST_BYTES (length output)) m output answer

-- One outcome stands at the end, and the answer is what it comes to; or none does, for want of memory.
abbrev pub AnswersOutcome : Method → Result Answer PortFault → List (Option (List ℕ)) → Option (List (Option (List ℕ))) → Type 0
AnswersOutcome m answer before after = ((outcome : Option (List ℕ)) × (after ≡ Some (before ++ outcome ∷ [])) × Answers m outcome answer) ⊎ ((answer ≡ Err Memory) × (after ≡ Some before))

-- how many outputs were no answer, after this answer
abbrev pub refused_after : Result Answer PortFault → ℕ → ℕ
refused_after (Ok answer) n = n
refused_after (Err NotAReply) n = count_with n 1
refused_after (Err SpawnFault) n = n
refused_after (Err (Refused kind)) n = count_with n 1
refused_after (Err TooLong) n = count_with n 1
refused_after (Err Memory) n = n

-- a port says that its spawner failed only where the spawner's count of faults rose
abbrev pub FailsByCount : Result Answer PortFault → ℕ → ℕ → Type 0
FailsByCount (Err SpawnFault) before after = Rose before after
FailsByCount answer before after = Unit {0}
