-- What carrying out one command does.
use Rattle.std.specs.Prelude.{◌≡◌, ◌⊎◌, ℕ, ◌+◌, ◌≤◌, Bool, List, [], ◌∷◌, ◌++◌, length, map, Option, Some, None}
use Rattle.bosh_base.specs.declared.moves.Move.{Move}
use Rattle.bosh_input.specs.Ended.{View, bounded_request}
use Rattle.bosh_input.specs.declared.fault.InputFault.{InputFault}
use Rattle.bosh_input.specs.declared.fault.InputFault.TheVariants as fault
use Rattle.bosh_input.specs.declared.input.Ended.TheVariants.{Whole, Stopped}
use Rattle.bosh_input.specs.declared.request.Request as request
use Rattle.bosh_moves.specs.Replies.{replies_in}
use Rattle.bosh_transcript.specs.Extents.{most_others, numbers}
use Rattle.bosh_transcript.specs.Past.{Continues, Past}
use Rattle.bosh_transcript.specs.Reading.{AreRead}
use Rattle.bosh_transcript.specs.Replies.{has_error}
use Rattle.bosh_transcript.specs.Sessions.{IsBroken, IsEvent}
use Rattle.bosh_transcript.specs.declared.extent.Extent.{Extent}
use Rattle.bosh_transcript.specs.declared.numbered.Numbered as numbered
use Rattle.bosh_transcript.specs.Status.{of_input}
use Rattle.bosh_transcript.specs.Turns.{IsCut, IsDone}
use Rattle.bosh_transcript.specs.Writing.{Writes}
use Rattle.bosh_transcript.specs.declared.status.Status.{Status}
use Rattle.bosh_transcript.specs.declared.status.Status.TheVariants.{Source, Memory, Limit}

-- further commands were read, whatever was read before
abbrev pub ReadsOn : {I : Type 0} → (I → Option (List ℕ)) → (I → ℕ) → View → View → I → I → List request.Request → Type 0
ReadsOn {I} left faults input_was input_now was now others =
    (before : I) (requests : List request.Request) → AreRead left faults before was input_was requests →
    AreRead left faults before now input_now (requests ++ others)

-- the next command was read
pub record TakesNext {I : Type 0}
    (left : I → Option (List ℕ)) (faults : I → ℕ) (input_was input_now : View) (was now : I) (taken : numbered.Numbered) :
    Type 0 where
  pub command : request.Request
  pub judged_so : taken.request ≡ bounded_request command
  pub number : taken.number ≡ input_now.reader.given
  pub next : input_now.reader.given ≡ input_was.reader.given + 1
  pub was_open : input_was.ended ≡ None
  pub is_open : input_now.ended ≡ None
  pub reads : ReadsOn left faults input_was input_now was now (command ∷ [])

-- the input has no further command
pub record ReadsWhole {I : Type 0}
    (left : I → Option (List ℕ)) (faults : I → ℕ) (input_was input_now : View) (was now : I) : Type 0 where
  pub whole : input_now.ended ≡ Some Whole
  pub reads : ReadsOn left faults input_was input_now was now []

-- an event ended the reading
pub record StopsReading {I : Type 0}
    (left : I → Option (List ℕ)) (faults : I → ℕ) (input_was input_now : View) (was now : I) (status : Status) : Type 0
  where
    pub fault : InputFault
    pub by : status ≡ of_input fault
    pub stopped : input_now.ended ≡ Some (Stopped fault)
    pub not_before : input_was.ended ≡ Some Whole → ⊥
    pub reads : ReadsOn left faults input_was input_now was now []

-- The next commands were read: as many, or those that were left.
pub record TakesOthers {I : Type 0}
    (left : I → Option (List ℕ)) (faults : I → ℕ) (count : ℕ) (input_was input_now : View) (was now : I)
    (taken : List numbered.Numbered) : Type 0 where
  pub others : List request.Request
  pub judged_so : map (λ it. it.request) taken ≡ map bounded_request others
  pub number : map (λ it. it.number) taken ≡ numbers (input_was.reader.given + 1) (length others)
  pub few : length others ≤ count
  pub full : (length others ≡ count) ⊎ (input_now.ended ≡ Some Whole)
  pub reads : ReadsOn left faults input_was input_now was now others

-- an event that ends a session while it reads
abbrev pub IsReadingEvent : Status → View → Type 0
IsReadingEvent Source input = input.ended ≡ Some (Stopped fault.Source)
IsReadingEvent Limit input = input.ended ≡ Some (Stopped fault.Limit)
IsReadingEvent Memory input = Unit {0}
IsReadingEvent status input = ⊥

-- .. after some of the commands that are to be read
pub record EndsReading {I : Type 0}
    (left : I → Option (List ℕ)) (faults : I → ℕ) (count : ℕ) (input_was input_now : View) (was now : I)
    (status : Status) : Type 0 where
  pub others : List request.Request
  pub few : length others ≤ count
  pub reads : ReadsOn left faults input_was input_now was now others
  pub event : IsReadingEvent status input_now

-- Moves of a kind have come, and the texts of their replies were written; `fails` tells whether a reply is an error.
pub record Answers {O : Type 0}
    (written : O → Option (List ℕ)) (faults : O → ℕ) (Is : List Move → Type 0) (was now : Past) (out_was out_now : O)
    (fails : Bool) : Type 0 where
  pub segment : List Move
  pub is : Is segment
  pub continues : Continues was segment now
  pub writes : Writes written faults (replies_in segment) out_was out_now
  pub tells : has_error (replies_in segment) ≡ fails

-- .. up to an event
pub record AnswersUpTo {O : Type 0}
    (written : O → Option (List ℕ)) (faults : O → ℕ) (Is : List Move → Type 0) (was now : Past) (out_was out_now : O)
    (status : Status) : Type 0 where
  pub segment : List Move
  pub is : Is segment
  pub continues : Continues was segment now
  pub broken : IsBroken written faults status (replies_in segment) out_was out_now

-- A command of a number was carried out, with those that were read for it; `fails` tells whether a reply is an error.
pub record Carries {I O : Type 0}
    (left : I → Option (List ℕ)) (read_faults : I → ℕ) (written : O → Option (List ℕ)) (write_faults : O → ℕ)
    (extent : Extent) (number : ℕ) (input_was input_now : View) (was now : I)
    (past_was past_now : Past) (out_was out_now : O) (fails : Bool) : Type 0 where
  pub others : List request.Request
  pub full : (length others ≡ most_others extent) ⊎ (input_now.ended ≡ Some Whole)
  pub reads : ReadsOn left read_faults input_was input_now was now others
  pub answers : Answers written write_faults (IsDone extent number others) past_was past_now out_was out_now fails

-- .. up to an event
pub record CarriesUpTo {I O : Type 0}
    (left : I → Option (List ℕ)) (read_faults : I → ℕ) (written : O → Option (List ℕ)) (write_faults : O → ℕ)
    (extent : Extent) (number : ℕ) (input_was input_now : View) (was now : I)
    (past_was past_now : Past) (out_was out_now : O) (status : Status) : Type 0 where
  pub others : List request.Request
  pub reads : ReadsOn left read_faults input_was input_now was now others
  pub segment : List Move
  pub cut : IsCut extent number others segment
  pub continues : Continues past_was segment past_now
  pub event : IsEvent written write_faults status input_now (replies_in segment) out_was out_now
