-- What a session reads, answers and writes (this project's profile).
use Rattle.std.specs.Prelude.{◌≡◌, ◌⊎◌, ℕ, ◌+◌, All, true, false, List, [], ◌∷◌, ◌++◌, Option, Some, length}
use Rattle.std.specs.List.{flat_map}
use Rattle.bosh_base.specs.declared.moves.Move.{Move}
use Rattle.bosh_base.specs.declared.moves.Said as said
use Rattle.bosh_input.specs.Ended.{View}
use Rattle.bosh_input.specs.declared.fault.InputFault.TheVariants as fault
use Rattle.bosh_input.specs.declared.input.Ended.TheVariants.{Whole, Stopped}
use Rattle.bosh_input.specs.declared.request.Request as request
use Rattle.bosh_moves.specs.Replies.{replies_in}
use Rattle.bosh_transcript.specs.Past.{Continues, Past}
use Rattle.bosh_transcript.specs.Reading.{AreRead}
use Rattle.bosh_transcript.specs.Replies.{has_error}
use Rattle.bosh_transcript.specs.Turns.{AreTurns, IsCutTurn, IsFull, Turn, commands_of}
use Rattle.bosh_transcript.specs.Writing.{Writes, WritesUpTo}
use Rattle.bosh_transcript.specs.declared.status.Status.{Status}
use Rattle.bosh_transcript.specs.declared.status.Status.TheVariants.{Good, Failed, Source, Sink, Memory, Limit}

abbrev pub requests_of : List Turn → List request.Request
requests_of turns = flat_map commands_of turns

-- their moves, one turn after the other
abbrev pub moves_of : List Turn → List Move
moves_of turns = flat_map (λ turn. turn.segment) turns

-- a turn was cut off, or none was
abbrev pub IsCutOff : ℕ → List Turn → Type 0
IsCutOff number [] = Unit {0}
IsCutOff number (turn ∷ []) = IsCutTurn number turn
IsCutOff number (turn ∷ more) = ⊥

-- how an event is met that is none of the input: there is no memory, or the output fails
abbrev pub IsBroken : {O : Type 0} → (O → Option (List ℕ)) → (O → ℕ) → Status → List said.Said → O → O → Type 0
IsBroken written faults Memory replies before after = Writes written faults replies before after
IsBroken written faults Sink replies before after = WritesUpTo written faults replies before after
IsBroken written faults status replies before after = ⊥

-- .. or the source fails, or has more than a session takes
abbrev pub IsEvent : {O : Type 0} → (O → Option (List ℕ)) → (O → ℕ) → Status → View → List said.Said → O → O → Type 0
IsEvent written faults Source input replies before after =
    (input.ended ≡ Some (Stopped fault.Source)) × Writes written faults replies before after
IsEvent written faults Limit input replies before after =
    (input.ended ≡ Some (Stopped fault.Limit)) × Writes written faults replies before after
IsEvent written faults status input replies before after = IsBroken written faults status replies before after

-- how a session ended, by its status: the input has no further command, and each was carried out; or an event ended it
abbrev pub IsEnd : {O : Type 0} → (O → Option (List ℕ)) → (O → ℕ) → Status → View → List Turn → List said.Said → O → O →
    Type 0
IsEnd written faults Good input cut replies before after =
    (input.ended ≡ Some Whole) × (cut ≡ []) × (has_error replies ≡ false) × Writes written faults replies before after
IsEnd written faults Failed input cut replies before after =
    (input.ended ≡ Some Whole) × (cut ≡ []) × (has_error replies ≡ true) × Writes written faults replies before after
IsEnd written faults status input cut replies before after = IsEvent written faults status input replies before after

-- A session over a source and an output, and what happened to its director in it. The commands were read in order, and
-- each turn was carried out in its turn, but for what an event cut off; nothing was done but their moves.
pub record IsSession {I O : Type 0}
    (left : I → Option (List ℕ)) (read_faults : I → ℕ) (written : O → Option (List ℕ)) (write_faults : O → ℕ)
    (source_before source_after : I) (out_before out_after : O) (status : Status) (past_before past_after : Past) :
    Type 0 where
  pub input : View
  pub turns : List Turn
  pub cut : List Turn
  pub reads : AreRead left read_faults source_before source_after input (requests_of turns ++ requests_of cut)
  pub are_turns : AreTurns 0 turns
  pub full : All IsFull turns ⊎ (input.ended ≡ Some Whole)
  pub cut_off : IsCutOff (length (requests_of turns) + 1) cut
  pub continues : Continues past_before (moves_of turns ++ moves_of cut) past_after
  pub ended : IsEnd written write_faults status input cut (replies_in (moves_of turns ++ moves_of cut)) out_before out_after
