-- How a session comes to its end.
use Rattle.std.proofs.Common.{◌≡◌, ℕ, ◌+◌, Bool, true, false, List, [], ◌∷◌, ◌++◌, Option, Some, None, inl, inr, length, refl, sym, ap, ◌∙◌, subst, arith, append_assoc, append-nil}
use Rattle.std.proofs.lemmas.List.Elements.{All-nil}
use Rattle.bosh_base.specs.declared.moves.Move.{Move}
use Rattle.bosh_base.specs.declared.moves.Said as said
use Rattle.bosh_input.specs.Ended.{View}
use Rattle.bosh_input.specs.declared.fault.InputFault.{InputFault}
use Rattle.bosh_input.specs.declared.fault.InputFault.TheVariants as fault
use Rattle.bosh_input.specs.declared.input.Ended.TheVariants.{Whole, Stopped}
use Rattle.bosh_input.specs.declared.request.Request as request
use Rattle.bosh_moves.specs.Replies.{replies_in}
use Rattle.bosh_transcript.proofs.PastLemmas.{continues_none, continues_then}
use Rattle.bosh_transcript.proofs.ReadLemmas.{read_none}
use Rattle.bosh_transcript.proofs.ReplyLemmas.{broken_then, replies_append, writes_none, writes_then}
use Rattle.bosh_transcript.proofs.WayLemmas.{IsUnderWay, turn_of}
use Rattle.bosh_transcript.specs.Carried.{CarriesUpTo}
use Rattle.bosh_transcript.specs.Past.{Continues, Past}
use Rattle.bosh_transcript.specs.Reading.{AreRead, no_bytes}
use Rattle.bosh_transcript.specs.Replies.{has_error}
use Rattle.bosh_transcript.specs.Sessions.{IsEnd, IsEvent, IsSession, moves_of, requests_of}
use Rattle.bosh_transcript.specs.Status.{at_end, of_input}
use Rattle.bosh_transcript.specs.Turns.{IsCutTurn, IsFull, Turn, extent_in}
use Rattle.bosh_transcript.specs.Writing.{Writes}
use Rattle.bosh_transcript.specs.declared.status.Status.{Status}
use Rattle.bosh_transcript.specs.declared.status.Status.TheVariants.{Good, Failed, Usage, Source, Sink, Memory, Limit, Unloaded}

-- memory ran out before the first command
pub over_before : {I O : Type 0} (left : I → Option (List ℕ)) (read_faults : I → ℕ) (written : O → Option (List ℕ))
    (write_faults : O → ℕ) (source : I) (out : O) (past : Past) →
    IsSession left read_faults written write_faults source source out out Memory past past
over_before left read_faults written write_faults source out past =
    let input : View = record { reader = record { front = no_bytes; at = 0; given = 0 }; ended = None } in
    record {
      input = input;
      turns = [];
      cut = [];
      reads = read_none left read_faults source input refl;
      are_turns = tt;
      full = inl (All-nil IsFull);
      cut_off = tt;
      continues = continues_none past;
      ended = writes_none written write_faults out;
    }

end_of : {O : Type 0} (written : O → Option (List ℕ)) (faults : O → ℕ) (fails : Bool) (input : View)
    (replies : List said.Said) (a b : O) → input.ended ≡ Some Whole → has_error replies ≡ fails →
    Writes written faults replies a b → IsEnd written faults (at_end fails) input [] replies a b
end_of written faults true input replies a b over fails writes = (over, refl, fails, writes)
end_of written faults false input replies a b over fails writes = (over, refl, fails, writes)

-- the input has no further command
pub over_at_end : {I O : Type 0} (left : I → Option (List ℕ)) (read_faults : I → ℕ) (written : O → Option (List ℕ))
    (write_faults : O → ℕ) (source_before s t : I) (out_before o : O) (a b : View) (before past : Past) (fails : Bool) →
    (way : IsUnderWay left read_faults written write_faults source_before s out_before o a before past fails) →
    AreRead left read_faults source_before t b (requests_of way.turns) → b.ended ≡ Some Whole →
    IsSession left read_faults written write_faults source_before t out_before o (at_end fails) before past
over_at_end left read_faults written write_faults source_before s t out_before o a b before past fails way read over = record {
  input = b;
  turns = way.turns;
  cut = [];
  reads = subst (λ (requests : List request.Request). AreRead left read_faults source_before t b requests)
      (sym (append-nil (requests_of way.turns))) read;
  are_turns = way.are_turns;
  full = inr over;
  cut_off = tt;
  continues = subst (λ (l : List Move). Continues before l past) (sym (append-nil (moves_of way.turns))) way.continues;
  ended =
      let all : moves_of way.turns ≡ moves_of way.turns ++ [] = sym (append-nil (moves_of way.turns)) in
      end_of written write_faults fails b (replies_in (moves_of way.turns ++ [])) out_before o over
      (ap (λ (l : List Move). has_error (replies_in l)) (sym all) ∙ way.fails_so)
      (subst (λ (l : List Move). Writes written write_faults (replies_in l) out_before o) all way.writes);
}

event_end : {O : Type 0} (written : O → Option (List ℕ)) (faults : O → ℕ) (status : Status) (input : View)
    (cut : List Turn) (replies : List said.Said) (a b : O) → IsEvent written faults status input replies a b →
    IsEnd written faults status input cut replies a b
event_end written faults Good input cut replies a b event = absurd event
event_end written faults Failed input cut replies a b event = absurd event
event_end written faults Usage input cut replies a b event = event
event_end written faults Source input cut replies a b event = event
event_end written faults Sink input cut replies a b event = event
event_end written faults Memory input cut replies a b event = event
event_end written faults Limit input cut replies a b event = event
event_end written faults Unloaded input cut replies a b event = event

input_event : {O : Type 0} (written : O → Option (List ℕ)) (faults : O → ℕ) (fault : InputFault) (input : View)
    (replies : List said.Said) (a b : O) → input.ended ≡ Some (Stopped fault) → Writes written faults replies a b →
    IsEvent written faults (of_input fault) input replies a b
input_event written faults fault.Source input replies a b over writes = (over, writes)
input_event written faults fault.Limit input replies a b over writes = (over, writes)
input_event written faults fault.Memory input replies a b over writes = writes

-- an event of the input ends the session between two commands
pub over_by_event : {I O : Type 0} (left : I → Option (List ℕ)) (read_faults : I → ℕ) (written : O → Option (List ℕ))
    (write_faults : O → ℕ) (source_before s t : I) (out_before o : O) (a b : View) (before past : Past) (fails : Bool)
    (fault : InputFault) →
    (way : IsUnderWay left read_faults written write_faults source_before s out_before o a before past fails) →
    AreRead left read_faults source_before t b (requests_of way.turns) → b.ended ≡ Some (Stopped fault) →
    (a.ended ≡ Some Whole → ⊥) → IsSession left read_faults written write_faults source_before t out_before o (of_input fault) before past
over_by_event left read_faults written write_faults source_before s t out_before o a b before past fails fault way read over live = record {
  input = b;
  turns = way.turns;
  cut = [];
  reads = subst (λ (requests : List request.Request). AreRead left read_faults source_before t b requests)
      (sym (append-nil (requests_of way.turns))) read;
  are_turns = way.are_turns;
  full = elim way.full [ inl all ↦ inl all | inr whole ↦ absurd (live whole) ];
  cut_off = tt;
  continues = subst (λ (l : List Move). Continues before l past) (sym (append-nil (moves_of way.turns))) way.continues;
  ended =
      event_end written write_faults (of_input fault) b [] (replies_in (moves_of way.turns ++ [])) out_before o
      (input_event written write_faults fault b (replies_in (moves_of way.turns ++ [])) out_before o over
      (subst (λ (l : List Move). Writes written write_faults (replies_in l) out_before o)
      (sym (append-nil (moves_of way.turns))) way.writes));
}

event_then : {O : Type 0} (written : O → Option (List ℕ)) (faults : O → ℕ) (status : Status) (input : View)
    (xs ys : List said.Said) (a b c : O) → Writes written faults xs a b → IsEvent written faults status input ys b c →
    IsEvent written faults status input (xs ++ ys) a c
event_then written faults Good input xs ys a b c x y = broken_then written faults Good xs ys a b c x y
event_then written faults Failed input xs ys a b c x y = broken_then written faults Failed xs ys a b c x y
event_then written faults Usage input xs ys a b c x y = broken_then written faults Usage xs ys a b c x y
event_then written faults Source input xs ys a b c x y = (y.0, writes_then written faults xs ys a b c x y.1)
event_then written faults Limit input xs ys a b c x y = (y.0, writes_then written faults xs ys a b c x y.1)
event_then written faults Sink input xs ys a b c x y = broken_then written faults Sink xs ys a b c x y
event_then written faults Memory input xs ys a b c x y = broken_then written faults Memory xs ys a b c x y
event_then written faults Unloaded input xs ys a b c x y = broken_then written faults Unloaded xs ys a b c x y

-- an event cuts a command off
pub over_in_turn : {I O : Type 0} (left : I → Option (List ℕ)) (read_faults : I → ℕ) (written : O → Option (List ℕ))
    (write_faults : O → ℕ) (source_before s t u : I) (out_before o p : O) (a b c : View) (command : request.Request)
    (before past after : Past) (fails : Bool) (status : Status) →
    (way : IsUnderWay left read_faults written write_faults source_before s out_before o a before past fails) →
    a.ended ≡ None → b.reader.given ≡ a.reader.given + 1 →
    AreRead left read_faults source_before t b (requests_of way.turns ++ command ∷ []) →
    CarriesUpTo left read_faults written write_faults (extent_in (turn_of command [] [])) b.reader.given b c t u past after
    o p status →
    IsSession left read_faults written write_faults source_before u out_before p status before after
over_in_turn {I} {O} left read_faults written write_faults source_before s t u out_before o p a b c command before past after fails status way live next read x =
    let turn : Turn = turn_of command x.others x.segment in
    let given : a.reader.given ≡ length (requests_of way.turns) = (way.reads.goes_on live).1 in
    let number : b.reader.given ≡ length (requests_of way.turns) + 1 = omega (arith, next, given) in
    let last : moves_of (turn ∷ []) ≡ x.segment = append-nil x.segment in
    record {
      input = c;
      turns = way.turns;
      cut = turn ∷ [];
      reads = subst (λ (requests : List request.Request). AreRead left read_faults source_before u c requests)
          (append_assoc (requests_of way.turns) (command ∷ []) x.others
          ∙ ap (λ (more : List request.Request). requests_of way.turns ++ more) (sym (append-nil (command ∷ x.others))))
          (x.reads source_before (requests_of way.turns ++ command ∷ []) read);
      are_turns = way.are_turns;
      full = elim way.full [ inl all ↦ inl all | inr whole ↦ absurd (let no : ⊥ = cc in no) ];
      cut_off = subst (λ (k : ℕ). IsCutTurn k turn) number x.cut;
      continues = subst (λ (l : List Move). Continues before (moves_of way.turns ++ l) after) (sym last)
          (continues_then before past after (moves_of way.turns) x.segment way.continues x.continues);
      ended = event_end written write_faults status c (turn ∷ []) (replies_in (moves_of way.turns ++ moves_of (turn ∷ [])))
          out_before p
          (subst (λ (l : List said.Said). IsEvent written write_faults status c l out_before p)
          (sym (replies_append (moves_of way.turns) x.segment)
          ∙ ap (λ (l : List Move). replies_in (moves_of way.turns ++ l)) (sym last))
          (event_then written write_faults status c (replies_in (moves_of way.turns)) (replies_in x.segment) out_before o p
          way.writes x.event));
    }
