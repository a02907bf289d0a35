-- A session, command by command.
use Rattle.std.proofs.Common.{◌≡◌, ◌⊎◌, ℕ, ◌+◌, Bool, false, ◌||◌, List, [], ◌∷◌, ◌++◌, Option, Some, None, inl, inr, length, refl, sym, ap, ◌∙◌, subst, arith, append_assoc, append-nil}
use Rattle.std.specs.Prelude.{All}
use Rattle.std.proofs.lemmas.Grind.{flat_map-append}
use Rattle.std.proofs.lemmas.List.Elements.{All-nil, All-push}
use Rattle.bosh_base.specs.declared.moves.Move.{Move}
use Rattle.bosh_input.specs.Ended.{View}
use Rattle.bosh_input.specs.declared.input.Ended.TheVariants.{Whole}
use Rattle.bosh_input.specs.declared.request.Request as request
use Rattle.bosh_moves.specs.Replies.{replies_in}
use Rattle.bosh_transcript.proofs.CarryLemmas.{answers_then}
use Rattle.bosh_transcript.proofs.PastLemmas.{continues_none}
use Rattle.bosh_transcript.proofs.ReadLemmas.{read_none}
use Rattle.bosh_transcript.proofs.ReplyLemmas.{writes_none}
use Rattle.bosh_transcript.proofs.TurnLemmas.{requests_append, turns_more}
use Rattle.bosh_transcript.specs.Carried.{Answers, Carries}
use Rattle.bosh_transcript.specs.Past.{Continues, Past}
use Rattle.bosh_transcript.specs.Reading.{AreRead, no_bytes}
use Rattle.bosh_transcript.specs.Replies.{has_error}
use Rattle.bosh_transcript.specs.Sessions.{moves_of, requests_of}
use Rattle.bosh_transcript.specs.Turns.{AreTurns, IsFull, Turn, extent_in}
use Rattle.bosh_transcript.specs.Writing.{Writes}

-- what holds of a session between two commands
pub record IsUnderWay {I O : Type 0}
    (left : I → Option (List ℕ)) (read_faults : I → ℕ) (written : O → Option (List ℕ)) (write_faults : O → ℕ)
    (source_before source : I) (out_before out : O) (input : View) (past_before past : Past) (fails : Bool) : Type 0 where
  pub turns : List Turn
  pub reads : AreRead left read_faults source_before source input (requests_of turns)
  pub are_turns : AreTurns 0 turns
  pub full : All IsFull turns ⊎ (input.ended ≡ Some Whole)
  pub continues : Continues past_before (moves_of turns) past
  pub writes : Writes written write_faults (replies_in (moves_of turns)) out_before out
  pub fails_so : has_error (replies_in (moves_of turns)) ≡ fails

-- before the first command
pub way_begins : {I O : Type 0} (left : I → Option (List ℕ)) (read_faults : I → ℕ) (written : O → Option (List ℕ))
    (write_faults : O → ℕ) (source : I) (out : O) (input : View) (past : Past) →
    input ≡ record { reader = record { front = no_bytes; at = 0; given = 0 }; ended = None } →
    IsUnderWay left read_faults written write_faults source source out out input past past false
way_begins left read_faults written write_faults source out input past new = record {
  turns = [];
  reads = read_none left read_faults source input new;
  are_turns = tt;
  full = inl (All-nil IsFull);
  continues = continues_none past;
  writes = writes_none written write_faults out;
  fails_so = refl;
}

pub moves_of_append : (xs ys : List Turn) → moves_of (xs ++ ys) ≡ moves_of xs ++ moves_of ys
moves_of_append xs ys = flat_map-append (λ (turn : Turn). turn.segment) xs ys

moves_of_more : (turns : List Turn) (turn : Turn) → moves_of (turns ++ turn ∷ []) ≡ moves_of turns ++ turn.segment
moves_of_more turns turn =
    moves_of_append turns (turn ∷ [])
    ∙ ap (λ (more : List Move). moves_of turns ++ more) (append-nil turn.segment)

pub requests_of_more : (turns : List Turn) (turn : Turn) →
    requests_of (turns ++ turn ∷ []) ≡ requests_of turns ++ turn.command ∷ turn.others
requests_of_more turns turn =
    requests_append turns (turn ∷ [])
    ∙ ap (λ (more : List request.Request). requests_of turns ++ more) (append-nil (turn.command ∷ turn.others))

-- the turn of a command that was read
abbrev pub turn_of : (command : request.Request) (others : List request.Request) (segment : List Move) → Turn
turn_of command others segment = record { command = command; others = others; segment = segment }

full_more : (turns : List Turn) (turn : Turn) (now : View) → All IsFull turns →
    IsFull turn ⊎ (now.ended ≡ Some Whole) → All IsFull (turns ++ turn ∷ []) ⊎ (now.ended ≡ Some Whole)
full_more turns turn now all (inl is) = inl (All-push IsFull turns turn all is)
full_more turns turn now all (inr over) = inr over

all_full : (turns : List Turn) (was : View) → All IsFull turns ⊎ (was.ended ≡ Some Whole) → was.ended ≡ None →
    All IsFull turns
all_full turns was (inl all) live = all
all_full turns was (inr over) live = cc

-- the turns so far, as moves that were answered
so_far : {I O : Type 0} (left : I → Option (List ℕ)) (read_faults : I → ℕ) (written : O → Option (List ℕ))
    (write_faults : O → ℕ) (source_before s : I) (out_before o : O) (a : View) (before past : Past) (fails : Bool) →
    (way : IsUnderWay left read_faults written write_faults source_before s out_before o a before past fails) →
    Answers written write_faults (λ segment. segment ≡ moves_of way.turns) before past out_before o fails
so_far left read_faults written write_faults source_before s out_before o a before past fails way = record {
  segment = moves_of way.turns;
  is = refl;
  continues = way.continues;
  writes = way.writes;
  tells = way.fails_so;
}

-- A command was read, and then carried out.
pub way_more : {I O : Type 0} (left : I → Option (List ℕ)) (read_faults : I → ℕ) (written : O → Option (List ℕ))
    (write_faults : O → ℕ) (source_before s t u : I) (out_before o p : O) (a b c : View) (command : request.Request)
    (before past after : Past) (fails failed : Bool) →
    (way : IsUnderWay left read_faults written write_faults source_before s out_before o a before past fails) →
    a.ended ≡ None → b.reader.given ≡ a.reader.given + 1 →
    AreRead left read_faults source_before t b (requests_of way.turns ++ command ∷ []) →
    Carries left read_faults written write_faults (extent_in (turn_of command [] [])) b.reader.given b c t u past after o p
    failed →
    IsUnderWay left read_faults written write_faults source_before u out_before p c before after (fails || failed)
way_more {I} {O} left read_faults written write_faults source_before s t u out_before o p a b c command before past after fails failed way live next read x =
    let turn : Turn = turn_of command x.others x.answers.segment in
    let given : a.reader.given ≡ length (requests_of way.turns) = (way.reads.goes_on live).1 in
    let all : Answers written write_faults (λ segment. segment ≡ moves_of (way.turns ++ turn ∷ [])) before after out_before p
    (fails || failed) =
    answers_then written write_faults (λ segment. segment ≡ moves_of way.turns) (λ segment. segment ≡ x.answers.segment)
    (λ segment. segment ≡ moves_of (way.turns ++ turn ∷ [])) before past after out_before o p fails failed
    (so_far left read_faults written write_faults source_before s out_before o a before past fails way)
    (record {
      segment = x.answers.segment;
      is = refl;
      continues = x.answers.continues;
      writes = x.answers.writes;
      tells = x.answers.tells;
    })
    (λ xs ys first rest. ap (λ (l : List Move). l ++ ys) first ∙ ap (λ (l : List Move). moves_of way.turns ++ l) rest
    ∙ sym (moves_of_more way.turns turn)) in
    record {
      turns = way.turns ++ turn ∷ [];
      reads = subst (λ (requests : List request.Request). AreRead left read_faults source_before u c requests)
          (append_assoc (requests_of way.turns) (command ∷ []) x.others ∙ sym (requests_of_more way.turns turn))
          (x.reads source_before (requests_of way.turns ++ command ∷ []) read);
      are_turns = turns_more 0 b.reader.given way.turns turn way.are_turns (omega (arith, next, given)) x.answers.is;
      full = full_more way.turns turn c (all_full way.turns a way.full live) x.full;
      continues = subst (λ (l : List Move). Continues before l after) all.is all.continues;
      writes = subst (λ (l : List Move). Writes written write_faults (replies_in l) out_before p) all.is all.writes;
      fails_so = ap (λ (l : List Move). has_error (replies_in l)) (sym all.is) ∙ all.tells;
    }
