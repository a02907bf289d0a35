-- Commands that one command carries out at once.
use Rattle.std.proofs.Common.{◌≡◌, ℕ, ◌+◌, Bool, false, List, [], Option, inr, length, map, refl, sym, ◌∙◌, ap, subst, append-nil}
use Rattle.bosh_base.specs.declared.moves.Said as said
use Rattle.bosh_input.specs.Ended.{View}
use Rattle.bosh_moves.specs.Replies.{replies_in}
use Rattle.bosh_transcript.proofs.CarryLemmas.{answers_cut, answers_then, broken_event}
use Rattle.bosh_transcript.proofs.SegmentLemmas.{together_nothing}
use Rattle.bosh_transcript.specs.Carried.{Answers, AnswersUpTo, Carries, CarriesUpTo, EndsReading, IsReadingEvent, TakesOthers}
use Rattle.bosh_transcript.specs.Extents.{numbers}
use Rattle.bosh_transcript.specs.Past.{Past}
use Rattle.bosh_transcript.specs.Segments.{AreTogether, AreTogetherUpTo, IsToldFirst}
use Rattle.bosh_transcript.specs.Sessions.{IsEvent}
use Rattle.bosh_transcript.specs.Turns.{IsCut, IsDone}
use Rattle.bosh_transcript.specs.Writing.{Writes}
use Rattle.bosh_transcript.specs.declared.extent.Extent.TheVariants as extent
use Rattle.bosh_transcript.specs.declared.numbered.Numbered as numbered
use Rattle.bosh_transcript.specs.declared.status.Status.{Status}
use Rattle.bosh_transcript.specs.declared.status.Status.TheVariants.{Good, Failed, Usage, Source, Sink, Memory, Limit, Unloaded}

-- the commands that were read have the numbers after the first
due_numbers : (number given others : ℕ) (taken : List ℕ) → number ≡ given → taken ≡ numbers (given + 1) others →
    taken ≡ numbers (number + 1) others
due_numbers number given others taken is so = so ∙ ap (λ (k : ℕ). numbers (k + 1) others) (sym is)

-- each was answered
pub together_whole : {I O : Type 0} (left : I → Option (List ℕ)) (read_faults : I → ℕ) (written : O → Option (List ℕ))
    (write_faults : O → ℕ) (count number : ℕ) (was now : View) (s t : I) (taken : List numbered.Numbered)
    (a b c : Past) (o p q : O) (fails : Bool) → number ≡ was.reader.given →
    Answers written write_faults (IsToldFirst number) a b o p false → TakesOthers left read_faults count was now s t taken →
    Answers written write_faults (AreTogether (map (λ it. it.number) taken)) b c p q fails →
    Carries left read_faults written write_faults (extent.Together count) number was now s t a c o q fails
together_whole left read_faults written write_faults count number was now s t taken a b c o p q fails is x others y =
    let all : map (λ it. it.number) taken ≡ numbers (number + 1) (length others.others) =
    due_numbers number was.reader.given (length others.others) (map (λ it. it.number) taken) is others.number in
    record {
      others = others.others;
      full = others.full;
      reads = others.reads;
      answers = answers_then written write_faults (IsToldFirst number) (AreTogether (map (λ it. it.number) taken))
          (IsDone (extent.Together count) number others.others) a b c o p q false fails x y
          (λ xs ys first rest. record {
            few = others.few;
            moves = record {
              first = xs;
              rest = ys;
              is = refl;
              begins = first;
              others = subst (λ (l : List ℕ). AreTogether l ys) all rest;
            };
          });
    }

reading_event : {O : Type 0} (written : O → Option (List ℕ)) (faults : O → ℕ) (status : Status) (input : View)
    (replies : List said.Said) (o p : O) → IsReadingEvent status input → Writes written faults replies o p →
    IsEvent written faults status input replies o p
reading_event written faults Source input replies o p event writes = (event, writes)
reading_event written faults Limit input replies o p event writes = (event, writes)
reading_event written faults Memory input replies o p event writes = writes
reading_event written faults Good input replies o p event writes = absurd event
reading_event written faults Failed input replies o p event writes = absurd event
reading_event written faults Usage input replies o p event writes = absurd event
reading_event written faults Sink input replies o p event writes = absurd event
reading_event written faults Unloaded input replies o p event writes = absurd event

-- an event came while they were read
pub together_unread : {I O : Type 0} (left : I → Option (List ℕ)) (read_faults : I → ℕ) (written : O → Option (List ℕ))
    (write_faults : O → ℕ) (count number : ℕ) (was now : View) (s t : I) (a b : Past) (o p : O) (status : Status) →
    Answers written write_faults (IsToldFirst number) a b o p false → EndsReading left read_faults count was now s t status →
    CarriesUpTo left read_faults written write_faults (extent.Together count) number was now s t a b o p status
together_unread left read_faults written write_faults count number was now s t a b o p status x ends = record {
  others = ends.others;
  reads = ends.reads;
  segment = x.segment;
  cut = record {
    few = ends.few;
    moves = inr (record {
      first = x.segment;
      rest = [];
      is = sym (append-nil x.segment);
      begins = x.is;
      others = together_nothing (numbers (number + 1) (length ends.others));
    });
  };
  continues = x.continues;
  event = reading_event written write_faults status now (replies_in x.segment) o p ends.event x.writes;
}

-- an event came while they were carried out
pub together_stopped : {I O : Type 0} (left : I → Option (List ℕ)) (read_faults : I → ℕ) (written : O → Option (List ℕ))
    (write_faults : O → ℕ) (count number : ℕ) (was now : View) (s t : I) (taken : List numbered.Numbered)
    (a b c : Past) (o p q : O) (status : Status) → number ≡ was.reader.given →
    Answers written write_faults (IsToldFirst number) a b o p false → TakesOthers left read_faults count was now s t taken →
    AnswersUpTo written write_faults (AreTogetherUpTo (map (λ it. it.number) taken)) b c p q status →
    CarriesUpTo left read_faults written write_faults (extent.Together count) number was now s t a c o q status
together_stopped left read_faults written write_faults count number was now s t taken a b c o p q status is x others y =
    let due : map (λ it. it.number) taken ≡ numbers (number + 1) (length others.others) =
    due_numbers number was.reader.given (length others.others) (map (λ it. it.number) taken) is others.number in
    let all : AnswersUpTo written write_faults (IsCut (extent.Together count) number others.others) a c o q status =
    answers_cut written write_faults (IsToldFirst number) (AreTogetherUpTo (map (λ it. it.number) taken))
    (IsCut (extent.Together count) number others.others) a b c o p q false status x y
    (λ xs ys first rest. record {
      few = others.few;
      moves = inr (record {
        first = xs;
        rest = ys;
        is = refl;
        begins = first;
        others = subst (λ (l : List ℕ). AreTogetherUpTo l ys) due rest;
      });
    }) in
    record {
      others = others.others;
      reads = others.reads;
      segment = all.segment;
      cut = all.is;
      continues = all.continues;
      event = broken_event written write_faults status now (replies_in all.segment) o q all.broken;
    }
