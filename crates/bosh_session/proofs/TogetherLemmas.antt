-- Commands that one command carries out at once, by how they were answered.
use Rattle.std.proofs.Common.{◌≡◌, ℕ, false, Bool, List, [], Option, Result, Ok, Err, IfErr, IfOk, inl, inr, map, sym, append-nil}
use Rattle.bosh_base.specs.declared.moves.Move.{Move}
use Rattle.bosh_base.specs.declared.reply.Reply.TheVariants as replies
use Rattle.bosh_input.specs.Ended.{View}
use Rattle.bosh_session.specs.Running.{number_in}
use Rattle.bosh_transcript.proofs.CarryLemmas.{alone_up_to, cut_as}
use Rattle.bosh_transcript.proofs.SegmentLemmas.{together_nothing}
use Rattle.bosh_transcript.proofs.TogetherLemmas.{together_stopped, together_whole}
use Rattle.bosh_transcript.specs.Carried.{Answers, AnswersUpTo, Carries, CarriesUpTo, TakesOthers}
use Rattle.bosh_transcript.specs.Past.{Past}
use Rattle.bosh_transcript.specs.Segments.{AreTogether, AreTogetherUpTo, IsCutSegment, IsReplyUpTo, IsToldFirst}
use Rattle.bosh_transcript.specs.declared.extent.Extent.TheVariants as extents
use Rattle.bosh_transcript.specs.declared.numbered.Numbered as numbered
use Rattle.bosh_transcript.specs.declared.status.Status.{Status}

-- an event came as the first was told
pub unbegun : {I O : Type 0} (left : I → Option (List ℕ)) (read_faults : I → ℕ) (written : O → Option (List ℕ))
    (write_faults : O → ℕ) (count number : ℕ) (input : View) (s : I) (a b : Past) (o p : O) (status : Status) →
    AnswersUpTo written write_faults (IsReplyUpTo number replies.Nothing) a b o p status →
    CarriesUpTo left read_faults written write_faults (extents.Together count) number input input s s a b o p status
unbegun left read_faults written write_faults count number input s a b o p status x =
    alone_up_to left read_faults written write_faults (extents.Together count) number input s a b o p status
    (cut_as written write_faults (IsReplyUpTo number replies.Nothing) (IsCutSegment (extents.Together count) number 0) a b o p
    status (first_cut count number) x)
  where
    first_cut : (c n : ℕ) (segment : List Move) → IsReplyUpTo n replies.Nothing segment →
        IsCutSegment (extents.Together c) n 0 segment
    first_cut c n segment (inl none) = inl none
    first_cut c n segment (inr said) = inr (record {
      first = segment;
      rest = [];
      is = sym (append-nil segment);
      begins = said;
      others = together_nothing [];
    })

-- each was answered
pub whole_by : {I O : Type 0} (left : I → Option (List ℕ)) (read_faults : I → ℕ) (written : O → Option (List ℕ))
    (write_faults : O → ℕ) (count number : ℕ) (was now : View) (s t : I) (taken : List numbered.Numbered)
    (a b c : Past) (o p q : O) (result : Result Bool Status) → number ≡ was.reader.given →
    Answers written write_faults (IsToldFirst number) a b o p false → TakesOthers left read_faults count was now s t taken →
    IfOk result (Answers written write_faults (AreTogether (map number_in taken)) b c p q) →
    IfOk result (Carries left read_faults written write_faults (extents.Together count) number was now s t a c o q)
whole_by left read_faults written write_faults count number was now s t taken a b c o p q (Ok fails) is x others y =
    together_whole left read_faults written write_faults count number was now s t taken a b c o p q fails is x others y
whole_by left read_faults written write_faults count number was now s t taken a b c o p q (Err status) is x others y = tt

-- an event came
pub cut_by : {I O : Type 0} (left : I → Option (List ℕ)) (read_faults : I → ℕ) (written : O → Option (List ℕ))
    (write_faults : O → ℕ) (count number : ℕ) (was now : View) (s t : I) (taken : List numbered.Numbered)
    (a b c : Past) (o p q : O) (result : Result Bool Status) → number ≡ was.reader.given →
    Answers written write_faults (IsToldFirst number) a b o p false → TakesOthers left read_faults count was now s t taken →
    IfErr result (AnswersUpTo written write_faults (AreTogetherUpTo (map number_in taken)) b c p q) →
    IfErr result (CarriesUpTo left read_faults written write_faults (extents.Together count) number was now s t a c o q)
cut_by left read_faults written write_faults count number was now s t taken a b c o p q (Ok fails) is x others y = tt
cut_by left read_faults written write_faults count number was now s t taken a b c o p q (Err status) is x others y =
    together_stopped left read_faults written write_faults count number was now s t taken a b c o p q status is x others y
