-- Commands whose tasks are opened one after the other.
use Rattle.std.proofs.Common.{◌≡◌, ℕ, false, ◌||◌, Bool, List, [], ◌∷◌, ◌++◌, Option, Result, Ok, Err, IfErr, IfOk, OnOk, inl, map, sym, ◌∙◌, ap, subst, append_assoc, append-nil}
use Rattle.std.proofs.lemmas.List.{map-append, map-id}
use Rattle.bosh_base.specs.declared.moves.Move.{Move}
use Rattle.bosh_session.specs.Running.{number_in, number_of}
use Rattle.bosh_session.specs.declared.together.Running as running
use Rattle.bosh_transcript.proofs.CarryLemmas.{answers_as, answers_cut, answers_none, answers_nothing, answers_still, answers_then}
use Rattle.bosh_transcript.proofs.InTurnLemmas.{one_later}
use Rattle.bosh_transcript.proofs.SegmentLemmas.{opened_cut, opened_none, opened_runs, opened_then, opened_told}
use Rattle.bosh_transcript.specs.Carried.{Answers, AnswersUpTo}
use Rattle.bosh_transcript.specs.Past.{Past, Proceeds}
use Rattle.bosh_transcript.specs.Segments.{AreAnsweredUpTo, AreOpenedUpTo, AreTold, IsAnswered, OpensMore}
use Rattle.bosh_transcript.specs.declared.numbered.Numbered as numbered
use Rattle.bosh_transcript.specs.declared.status.Status.{Status}
use Rattle.bosh_transcript.specs.declared.status.Status.TheVariants.{Memory}

-- of all commands these were opened, and those are left
pub record HaveOpened {O : Type 0}
    (written : O → Option (List ℕ)) (faults : O → ℕ) (all opened left : List numbered.Numbered)
    (running_was running_now : List ℕ) (was now : Past) (out_was out_now : O) (fails : Bool) : Type 0
  where
    pub opens : Answers written faults (OpensMore (map number_in opened) running_was running_now) was now out_was out_now fails
    pub split : opened ++ left ≡ all

none_more : (running : List ℕ) → OpensMore [] running running []
none_more running = record { running = []; all_running = sym (append-nil running); opens = opened_none }

more_then : (xs ys r0 r1 r2 : List ℕ) (a b : List Move) → OpensMore xs r0 r1 a → OpensMore ys r1 r2 b →
    OpensMore (xs ++ ys) r0 r2 (a ++ b)
more_then xs ys r0 r1 r2 a b x y = record {
  running = x.running ++ y.running;
  all_running = y.all_running ∙ ap (λ (l : List ℕ). l ++ y.running) x.all_running ∙ append_assoc r0 x.running y.running;
  opens = opened_then xs ys x.running y.running a b x.opens y.opens;
}

pub opens_none : {O : Type 0} (written : O → Option (List ℕ)) (faults : O → ℕ) (all left : List numbered.Numbered)
    (running : List ℕ) (a : Past) (o : O) → left ≡ all → HaveOpened written faults all [] left running running a a o o false
opens_none written faults all left running a o is = record {
  opens = answers_still written faults (OpensMore [] running running) a o (none_more running);
  split = is;
}

split_more : (all opened left more : List numbered.Numbered) (it : numbered.Numbered) → left ≡ it ∷ more →
    opened ++ left ≡ all → (opened ++ it ∷ []) ++ more ≡ all
split_more all opened left more it is split =
    append_assoc opened (it ∷ []) more ∙ sym (ap (λ (l : List numbered.Numbered). opened ++ l) is) ∙ split

-- one more was
pub opens_more : {O : Type 0} (written : O → Option (List ℕ)) (faults : O → ℕ) (all opened left more : List numbered.Numbered)
    (it : numbered.Numbered) (r0 r1 r2 : List ℕ) (a b c : Past) (o p q : O) (fails failed : Bool) → left ≡ it ∷ more →
    HaveOpened written faults all opened left r0 r1 a b o p fails →
    Answers written faults (OpensMore (number_in it ∷ []) r1 r2) b c p q failed →
    HaveOpened written faults all (opened ++ it ∷ []) more r0 r2 a c o q (fails || failed)
opens_more written faults all opened left more it r0 r1 r2 a b c o p q fails failed is x y = record {
  opens = subst (λ (l : List ℕ). Answers written faults (OpensMore l r0 r2) a c o q (fails || failed))
      (sym (map-append number_in opened (it ∷ [])))
      (answers_then written faults (OpensMore (map number_in opened) r0 r1) (OpensMore (number_in it ∷ []) r1 r2)
      (OpensMore (map number_in opened ++ number_in it ∷ []) r0 r2) a b c o p q fails failed x.opens y
      (more_then (map number_in opened) (number_in it ∷ []) r0 r1 r2));
  split = split_more all opened left more it is x.split;
}

-- all were
pub opens_all : {O : Type 0} (written : O → Option (List ℕ)) (faults : O → ℕ) (all opened left : List numbered.Numbered)
    (r0 r1 : List ℕ) (a b : Past) (o p : O) (fails : Bool) → map (λ (it : numbered.Numbered). it) opened ≡ all →
    HaveOpened written faults all opened left r0 r1 a b o p fails →
    Answers written faults (OpensMore (map number_in all) r0 r1) a b o p fails
opens_all written faults all opened left r0 r1 a b o p fails is x =
    subst (λ (l : List numbered.Numbered). Answers written faults (OpensMore (map number_in l) r0 r1) a b o p fails)
    (sym (map-id opened) ∙ is) x.opens

-- an event came in one
pub opens_cut : {O : Type 0} (written : O → Option (List ℕ)) (faults : O → ℕ) (all opened left more : List numbered.Numbered)
    (it : numbered.Numbered) (r0 r1 : List ℕ) (a b c : Past) (o p q : O) (fails : Bool) (status : Status) → left ≡ it ∷ more →
    HaveOpened written faults all opened left r0 r1 a b o p fails →
    AnswersUpTo written faults (AreAnsweredUpTo (number_in it ∷ [])) b c p q status →
    AnswersUpTo written faults (AreOpenedUpTo (map number_in all)) a c o q status
opens_cut written faults all opened left more it r0 r1 a b c o p q fails status is x y =
    subst (λ (l : List ℕ). AnswersUpTo written faults (AreOpenedUpTo l) a c o q status)
    (sym (map-append number_in opened (it ∷ more))
    ∙ ap (map number_in) (sym (ap (λ (l : List numbered.Numbered). opened ++ l) is) ∙ x.split))
    (answers_cut written faults (OpensMore (map number_in opened) r0 r1) (AreAnsweredUpTo (number_in it ∷ []))
    (AreOpenedUpTo (map number_in opened ++ number_in it ∷ map number_in more)) a b c o p q fails status x.opens y
    (λ xs ys first. opened_cut (map number_in opened) (map number_in more) first.running (number_in it) xs ys first.opens))

-- one was answered at once
pub one_told : {O : Type 0} (written : O → Option (List ℕ)) (faults : O → ℕ) (number : ℕ) (running : List ℕ) (a b c : Past)
    (o p : O) (result : Result Bool Status) → Proceeds a b →
    IfOk result (Answers written faults (AreTold (number ∷ [])) b c o p) →
    IfOk result (Answers written faults (OpensMore (number ∷ []) running running) a c o p)
one_told written faults number running a b c o p result work x =
    answers_as written faults (IsAnswered number) (OpensMore (number ∷ []) running running) a c o p result
    (told_so number running) (one_later written faults number a b c o p result work x)
  where
    told_so : (n : ℕ) (r : List ℕ) (segment : List Move) → IsAnswered n segment → OpensMore (n ∷ []) r r segment
    told_so n r segment one = record {
      running = [];
      all_running = sym (append-nil r);
      opens = opened_told n segment one;
    }

-- the task of one was opened
pub one_opened : {O : Type 0} (written : O → Option (List ℕ)) (faults : O → ℕ) (was now : List running.Running)
    (it : running.Running) (a b : Past) (o : O) (result : Result Bool Status) → Proceeds a b →
    OnOk result (now ≡ was ++ it ∷ []) → IfOk result (λ fails. fails ≡ false) →
    IfOk result (Answers written faults (OpensMore (it.number ∷ []) (map number_of was) (map number_of now)) a b o o)
one_opened written faults was now it a b o (Ok fails) work is good =
    subst
    (λ (flag : Bool). Answers written faults (OpensMore (it.number ∷ []) (map number_of was) (map number_of now)) a b o o flag)
    (sym good)
    (answers_none written faults (OpensMore (it.number ∷ []) (map number_of was) (map number_of now)) a b o work
    (record {
      running = it.number ∷ [];
      all_running = ap (map number_of) is ∙ map-append number_of was (it ∷ []);
      opens = opened_runs it.number work.segment work.silent;
    }))
one_opened written faults was now it a b o (Err status) work is good = tt

-- there was no memory for the opening of a task
pub lost_opening : {O : Type 0} (written : O → Option (List ℕ)) (faults : O → ℕ) (number : ℕ) (a b : Past) (o : O) →
    Proceeds a b → AnswersUpTo written faults (AreAnsweredUpTo (number ∷ [])) a b o o Memory
lost_opening written faults number a b o work =
    answers_nothing written faults (AreAnsweredUpTo (number ∷ [])) a b o work (inl work.silent)

-- .. or for the task
pub none_opened : {O : Type 0} (written : O → Option (List ℕ)) (faults : O → ℕ) (number : ℕ) (a b : Past) (o : O)
    (result : Result Bool Status) → Proceeds a b → IfErr result (λ status. status ≡ Memory) →
    IfErr result (AnswersUpTo written faults (AreAnsweredUpTo (number ∷ [])) a b o o)
none_opened written faults number a b o (Ok fails) work memory = tt
none_opened written faults number a b o (Err status) work memory =
    subst (λ (s : Status). AnswersUpTo written faults (AreAnsweredUpTo (number ∷ [])) a b o o s) (sym memory)
    (lost_opening written faults number a b o work)
