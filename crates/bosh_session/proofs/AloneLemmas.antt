-- Commands that carry out no others.
use Rattle.std.proofs.Common.{◌≡◌, ℕ, Bool, List, Option, Result, Ok, Err, IfErr, IfOk, sym, subst}
use Rattle.bosh_input.specs.Ended.{View}
use Rattle.bosh_transcript.proofs.CarryLemmas.{alone_up_to, carries_alone}
use Rattle.bosh_transcript.specs.Carried.{Answers, AnswersUpTo, Carries, CarriesUpTo}
use Rattle.bosh_transcript.specs.Extents.{most_others}
use Rattle.bosh_transcript.specs.Past.{Past}
use Rattle.bosh_transcript.specs.Segments.{IsCutSegment, IsSegment}
use Rattle.bosh_transcript.specs.declared.extent.Extent.{Extent}
use Rattle.bosh_transcript.specs.declared.status.Status.{Status}

carries_by : {I O : Type 0} (left : I → Option (List ℕ)) (read_faults : I → ℕ) (written : O → Option (List ℕ))
    (write_faults : O → ℕ) (kind : Extent) (number : ℕ) (input : View) (s : I) (a b : Past) (o p : O)
    (result : Result Bool Status) → most_others kind ≡ 0 →
    IfOk result (Answers written write_faults (IsSegment kind number 0) a b o p) →
    IfOk result (Carries left read_faults written write_faults kind number input input s s a b o p)
carries_by left read_faults written write_faults kind number input s a b o p (Ok fails) alone x =
    carries_alone left read_faults written write_faults kind number input s a b o p fails alone x
carries_by left read_faults written write_faults kind number input s a b o p (Err status) alone x = tt

cut_by : {I O : Type 0} (left : I → Option (List ℕ)) (read_faults : I → ℕ) (written : O → Option (List ℕ))
    (write_faults : O → ℕ) (kind : Extent) (number : ℕ) (input : View) (s : I) (a b : Past) (o p : O)
    (result : Result Bool Status) →
    IfErr result (AnswersUpTo written write_faults (IsCutSegment kind number 0) a b o p) →
    IfErr result (CarriesUpTo left read_faults written write_faults kind number input input s s a b o p)
cut_by left read_faults written write_faults kind number input s a b o p (Ok fails) x = tt
cut_by left read_faults written write_faults kind number input s a b o p (Err status) x =
    alone_up_to left read_faults written write_faults kind number input s a b o p status x

-- a command of this extent was answered
pub carries_for : {I O : Type 0} (left : I → Option (List ℕ)) (read_faults : I → ℕ) (written : O → Option (List ℕ))
    (write_faults : O → ℕ) (extent kind : Extent) (number : ℕ) (input : View) (s : I) (a b : Past) (o p : O)
    (result : Result Bool Status) → extent ≡ kind → most_others kind ≡ 0 →
    IfOk result (Answers written write_faults (IsSegment kind number 0) a b o p) →
    IfOk result (Carries left read_faults written write_faults extent number input input s s a b o p)
carries_for left read_faults written write_faults extent kind number input s a b o p result is alone x =
    subst (λ (e : Extent). IfOk result (Carries left read_faults written write_faults e number input input s s a b o p))
    (sym is) (carries_by left read_faults written write_faults kind number input s a b o p result alone x)

-- .. up to an event
pub cut_for : {I O : Type 0} (left : I → Option (List ℕ)) (read_faults : I → ℕ) (written : O → Option (List ℕ))
    (write_faults : O → ℕ) (extent kind : Extent) (number : ℕ) (input : View) (s : I) (a b : Past) (o p : O)
    (result : Result Bool Status) → extent ≡ kind →
    IfErr result (AnswersUpTo written write_faults (IsCutSegment kind number 0) a b o p) →
    IfErr result (CarriesUpTo left read_faults written write_faults extent number input input s s a b o p)
cut_for left read_faults written write_faults extent kind number input s a b o p result is x =
    subst (λ (e : Extent). IfErr result (CarriesUpTo left read_faults written write_faults e number input input s s a b o p))
    (sym is) (cut_by left read_faults written write_faults kind number input s a b o p result x)
