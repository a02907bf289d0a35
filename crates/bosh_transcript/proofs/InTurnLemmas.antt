-- Commands that are answered in turn.
use Rattle.std.proofs.Common.{ℕ, Bool, false, refl, ◌||◌, List, [], ◌∷◌, ◌++◌, Option, Result, Ok, Err, IfErr, IfOk, inl, inr}
use Rattle.bosh_base.specs.declared.moves.Move.{Move}
use Rattle.bosh_base.specs.declared.reply.Reply.{Reply}
use Rattle.bosh_transcript.proofs.CarryLemmas.{answers_as, answers_cut, answers_lost, answers_none, answers_then, cut_as}
use Rattle.bosh_transcript.proofs.SegmentLemmas.{answered_cut, answered_first, answered_one, answered_then, cut_one, one_alone, told_nothing}
use Rattle.bosh_transcript.specs.Carried.{Answers, AnswersUpTo}
use Rattle.bosh_transcript.specs.Past.{AreSilent, Past, Proceeds}
use Rattle.bosh_transcript.specs.Segments.{AreAnswered, AreAnsweredUpTo, AreTold, AreToldUpTo, IsAnswered, IsReply, IsReplyUpTo}
use Rattle.bosh_transcript.specs.declared.status.Status.{Status}
use Rattle.bosh_transcript.specs.declared.status.Status.TheVariants.{Memory}

-- further commands were answered
pub for_then : {O : Type 0} (written : O → Option (List ℕ)) (faults : O → ℕ) (xs ys : List ℕ) (a b c : Past)
    (o p q : O) (fails failed : Bool) → Answers written faults (AreAnswered xs) a b o p fails →
    Answers written faults (AreAnswered ys) b c p q failed →
    Answers written faults (AreAnswered (xs ++ ys)) a c o q (fails || failed)
for_then written faults xs ys a b c o p q fails failed x y =
    answers_then written faults (AreAnswered xs) (AreAnswered ys) (AreAnswered (xs ++ ys)) a b c o p q fails failed x y
    (answered_then xs ys)

pub part_then : {O : Type 0} (written : O → Option (List ℕ)) (faults : O → ℕ) (xs ys : List ℕ) (a b c : Past)
    (o p q : O) (fails : Bool) (status : Status) → Answers written faults (AreAnswered xs) a b o p fails →
    AnswersUpTo written faults (AreAnsweredUpTo ys) b c p q status →
    AnswersUpTo written faults (AreAnsweredUpTo (xs ++ ys)) a c o q status
part_then written faults xs ys a b c o p q fails status x y =
    answers_cut written faults (AreAnswered xs) (AreAnsweredUpTo ys) (AreAnsweredUpTo (xs ++ ys)) a b c o p q fails status x y
    (answered_cut xs ys)

-- an event came before further commands
pub part_first : {O : Type 0} (written : O → Option (List ℕ)) (faults : O → ℕ) (xs ys : List ℕ) (a b : Past)
    (o p : O) (status : Status) → AnswersUpTo written faults (AreAnsweredUpTo xs) a b o p status →
    AnswersUpTo written faults (AreAnsweredUpTo (xs ++ ys)) a b o p status
part_first written faults xs ys a b o p status x =
    cut_as written faults (AreAnsweredUpTo xs) (AreAnsweredUpTo (xs ++ ys)) a b o p status (answered_first xs ys) x

-- what a command did before it was answered
work_so : {O : Type 0} (written : O → Option (List ℕ)) (faults : O → ℕ) (a b : Past) (o : O) → Proceeds a b →
    Answers written faults AreSilent a b o o false
work_so written faults a b o x = answers_none written faults AreSilent a b o x x.silent

pub one_later : {O : Type 0} (written : O → Option (List ℕ)) (faults : O → ℕ) (number : ℕ) (a b c : Past) (o p : O)
    (result : Result Bool Status) → Proceeds a b → IfOk result (Answers written faults (AreTold (number ∷ [])) b c o p) →
    IfOk result (Answers written faults (IsAnswered number) a c o p)
one_later written faults number a b c o p (Ok fails) work x =
    answers_then written faults AreSilent (AreTold (number ∷ [])) (IsAnswered number) a b c o o p false fails
    (work_so written faults a b o work) x (answered_one number)
one_later written faults number a b c o p (Err status) work x = tt

-- .. and alone
pub for_later : {O : Type 0} (written : O → Option (List ℕ)) (faults : O → ℕ) (number : ℕ) (a b c : Past) (o p : O)
    (result : Result Bool Status) → Proceeds a b → IfOk result (Answers written faults (AreTold (number ∷ [])) b c o p) →
    IfOk result (Answers written faults (AreAnswered (number ∷ [])) a c o p)
for_later written faults number a b c o p result work x =
    answers_as written faults (IsAnswered number) (AreAnswered (number ∷ [])) a c o p result (one_alone number)
    (one_later written faults number a b c o p result work x)

pub part_later : {O : Type 0} (written : O → Option (List ℕ)) (faults : O → ℕ) (number : ℕ) (a b c : Past) (o p : O)
    (result : Result Bool Status) → Proceeds a b →
    IfErr result (AnswersUpTo written faults (AreToldUpTo (number ∷ [])) b c o p) →
    IfErr result (AnswersUpTo written faults (AreAnsweredUpTo (number ∷ [])) a c o p)
part_later written faults number a b c o p (Ok fails) work x = tt
part_later written faults number a b c o p (Err status) work x =
    answers_cut written faults AreSilent (AreToldUpTo (number ∷ [])) (AreAnsweredUpTo (number ∷ [])) a b c o o p false
    status (work_so written faults a b o work) x (cut_one number)

-- a reply is told
pub reply_told : {O : Type 0} (written : O → Option (List ℕ)) (faults : O → ℕ) (number : ℕ) (reply : Reply) (a b : Past)
    (o p : O) (result : Result Bool Status) → IfOk result (Answers written faults (IsReply number reply) a b o p) →
    IfOk result (Answers written faults (AreTold (number ∷ [])) a b o p)
reply_told written faults number reply a b o p result x =
    answers_as written faults (IsReply number reply) (AreTold (number ∷ [])) a b o p result (is_told number reply) x
  where
    is_told : (n : ℕ) (r : Reply) (segment : List Move) → IsReply n r segment → AreTold (n ∷ []) segment
    is_told n r segment is = record { replies = record { command = n; reply = r } ∷ []; due = refl; is = is }

pub reply_cut : {O : Type 0} (written : O → Option (List ℕ)) (faults : O → ℕ) (number : ℕ) (reply : Reply) (a b : Past)
    (o p : O) (result : Result Bool Status) →
    IfErr result (AnswersUpTo written faults (IsReplyUpTo number reply) a b o p) →
    IfErr result (AnswersUpTo written faults (AreToldUpTo (number ∷ [])) a b o p)
reply_cut written faults number reply a b o p (Ok fails) x = tt
reply_cut written faults number reply a b o p (Err status) x =
    cut_as written faults (IsReplyUpTo number reply) (AreToldUpTo (number ∷ [])) a b o p status (is_cut number reply) x
  where
    is_cut : (n : ℕ) (r : Reply) (segment : List Move) → IsReplyUpTo n r segment → AreToldUpTo (n ∷ []) segment
    is_cut n r segment (inl none) = record { replies = []; left = n ∷ []; due = refl; is = none }
    is_cut n r segment (inr is) = record { replies = record { command = n; reply = r } ∷ []; left = []; due = refl; is = is }

-- .. of a command that did nothing else
pub reply_for : {O : Type 0} (written : O → Option (List ℕ)) (faults : O → ℕ) (number : ℕ) (reply : Reply) (a b : Past)
    (o p : O) (result : Result Bool Status) → IfOk result (Answers written faults (IsReply number reply) a b o p) →
    IfOk result (Answers written faults (AreAnswered (number ∷ [])) a b o p)
reply_for written faults number reply a b o p result x =
    answers_as written faults (AreTold (number ∷ [])) (AreAnswered (number ∷ [])) a b o p result
    (λ xs told. one_alone number xs (answered_one number [] xs refl told))
    (reply_told written faults number reply a b o p result x)

pub reply_part : {O : Type 0} (written : O → Option (List ℕ)) (faults : O → ℕ) (number : ℕ) (reply : Reply) (a b : Past)
    (o p : O) (status : Status) → AnswersUpTo written faults (IsReplyUpTo number reply) a b o p status →
    AnswersUpTo written faults (AreAnsweredUpTo (number ∷ [])) a b o p status
reply_part written faults number reply a b o p status x =
    cut_as written faults (AreToldUpTo (number ∷ [])) (AreAnsweredUpTo (number ∷ [])) a b o p status
    (λ xs told. cut_one number [] xs refl told) (reply_cut written faults number reply a b o p (Err status) x)

-- there was no memory for a reply
pub lost_told : {O : Type 0} (written : O → Option (List ℕ)) (faults : O → ℕ) (numbers : List ℕ) (a : Past) (o : O) →
    AnswersUpTo written faults (AreToldUpTo numbers) a a o o Memory
lost_told written faults numbers a o =
    answers_lost written faults (AreToldUpTo numbers) a o (told_nothing numbers)
