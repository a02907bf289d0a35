-- Commands that are answered in another order than they were read in.
use Rattle.std.proofs.Common.{◌≡◌, ℕ, Bool, ◌||◌, false, List, [], ◌++◌, Option, Result, Ok, Err, IfErr, IfOk, inl, ap, ◌∙◌, sym, subst, map}
use Rattle.std.specs.List.Sorted.{IsPermutation}
use Rattle.std.proofs.lemmas.List.Sorted.{IsPermutation-refl, IsPermutation-sym}
use Rattle.bosh_base.specs.declared.moves.Move.{Move}
use Rattle.bosh_session.specs.Running.{number_of, running_in}
use Rattle.bosh_session.specs.declared.together.Placed as placed
use Rattle.bosh_session.specs.declared.together.Running as running
use Rattle.bosh_transcript.proofs.CarryLemmas.{answers_cut, answers_none, answers_then, cut_as}
use Rattle.bosh_transcript.proofs.InTurnLemmas.{lost_told}
use Rattle.bosh_transcript.proofs.SegmentLemmas.{run_cut, run_told, together_cut, together_run}
use Rattle.bosh_transcript.specs.Carried.{Answers, AnswersUpTo}
use Rattle.bosh_transcript.specs.Past.{AreSilent, Past, Proceeds}
use Rattle.bosh_transcript.specs.Segments.{AreOpenedUpTo, AreRun, AreRunUpTo, AreTogether, AreTogetherUpTo, AreTold, AreToldUpTo, OpensMore}
use Rattle.bosh_transcript.specs.declared.status.Status.{Status}
use Rattle.bosh_transcript.specs.declared.status.Status.TheVariants.{Memory}

-- the run, as moves that no reply is among
run_so : {O : Type 0} (written : O → Option (List ℕ)) (faults : O → ℕ) (a b : Past) (o : O) → Proceeds a b →
    Answers written faults AreSilent a b o o false
run_so written faults a b o x = answers_none written faults AreSilent a b o x x.silent

-- .. up to an event, in this order
pub run_stopped : {O : Type 0} (written : O → Option (List ℕ)) (faults : O → ℕ) (commands order : List ℕ) (a b c : Past)
    (o p : O) (status : Status) → IsPermutation commands order → Proceeds a b →
    AnswersUpTo written faults (AreToldUpTo order) b c o p status →
    AnswersUpTo written faults (AreRunUpTo commands) a c o p status
run_stopped written faults commands order a b c o p status same work x =
    answers_cut written faults AreSilent (AreToldUpTo order) (AreRunUpTo commands) a b c o o p false status
    (run_so written faults a b o work) x
    (λ xs ys silent told. run_cut commands order xs ys (IsPermutation-sym commands order same) silent told)

-- memory ran out before an answer
pub run_lost : {O : Type 0} (written : O → Option (List ℕ)) (faults : O → ℕ) (commands : List ℕ) (a b : Past) (o : O) →
    Proceeds a b → AnswersUpTo written faults (AreRunUpTo commands) a b o o Memory
run_lost written faults commands a b o work =
    run_stopped written faults commands commands a b b o o Memory (IsPermutation-refl commands) work
    (lost_told written faults commands b o)

-- each was answered, in this order
pub run_for : {O : Type 0} (written : O → Option (List ℕ)) (faults : O → ℕ) (commands order : List ℕ) (a b c : Past)
    (o p : O) (result : Result Bool Status) → IsPermutation commands order → Proceeds a b →
    IfOk result (Answers written faults (AreTold order) b c o p) →
    IfOk result (Answers written faults (AreRun commands) a c o p)
run_for written faults commands order a b c o p (Ok fails) same work x =
    answers_then written faults AreSilent (AreTold order) (AreRun commands) a b c o o p false fails
    (run_so written faults a b o work) x
    (λ xs ys silent told. run_told commands order xs ys (IsPermutation-sym commands order same) silent told)
run_for written faults commands order a b c o p (Err status) same work x = tt

-- .. up to an event
pub run_part : {O : Type 0} (written : O → Option (List ℕ)) (faults : O → ℕ) (commands order : List ℕ) (a b c : Past)
    (o p : O) (result : Result Bool Status) → IsPermutation commands order → Proceeds a b →
    IfErr result (AnswersUpTo written faults (AreToldUpTo order) b c o p) →
    IfErr result (AnswersUpTo written faults (AreRunUpTo commands) a c o p)
run_part written faults commands order a b c o p (Ok fails) same work x = tt
run_part written faults commands order a b c o p (Err status) same work x =
    run_stopped written faults commands order a b c o p status same work x

-- an order of tasks that was read off their places
pub order_by : {T E : Type 0} (items_of : T → List running.Running) (tasks : List running.Running) (places : List placed.Placed)
    (result : Result T E) → IsPermutation tasks (map running_in places) →
    IfOk result (λ order. items_of order ≡ map running_in places) → IfOk result (λ order. IsPermutation tasks (items_of order))
order_by items_of tasks places (Ok order) same is =
    subst (λ (l : List running.Running). IsPermutation tasks l) (sym is) same
order_by items_of tasks places (Err fault) same is = tt

all_running : (commands : List ℕ) (none now tasks : List running.Running) (segment : List Move) → none ≡ [] → tasks ≡ now →
    (x : OpensMore commands (map number_of none) (map number_of now) segment) → map number_of tasks ≡ x.running
all_running commands none now tasks segment empty same x =
    ap (map number_of) same ∙ x.all_running ∙ ap (λ (l : List running.Running). map number_of l ++ x.running) empty

-- the tasks that run are those of a list that had none before, and each was answered
pub opens_whole : {O : Type 0} (written : O → Option (List ℕ)) (faults : O → ℕ) (commands : List ℕ)
    (none now tasks : List running.Running) (a b c : Past) (o p q : O) (fails failed : Bool) → none ≡ [] → tasks ≡ now →
    Answers written faults (OpensMore commands (map number_of none) (map number_of now)) a b o p fails →
    Answers written faults (AreRun (map number_of tasks)) b c p q failed →
    Answers written faults (AreTogether commands) a c o q (fails || failed)
opens_whole written faults commands none now tasks a b c o p q fails failed empty same x y =
    answers_then written faults (OpensMore commands (map number_of none) (map number_of now)) (AreRun (map number_of tasks))
    (AreTogether commands) a b c o p q fails failed x y
    (λ xs ys first run. together_run commands first.running xs ys first.opens
    (subst (λ (l : List ℕ). AreRun l ys) (all_running commands none now tasks xs empty same first) run))

-- .. up to an event
pub opens_stopped : {O : Type 0} (written : O → Option (List ℕ)) (faults : O → ℕ) (commands : List ℕ)
    (none now tasks : List running.Running) (a b c : Past) (o p q : O) (fails : Bool) (status : Status) → none ≡ [] →
    tasks ≡ now → Answers written faults (OpensMore commands (map number_of none) (map number_of now)) a b o p fails →
    AnswersUpTo written faults (AreRunUpTo (map number_of tasks)) b c p q status →
    AnswersUpTo written faults (AreTogetherUpTo commands) a c o q status
opens_stopped written faults commands none now tasks a b c o p q fails status empty same x y =
    answers_cut written faults (OpensMore commands (map number_of none) (map number_of now))
    (AreRunUpTo (map number_of tasks)) (AreTogetherUpTo commands) a b c o p q fails status x y
    (λ xs ys first run. together_cut commands first.running xs ys first.opens
    (subst (λ (l : List ℕ). AreRunUpTo l ys) (all_running commands none now tasks xs empty same first) run))

-- an event came as they were to open
pub opening_cut : {O : Type 0} (written : O → Option (List ℕ)) (faults : O → ℕ) (commands : List ℕ) (a b : Past) (o p : O)
    (status : Status) → AnswersUpTo written faults (AreOpenedUpTo commands) a b o p status →
    AnswersUpTo written faults (AreTogetherUpTo commands) a b o p status
opening_cut written faults commands a b o p status x =
    cut_as written faults (AreOpenedUpTo commands) (AreTogetherUpTo commands) a b o p status (λ xs cut. inl cut) x
