-- Replies that are noted and written.
use Rattle.std.proofs.Common.{◌≡◌, ℕ, ◌||◌, Bool, false, true, List, [], ◌∷◌, ◌++◌, Option, Some, Result, Ok, Err, IfErr, IfOk, OnOk, inl, inr, refl, sym, ◌∙◌, ap, subst}
use Rattle.bosh_base.specs.declared.reply.Reply.{Reply}
use Rattle.bosh_report.specs.Reply.{text_of}
use Rattle.bosh_transcript.proofs.CarryLemmas.{answers_front, answers_nothing, answers_one}
use Rattle.bosh_transcript.specs.Carried.{Answers, AnswersUpTo}
use Rattle.bosh_transcript.specs.Past.{Continues, Past}
use Rattle.bosh_transcript.specs.Replies.{is_error}
use Rattle.bosh_transcript.specs.Segments.{IsReply, IsReplyUpTo, said_reply}
use Rattle.bosh_transcript.specs.Writing.{WritesAll, WritesFront, WritesPart}
use Rattle.bosh_transcript.specs.declared.status.Status.{Status}
use Rattle.bosh_transcript.specs.declared.status.Status.TheVariants.{Memory, Sink}

-- a reply was noted, and its text written
pub told_for : {O : Type 0} (written : O → Option (List ℕ)) (faults : O → ℕ) (number : ℕ) (reply : Reply) (text : List ℕ)
    (a b : Past) (o p : O) (flag : Bool) (result : Result Bool Status) →
    Continues a (said_reply number reply ∷ []) b → text ≡ text_of reply →
    flag ≡ is_error reply → IfOk result (λ told. told ≡ flag) → OnOk result (WritesAll written faults text o p) →
    IfOk result (Answers written faults (IsReply number reply) a b o p)
told_for written faults number reply text a b o p flag (Ok told) said is fails same whole =
    answers_one written faults (IsReply number reply) number reply a b o p told said
    (λ was before. whole.bytes_so was before ∙ ap (λ (bytes : List ℕ). Some (was ++ bytes)) is) whole.count (same ∙ fails) refl
told_for written faults number reply text a b o p flag (Err status) said is fails same whole = tt

-- .. up to a failure of the output
pub told_part : {O : Type 0} (written : O → Option (List ℕ)) (faults : O → ℕ) (number : ℕ) (reply : Reply) (text : List ℕ)
    (a b : Past) (o p : O) (result : Result Bool Status) →
    Continues a (said_reply number reply ∷ []) b → text ≡ text_of reply →
    IfErr result (λ status. (status ≡ Sink) × WritesPart written faults text o p) →
    IfErr result (AnswersUpTo written faults (IsReplyUpTo number reply) a b o p)
told_part written faults number reply text a b o p (Ok told) said is cut = tt
told_part written faults number reply text a b o p (Err status) said is cut =
    subst (λ (s : Status). AnswersUpTo written faults (IsReplyUpTo number reply) a b o p s) (sym cut.0)
    (answers_front written faults (IsReplyUpTo number reply) number reply a b o p said
    (λ was before. subst (λ (bytes : List ℕ). WritesFront was bytes (written p)) is (cut.1.front was before)) cut.1.count
    (inr refl))

-- whether it is an error is told
pub told_fails : (reply : Reply) (flag : Bool) (result : Result Bool Status) → flag ≡ is_error reply →
    IfOk result (λ told. told ≡ flag) → IfOk result (λ fails. fails ≡ is_error reply)
told_fails reply flag (Ok told) is same = same ∙ is
told_fails reply flag (Err status) is same = tt

-- there was no memory for it
pub told_none : {O : Type 0} (written : O → Option (List ℕ)) (faults : O → ℕ) (number : ℕ) (reply : Reply) (a b : Past)
    (o : O) → Continues a [] b → AnswersUpTo written faults (IsReplyUpTo number reply) a b o o Memory
told_none written faults number reply a b o stays =
    answers_nothing written faults (IsReplyUpTo number reply) a b o
    (record { segment = []; continues = stays; silent = refl }) (inl refl)

-- a reply that is good adds no error
pub or_good : (flag good : Bool) → good ≡ false → (flag || good) ≡ flag
or_good false good is = is
or_good true good is = refl
