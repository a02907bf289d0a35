-- Commands that are answered one after the other.
use Rattle.std.proofs.Common.{◌≡◌, ℕ, ◌≤◌, Bool, true, false, ◌||◌, List, [], ◌∷◌, ◌++◌, Option, Some, Result, Ok, Err, IfOk, inl, refl, sym, ap, ◌∙◌, subst, arith, append-nil}
use Rattle.bosh_base.specs.declared.moves.Move.{Move}
use Rattle.bosh_base.specs.declared.moves.Said as said
use Rattle.bosh_base.specs.declared.reply.Reply.{Reply}
use Rattle.bosh_input.specs.Ended.{View}
use Rattle.bosh_ports.specs.Faults.{Rose}
use Rattle.bosh_report.specs.Reply.{text_of}
use Rattle.bosh_moves.specs.Replies.{replies_in}
use Rattle.bosh_transcript.proofs.PastLemmas.{continues_none, continues_then}
use Rattle.bosh_transcript.proofs.ReadLemmas.{on_none}
use Rattle.bosh_transcript.proofs.ReplyLemmas.{broken_then, error_append, replies_append, writes_none, writes_then}
use Rattle.bosh_transcript.specs.Carried.{Answers, AnswersUpTo, Carries, CarriesUpTo}
use Rattle.bosh_transcript.specs.Extents.{most_others}
use Rattle.bosh_transcript.specs.Past.{Continues, Past, Proceeds}
use Rattle.bosh_transcript.specs.Replies.{has_error, is_error}
use Rattle.bosh_transcript.specs.Segments.{IsCutSegment, IsSegment, said_reply}
use Rattle.bosh_transcript.specs.Sessions.{IsBroken, IsEvent}
use Rattle.bosh_transcript.specs.Writing.{Writes, WritesFront}
use Rattle.bosh_transcript.specs.declared.extent.Extent.{Extent}
use Rattle.bosh_transcript.specs.declared.status.Status.{Status}
use Rattle.bosh_transcript.specs.declared.status.Status.TheVariants.{Good, Failed, Usage, Source, Sink, Memory, Limit, Unloaded}

or_false : (flag : Bool) → (flag || false) ≡ flag
or_false true = refl
or_false false = refl

-- a reply was noted, and its text written
pub answers_one : {O : Type 0} (written : O → Option (List ℕ)) (faults : O → ℕ) (Is : List Move → Type 0) (number : ℕ)
    (reply : Reply) (a b : Past) (o p : O) (fails : Bool) → Continues a (said_reply number reply ∷ []) b →
    ((was : List ℕ) → written o ≡ Some was → written p ≡ Some (was ++ text_of reply)) → faults o ≤ faults p →
    fails ≡ is_error reply → Is (said_reply number reply ∷ []) → Answers written faults Is a b o p fails
answers_one written faults Is number reply a b o p fails said texts count same is = record {
  segment = said_reply number reply ∷ [];
  is = is;
  continues = said;
  writes = record {
    texts = λ was told. texts was told ∙ ap (λ (text : List ℕ). Some (was ++ text)) (sym (append-nil (text_of reply)));
    count = count;
  };
  tells = or_false (is_error reply) ∙ sym same;
}

-- .. up to a failure of the output
pub answers_front : {O : Type 0} (written : O → Option (List ℕ)) (faults : O → ℕ) (Is : List Move → Type 0) (number : ℕ)
    (reply : Reply) (a b : Past) (o p : O) → Continues a (said_reply number reply ∷ []) b →
    ((was : List ℕ) → written o ≡ Some was → WritesFront was (text_of reply) (written p)) → Rose (faults o) (faults p) →
    Is (said_reply number reply ∷ []) → AnswersUpTo written faults Is a b o p Sink
answers_front written faults Is number reply a b o p said texts count is = record {
  segment = said_reply number reply ∷ [];
  is = is;
  continues = said;
  broken = record {
    texts = λ was told.
        subst (λ (text : List ℕ). WritesFront was text (written p)) (sym (append-nil (text_of reply))) (texts was told);
    count = count;
  };
}

-- memory ran out before an answer
pub answers_nothing : {O : Type 0} (written : O → Option (List ℕ)) (faults : O → ℕ) (Is : List Move → Type 0)
    (a b : Past) (o : O) → (x : Proceeds a b) → Is x.segment → AnswersUpTo written faults Is a b o o Memory
answers_nothing written faults Is a b o x is = record {
  segment = x.segment;
  is = is;
  continues = x.continues;
  broken = subst (λ (l : List said.Said). Writes written faults l o o) (sym x.silent) (writes_none written faults o);
}

-- nothing was done
pub answers_none : {O : Type 0} (written : O → Option (List ℕ)) (faults : O → ℕ) (Is : List Move → Type 0) (a b : Past)
    (o : O) → (x : Proceeds a b) → Is x.segment → Answers written faults Is a b o o false
answers_none written faults Is a b o x is = record {
  segment = x.segment;
  is = is;
  continues = x.continues;
  writes = subst (λ (l : List said.Said). Writes written faults l o o) (sym x.silent) (writes_none written faults o);
  tells = ap has_error x.silent;
}

-- .. and there is none
pub answers_still : {O : Type 0} (written : O → Option (List ℕ)) (faults : O → ℕ) (Is : List Move → Type 0) (a : Past)
    (o : O) → Is [] → Answers written faults Is a a o o false
answers_still written faults Is a o is =
    answers_none written faults Is a a o (record { segment = []; continues = continues_none a; silent = refl }) is

-- memory ran out before anything was done
pub answers_lost : {O : Type 0} (written : O → Option (List ℕ)) (faults : O → ℕ) (Is : List Move → Type 0) (a : Past)
    (o : O) → Is [] → AnswersUpTo written faults Is a a o o Memory
answers_lost written faults Is a o is =
    answers_nothing written faults Is a a o (record { segment = []; continues = continues_none a; silent = refl }) is

-- further moves have come
pub answers_then : {O : Type 0} (written : O → Option (List ℕ)) (faults : O → ℕ) (Is Are All : List Move → Type 0)
    (a b c : Past) (o p q : O) (fails failed : Bool) → Answers written faults Is a b o p fails →
    Answers written faults Are b c p q failed →
    ((xs ys : List Move) → Is xs → Are ys → All (xs ++ ys)) → Answers written faults All a c o q (fails || failed)
answers_then written faults Is Are All a b c o p q fails failed x y joins = record {
  segment = x.segment ++ y.segment;
  is = joins x.segment y.segment x.is y.is;
  continues = continues_then a b c x.segment y.segment x.continues y.continues;
  writes = subst (λ (l : List said.Said). Writes written faults l o q) (sym (replies_append x.segment y.segment))
      (writes_then written faults (replies_in x.segment) (replies_in y.segment) o p q x.writes y.writes);
  tells = ap has_error (replies_append x.segment y.segment) ∙ error_append (replies_in x.segment) (replies_in y.segment)
      ∙ ap (λ (flag : Bool). flag || has_error (replies_in y.segment)) x.tells
      ∙ ap (λ (flag : Bool). fails || flag) y.tells;
}

-- .. up to an event
pub answers_cut : {O : Type 0} (written : O → Option (List ℕ)) (faults : O → ℕ) (Is Are All : List Move → Type 0)
    (a b c : Past) (o p q : O) (fails : Bool) (status : Status) → Answers written faults Is a b o p fails →
    AnswersUpTo written faults Are b c p q status →
    ((xs ys : List Move) → Is xs → Are ys → All (xs ++ ys)) → AnswersUpTo written faults All a c o q status
answers_cut written faults Is Are All a b c o p q fails status x y joins = record {
  segment = x.segment ++ y.segment;
  is = joins x.segment y.segment x.is y.is;
  continues = continues_then a b c x.segment y.segment x.continues y.continues;
  broken = subst (λ (l : List said.Said). IsBroken written faults status l o q) (sym (replies_append x.segment y.segment))
      (broken_then written faults status (replies_in x.segment) (replies_in y.segment) o p q x.writes y.broken);
}

-- moves of one kind are of another
pub answers_as : {O : Type 0} (written : O → Option (List ℕ)) (faults : O → ℕ) (Is Are : List Move → Type 0) (a b : Past)
    (o p : O) (result : Result Bool Status) → ((xs : List Move) → Is xs → Are xs) →
    IfOk result (Answers written faults Is a b o p) → IfOk result (Answers written faults Are a b o p)
answers_as written faults Is Are a b o p (Ok fails) turns x = record {
  segment = x.segment;
  is = turns x.segment x.is;
  continues = x.continues;
  writes = x.writes;
  tells = x.tells;
}
answers_as written faults Is Are a b o p (Err status) turns x = tt

-- .. up to an event
pub cut_as : {O : Type 0} (written : O → Option (List ℕ)) (faults : O → ℕ) (Is Are : List Move → Type 0) (a b : Past)
    (o p : O) (status : Status) → ((xs : List Move) → Is xs → Are xs) →
    AnswersUpTo written faults Is a b o p status → AnswersUpTo written faults Are a b o p status
cut_as written faults Is Are a b o p status turns x = record {
  segment = x.segment;
  is = turns x.segment x.is;
  continues = x.continues;
  broken = x.broken;
}

-- ---- a command that carries out no others

pub carries_alone : {I O : Type 0} (left : I → Option (List ℕ)) (read_faults : I → ℕ) (written : O → Option (List ℕ))
    (write_faults : O → ℕ) (kind : Extent) (number : ℕ) (input : View) (s : I) (a b : Past) (o p : O) (fails : Bool) →
    most_others kind ≡ 0 → Answers written write_faults (IsSegment kind number 0) a b o p fails →
    Carries left read_faults written write_faults kind number input input s s a b o p fails
carries_alone left read_faults written write_faults kind number input s a b o p fails alone x = record {
  others = [];
  full = inl (sym alone);
  reads = on_none left read_faults input s;
  answers = record {
    segment = x.segment;
    is = record { few = omega arith; moves = x.is };
    continues = x.continues;
    writes = x.writes;
    tells = x.tells;
  };
}

pub broken_event : {O : Type 0} (written : O → Option (List ℕ)) (faults : O → ℕ) (status : Status) (input : View)
    (replies : List said.Said) (o p : O) → IsBroken written faults status replies o p →
    IsEvent written faults status input replies o p
broken_event written faults Memory input replies o p broken = broken
broken_event written faults Sink input replies o p broken = broken
broken_event written faults Good input replies o p broken = absurd broken
broken_event written faults Failed input replies o p broken = absurd broken
broken_event written faults Usage input replies o p broken = absurd broken
broken_event written faults Source input replies o p broken = absurd broken
broken_event written faults Limit input replies o p broken = absurd broken
broken_event written faults Unloaded input replies o p broken = absurd broken

pub alone_up_to : {I O : Type 0} (left : I → Option (List ℕ)) (read_faults : I → ℕ) (written : O → Option (List ℕ))
    (write_faults : O → ℕ) (kind : Extent) (number : ℕ) (input : View) (s : I) (a b : Past) (o p : O)
    (status : Status) → AnswersUpTo written write_faults (IsCutSegment kind number 0) a b o p status →
    CarriesUpTo left read_faults written write_faults kind number input input s s a b o p status
alone_up_to left read_faults written write_faults kind number input s a b o p status x = record {
  others = [];
  reads = on_none left read_faults input s;
  segment = x.segment;
  cut = record { few = omega arith; moves = x.is };
  continues = x.continues;
  event = broken_event written write_faults status input (replies_in x.segment) o p x.broken;
}
