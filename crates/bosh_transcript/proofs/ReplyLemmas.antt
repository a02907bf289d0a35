-- Replies that come one after the other, and their texts.
use Rattle.std.proofs.Common.{◌≡◌, ℕ, ◌≤◌, ◌||◌, List, [], ◌++◌, Option, Some, Result, Ok, Err, IfErr, inl, inr, sym, ap, ◌∙◌, subst, arith, append_assoc, append-nil}
use Rattle.std.specs.Result.{IsErrAnd}
use Rattle.std.proofs.lemmas.Grind.{flat_map-append}
use Rattle.std.proofs.lemmas.List.{map-append}
use Rattle.std.proofs.lemmas.List.Elements.{filter_map-append}
use Rattle.std.proofs.lemmas.List.Folds.{list_any-append}
use Rattle.bosh_base.specs.declared.moves.Move.{Move}
use Rattle.bosh_base.specs.declared.moves.Said as said
use Rattle.bosh_ports.specs.Faults.{Rose}
use Rattle.bosh_report.specs.Reply.{text_of}
use Rattle.bosh_moves.specs.Replies.{replies_in, reply_of}
use Rattle.bosh_transcript.specs.Replies.{answered_commands, has_error, is_bad, transcript}
use Rattle.bosh_transcript.specs.Sessions.{IsBroken}
use Rattle.bosh_transcript.specs.Writing.{Writes, WritesFront, WritesUpTo}
use Rattle.bosh_transcript.specs.declared.status.Status.{Status}
use Rattle.bosh_transcript.specs.declared.status.Status.TheVariants.{Good, Failed, Usage, Source, Sink, Memory, Limit, Unloaded}

-- a count that did not fall, and then rose
pub rose_since : (a b c : ℕ) → a ≤ b → Rose b c → Rose a c
rose_since a b c stood (inl more) = inl (omega (arith, stood, more))
rose_since a b c stood (inr last) = inr last

pub transcript_append : (xs ys : List said.Said) → transcript (xs ++ ys) ≡ transcript xs ++ transcript ys
transcript_append xs ys = flat_map-append (λ (reply : said.Said). text_of reply.reply) xs ys

pub answered_append : (xs ys : List said.Said) → answered_commands (xs ++ ys) ≡ answered_commands xs ++ answered_commands ys
answered_append xs ys = map-append (λ (reply : said.Said). reply.command) xs ys

pub error_append : (xs ys : List said.Said) → has_error (xs ++ ys) ≡ (has_error xs || has_error ys)
error_append xs ys = list_any-append is_bad xs ys

pub replies_append : (xs ys : List Move) → replies_in (xs ++ ys) ≡ replies_in xs ++ replies_in ys
replies_append xs ys = filter_map-append reply_of xs ys

-- nothing was written
pub writes_none : {O : Type 0} (written : O → Option (List ℕ)) (faults : O → ℕ) (out : O) → Writes written faults [] out out
writes_none written faults out = record {
  texts = λ was told. told ∙ ap Some (sym (append-nil was));
  count = omega arith;
}

pub writes_then : {O : Type 0} (written : O → Option (List ℕ)) (faults : O → ℕ) (xs ys : List said.Said) (a b c : O) →
    Writes written faults xs a b → Writes written faults ys b c → Writes written faults (xs ++ ys) a c
writes_then written faults xs ys a b c x y = record {
  texts = λ was told.
      y.texts (was ++ transcript xs) (x.texts was told)
      ∙ ap Some (append_assoc was (transcript xs) (transcript ys)
      ∙ ap (λ (text : List ℕ). was ++ text) (sym (transcript_append xs ys)));
  count = let one = x.count in let other = y.count in omega (arith, one, other);
}

-- .. up to a failure
front_then : (was before text after : List ℕ) (now : Option (List ℕ)) → after ≡ before ++ text →
    WritesFront (was ++ before) text now → WritesFront was after now
front_then was before text after now more x = record {
  front = before ++ x.front;
  left = x.left;
  cut = more ∙ ap (λ (bytes : List ℕ). before ++ bytes) x.cut ∙ sym (append_assoc before x.front x.left);
  written = x.written ∙ ap Some (append_assoc was before x.front);
}

pub writes_up_to : {O : Type 0} (written : O → Option (List ℕ)) (faults : O → ℕ) (xs ys : List said.Said) (a b c : O) →
    Writes written faults xs a b → WritesUpTo written faults ys b c → WritesUpTo written faults (xs ++ ys) a c
writes_up_to written faults xs ys a b c x y = record {
  texts = λ was told.
      front_then was (transcript xs) (transcript ys) (transcript (xs ++ ys)) (written c) (transcript_append xs ys)
      (y.texts (was ++ transcript xs) (x.texts was told));
  count = rose_since (faults a) (faults b) (faults c) x.count y.count;
}

pub broken_then : {O : Type 0} (written : O → Option (List ℕ)) (faults : O → ℕ) (status : Status) (xs ys : List said.Said)
    (a b c : O) → Writes written faults xs a b → IsBroken written faults status ys b c →
    IsBroken written faults status (xs ++ ys) a c
broken_then written faults Memory xs ys a b c x y = writes_then written faults xs ys a b c x y
broken_then written faults Sink xs ys a b c x y = writes_up_to written faults xs ys a b c x y
broken_then written faults Good xs ys a b c x y = absurd y
broken_then written faults Failed xs ys a b c x y = absurd y
broken_then written faults Usage xs ys a b c x y = absurd y
broken_then written faults Source xs ys a b c x y = absurd y
broken_then written faults Limit xs ys a b c x y = absurd y
broken_then written faults Unloaded xs ys a b c x y = absurd y

-- what holds of an event holds of the answer that passes it on
pub event_passed : {T : Type 0} (P : Status → Type 0) (answer : Result T Status) (event : Status) →
    IsErrAnd answer (λ given. given ≡ event) → P event → IfErr answer P
event_passed P (Ok value) event is holds = tt
event_passed P (Err given) event is holds = subst P (sym is) holds
