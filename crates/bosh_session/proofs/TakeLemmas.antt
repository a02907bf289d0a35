-- A session goes on by the commands that are taken from its input.
use Rattle.std.proofs.Common.{◌≡◌, ℕ, ◌-◌, ◌<◌, ◌≤◌, ◌||◌, Bool, List, ◌∷◌, [], ◌++◌, Option, None, Some, arith, length, refl, sym, subst, append-nil}
use Rattle.std.proofs.lemmas.List.{length-append}
use Rattle.bosh_input.specs.Ended.{View, bounded_request}
use Rattle.bosh_input.specs.declared.input.Ended.{Ended}
use Rattle.bosh_input.specs.declared.request.Request as request
use Rattle.bosh_transcript.proofs.EndLemmas.{over_at_end, over_by_event, over_in_turn}
use Rattle.bosh_transcript.proofs.WayLemmas.{IsUnderWay, way_more}
use Rattle.bosh_transcript.specs.Carried.{Carries, CarriesUpTo, ReadsOn, ReadsWhole, StopsReading, TakesNext}
use Rattle.bosh_transcript.specs.Extents.{extent_of}
use Rattle.bosh_transcript.specs.Past.{Past}
use Rattle.bosh_transcript.specs.Reading.{AreRead}
use Rattle.bosh_transcript.specs.Sessions.{IsSession, requests_of}
use Rattle.bosh_transcript.specs.Status.{at_end}
use Rattle.bosh_transcript.specs.declared.numbered.Numbered as numbered
use Rattle.bosh_transcript.specs.declared.status.Status.{Status}

-- a command that was taken was carried out
pub way_taken : {I O : Type 0} (left : I → Option (List ℕ)) (read_faults : I → ℕ) (written : O → Option (List ℕ))
    (write_faults : O → ℕ) (source_before s t u : I) (out_before o p : O) (a b c : View) (taken : numbered.Numbered)
    (before past after : Past) (fails failed : Bool) →
    IsUnderWay left read_faults written write_faults source_before s out_before o a before past fails →
    TakesNext left read_faults a b s t taken →
    Carries left read_faults written write_faults (extent_of taken.request.asked) taken.number b c t u past after o p failed →
    IsUnderWay left read_faults written write_faults source_before u out_before p c before after (fails || failed)
way_taken left read_faults written write_faults source_before s t u out_before o p a b c taken before past after fails failed way next x =
    way_more left read_faults written write_faults source_before s t u out_before o p a b c next.command before past after fails failed
    way next.was_open next.next (next.reads source_before (requests_of way.turns) way.reads)
    (subst
    (λ (k : ℕ). Carries left read_faults written write_faults (extent_of (bounded_request next.command).asked) k b c t u past after o p failed)
    next.number
    (subst
    (λ (r : request.Request). Carries left read_faults written write_faults (extent_of r.asked) taken.number b c t u past after o p failed)
    next.judged_so x))

-- .. up to an event
pub over_taken : {I O : Type 0} (left : I → Option (List ℕ)) (read_faults : I → ℕ) (written : O → Option (List ℕ))
    (write_faults : O → ℕ) (source_before s t u : I) (out_before o p : O) (a b c : View) (taken : numbered.Numbered)
    (before past after : Past) (fails : Bool) (status : Status) →
    IsUnderWay left read_faults written write_faults source_before s out_before o a before past fails →
    TakesNext left read_faults a b s t taken →
    CarriesUpTo left read_faults written write_faults (extent_of taken.request.asked) taken.number b c t u past after o p status →
    IsSession left read_faults written write_faults source_before u out_before p status before after
over_taken left read_faults written write_faults source_before s t u out_before o p a b c taken before past after fails status way next x =
    over_in_turn left read_faults written write_faults source_before s t u out_before o p a b c next.command before past after fails status
    way next.was_open next.next (next.reads source_before (requests_of way.turns) way.reads)
    (subst
    (λ (k : ℕ). CarriesUpTo left read_faults written write_faults (extent_of (bounded_request next.command).asked) k b c t u past after o p status)
    next.number
    (subst
    (λ (r : request.Request). CarriesUpTo left read_faults written write_faults (extent_of r.asked) taken.number b c t u past after o p status)
    next.judged_so x))

-- no further command was read
read_still : {I : Type 0} (left : I → Option (List ℕ)) (read_faults : I → ℕ) (source_before s t : I) (a b : View)
    (requests : List request.Request) → AreRead left read_faults source_before s a requests →
    ReadsOn left read_faults a b s t [] → AreRead left read_faults source_before t b requests
read_still left read_faults source_before s t a b requests read on =
    subst (λ (l : List request.Request). AreRead left read_faults source_before t b l) (append-nil requests)
    (on source_before requests read)

-- the input has no further command
pub over_whole : {I O : Type 0} (left : I → Option (List ℕ)) (read_faults : I → ℕ) (written : O → Option (List ℕ))
    (write_faults : O → ℕ) (source_before s t : I) (out_before o : O) (a b : View) (before past : Past) (fails : Bool) →
    IsUnderWay left read_faults written write_faults source_before s out_before o a before past fails →
    ReadsWhole left read_faults a b s t →
    IsSession left read_faults written write_faults source_before t out_before o (at_end fails) before past
over_whole left read_faults written write_faults source_before s t out_before o a b before past fails way whole =
    over_at_end left read_faults written write_faults source_before s t out_before o a b before past fails way
    (read_still left read_faults source_before s t a b (requests_of way.turns) way.reads whole.reads) whole.whole

-- an event ended the reading
pub over_stopped : {I O : Type 0} (left : I → Option (List ℕ)) (read_faults : I → ℕ) (written : O → Option (List ℕ))
    (write_faults : O → ℕ) (source_before s t : I) (out_before o : O) (a b : View) (before past : Past) (fails : Bool)
    (status : Status) →
    IsUnderWay left read_faults written write_faults source_before s out_before o a before past fails →
    StopsReading left read_faults a b s t status →
    IsSession left read_faults written write_faults source_before t out_before o status before past
over_stopped left read_faults written write_faults source_before s t out_before o a b before past fails status way stops =
    subst (λ (k : Status). IsSession left read_faults written write_faults source_before t out_before o k before past) (sym stops.by)
    (over_by_event left read_faults written write_faults source_before s t out_before o a b before past fails stops.fault way
    (read_still left read_faults source_before s t a b (requests_of way.turns) way.reads stops.reads) stops.stopped stops.not_before)

-- how many commands a session may take yet
abbrev pub turns_after : Option Ended → ℕ → ℕ
turns_after None given = 201 - given
turns_after (Some how) given = 0

-- .. of an input
abbrev pub turns_left : View → ℕ
turns_left input = turns_after input.ended input.reader.given

fewer_after : (before after : Option Ended) (g h n m : ℕ) → before ≡ None → g ≡ n → n ≤ 200 → (after ≡ None → h ≡ m) →
    m ≤ 200 → n < m → turns_after after h < turns_after before g
fewer_after None None g h n m was is few goes small more = let e : h ≡ m = goes refl in omega (arith, e, is, few, small, more)
fewer_after None (Some how) g h n m was is few goes small more = omega (arith, is, few)
fewer_after (Some how) after g h n m was is few goes small more = absurd (let no : ⊥ = cc in no)

longer : (requests others : List request.Request) (command : request.Request) →
    length requests < length ((requests ++ command ∷ []) ++ others)
longer requests others command =
    omega (arith, length-append requests (command ∷ []), length-append (requests ++ command ∷ []) others)

-- a command was taken and carried out
pub fewer_turns : {I O : Type 0} (left : I → Option (List ℕ)) (read_faults : I → ℕ) (written : O → Option (List ℕ))
    (write_faults : O → ℕ) (source_before s t u : I) (out_before o p : O) (a b c : View) (taken : numbered.Numbered)
    (before past after : Past) (fails failed : Bool) →
    IsUnderWay left read_faults written write_faults source_before s out_before o a before past fails →
    TakesNext left read_faults a b s t taken →
    Carries left read_faults written write_faults (extent_of taken.request.asked) taken.number b c t u past after o p failed →
    turns_left c < turns_left a
fewer_turns left read_faults written write_faults source_before s t u out_before o p a b c taken before past after fails failed way next x =
    let first_read : List request.Request = requests_of way.turns in
    let first : AreRead left read_faults source_before t b (first_read ++ next.command ∷ []) =
    next.reads source_before first_read way.reads in
    let all : AreRead left read_faults source_before u c ((first_read ++ next.command ∷ []) ++ x.others) =
    x.reads source_before (first_read ++ next.command ∷ []) first in
    fewer_after a.ended c.ended a.reader.given c.reader.given (length first_read) (length ((first_read ++ next.command ∷ []) ++ x.others))
    next.was_open (way.reads.goes_on next.was_open).1 way.reads.few (λ goes. (all.goes_on goes).1) all.few
    (longer first_read x.others next.command)
