-- Commands that are read one after the other.
use Rattle.std.proofs.Common.{◌≡◌, ℕ, ◌+◌, ◌≤◌, List, [], ◌∷◌, ◌++◌, Option, Some, None, Ok, Err, inl, inr, length, map, drop, refl, sym, ap, ◌∙◌, subst, arith, append_assoc, append-nil, length-append}
use Rattle.bosh_input.proofs.FrontLemmas.{front_before}
use Rattle.bosh_input.proofs.ReadsLemmas.{reads_none, reads_then}
use Rattle.bosh_input.specs.Commands.{commands}
use Rattle.bosh_input.specs.Ended.{IsFixed, IsGiven, View, bounded_request}
use Rattle.bosh_input.specs.Reading.{FailsByCount, Front, InputView, IsAtEnd, IsEvent, IsNext, Reads}
use Rattle.bosh_input.specs.declared.fault.InputFault.{InputFault}
use Rattle.bosh_input.specs.declared.fault.InputFault.TheVariants as fault
use Rattle.bosh_input.specs.declared.input.Ended.{Ended}
use Rattle.bosh_input.specs.declared.input.Ended.TheVariants.{Whole, Stopped}
use Rattle.bosh_input.specs.declared.request.Request as request
use Rattle.std.proofs.lemmas.List.{map-append}
use Rattle.bosh_transcript.proofs.ReplyLemmas.{rose_since}
use Rattle.bosh_transcript.proofs.TurnLemmas.{numbers_more}
use Rattle.bosh_transcript.specs.Carried.{EndsReading, IsReadingEvent, ReadsOn, ReadsWhole, StopsReading, TakesNext, TakesOthers}
use Rattle.bosh_transcript.specs.Status.{of_input}
use Rattle.bosh_transcript.specs.Extents.{numbers}
use Rattle.bosh_transcript.specs.declared.numbered.Numbered as numbered
use Rattle.bosh_transcript.specs.declared.status.Status.{Status}
use Rattle.bosh_transcript.specs.declared.status.Status.TheVariants.{Memory}
use Rattle.bosh_transcript.specs.Reading.{AreFirst, AreRead, HasEnded, IsCounted, IsStopped, no_bytes}

-- nothing was read
pub read_none : {I : Type 0} (left : I → Option (List ℕ)) (faults : I → ℕ) (source : I) (input : View) →
    input ≡ record { reader = record { front = no_bytes; at = 0; given = 0 }; ended = None } →
    AreRead left faults source source input []
read_none left faults source input is = subst (λ (view : View). AreRead left faults source source view []) (sym is) (record {
  at = 0;
  reads = reads_none left faults source no_bytes;
  first = λ whole bytes may. refl;
  few = omega arith;
  goes_on = λ live. (refl, refl);
  ended = λ how is. cc;
})

-- what is first of what was taken is first of what is taken later
first_still : {I : Type 0} (left : I → Option (List ℕ)) (faults : I → ℕ) (s t : I) (old new : Front) (at : ℕ)
    (requests : List request.Request) → Reads left faults s t old new → AreFirst old at requests →
    AreFirst new at requests
first_still left faults s t old new at requests reads first whole input may =
    first whole input (front_before left faults s t old new reads whole input may)

-- .. with one more
first_more : {I : Type 0} (left : I → Option (List ℕ)) (faults : I → ℕ) (s t : I) (old new : InputView)
    (requests : List request.Request) (more : request.Request) → Reads left faults s t old.front new.front →
    AreFirst old.front old.at requests → IsNext old new more → AreFirst new.front new.at (requests ++ more ∷ [])
first_more left faults s t old new requests more reads first next whole input may =
    first_still left faults s t old.front new.front old.at requests reads first whole input may
    ∙ ap (λ (rest : List request.Request). requests ++ rest) (next.first whole input may)
    ∙ sym (append_assoc requests (more ∷ []) (commands whole (drop new.at input)))

-- the next command is read
pub read_more : {I : Type 0} (left : I → Option (List ℕ)) (faults : I → ℕ) (before s t : I) (old new : View)
    (requests : List request.Request) (more : request.Request) → AreRead left faults before s old requests →
    old.ended ≡ None → new.ended ≡ None → Reads left faults s t old.reader.front new.reader.front →
    IsNext old.reader new.reader more → new.reader.given ≤ 200 → AreRead left faults before t new (requests ++ more ∷ [])
read_more left faults before s t old new requests more are live goes reads next few =
    let at : old.reader.at ≡ are.at = (are.goes_on live).0 in
    let given : old.reader.given ≡ length requests = (are.goes_on live).1 in
    let long : length (requests ++ more ∷ []) ≡ length requests + 1 = length-append requests (more ∷ []) in
    let number : new.reader.given ≡ old.reader.given + 1 = next.number in
    record {
      at = new.reader.at;
      reads = reads_then left faults before s t no_bytes old.reader.front new.reader.front are.reads reads;
      first = first_more left faults s t old.reader new.reader requests more reads
          (subst (λ (k : ℕ). AreFirst old.reader.front k requests) (sym at) are.first) next;
      few = omega (arith, long, number, given, few);
      goes_on = λ is. (refl, omega (arith, long, number, given));
      ended = λ how is. cc;
    }

-- it may have ended
abbrev HasEndedBy : Option Ended → Front → ℕ → ℕ → ℕ → ℕ → Type 0
HasEndedBy (Some it) front at count before after = HasEnded it front at count before after
HasEndedBy None front at count before after = Unit {0}

-- an event, or the end, is met
met : {I : Type 0} (left : I → Option (List ℕ)) (faults : I → ℕ) (before s t : I) (old new : View)
    (requests : List request.Request) (how : Ended) → AreRead left faults before s old requests → old.ended ≡ None →
    new.ended ≡ Some how → Reads left faults s t old.reader.front new.reader.front →
    HasEnded how new.reader.front old.reader.at (length requests) (faults before) (faults t) →
    AreRead left faults before t new requests
met left faults before s t old new requests how are live ends reads has =
    let at : old.reader.at ≡ are.at = (are.goes_on live).0 in
    record {
      at = are.at;
      reads = reads_then left faults before s t no_bytes old.reader.front new.reader.front are.reads reads;
      first = first_still left faults s t old.reader.front new.reader.front are.at requests reads are.first;
      few = are.few;
      goes_on = λ is. cc;
      ended = λ other is.
          subst (λ (it : Option Ended). HasEndedBy it new.reader.front are.at (length requests) (faults before) (faults t))
          (sym ends ∙ is)
          (subst (λ (k : ℕ). HasEnded how new.reader.front k (length requests) (faults before) (faults t)) at has);
    }

-- the input has no further command
pub read_whole : {I : Type 0} (left : I → Option (List ℕ)) (faults : I → ℕ) (before s t : I) (old new : View)
    (requests : List request.Request) → AreRead left faults before s old requests → old.ended ≡ None →
    new.ended ≡ Some Whole → Reads left faults s t old.reader.front new.reader.front →
    IsAtEnd new.reader.front old.reader.at → AreRead left faults before t new requests
read_whole left faults before s t old new requests are live ends reads at_end =
    met left faults before s t old new requests Whole are live ends reads at_end

stopped : (old : InputView) (front : Front) (fault : InputFault) (count : ℕ) → old.given ≡ count → IsEvent old front fault →
    IsStopped fault front old.at count
stopped old front fault.Source count is (not_over, none, not_begun) = (not_over, none, λ all. not_begun (is ∙ all))
stopped old front fault.Limit count is (inl past) = inl past
stopped old front fault.Limit count is (inr (all, begun)) = inr (sym is ∙ all, begun)
stopped old front fault.Memory count is event = tt

counted : (T : Type 0) (fault : InputFault) (before was now : ℕ) → before ≤ was →
    FailsByCount {T = T} (Err fault) was now → IsCounted fault before now
counted T fault.Source before was now stood rose = rose_since before was now stood rose
counted T fault.Limit before was now stood rose = tt
counted T fault.Memory before was now stood rose = tt

-- an event ends the reading
pub read_stopped : {I : Type 0} (T : Type 0) (left : I → Option (List ℕ)) (faults : I → ℕ) (before s t : I) (old new : View)
    (requests : List request.Request) (fault : InputFault) → AreRead left faults before s old requests →
    old.ended ≡ None → new.ended ≡ Some (Stopped fault) → Reads left faults s t old.reader.front new.reader.front →
    IsEvent old.reader new.reader.front fault → FailsByCount {T = T} (Err fault) (faults s) (faults t) →
    AreRead left faults before t new requests
read_stopped T left faults before s t old new requests fault are live ends reads event fails =
    met left faults before s t old new requests (Stopped fault) are live ends reads (
      stopped old.reader new.reader.front fault (length requests) (are.goes_on live).1 event,
      counted T fault (faults before) (faults s) (faults t) are.reads.count fails,
    )

-- ---- further commands, whatever was read before

pub on_none : {I : Type 0} (left : I → Option (List ℕ)) (faults : I → ℕ) (input : View) (source : I) →
    ReadsOn left faults input input source source []
on_none left faults input source before requests are =
    subst (λ (more : List request.Request). AreRead left faults before source input more) (sym (append-nil requests)) are

pub on_then : {I : Type 0} (left : I → Option (List ℕ)) (faults : I → ℕ) (a b c : View) (s t u : I)
    (xs ys : List request.Request) → ReadsOn left faults a b s t xs → ReadsOn left faults b c t u ys →
    ReadsOn left faults a c s u (xs ++ ys)
on_then left faults a b c s t u xs ys x y before requests are =
    subst (λ (more : List request.Request). AreRead left faults before u c more) (append_assoc requests xs ys)
    (y before (requests ++ xs) (x before requests are))

-- ---- what a call of the input gives

-- a command was given
pub takes : {I : Type 0} (left : I → Option (List ℕ)) (faults : I → ℕ) (old new : View) (s t : I)
    (given : request.Request) → old.ended ≡ None → new.ended ≡ None →
    Reads left faults s t old.reader.front new.reader.front → new.reader.given ≤ 200 →
    (is : IsGiven old.reader new.reader given) → ReadsOn left faults old new s t (is.request ∷ [])
takes left faults old new s t given live goes reads few is before requests are =
    read_more left faults before s t old new requests is.request are live goes reads is.next few

pub whole : {I : Type 0} (left : I → Option (List ℕ)) (faults : I → ℕ) (old new : View) (s t : I) → old.ended ≡ None →
    new.ended ≡ Some Whole → Reads left faults s t old.reader.front new.reader.front →
    IsAtEnd new.reader.front old.reader.at → ReadsOn left faults old new s t []
whole left faults old new s t live ends reads at_end before requests are =
    subst (λ (more : List request.Request). AreRead left faults before t new more) (sym (append-nil requests))
    (read_whole left faults before s t old new requests are live ends reads at_end)

pub stops : {I : Type 0} (T : Type 0) (left : I → Option (List ℕ)) (faults : I → ℕ) (old new : View) (s t : I)
    (fault : InputFault) → old.ended ≡ None → new.ended ≡ Some (Stopped fault) →
    Reads left faults s t old.reader.front new.reader.front → IsEvent old.reader new.reader.front fault →
    FailsByCount {T = T} (Err fault) (faults s) (faults t) → ReadsOn left faults old new s t []
stops T left faults old new s t fault live ends reads event fails before requests are =
    subst (λ (more : List request.Request). AreRead left faults before t new more) (sym (append-nil requests))
    (read_stopped T left faults before s t old new requests fault are live ends reads event fails)

-- nothing changes
pub on_same : {I : Type 0} (left : I → Option (List ℕ)) (faults : I → ℕ) (old new : View) (s t : I) → new ≡ old → t ≡ s →
    ReadsOn left faults old new s t []
on_same {I = I} left faults old new s t same still =
    subst (λ (v : View). ReadsOn left faults old v s t []) (sym same)
    (subst (λ (u : I). ReadsOn left faults old old s u []) (sym still) (on_none left faults old s))

-- an input gives nothing new once it has ended
given_live : {T : Type 0} (ended : Option Ended) (request : T) (stays : Type 0) →
    IsFixed ended (Ok (Some request)) stays → ended ≡ None
given_live None request stays fixed = refl
given_live (Some how) request stays (is, same) = absurd cc

pub next_some : {I : Type 0} (left : I → Option (List ℕ)) (faults : I → ℕ) (old new : View) (s t : I)
    (request : request.Request) (number : ℕ) (stays : Type 0) → Reads left faults s t old.reader.front new.reader.front →
    (old.ended ≡ None → IsGiven old.reader new.reader request) → (old.ended ≡ None → new.ended ≡ None) →
    IsFixed old.ended (Ok (Some request)) stays → number ≡ new.reader.given → number ≤ 200 →
    TakesNext left faults old new s t (record { number = number; request = request })
next_some left faults old new s t request number stays reads given ended fixed is few =
    let live : old.ended ≡ None = given_live old.ended request stays fixed in
    let it : IsGiven old.reader new.reader request = given live in
    record {
      command = it.request;
      judged_so = it.is;
      number = is;
      next = it.next.number;
      was_open = live;
      is_open = ended live;
      reads = takes left faults old new s t request live (ended live) reads (let e : new.reader.given ≤ 200 = omega (arith, is, few) in e) it;
    }

pub next_none : {I : Type 0} (T : Type 0) (left : I → Option (List ℕ)) (faults : I → ℕ) (old new : View) (s t : I)
    (was : Option Ended) → old.ended ≡ was → Reads left faults s t old.reader.front new.reader.front →
    (old.ended ≡ None → IsAtEnd new.reader.front old.reader.at) → (old.ended ≡ None → new.ended ≡ Some Whole) →
    IsFixed {T = T} was (Ok None) ((new ≡ old) × (t ≡ s)) → ReadsWhole left faults old new s t
next_none T left faults old new s t None is reads at_end ended fixed = record {
  whole = ended is;
  reads = whole left faults old new s t is (ended is) reads (at_end is);
}
next_none T left faults old new s t (Some how) is reads at_end ended (by, (same, still)) = record {
  whole = ap (λ (v : View). v.ended) same ∙ is ∙ sym by;
  reads = on_same left faults old new s t same still;
}

pub next_err : {I : Type 0} (T : Type 0) (left : I → Option (List ℕ)) (faults : I → ℕ) (old new : View) (s t : I)
    (was : Option Ended) (fault : InputFault) (status : Status) → old.ended ≡ was → status ≡ of_input fault →
    Reads left faults s t old.reader.front new.reader.front →
    (old.ended ≡ None → IsEvent old.reader new.reader.front fault) →
    (old.ended ≡ None → FailsByCount {T = T} (Err fault) (faults s) (faults t)) →
    (old.ended ≡ None → new.ended ≡ Some (Stopped fault)) →
    IsFixed {T = T} was (Err fault) ((new ≡ old) × (t ≡ s)) → StopsReading left faults old new s t status
next_err T left faults old new s t None fault status is told reads event fails ended fixed = record {
  fault = fault;
  by = told;
  stopped = ended is;
  not_before = λ whole. absurd (let never : Some Whole ≡ None = sym whole ∙ is in cc);
  reads = stops T left faults old new s t fault is (ended is) reads (event is) (fails is);
}
next_err T left faults old new s t (Some how) fault status is told reads event fails ended (by, (same, still)) = record {
  fault = fault;
  by = told;
  stopped = ap (λ (v : View). v.ended) same ∙ is ∙ sym by;
  not_before = λ whole. absurd (let never : Some (Stopped fault) ≡ Some Whole = by ∙ sym is ∙ whole in cc);
  reads = on_same left faults old new s t same still;
}

-- ---- commands that are read together

-- so many were read
pub record AreTaken {I : Type 0}
    (left : I → Option (List ℕ)) (faults : I → ℕ) (count : ℕ) (old new : View) (s t : I)
    (taken : List numbered.Numbered) : Type 0 where
  pub others : List request.Request
  pub judged_so : map (λ it. it.request) taken ≡ map bounded_request others
  pub number : map (λ it. it.number) taken ≡ numbers (old.reader.given + 1) (length others)
  pub many : length others ≡ count
  pub given : new.reader.given ≡ old.reader.given + count
  pub reads : ReadsOn left faults old new s t others

pub taken_none : {I : Type 0} (left : I → Option (List ℕ)) (faults : I → ℕ) (input : View) (source : I)
    (taken : List numbered.Numbered) → taken ≡ [] → AreTaken left faults 0 input input source source taken
taken_none left faults input source taken is = record {
  others = [];
  judged_so = ap (map (λ it. it.request)) is;
  number = ap (map (λ it. it.number)) is;
  many = refl;
  given = omega arith;
  reads = on_none left faults input source;
}

pub taken_more : {I : Type 0} (left : I → Option (List ℕ)) (faults : I → ℕ) (count : ℕ) (a b c : View) (s t u : I)
    (taken : List numbered.Numbered) (one : numbered.Numbered) → AreTaken left faults count a b s t taken →
    TakesNext left faults b c t u one → AreTaken left faults (count + 1) a c s u (taken ++ one ∷ [])
taken_more left faults count a b c s t u taken one are next =
    let number : one.number ≡ a.reader.given + 1 + length are.others =
    let p = next.number in let q = next.next in let r = are.given in let m = are.many in omega (arith, p, q, r, m) in
    let long : length (are.others ++ next.command ∷ []) ≡ length are.others + 1 =
    length-append are.others (next.command ∷ []) in
    record {
      others = are.others ++ next.command ∷ [];
      judged_so = map-append (λ (it : numbered.Numbered). it.request) taken (one ∷ [])
          ∙ ap (λ (l : List request.Request). l ++ one.request ∷ []) are.judged_so
          ∙ ap (λ (r : request.Request). map bounded_request are.others ++ r ∷ []) next.judged_so
          ∙ sym (map-append bounded_request are.others (next.command ∷ []));
      number = map-append (λ (it : numbered.Numbered). it.number) taken (one ∷ [])
          ∙ ap (λ (l : List ℕ). l ++ one.number ∷ []) are.number
          ∙ ap (λ (k : ℕ). numbers (a.reader.given + 1) (length are.others) ++ k ∷ []) number
          ∙ sym (numbers_more (a.reader.given + 1) (length are.others))
          ∙ ap (numbers (a.reader.given + 1)) (sym long);
      many = let m = are.many in omega (arith, long, m);
      given = let q = next.next in let r = are.given in omega (arith, q, r);
      reads = on_then left faults a b c s t u are.others (next.command ∷ []) are.reads next.reads;
    }

pub taken_all : {I : Type 0} (left : I → Option (List ℕ)) (faults : I → ℕ) (count : ℕ) (a b : View) (s t : I)
    (taken : List numbered.Numbered) → AreTaken left faults count a b s t taken →
    TakesOthers left faults count a b s t taken
taken_all left faults count a b s t taken are = record {
  others = are.others;
  judged_so = are.judged_so;
  number = are.number;
  few = let m = are.many in omega (arith, m);
  full = inl are.many;
  reads = are.reads;
}

-- .. no further command is left
pub taken_whole : {I : Type 0} (left : I → Option (List ℕ)) (faults : I → ℕ) (most count : ℕ) (a b c : View) (s t u : I)
    (taken : List numbered.Numbered) → count ≤ most → AreTaken left faults count a b s t taken →
    ReadsWhole left faults b c t u → TakesOthers left faults most a c s u taken
taken_whole left faults most count a b c s t u taken few are whole = record {
  others = are.others;
  judged_so = are.judged_so;
  number = are.number;
  few = let m = are.many in omega (arith, m, few);
  full = inr whole.whole;
  reads = subst (λ (more : List request.Request). ReadsOn left faults a c s u more) (append-nil are.others)
      (on_then left faults a b c s t u are.others [] are.reads whole.reads);
}

event_of : (status : Status) (fault : InputFault) (input : View) → status ≡ of_input fault →
    input.ended ≡ Some (Stopped fault) → IsReadingEvent status input
event_of status fault.Source input is stopped =
    subst (λ (s : Status). IsReadingEvent s input) (sym is) stopped
event_of status fault.Limit input is stopped =
    subst (λ (s : Status). IsReadingEvent s input) (sym is) stopped
event_of status fault.Memory input is stopped =
    subst (λ (s : Status). IsReadingEvent s input) (sym is) tt

-- .. or an event comes
pub taken_stopped : {I : Type 0} (left : I → Option (List ℕ)) (faults : I → ℕ) (most count : ℕ) (a b c : View) (s t u : I)
    (taken : List numbered.Numbered) (status : Status) → count ≤ most → AreTaken left faults count a b s t taken →
    StopsReading left faults b c t u status → EndsReading left faults most a c s u status
taken_stopped left faults most count a b c s t u taken status few are stop = record {
  others = are.others;
  few = let m = are.many in omega (arith, m, few);
  reads = subst (λ (more : List request.Request). ReadsOn left faults a c s u more) (append-nil are.others)
      (on_then left faults a b c s t u are.others [] are.reads stop.reads);
  event = event_of status stop.fault c stop.by stop.stopped;
}

-- .. or there is no memory for the last
pub taken_lost : {I : Type 0} (left : I → Option (List ℕ)) (faults : I → ℕ) (most count : ℕ) (a b c : View) (s t u : I)
    (taken : List numbered.Numbered) (one : numbered.Numbered) → count + 1 ≤ most →
    AreTaken left faults count a b s t taken → TakesNext left faults b c t u one →
    EndsReading left faults most a c s u Memory
taken_lost left faults most count a b c s t u taken one few are next =
    let all : AreTaken left faults (count + 1) a c s u (taken ++ one ∷ []) = taken_more left faults count a b c s t u taken one are next in
    record {
      others = all.others;
      few = let m = all.many in omega (arith, m, few);
      reads = all.reads;
      event = tt;
    }
