-- What is pending where a task was to open or to end.
use Rattle.std.proofs.Common.{◌≡◌, ◌∙◌, ℕ, zero, suc, Option, Some, None, Result, Ok, Err, List, [], ◌∷◌, ◌++◌, ap, append-nil, false, inl, inr, refl, subst, sym}
use Rattle.std.specs.Prelude.{IfErr, IfOk}
use Rattle.std.proofs.lemmas.List.Elements.{All-append, All-cons, All-nil}
use Rattle.bosh_asks.specs.declared.ask.Ask.{Ask}
use Rattle.bosh_asks.specs.declared.fault.BookFault.{BookFault}
use Rattle.bosh_asks.specs.declared.fault.BookFault.TheVariants as book
use Rattle.bosh_base.specs.declared.entry.Entry.TheVariants as entries
use Rattle.bosh_base.specs.declared.entry.TaskOpen as task_open
use Rattle.bosh_base.specs.declared.task.TaskEnd.{TaskEnd}
use Rattle.bosh_base.specs.declared.entry.Entry.{Entry}
use Rattle.bosh_book.proofs.AddsLemmas.{more_added, nothing_added}
use Rattle.bosh_book.specs.Adds.{Adds}
use Rattle.bosh_book.specs.Appends.{LeavesAllowed, LeavesPending}
use Rattle.bosh_book.specs.Claims.{Begins, ClaimsPending, Follows, GoesOn, IsNext, TakesOn, Turn, Turns}
use Rattle.bosh_book.specs.Current.{dep_of}
use Rattle.bosh_book.specs.Made.{NotesMade}
use Rattle.bosh_book.specs.Turns.{IsUpdate}
use Rattle.bosh_book.specs.declared.book.Book.{Book}
use Rattle.bosh_book.specs.declared.claim.Claim.{Claim}
use Rattle.bosh_claim.specs.Choice.{choice_of}
use Rattle.bosh_claim.specs.declared.choice.Choice.{Choice}
use Rattle.bosh_claim.specs.declared.choice.Choice.TheVariants as choices
use Rattle.bosh_journal.specs.Appends.{added}
use Rattle.bosh_book.specs.Ends.{EndsPending, closing, coming_end}
use Rattle.bosh_book.specs.Faults.{IsQuiet}
use Rattle.bosh_book.specs.Opens.{IsOpeningOf, OpensPending}
use Rattle.bosh_book.specs.Running.{is_full}
use Rattle.bosh_journal.specs.JournalView.{JournalView}
use Rattle.bosh_records.specs.declared.records.Records.{Records}

pub opens_pending : {K : Type 0} (was : Book K) (ask : Ask) (opening : task_open.TaskOpen) (now : JournalView K)
    (fault : BookFault) → IsOpeningOf was.records ask opening → is_full was ≡ false →
    LeavesPending {T = ℕ} (Err fault) (entries.TaskOpen opening) now → OpensPending was ask now fault
opens_pending was ask opening now book.StoreFault is room pending = (opening, is, room, pending)
opens_pending was ask opening now fault is room pending = tt

pub opens_nothing : {K : Type 0} (was : Book K) (ask : Ask) (now : JournalView K) (fault : BookFault) → IsQuiet fault →
    OpensPending was ask now fault
opens_nothing was ask now book.StoreFault quiet = absurd quiet
opens_nothing was ask now fault quiet = tt

pub ends_pending : {K : Type 0} (records : Records) (task : ℕ) (end : TaskEnd) (now : JournalView K) (fault : BookFault) →
    coming_end records task ≡ Some end → LeavesPending {T = TaskEnd} (Err fault) (closing task end) now →
    EndsPending records task now fault
ends_pending records task end now book.StoreFault is pending = (end, is, pending)
ends_pending records task end now fault is pending = tt

-- ---- uploads

-- nothing is pending where the store did not fail
pub quiet_allowed : {K : Type 0} (T Allowed : Type 0) (fault : BookFault) (entry : Entry) (now : JournalView K) → IsQuiet fault →
    LeavesAllowed {T = T} Allowed (Err fault) entry now
quiet_allowed T Allowed book.StoreFault entry now quiet = absurd quiet
quiet_allowed T Allowed fault entry now quiet = tt

left_allowed : {K : Type 0} (T Allowed : Type 0) (fault : BookFault) (entry : Entry) (now : JournalView K) → Allowed →
    LeavesPending {T = T} (Err fault) entry now → LeavesAllowed {T = T} Allowed (Err fault) entry now
left_allowed T Allowed book.StoreFault entry now allowed pending = (allowed, pending)
left_allowed T Allowed fault entry now allowed pending = tt

-- what was made is pending where the store failed at it, and may be noted
pub made_allowed : {K T V : Type 0} (bodies : K → Option (List (List ℕ))) (faults : K → ℕ) (entry_of : T → Entry)
    (Allowed : Type 0) (made : Result (T × V) BookFault) (was now : Book K) (result : Result V BookFault) (entry : Entry) →
    IfOk made (λ it. entry_of it.0 ≡ entry) → Allowed → NotesMade bodies faults entry_of made was result now →
    LeavesAllowed Allowed result entry now.journal
made_allowed bodies faults entry_of Allowed (Ok it) was now (Ok value) entry is allowed noted = tt
made_allowed {V = V} bodies faults entry_of Allowed (Ok it) was now (Err fault) entry is allowed noted =
    left_allowed V Allowed fault entry now.journal allowed
    (subst (λ (one : Entry). LeavesPending {T = V} (Err fault) one now.journal) is noted.3)
made_allowed {V = V} bodies faults entry_of Allowed (Err fault) was now result entry is allowed noted =
    subst (λ (r : Result V BookFault). LeavesAllowed Allowed r entry now.journal) (sym noted.0) tt

-- ---- claims

module _ {K : Type 0} (bodies : K → Option (List (List ℕ))) (faults : K → ℕ) (was now : Book K) where
  -- nothing is noted then, and the entry is pending
  abbrev LeavesBehind : Entry → Type 0
  LeavesBehind entry =
      (now.journal.pending ≡ Some (added entry)) × Adds bodies faults was [] now

  taken_pending : (entry : Entry) → TakesOn bodies faults entry was (Err book.StoreFault) now → LeavesBehind entry
  taken_pending (entries.Begin begun) takes = by (dep_of was.records begun.owner) takes
    where
      by : (dep : Option (List ℕ)) → Begins bodies faults begun dep was (Err book.StoreFault) now
          → LeavesBehind (entries.Begin begun)
      by None begins = absurd (let is = begins.0 in cc)
      by (Some dep) (inl begins) = absurd (let is = begins.0 in cc)
      by (Some dep) (inr begins) = (begins.3, begins.2)
  taken_pending (entries.UpdBegin update) takes = (takes.3, takes.2)
  taken_pending (entries.UpdDone update) takes = (takes.3, takes.2)
  taken_pending (entries.Gone update) takes = (takes.3, takes.2)
  taken_pending entry takes = absurd (let is = takes.0 in cc)

  turn_pending : (choice : Choice) → Follows bodies faults choice was (Err book.StoreFault) now
      → (entry : Entry) × (choice ≡ choices.Noted entry) × LeavesBehind entry
  turn_pending choices.Waits follows = absurd (let is = follows.0 in cc)
  turn_pending choices.Over follows = absurd (let is = follows.0 in cc)
  turn_pending (choices.Noted entry) follows = (entry, refl, taken_pending entry follows)

  -- an update is noted where no answer is given
  taken_on : (entry : Entry) → TakesOn bodies faults entry was (Ok None) now → IsUpdate entry × Adds bodies faults was (entry ∷ []) now
  taken_on (entries.Begin begun) takes = by (dep_of was.records begun.owner) takes
    where
      by : (dep : Option (List ℕ)) → Begins bodies faults begun dep was (Ok None) now
          → IsUpdate (entries.Begin begun) × Adds bodies faults was (entries.Begin begun ∷ []) now
      by None begins = absurd (let is = begins.0 in cc)
      by (Some dep) (inl begins) = absurd (let is = begins.0 in cc)
      by (Some dep) (inr begins) = absurd (let is = begins.0 in cc)
  taken_on (entries.UpdBegin update) takes = (tt, takes.2)
  taken_on (entries.UpdDone update) takes = (tt, takes.2)
  taken_on (entries.Gone update) takes = (tt, takes.2)
  taken_on entry takes = absurd (let is = takes.0 in cc)

  followed_on : (choice : Choice) → Follows bodies faults choice was (Ok None) now
      → (entry : Entry) × IsUpdate entry × Adds bodies faults was (entry ∷ []) now
  followed_on choices.Waits follows = absurd (let is = follows.0 in cc)
  followed_on choices.Over follows = absurd (let is = follows.0 in cc)
  followed_on (choices.Noted entry) follows =
      let taken = taken_on entry follows in (entry, taken.0, taken.1)

-- turn by turn
turns_pending : {K : Type 0} (bodies : K → Option (List (List ℕ))) (faults : K → ℕ) (task worker room : ℕ) (was now : Book K) →
    Turns bodies faults task worker room was (Err book.StoreFault) now →
    (entry : Entry) × IsNext bodies faults task worker was now entry × (now.journal.pending ≡ Some (added entry))
turns_pending bodies faults task worker zero was now turns = absurd (let is = turns.0 in cc)
turns_pending {K} bodies faults task worker (suc room) was now (turned, mid, turn, rest) =
    by turned turn rest (turns_pending bodies faults task worker room mid now)
  where
    more : (entry : Entry) → IsUpdate entry → Adds bodies faults was (entry ∷ []) mid →
        (next : Entry) × IsNext bodies faults task worker mid now next × (now.journal.pending ≡ Some (added next)) →
        (next : Entry) × IsNext bodies faults task worker was now next × (now.journal.pending ≡ Some (added next))
    more entry is adds (next, (others, are, (last, after, chosen, stands)), pending) = (
      next,
      (
        entry ∷ others,
        All-cons IsUpdate entry others is are,
        (last, more_added bodies faults was mid last (entry ∷ []) others adds after, chosen, stands),
      ),
      pending,
    )

    by : (turned : Result (Option Claim) BookFault) → Turn bodies faults task worker was turned mid →
        GoesOn (λ it. Turns bodies faults task worker room it (Err book.StoreFault) now) turned mid (Err book.StoreFault) now →
        (Turns bodies faults task worker room mid (Err book.StoreFault) now →
        (entry : Entry) × IsNext bodies faults task worker mid now entry × (now.journal.pending ≡ Some (added entry))) →
        (entry : Entry) × IsNext bodies faults task worker was now entry × (now.journal.pending ≡ Some (added entry))
    by (Ok (Some claim)) turn rest again = absurd (let is = rest.0 in cc)
    by (Ok None) (inl turn) rest again = absurd (let is = turn.0 in cc)
    by (Ok None) (inr turn) rest again =
        let went = followed_on bodies faults was mid (choice_of was.records task worker) turn in
        more went.0 went.1 went.2 (again rest)
    by (Err fault) turn rest again = last fault turn rest.0 rest.1
      where
        last : (fault : BookFault) → Turn bodies faults task worker was (Err fault) mid →
            ◌≡◌ {A = Result Claim BookFault} (Err book.StoreFault) (Err fault) → now ≡ mid →
            (entry : Entry) × IsNext bodies faults task worker was now entry × (now.journal.pending ≡ Some (added entry))
        last book.StoreFault (inl turn) is same = absurd (let no = turn.0 in cc)
        last book.StoreFault (inr turn) is same =
            let it = turn_pending bodies faults was mid (choice_of was.records task worker) turn in (
              it.0,
              (
                [],
                All-nil IsUpdate,
                (
                  was,
                  nothing_added bodies faults was,
                  it.1,
                  subst (λ (b : Book K). b.journal.entries ≡ was.journal.entries) (sym same)
                      (it.2.1.entries ∙ append-nil was.journal.entries),
                ),
              ),
              subst (λ (b : Book K). b.journal.pending ≡ Some (added it.0)) (sym same) it.2.0,
            )
        last fault turn is same = absurd (let no = is in cc)

-- what was to come next is pending where the store failed
pub claims_pending : {K : Type 0} (bodies : K → Option (List (List ℕ))) (faults : K → ℕ) (task worker room : ℕ) (was now : Book K)
    (result : Result Claim BookFault) → Turns bodies faults task worker room was result now →
    IfErr result (ClaimsPending bodies faults task worker was now)
claims_pending bodies faults task worker room was now (Ok claim) turns = tt
claims_pending bodies faults task worker room was now (Err book.StoreFault) turns =
    turns_pending bodies faults task worker room was now turns
claims_pending bodies faults task worker room was now (Err fault) turns = tt
