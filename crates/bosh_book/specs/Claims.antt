-- What a claim does, turn by turn: what comes next in the task is noted (this project's profile).
use Rattle.std.specs.Prelude.{◌≡◌, ◌⊎◌, ℕ, false, zero, suc, All, List, Option, Some, None, Result, Ok, Err}
use Rattle.bosh_asks.specs.declared.fault.BookFault.{BookFault}
use Rattle.bosh_asks.specs.declared.fault.BookFault.TheVariants.{Full, Memory, StoreFault}
use Rattle.bosh_base.specs.declared.entry.Begin as begin
use Rattle.bosh_base.specs.declared.entry.Entry.{Entry}
use Rattle.bosh_base.specs.declared.entry.Entry.TheVariants.{Begin, UpdBegin, UpdDone, Gone}
use Rattle.bosh_book.specs.Adds.{Adds}
use Rattle.bosh_book.specs.Current.{dep_of, permit_of}
use Rattle.bosh_book.specs.Made.{Noted}
use Rattle.bosh_book.specs.Running.{is_full, room_left}
use Rattle.bosh_book.specs.Turns.{IsUpdate}
use Rattle.bosh_book.specs.declared.book.Book.{Book}
use Rattle.bosh_book.specs.declared.claim.Claim.{Claim}
use Rattle.bosh_book.specs.declared.claim.Claim.TheVariants as claims
use Rattle.bosh_claim.specs.Choice.{choice_of}
use Rattle.bosh_claim.specs.declared.choice.Choice.{Choice}
use Rattle.bosh_claim.specs.declared.choice.Choice.TheVariants as choices
use Rattle.bosh_journal.specs.Appends.{added}

-- nothing is noted, and this is answered
abbrev pub Answers : {K T : Type 0} → Result T BookFault → Book K → Result T BookFault → Book K → Type 0
Answers answer was result now = (result ≡ answer) × (now ≡ was)

-- a call begins for the deployment of its owner, and its permit is given; without one the worker waits
abbrev pub Begins : {K : Type 0} → (K → Option (List (List ℕ))) → (K → ℕ) → begin.Begin → Option (List ℕ) →
    Book K → Result (Option Claim) BookFault → Book K → Type 0
Begins bodies faults begun None was result now = Answers (Ok (Some claims.Wait)) was result now
Begins bodies faults begun (Some dep) was result now =
    Answers (Err Memory) was result now
    ⊎ Noted bodies faults (Begin begun) (Some (claims.Work (permit_of begun dep))) was result now

-- an entry that comes next is noted: after an update the claim goes on
abbrev pub TakesOn : {K : Type 0} → (K → Option (List (List ℕ))) → (K → ℕ) → Entry →
    Book K → Result (Option Claim) BookFault → Book K → Type 0
TakesOn bodies faults (Begin begun) was result now =
    Begins bodies faults begun (dep_of was.records begun.owner) was result now
TakesOn bodies faults (UpdBegin update) was result now = Noted bodies faults (UpdBegin update) None was result now
TakesOn bodies faults (UpdDone update) was result now = Noted bodies faults (UpdDone update) None was result now
TakesOn bodies faults (Gone update) was result now = Noted bodies faults (Gone update) None was result now
TakesOn bodies faults entry was result now = Answers (Ok (Some claims.Wait)) was result now

-- what is done with what comes next
abbrev pub Follows : {K : Type 0} → (K → Option (List (List ℕ))) → (K → ℕ) → Choice →
    Book K → Result (Option Claim) BookFault → Book K → Type 0
Follows bodies faults choices.Waits was result now = Answers (Ok (Some claims.Wait)) was result now
Follows bodies faults choices.Over was result now = Answers (Ok (Some claims.Over)) was result now
Follows bodies faults (choices.Noted entry) was result now = TakesOn bodies faults entry was result now

-- one turn; there may be no memory for it
abbrev pub Turn : {K : Type 0} → (K → Option (List (List ℕ))) → (K → ℕ) → ℕ → ℕ →
    Book K → Result (Option Claim) BookFault → Book K → Type 0
Turn bodies faults task worker was result now =
    Answers (Err Memory) was result now ⊎ Follows bodies faults (choice_of was.records task worker) was result now

-- after a turn that gave no answer comes the rest
abbrev pub GoesOn : {K : Type 0} → (Book K → Type 0) → Result (Option Claim) BookFault → Book K →
    Result Claim BookFault → Book K → Type 0
GoesOn Rest (Ok (Some claim)) mid result now = Answers (Ok claim) mid result now
GoesOn Rest (Ok None) mid result now = Rest mid
GoesOn Rest (Err fault) mid result now = Answers (Err fault) mid result now

-- One turn after another, while there is room: each that gives no answer notes an entry, and once so many were noted the
-- book is full.
abbrev pub Turns : {K : Type 0} → (K → Option (List (List ℕ))) → (K → ℕ) → ℕ → ℕ → ℕ →
    Book K → Result Claim BookFault → Book K → Type 0
Turns bodies faults task worker zero was result now = Answers (Err Full) was result now
Turns {K} bodies faults task worker (suc room) was result now =
    (turned : Result (Option Claim) BookFault) × (mid : Book K) × Turn bodies faults task worker was turned mid
    × GoesOn (λ it. Turns bodies faults task worker room it result now) turned mid result now

-- once some updates were noted, which are all that stands in the book besides, an entry comes next
abbrev pub IsNext : {K : Type 0} → (K → Option (List (List ℕ))) → (K → ℕ) → ℕ → ℕ → Book K → Book K → Entry → Type 0
IsNext {K} bodies faults task worker was now entry =
    (updates : List Entry) × All IsUpdate updates × ((mid : Book K) × Adds bodies faults was updates mid
    × (choice_of mid.records task worker ≡ choices.Noted entry) × (now.journal.entries ≡ mid.journal.entries))

-- what a claim does
abbrev pub Claims : {K : Type 0} → (K → Option (List (List ℕ))) → (K → ℕ) → ℕ → ℕ →
    Book K → Result Claim BookFault → Book K → Type 0
Claims bodies faults task worker was result now = Turns bodies faults task worker (room_left was) was result now

-- what a claim that is refused does: nothing, or as much of that, of a book that has room
abbrev pub RefusesClaim : {K : Type 0} → (K → Option (List (List ℕ))) → (K → ℕ) → ℕ → ℕ →
    Book K → BookFault → Book K → Type 0
RefusesClaim bodies faults task worker was fault now =
    (now ≡ was) ⊎ ((is_full was ≡ false) × Claims bodies faults task worker was (Err fault) now)

-- Where the store failed in it, updates were noted, and what was to come next then is pending.
abbrev pub ClaimsPending : {K : Type 0} → (K → Option (List (List ℕ))) → (K → ℕ) → ℕ → ℕ →
    Book K → Book K → BookFault → Type 0
ClaimsPending {K} bodies faults task worker was now StoreFault =
    (entry : Entry) × IsNext bodies faults task worker was now entry × (now.journal.pending ≡ Some (added entry))
ClaimsPending bodies faults task worker was now fault = Unit {0}
