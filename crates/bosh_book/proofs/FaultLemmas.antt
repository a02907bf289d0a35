-- How faults of a store are told over several calls.
use Rattle.std.proofs.Common.{arith, ◌≡◌, ◌∙◌, ℕ, Bool, false, true, Result, Ok, Err, List, refl}
use Rattle.std.proofs.Common.{inl, inr, subst, sym}
use Rattle.std.specs.Prelude.{◌||◌, not, IfErr}
use Rattle.bosh_asks.specs.declared.fault.BookFault.{BookFault}
use Rattle.bosh_asks.specs.declared.fault.BookFault.TheVariants as book
use Rattle.bosh_asks.specs.Asked.{dep_of}
use Rattle.bosh_asks.specs.Cause.{IsCause}
use Rattle.bosh_asks.specs.Over.{GoalOver, IsNamed}
use Rattle.bosh_asks.specs.Refused.{MayRefuse}
use Rattle.bosh_asks.specs.declared.ask.Ask.{Ask}
use Rattle.bosh_asks.specs.declared.ask.Ask.TheVariants as asks
use Rattle.bosh_book.specs.Opens.{IsOpeningOf}
use Rattle.bosh_book.specs.Running.{is_full, is_running, is_stopped}
use Rattle.bosh_base.specs.declared.entry.TaskOpen.{TaskOpen}
use Rattle.bosh_book.specs.declared.book.Book.{Book}
use Rattle.bosh_book.specs.Faults.{FailsAs, IsClaimFault, IsDiffering, IsNoteFault, IsOpenFault, IsQuiet, IsTurnFault, IsUploadFault}
use Rattle.bosh_journal.specs.JournalView.{JournalView}
use Rattle.bosh_ports.specs.Faults.{NeverFalls, Rose}

-- a count that rose later rose
rose_later : (first mid last : ℕ) → NeverFalls first mid → Rose mid last → Rose first last
rose_later first mid last never (inl rose) = inl (grind arith)
rose_later first mid last never (inr full) = inr full

pub fails_later : {K T : Type 0} (faults : K → ℕ) (result : Result T BookFault) (first mid last : JournalView K) →
    NeverFalls (faults first.store) (faults mid.store) → mid.is_broken ≡ first.is_broken →
    FailsAs faults result mid last → FailsAs faults result first last
fails_later faults (Ok value) first mid last never whole fails = fails ∙ whole
fails_later faults (Err book.StoreFault) first mid last never whole fails =
    (rose_later (faults first.store) (faults mid.store) (faults last.store) never fails.0, fails.1)
fails_later faults (Err book.Stopped) first mid last never whole fails = fails ∙ whole
fails_later faults (Err (book.Damaged place)) first mid last never whole fails = fails ∙ whole
fails_later faults (Err (book.Locked task)) first mid last never whole fails = fails ∙ whole
fails_later faults (Err (book.Differs name)) first mid last never whole fails = fails ∙ whole
fails_later faults (Err (book.NoDeployment name)) first mid last never whole fails = fails ∙ whole
fails_later faults (Err (book.NoInstance inst)) first mid last never whole fails = fails ∙ whole
fails_later faults (Err (book.NoDisk disk)) first mid last never whole fails = fails ∙ whole
fails_later faults (Err (book.NotOrphaned disk)) first mid last never whole fails = fails ∙ whole
fails_later faults (Err (book.Goal fault)) first mid last never whole fails = fails ∙ whole
fails_later faults (Err book.Limit) first mid last never whole fails = fails ∙ whole
fails_later faults (Err book.Full) first mid last never whole fails = fails ∙ whole
fails_later faults (Err (book.Consumed by)) first mid last never whole fails = fails ∙ whole
fails_later faults (Err book.Memory) first mid last never whole fails = fails ∙ whole

-- a refusal that is none of the store leaves the journal as it was
pub fails_quietly : {K : Type 0} (T : Type 0) (faults : K → ℕ) (fault : BookFault) (journal : JournalView K) → IsQuiet fault →
    FailsAs {T = T} faults (Err fault) journal journal
fails_quietly T faults book.StoreFault journal quiet = absurd quiet
fails_quietly T faults book.Stopped journal quiet = refl
fails_quietly T faults (book.Damaged place) journal quiet = refl
fails_quietly T faults (book.Locked task) journal quiet = refl
fails_quietly T faults (book.Differs name) journal quiet = refl
fails_quietly T faults (book.NoDeployment name) journal quiet = refl
fails_quietly T faults (book.NoInstance inst) journal quiet = refl
fails_quietly T faults (book.NoDisk disk) journal quiet = refl
fails_quietly T faults (book.NotOrphaned disk) journal quiet = refl
fails_quietly T faults (book.Goal fault) journal quiet = refl
fails_quietly T faults book.Limit journal quiet = refl
fails_quietly T faults book.Full journal quiet = refl
fails_quietly T faults (book.Consumed by) journal quiet = refl
fails_quietly T faults book.Memory journal quiet = refl

-- what is asked is never refused because the book is stopped, or full, or its store failed
pub refuses_open : {K : Type 0} (was : Book K) (ask : Ask) (fault : BookFault) → MayRefuse ask fault →
    IsCause was.records (IsNamed was.records ask) (dep_of ask) (GoalOver was.records ask) fault →
    IsOpenFault was ask fault
refuses_open was (asks.Deploy it) book.Stopped refuses cause = absurd refuses
refuses_open was (asks.Recreate inst) book.Stopped refuses cause = absurd refuses
refuses_open was (asks.Start inst) book.Stopped refuses cause = absurd refuses
refuses_open was (asks.Halt inst hard) book.Stopped refuses cause = absurd refuses
refuses_open was (asks.DeleteDeployment dep) book.Stopped refuses cause = absurd refuses
refuses_open was (asks.DeleteDisk disk) book.Stopped refuses cause = absurd refuses
refuses_open was asks.CleanUp book.Stopped refuses cause = absurd refuses
refuses_open was (asks.Resolve inst) book.Stopped refuses cause = absurd refuses
refuses_open was (asks.Deploy it) book.Full refuses cause = absurd refuses
refuses_open was (asks.Recreate inst) book.Full refuses cause = absurd refuses
refuses_open was (asks.Start inst) book.Full refuses cause = absurd refuses
refuses_open was (asks.Halt inst hard) book.Full refuses cause = absurd refuses
refuses_open was (asks.DeleteDeployment dep) book.Full refuses cause = absurd refuses
refuses_open was (asks.DeleteDisk disk) book.Full refuses cause = absurd refuses
refuses_open was asks.CleanUp book.Full refuses cause = absurd refuses
refuses_open was (asks.Resolve inst) book.Full refuses cause = absurd refuses
refuses_open was (asks.Deploy it) book.StoreFault refuses cause = absurd refuses
refuses_open was (asks.Recreate inst) book.StoreFault refuses cause = absurd refuses
refuses_open was (asks.Start inst) book.StoreFault refuses cause = absurd refuses
refuses_open was (asks.Halt inst hard) book.StoreFault refuses cause = absurd refuses
refuses_open was (asks.DeleteDeployment dep) book.StoreFault refuses cause = absurd refuses
refuses_open was (asks.DeleteDisk disk) book.StoreFault refuses cause = absurd refuses
refuses_open was asks.CleanUp book.StoreFault refuses cause = absurd refuses
refuses_open was (asks.Resolve inst) book.StoreFault refuses cause = absurd refuses
refuses_open was ask (book.Damaged place) refuses cause = (refuses, cause)
refuses_open was ask (book.Locked task) refuses cause = (refuses, cause)
refuses_open was ask (book.Differs name) refuses cause = (refuses, cause)
refuses_open was ask (book.NoDeployment name) refuses cause = (refuses, cause)
refuses_open was ask (book.NoInstance inst) refuses cause = (refuses, cause)
refuses_open was ask (book.NoDisk disk) refuses cause = (refuses, cause)
refuses_open was ask (book.NotOrphaned disk) refuses cause = (refuses, cause)
refuses_open was ask (book.Goal fault) refuses cause = (refuses, cause)
refuses_open was ask book.Limit refuses cause = (refuses, cause)
refuses_open was ask (book.Consumed by) refuses cause = (refuses, cause)
refuses_open was ask book.Memory refuses cause = (refuses, cause)

-- a task that would open is refused where there is no room for it
pub opens_full : {K : Type 0} (was : Book K) (ask : Ask) (opening : TaskOpen) (fault : BookFault) →
    is_stopped was ≡ false → IsOpeningOf was.records ask opening → (fault ≡ book.Full) × (is_full was ≡ true) →
    IsOpenFault was ask fault
opens_full was ask opening fault runs is full =
    subst (IsOpenFault was ask) (sym full.0) (runs, full.1, (opening, is))

-- .. which never says that the store failed
pub refuses_quietly : (ask : Ask) (fault : BookFault) → MayRefuse ask fault → IsQuiet fault
refuses_quietly (asks.Deploy it) book.StoreFault refuses = absurd refuses
refuses_quietly (asks.Recreate inst) book.StoreFault refuses = absurd refuses
refuses_quietly (asks.Start inst) book.StoreFault refuses = absurd refuses
refuses_quietly (asks.Halt inst hard) book.StoreFault refuses = absurd refuses
refuses_quietly (asks.DeleteDeployment dep) book.StoreFault refuses = absurd refuses
refuses_quietly (asks.DeleteDisk disk) book.StoreFault refuses = absurd refuses
refuses_quietly asks.CleanUp book.StoreFault refuses = absurd refuses
refuses_quietly (asks.Resolve inst) book.StoreFault refuses = absurd refuses
refuses_quietly ask book.Stopped refuses = tt
refuses_quietly ask (book.Damaged place) refuses = tt
refuses_quietly ask (book.Locked task) refuses = tt
refuses_quietly ask (book.Differs name) refuses = tt
refuses_quietly ask (book.NoDeployment name) refuses = tt
refuses_quietly ask (book.NoInstance inst) refuses = tt
refuses_quietly ask (book.NoDisk disk) refuses = tt
refuses_quietly ask (book.NotOrphaned disk) refuses = tt
refuses_quietly ask (book.Goal other) refuses = tt
refuses_quietly ask book.Limit refuses = tt
refuses_quietly ask book.Full refuses = tt
refuses_quietly ask (book.Consumed by) refuses = tt
refuses_quietly ask book.Memory refuses = tt

-- want of memory may always be met
memory_refuses : (ask : Ask) → MayRefuse ask book.Memory
memory_refuses (asks.Deploy it) = tt
memory_refuses (asks.Recreate inst) = tt
memory_refuses (asks.Start inst) = tt
memory_refuses (asks.Halt inst hard) = tt
memory_refuses (asks.DeleteDeployment dep) = tt
memory_refuses (asks.DeleteDisk disk) = tt
memory_refuses asks.CleanUp = tt
memory_refuses (asks.Resolve inst) = tt

-- .. and so may what noting meets
pub notes_open : {K : Type 0} (was : Book K) (ask : Ask) (fault : BookFault) → is_stopped was ≡ false →
    IsNoteFault fault → IsOpenFault was ask fault
notes_open was ask book.StoreFault runs fault = runs
notes_open was ask book.Memory runs fault = (memory_refuses ask, tt)
notes_open was ask book.Stopped runs fault = absurd fault
notes_open was ask (book.Damaged place) runs fault = absurd fault
notes_open was ask (book.Locked task) runs fault = absurd fault
notes_open was ask (book.Differs name) runs fault = absurd fault
notes_open was ask (book.NoDeployment name) runs fault = absurd fault
notes_open was ask (book.NoInstance inst) runs fault = absurd fault
notes_open was ask (book.NoDisk disk) runs fault = absurd fault
notes_open was ask (book.NotOrphaned disk) runs fault = absurd fault
notes_open was ask (book.Goal other) runs fault = absurd fault
notes_open was ask book.Limit runs fault = absurd fault
notes_open was ask book.Full runs fault = absurd fault
notes_open was ask (book.Consumed by) runs fault = absurd fault

-- a book that goes on has a store that goes on
neither : (a b : Bool) → (a || b) ≡ false → a ≡ false
neither false b h = refl
neither true b h = absurd cc

pub is_whole : {K : Type 0} (book : Book K) → is_stopped book ≡ false → book.journal.is_broken ≡ false
is_whole book runs = neither book.journal.is_broken (not (is_running book.standing)) runs

-- what an upload is refused for, in a book that goes on
differing_as : {K : Type 0} (was : Book K) (told : List ℕ) (Cause : Type 0) (fault : BookFault) →
    is_stopped was ≡ false → IsDiffering told Cause fault → IsUploadFault was told Cause fault
differing_as was told Cause (book.Differs name) runs differs = (runs, differs.0, differs.1)
differing_as was told Cause book.Memory runs differs = tt
differing_as was told Cause book.StoreFault runs differs = absurd differs
differing_as was told Cause book.Stopped runs differs = absurd differs
differing_as was told Cause (book.Damaged place) runs differs = absurd differs
differing_as was told Cause (book.Locked task) runs differs = absurd differs
differing_as was told Cause (book.NoDeployment name) runs differs = absurd differs
differing_as was told Cause (book.NoInstance inst) runs differs = absurd differs
differing_as was told Cause (book.NoDisk disk) runs differs = absurd differs
differing_as was told Cause (book.NotOrphaned disk) runs differs = absurd differs
differing_as was told Cause (book.Goal fault) runs differs = absurd differs
differing_as was told Cause book.Limit runs differs = absurd differs
differing_as was told Cause book.Full runs differs = absurd differs
differing_as was told Cause (book.Consumed by) runs differs = absurd differs

pub differs_as_upload : {K T : Type 0} (was : Book K) (told : List ℕ) (Cause : Type 0) (result : Result T BookFault) →
    is_stopped was ≡ false → IfErr result (IsDiffering told Cause) → IfErr result (IsUploadFault was told Cause)
differs_as_upload was told Cause (Ok value) runs differs = tt
differs_as_upload was told Cause (Err fault) runs differs = differing_as was told Cause fault runs differs

-- a claim of a book that goes on is refused as its turns are
pub turn_refused : {K : Type 0} (was now : Book K) (fault : BookFault) → is_stopped was ≡ false → IsTurnFault now fault →
    IsClaimFault was now fault
turn_refused was now book.Full runs is = (runs, is)
turn_refused was now book.StoreFault runs is = is
turn_refused was now book.Memory runs is = is
turn_refused was now fault runs is = absurd is
