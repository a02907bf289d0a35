-- What is pending where a site halted for the director's store.
use Rattle.std.proofs.Common.{◌≡◌, ◌∙◌, ℕ, Bool, true, false, Option, Some, None, Result, Ok, Err, List, ap, refl, sym}
use Rattle.std.proofs.lemmas.Bool.{false≢true}
use Rattle.std.specs.Prelude.{IfErr, is_some}
use Rattle.bosh_asks.specs.declared.ask.Ask.{Ask}
use Rattle.bosh_asks.specs.declared.fault.BookFault.{BookFault}
use Rattle.bosh_asks.specs.declared.fault.BookFault.TheVariants as book
use Rattle.bosh_base.specs.declared.entry.Entry.{Entry}
use Rattle.bosh_base.specs.declared.entry.Entry.TheVariants as entries
use Rattle.bosh_base.specs.declared.task.TaskEnd.{TaskEnd}
use Rattle.bosh_book.specs.Appends.{LeavesAllowed}
use Rattle.bosh_book.specs.Claims.{ClaimsPending, IsNext}
use Rattle.bosh_book.specs.Ends.{EndsPending, closing}
use Rattle.bosh_book.specs.Opens.{OpensPending}
use Rattle.bosh_book.specs.declared.book.Book as books
use Rattle.bosh_book.specs.declared.claim.Claim.{Claim}
use Rattle.bosh_journal.specs.Appends.{added}
use Rattle.bosh_journal.specs.JournalView.{JournalView}
use Rattle.bosh_ports.specs.Rigged.{RigState, faults_of}
use Rattle.bosh_ports.specs.declared.keeper.Keeper as keeper
use Rattle.bosh_ports.specs.declared.rig.Rig.{Rig}
use Rattle.bosh_records.specs.declared.records.Records.{Records}
use Rattle.bosh_world.specs.Faults.{halt_by, halt_of}
use Rattle.bosh_world.specs.Pending.{IsAllowed, IsClosing, IsOpening, Pends}
use Rattle.bosh_world.specs.Steps.{bodies_of}
use Rattle.bosh_world.specs.declared.site.Site.{Site}

-- a site whose history stays does not halt
pub pends_still : {K L : Type 0} {k : keeper.Ghosts K} {l : keeper.Ghosts L} (was now : Site K L k l) (Is : Entry → Type 0) →
    now.history ≡ was.history → Pends was Is now
pends_still was now Is same runs halted =
    absurd (false≢true (sym runs ∙ (λ i. (sym same i).is_halted) ∙ halted))

-- it halts where the store failed
pub halted_by : (sprung : Option Rig) (fault : BookFault) (halted : Bool) → halted ≡ is_some (halt_by sprung fault) → halted ≡ true →
    fault ≡ book.StoreFault
halted_by sprung book.StoreFault halted is so = refl
halted_by sprung fault halted is so = absurd (false≢true (sym is ∙ so))

-- an entry of which something holds is pending, where the store failed
abbrev pub PendsAs : {K : Type 0} → (Entry → Type 0) → JournalView K → BookFault → Type 0
PendsAs Is now fault = fault ≡ book.StoreFault → (entry : Entry) × Is entry × (now.pending ≡ Some (added entry))

-- .. and so it is of a site that ran
pub pends_by : {K Ran : Type 0} (halted : Bool) (now : JournalView K) (Is : Entry → Type 0) (sprung : Option Rig)
    (fault : BookFault) → halted ≡ is_some (halt_by sprung fault) → PendsAs Is now fault → Ran → halted ≡ true →
    (entry : Entry) × Is entry × (now.pending ≡ Some (added entry))
pends_by halted now Is sprung fault is pends ran so = pends (halted_by sprung fault halted is so)

pub pends_told : {K T Ran : Type 0} (halted : Bool) (now : JournalView K) (Is : Entry → Type 0)
    (sprung : Option Rig) (answer : Result T BookFault) → halted ≡ is_some (halt_of sprung answer) →
    IfErr answer (PendsAs Is now) → Ran → halted ≡ true →
    (entry : Entry) × Is entry × (now.pending ≡ Some (added entry))
pends_told halted now Is sprung (Ok value) is pends ran so = absurd (false≢true (sym is ∙ so))
pends_told halted now Is sprung (Err fault) is pends ran so = pends_by halted now Is sprung fault is pends ran so

-- ---- call by call

opening_as : {K : Type 0} (was : books.Book K) (ask : Ask) (now : JournalView K) (fault : BookFault) →
    OpensPending was ask now fault → PendsAs (IsOpening was ask) now fault
opening_as was ask now book.StoreFault it is = (entries.TaskOpen it.0, (it.0, it.1, it.2, refl), it.3)
opening_as was ask now fault it is = absurd (let no = is in cc)

pub openings_as : {K : Type 0} (was : books.Book K) (ask : Ask) (now : JournalView K) (answer : Result ℕ BookFault) →
    IfErr answer (OpensPending was ask now) → IfErr answer (PendsAs (IsOpening was ask) now)
openings_as was ask now (Ok task) it = tt
openings_as was ask now (Err fault) it = opening_as was ask now fault it

closing_as : {K : Type 0} (records : Records) (task : ℕ) (now : JournalView K) (fault : BookFault) →
    EndsPending records task now fault → PendsAs (IsClosing records task) now fault
closing_as records task now book.StoreFault it is = (closing task it.0, (it.0, it.1, refl), it.2)
closing_as records task now fault it is = absurd (let no = is in cc)

pub closings_as : {K : Type 0} (records : Records) (task : ℕ) (now : JournalView K) (answer : Result TaskEnd BookFault) →
    IfErr answer (EndsPending records task now) → IfErr answer (PendsAs (IsClosing records task) now)
closings_as records task now (Ok end) it = tt
closings_as records task now (Err fault) it = closing_as records task now fault it

pub allowed_as : {K : Type 0} (T Allowed : Type 0) (given : Entry) (now : JournalView K) (fault : BookFault) →
    LeavesAllowed {T = T} Allowed (Err fault) given now → PendsAs (IsAllowed Allowed given) now fault
allowed_as T Allowed given now book.StoreFault it is = (given, (it.0, refl), it.1)
allowed_as T Allowed given now fault it is = absurd (let no = is in cc)

pub alloweds_as : {K T : Type 0} (Allowed : Type 0) (given : Entry) (now : JournalView K) (answer : Result T BookFault) →
    LeavesAllowed Allowed answer given now → IfErr answer (PendsAs (IsAllowed Allowed given) now)
alloweds_as Allowed given now (Ok value) it = tt
alloweds_as {T = T} Allowed given now (Err fault) it = allowed_as T Allowed given now fault it

claim_as : {K L : Type 0} {k : keeper.Ghosts K} {l : keeper.Ghosts L} (bodies : K → Option (List (List ℕ))) (faults : K → ℕ)
    (task worker : ℕ) (was : Site K L k l) (now : books.Book (RigState K)) (fault : BookFault) →
    ClaimsPending (bodies_of bodies) (faults_of faults) task worker was.book now fault →
    PendsAs (IsNext (bodies_of bodies) (faults_of faults) task worker was.book now) now.journal fault
claim_as bodies faults task worker was now book.StoreFault it is = it
claim_as bodies faults task worker was now fault it is = absurd (let no = is in cc)

pub claims_as : {K L : Type 0} {k : keeper.Ghosts K} {l : keeper.Ghosts L} (bodies : K → Option (List (List ℕ)))
    (faults : K → ℕ) (task worker : ℕ) (was : Site K L k l) (now : books.Book (RigState K))
    (answer : Result Claim BookFault) →
    IfErr answer (ClaimsPending (bodies_of bodies) (faults_of faults) task worker was.book now) →
    IfErr answer (PendsAs (IsNext (bodies_of bodies) (faults_of faults) task worker was.book now) now.journal)
claims_as bodies faults task worker was now (Ok claim) it = tt
claims_as bodies faults task worker was now (Err fault) it = claim_as bodies faults task worker was now fault it
