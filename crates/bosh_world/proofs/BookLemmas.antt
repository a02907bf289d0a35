-- What a call of the book is answered as, and whether a site goes on after it.
use Rattle.std.proofs.Common.{◌≡◌, ℕ, Bool, false, not, ◌||◌, Option, Some, None, Result, Ok, Err, refl, sym, ◌∙◌, ap}
use Rattle.std.specs.Prelude.{IfErr, IfOk, is_some}
use Rattle.std.proofs.lemmas.Bool.{false≢true}
use Rattle.bosh_asks.specs.declared.fault.BookFault.{BookFault}
use Rattle.bosh_asks.specs.declared.fault.BookFault.TheVariants as book
use Rattle.bosh_book.specs.Faults.{FailsAs}
use Rattle.bosh_book.specs.Running.{is_running, is_stopped}
use Rattle.bosh_book.specs.declared.book.Book.{Book}
use Rattle.bosh_book.specs.declared.standing.Standing.{Standing}
use Rattle.bosh_ports.specs.declared.rig.Rig.{Rig}
use Rattle.bosh_ports.specs.declared.rig.Rig.TheVariants as rigs
use Rattle.bosh_world.specs.Faults.{answered_as, halt_of}
use Rattle.bosh_world.specs.Refuses.{IsBooks}

-- what holds of a good answer of the book gives what is to hold of the site's
pub if_ok_as : {T : Type 0} (P Q : T → Type 0) (sprung : Option Rig) (answer : Result T BookFault) →
    ((value : T) → answer ≡ Ok value → P value → Q value) → IfOk answer P → IfOk (answered_as sprung answer) Q
if_ok_as P Q sprung (Ok value) goes holds = goes value refl holds
if_ok_as P Q sprung (Err fault) goes holds = tt

-- why the book refused is why the site does
pub books_if : {T : Type 0} (may : BookFault → Type 0) (sprung : Option Rig) (answer : Result T BookFault) →
    IfErr answer may → IfErr (answered_as sprung answer) (IsBooks may)
books_if may sprung (Ok value) holds = tt
books_if may (Some rigs.StopBefore) (Err book.StoreFault) holds = tt
books_if may (Some rigs.StopAfter) (Err book.StoreFault) holds = tt
books_if may (Some rigs.FailLost) (Err book.StoreFault) holds = holds
books_if may (Some rigs.FailKept) (Err book.StoreFault) holds = holds
books_if may None (Err book.StoreFault) holds = holds
books_if may sprung (Err book.Stopped) holds = tt
books_if may sprung (Err book.Memory) holds = tt
books_if may sprung (Err (book.Damaged place)) holds = holds
books_if may sprung (Err (book.Locked task)) holds = holds
books_if may sprung (Err (book.Differs name)) holds = holds
books_if may sprung (Err (book.NoDeployment name)) holds = holds
books_if may sprung (Err (book.NoInstance inst)) holds = holds
books_if may sprung (Err (book.NoDisk disk)) holds = holds
books_if may sprung (Err (book.NotOrphaned disk)) holds = holds
books_if may sprung (Err (book.Goal fault)) holds = holds
books_if may sprung (Err book.Limit) holds = holds
books_if may sprung (Err book.Full) holds = holds
books_if may sprung (Err (book.Consumed by)) holds = holds

same_stopped : {K : Type 0} (was now : Book K) → now.journal.is_broken ≡ was.journal.is_broken →
    now.standing ≡ was.standing → is_stopped now ≡ is_stopped was
same_stopped was now broken standing =
    ap (λ (b : Bool). b || not (is_running now.standing)) broken
    ∙ ap (λ (s : Standing). was.journal.is_broken || not (is_running s)) standing

-- the book goes on, unless the site halts
pub runs_on : {K T : Type 0} (faults : K → ℕ) (was now : Book K) (answer : Result T BookFault) (sprung : Option Rig)
    (halted : Bool) → FailsAs faults answer was.journal now.journal → now.standing ≡ was.standing →
    is_stopped was ≡ false → halted ≡ is_some (halt_of sprung answer) → halted ≡ false → is_stopped now ≡ false
runs_on faults was now (Ok value) sprung halted same standing runs is stays = same_stopped was now same standing ∙ runs
runs_on faults was now (Err book.StoreFault) sprung halted fails standing runs is stays =
    absurd (false≢true (sym stays ∙ is))
runs_on faults was now (Err book.Stopped) sprung halted same standing runs is stays = same_stopped was now same standing ∙ runs
runs_on faults was now (Err book.Memory) sprung halted same standing runs is stays = same_stopped was now same standing ∙ runs
runs_on faults was now (Err (book.Damaged place)) sprung halted same standing runs is stays = same_stopped was now same standing ∙ runs
runs_on faults was now (Err (book.Locked task)) sprung halted same standing runs is stays = same_stopped was now same standing ∙ runs
runs_on faults was now (Err (book.Differs name)) sprung halted same standing runs is stays = same_stopped was now same standing ∙ runs
runs_on faults was now (Err (book.NoDeployment name)) sprung halted same standing runs is stays = same_stopped was now same standing ∙ runs
runs_on faults was now (Err (book.NoInstance inst)) sprung halted same standing runs is stays = same_stopped was now same standing ∙ runs
runs_on faults was now (Err (book.NoDisk disk)) sprung halted same standing runs is stays = same_stopped was now same standing ∙ runs
runs_on faults was now (Err (book.NotOrphaned disk)) sprung halted same standing runs is stays = same_stopped was now same standing ∙ runs
runs_on faults was now (Err (book.Goal fault)) sprung halted same standing runs is stays = same_stopped was now same standing ∙ runs
runs_on faults was now (Err book.Limit) sprung halted same standing runs is stays = same_stopped was now same standing ∙ runs
runs_on faults was now (Err book.Full) sprung halted same standing runs is stays = same_stopped was now same standing ∙ runs
runs_on faults was now (Err (book.Consumed by)) sprung halted same standing runs is stays = same_stopped was now same standing ∙ runs
