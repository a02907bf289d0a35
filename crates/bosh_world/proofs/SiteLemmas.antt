-- What a call of the book leaves of a site.
use Rattle.std.proofs.Common.{◌≡◌, ℕ, false, Option, Some, None, Result, Ok, Err, List, ◌++◌, refl, sym, ◌∙◌, ap, append_assoc, length, map, inr}
use Rattle.std.specs.Prelude.{IfErr, IfOk, OnErr}
use Rattle.bosh_asks.specs.declared.fault.BookFault.{BookFault}
use Rattle.bosh_asks.specs.declared.fault.BookFault.TheVariants as book
use Rattle.bosh_base.specs.declared.entry.Entry.{Entry}
use Rattle.bosh_base.specs.declared.moves.Cause.{Cause}
use Rattle.bosh_base.specs.declared.moves.Cause.TheVariants as causes
use Rattle.bosh_base.specs.declared.moves.Move.TheVariants.{Note}
use Rattle.bosh_book.specs.Adds.{Adds}
use Rattle.bosh_book.specs.Faults.{FailsAs}
use Rattle.bosh_moves.proofs.TellLemmas.{after_notes, story_more}
use Rattle.bosh_moves.specs.Story.{Follows, IsOf, effects_told, halts, story}
use Rattle.bosh_ports.specs.Rigged.{faults_of}
use Rattle.bosh_ports.specs.declared.rig.Rig.{Rig}
use Rattle.bosh_ports.specs.declared.rig.Rig.TheVariants as rigs
use Rattle.bosh_world.specs.Faults.{answered_as, cause_of, halt_of}
use Rattle.bosh_world.specs.Refuses.{FailsInStore, Refuses}
use Rattle.bosh_world.specs.Steps.{Notes, bodies_of}
use Rattle.bosh_world.specs.Told.{story_of}
use Rattle.bosh_ports.specs.declared.keeper.Keeper as keeper
use Rattle.bosh_world.specs.declared.site.Site.{Site}

-- the rest of a site stays where the book is asked
pub record SameRest {K L : Type 0} {k : keeper.Ghosts K} {l : keeper.Ghosts L} (was now : Site K L k l) : Type 0 where
  pub running : was.history.is_halted ≡ false
  pub is_of : IsOf was.history was.book.journal.entries
  pub same_cloud : now.cloud ≡ was.cloud
  pub same_armed : now.traps.items ≡ was.traps.items
  pub same_opening : now.opening ≡ was.opening

pub noted : {K L : Type 0} {k : keeper.Ghosts K} {l : keeper.Ghosts L} (bodies : K → Option (List (List ℕ))) (faults : K → ℕ) (was now : Site K L k l)
    (entries : List Entry) (halt : Option Cause) → SameRest was now →
    Adds (bodies_of bodies) (faults_of faults) was.book entries now.book →
    Follows was.history now.book.journal.entries now.cloud.effects halt now.history →
    Notes bodies faults was entries halt now
noted bodies faults was now entries halt rest adds follows = record {
  book = adds;
  comes = record {
    grows = follows.grows;
    story =
        follows.story
        ∙ ap (λ es. story was.history es now.cloud.effects ++ halts halt) adds.entries
        ∙ ap (λ ms. ms ++ halts halt)
        (story_more was.history was.book.journal.entries entries was.cloud.effects now.cloud.effects
        rest.is_of rest.running)
        ∙ append_assoc (story_of was) (map Note entries) (halts halt);
    told =
        follows.same_effects
        ∙ ap (λ c. effects_told was.history c.effects) rest.same_cloud
        ∙ sym (after_notes entries halt (length now.cloud.effects) (effects_told was.history was.cloud.effects));
  };
  running = rest.running;
  halted = follows.halted;
  same_cloud = rest.same_cloud;
  same_armed = rest.same_armed;
  same_opening = rest.same_opening;
}

-- where the book was not refused
pub notes_if : {K L T : Type 0} {k : keeper.Ghosts K} {l : keeper.Ghosts L} (bodies : K → Option (List (List ℕ))) (faults : K → ℕ) (was now : Site K L k l)
    (answer : Result T BookFault) (sprung : Option Rig) (entries : T → List Entry) → SameRest was now →
    IfOk answer (λ value. Adds (bodies_of bodies) (faults_of faults) was.book (entries value) now.book) →
    Follows was.history now.book.journal.entries now.cloud.effects (halt_of sprung answer) now.history →
    IfOk (answered_as sprung answer) (λ value. Notes bodies faults was (entries value) None now)
notes_if bodies faults was now (Ok value) sprung entries rest adds follows =
    noted bodies faults was now (entries value) None rest adds follows
notes_if bodies faults was now (Err fault) sprung entries rest adds follows = tt

-- where its store failed
fails_in : {K L : Type 0} {k : keeper.Ghosts K} {l : keeper.Ghosts L} (T : Type 0) (bodies : K → Option (List (List ℕ))) (faults : K → ℕ) (was now : Site K L k l)
    (entries : List Entry) (cause : Cause) → SameRest was now →
    Adds (bodies_of bodies) (faults_of faults) was.book entries now.book →
    FailsAs {T = T} (faults_of faults) (Err book.StoreFault) was.book.journal now.book.journal →
    Follows was.history now.book.journal.entries now.cloud.effects (Some cause) now.history →
    cause_of now.book.journal.store.sprung ≡ cause → FailsInStore bodies faults was entries cause now
fails_in T bodies faults was now entries cause rest adds fails follows by = record {
  notes = noted bodies faults was now entries (Some cause) rest adds follows;
  rose = fails.0;
  by = by;
}

-- where it was refused
pub refuses_if : {K L T : Type 0} {k : keeper.Ghosts K} {l : keeper.Ghosts L} (bodies : K → Option (List (List ℕ))) (faults : K → ℕ) (was now : Site K L k l)
    (answer : Result T BookFault) (sprung : Option Rig) (entries : List Entry) → SameRest was now →
    sprung ≡ now.book.journal.store.sprung →
    OnErr answer (Adds (bodies_of bodies) (faults_of faults) was.book entries now.book) →
    FailsAs (faults_of faults) answer was.book.journal now.book.journal →
    IfErr answer (λ fault. fault ≡ book.Stopped → ⊥) →
    Follows was.history now.book.journal.entries now.cloud.effects (halt_of sprung answer) now.history →
    IfErr (answered_as sprung answer) (λ fault. Refuses bodies faults was entries fault now)
refuses_if bodies faults was now (Ok value) sprung entries rest by adds fails not follows = tt
refuses_if bodies faults was now (Err book.Stopped) sprung entries rest by adds fails not follows = absurd (not refl)
refuses_if {T = T} bodies faults was now (Err book.StoreFault) (Some rigs.StopBefore) entries rest by adds fails not follows =
    inr (rest.running, fails_in T bodies faults was now entries causes.Stop rest adds fails follows (ap cause_of (sym by)))
refuses_if {T = T} bodies faults was now (Err book.StoreFault) (Some rigs.StopAfter) entries rest by adds fails not follows =
    inr (rest.running, fails_in T bodies faults was now entries causes.Stop rest adds fails follows (ap cause_of (sym by)))
refuses_if {T = T} bodies faults was now (Err book.StoreFault) (Some rigs.FailLost) entries rest by adds fails not follows =
    (rest.running, fails_in T bodies faults was now entries causes.Store rest adds fails follows (ap cause_of (sym by)))
refuses_if {T = T} bodies faults was now (Err book.StoreFault) (Some rigs.FailKept) entries rest by adds fails not follows =
    (rest.running, fails_in T bodies faults was now entries causes.Store rest adds fails follows (ap cause_of (sym by)))
refuses_if {T = T} bodies faults was now (Err book.StoreFault) None entries rest by adds fails not follows =
    (rest.running, fails_in T bodies faults was now entries causes.Store rest adds fails follows (ap cause_of (sym by)))
refuses_if bodies faults was now (Err (book.Damaged place)) sprung entries rest by adds fails not follows =
    (rest.running, noted bodies faults was now entries None rest adds follows)
refuses_if bodies faults was now (Err (book.Locked task)) sprung entries rest by adds fails not follows =
    (rest.running, noted bodies faults was now entries None rest adds follows)
refuses_if bodies faults was now (Err (book.Differs name)) sprung entries rest by adds fails not follows =
    (rest.running, noted bodies faults was now entries None rest adds follows)
refuses_if bodies faults was now (Err (book.NoDeployment name)) sprung entries rest by adds fails not follows =
    (rest.running, noted bodies faults was now entries None rest adds follows)
refuses_if bodies faults was now (Err (book.NoInstance inst)) sprung entries rest by adds fails not follows =
    (rest.running, noted bodies faults was now entries None rest adds follows)
refuses_if bodies faults was now (Err (book.NoDisk disk)) sprung entries rest by adds fails not follows =
    (rest.running, noted bodies faults was now entries None rest adds follows)
refuses_if bodies faults was now (Err (book.NotOrphaned disk)) sprung entries rest by adds fails not follows =
    (rest.running, noted bodies faults was now entries None rest adds follows)
refuses_if bodies faults was now (Err (book.Goal other)) sprung entries rest by adds fails not follows =
    (rest.running, noted bodies faults was now entries None rest adds follows)
refuses_if bodies faults was now (Err book.Limit) sprung entries rest by adds fails not follows =
    (rest.running, noted bodies faults was now entries None rest adds follows)
refuses_if bodies faults was now (Err book.Full) sprung entries rest by adds fails not follows =
    (rest.running, noted bodies faults was now entries None rest adds follows)
refuses_if bodies faults was now (Err (book.Consumed by_)) sprung entries rest by adds fails not follows =
    (rest.running, noted bodies faults was now entries None rest adds follows)
refuses_if bodies faults was now (Err book.Memory) sprung entries rest by adds fails not follows =
    (rest.running, noted bodies faults was now entries None rest adds follows)
