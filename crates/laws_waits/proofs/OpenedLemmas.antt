-- How many tasks were opened stays so as a worker takes steps.
use Rattle.std.proofs.Common.{◌≡◌, ◌∙◌, ℕ, List, [], ◌∷◌, ◌++◌, Option, ap, inl, inr, refl}
use Rattle.std.specs.Prelude.{All}
use Rattle.std.proofs.lemmas.List.Elements.{All-head, All-tail}
use Rattle.bosh_base.specs.declared.entry.Entry.{Entry}
use Rattle.bosh_base.specs.declared.task.TaskEnd.{TaskEnd}
use Rattle.bosh_base.specs.declared.task.TaskEnd.TheVariants as task_ends
use Rattle.bosh_book.specs.Adds.{arrivals_by}
use Rattle.bosh_book.specs.Ends.{closing}
use Rattle.bosh_book.specs.Turns.{Gives, IsUpdate}
use Rattle.bosh_book.specs.declared.book.Book.{Book}
use Rattle.bosh_book.specs.declared.claim.Claim.{Claim}
use Rattle.bosh_book.specs.declared.claim.Claim.TheVariants.{Over, Wait, Work}
use Rattle.bosh_crew.specs.Carried.{Reaches, Steps}
use Rattle.bosh_crew.specs.Carried.Reaches.{stays, steps}
use Rattle.bosh_crew.specs.Carried.Steps.{claims, ends, performs, settles}
use Rattle.bosh_crew.specs.declared.place.Place.{Place}
use Rattle.bosh_fold.specs.ArrivalsWith.{arrivals_with}
use Rattle.bosh_ports.specs.Rigged.{RigState}
use Rattle.bosh_ports.specs.declared.keeper.Keeper as keeper
use Rattle.bosh_records.specs.Arrivals.{Arrivals, arrivals}
use Rattle.bosh_world.specs.Steps.{EndsTask}
use Rattle.bosh_world.specs.declared.site.Site.{Site}
use Rattle.laws_waits.proofs.CameLemmas.{came_with}

-- ---- entries that open no task

given_opened : (claim : Claim) (last : List Entry) (before : Arrivals) → Gives claim last
    → (arrivals_by last before).opened ≡ before.opened
given_opened (Work permit) last before gives = ap (λ (es : List Entry). (arrivals_by es before).opened) gives.2
given_opened Wait last before gives = ap (λ (es : List Entry). (arrivals_by es before).opened) gives
given_opened Over last before gives = ap (λ (es : List Entry). (arrivals_by es before).opened) gives

claimed_opened : (claim : Claim) (updates last : List Entry) (before : Arrivals) → All IsUpdate updates → Gives claim last
    → (arrivals_by (updates ++ last) before).opened ≡ before.opened
claimed_opened claim [] last before are gives = given_opened claim last before gives
claimed_opened claim (e ∷ updates) last before are gives =
    claimed_opened claim updates last (arrivals_with e before) (All-tail IsUpdate e updates are) gives
    ∙ ap (λ (came : Arrivals). came.opened) (came_with e before (All-head IsUpdate e updates are))

closed_opened : (task : ℕ) (end : TaskEnd) (before : Arrivals)
    → (arrivals_by (closing task end ∷ []) before).opened ≡ before.opened
closed_opened task task_ends.Finished before = refl
closed_opened task (task_ends.Fault n method owner) before = refl
closed_opened task task_ends.Interrupted before = refl
closed_opened task (task_ends.Gone n method owner) before = refl

-- ---- steps

module _ {K L : Type 0} {k : keeper.Ghosts K} {l : keeper.Ghosts L} (bodies : K → Option (List (List ℕ))) (faults : K → ℕ)
    (cloud_bodies : L → Option (List (List ℕ))) (cloud_faults : L → ℕ) (tasks : List ℕ) (worker : ℕ) where
  ended_opened : (was now : Site K L k l) (task : ℕ) (end : TaskEnd) → EndsTask bodies faults was task end now
      → now.book.records.opened ≡ was.book.records.opened
  ended_opened was now task end (inl (told, notes, same)) = ap (λ (came : Arrivals). came.opened) notes.book.recorded
  ended_opened was now task end (inr (none, comes, notes)) =
      ap (λ (came : Arrivals). came.opened) notes.book.recorded ∙ closed_opened task end (arrivals was.book.records)

  step_opened : (was : Site K L k l) (place : Place) (now : Site K L k l) (next : Place)
      → Steps bodies faults cloud_bodies cloud_faults tasks worker was place now next
      → now.book.records.opened ≡ was.book.records.opened
  step_opened was place now next (claims task claim from to among claimed calls) =
      ap (λ (came : Arrivals). came.opened) claimed.notes.book.recorded
      ∙ claimed_opened claim claimed.updates claimed.last (arrivals was.book.records) claimed.are_updates claimed.gives
  step_opened was place now next (performs permit call from to same free performed) =
      ap (λ (b : Book (RigState K)). b.records.opened) performed.same_book
  step_opened was place now next (settles call from to held may notes calls) =
      ap (λ (came : Arrivals). came.opened) notes.book.recorded
  step_opened was place now next (ends task end from to among ended calls) = ended_opened was now task end ended

  pub reached_opened : (was : Site K L k l) (place : Place) (now : Site K L k l) (next : Place)
      → Reaches bodies faults cloud_bodies cloud_faults tasks worker was place now next
      → now.book.records.opened ≡ was.book.records.opened
  reached_opened was place now next (stays site there) = refl
  reached_opened was place now next (steps first from mid at last to step more) =
      reached_opened mid at last to more ∙ step_opened first from mid at step
