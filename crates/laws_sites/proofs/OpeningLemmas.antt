-- What is recorded lets a task open that is planned over it.
use Rattle.std.proofs.Common.{◌≡◌, ◌∙◌, ◌<◌, ℕ, false, ap, subst}
use Rattle.bosh_asks.specs.declared.ask.Ask.{Ask}
use Rattle.bosh_base.specs.declared.entry.Entry.TheVariants as entries
use Rattle.bosh_base.specs.declared.entry.TaskOpen.{TaskOpen}
use Rattle.bosh_book.specs.Opens.{IsOpeningOf}
use Rattle.bosh_history.specs.Moments.{Moment}
use Rattle.bosh_history.specs.Notes.{MayNote, Outside}
use Rattle.bosh_history.specs.Openings.{HasSource, MayOpen}
use Rattle.bosh_history.specs.Recovered.{is_recovering}
use Rattle.bosh_records.specs.declared.records.Records.{Records}
use Rattle.laws_facts.specs.KnownFacts.{KnownFacts}
use Rattle.laws_stands.specs.Agrees.{Agrees}
use Rattle.laws_stands.specs.Stands.{Stands}
use Rattle.laws_stands.specs.Told.{Told}
use Rattle.laws_views.proofs.CurrentLemmas.{renewed_sound}
use Rattle.laws_views.proofs.OpenLemmas.{has_source, may_open}
use Rattle.laws_views.proofs.ReadLemmas.{next_known, reads_known}
use Rattle.laws_views.proofs.SoundLemmas.{sound_in_bounds, sound_planned}
use Rattle.laws_views.proofs.ViewLemmas.{stands_at, views_known}
use Rattle.laws_views.proofs.ViewedLemmas.{planned_viewed}
use Rattle.laws_views.specs.Planned.{IsChecked, IsPlanned}
use Rattle.laws_views.specs.Read.{AreReadAsKnown}
use Rattle.laws_views.specs.Viewed.{CanBeViewed}

planned : (records : Records) (ask : Ask) (opening : TaskOpen) → IsOpeningOf records ask opening
    → IsPlanned records ask opening
planned records ask opening is =
    record { number = is.number; free = is.free; named = is.named; over = is.over; opens = is.opens }

module _ (outside : Outside) (m : Moment) (told : Told) (records : Records) (stands : Stands told records) (agrees : Agrees m told)
    (facts : KnownFacts m) (numbers : records.opened < 18446744073709551615) where
  read : AreReadAsKnown m.known records
  read = reads_known m told records stands agrees facts

  few : m.known.tasks < 18446744073709551615
  few = subst (λ (n : ℕ). n < 18446744073709551615)
      (ap (λ arrivals. arrivals.opened) stands.uploads ∙ (λ i. (agrees.known_is i).tasks)) numbers

  opens : (ask : Ask) (opening : TaskOpen) → IsOpeningOf records ask opening → MayOpen m.known opening
  opens ask opening is =
      may_open m records facts read
      (next_known m told.calls told.snapped records facts (stands_at m told records stands agrees) few) ask opening
      (planned records ask opening is)

  -- whatever is asked
  pub task_may_open : is_recovering m ≡ false → CanBeViewed m.known → (ask : Ask) → IsChecked ask → (opening : TaskOpen)
      → IsOpeningOf records ask opening → MayNote outside m (entries.TaskOpen opening)
      × HasSource (entries.TaskOpen opening)
  task_may_open recovered viewed ask checked opening is =
      let may : MayOpen m.known opening = opens ask opening is in (
        (
          may,
          sound_in_bounds m.known opening may
              (planned_viewed m records facts read viewed ask opening checked (planned records ask opening is))
              (sound_planned m records facts (λ dep. views_known m told records dep stands agrees facts viewed)
              (renewed_sound m records facts viewed recovered read
              (λ dep. views_known m told records dep stands agrees facts viewed)) read.wanted ask opening checked
              (planned records ask opening is)),
        ),
        has_source records ask opening (planned records ask opening is),
      )
