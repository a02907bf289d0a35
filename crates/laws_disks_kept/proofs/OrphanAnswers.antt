-- An answer that shows that an orphaned disk is gone is right.
use Rattle.std.proofs.Common.{◌≡◌, ◌∙◌, ℕ, ◌≤◌, Bool, true, false, Option, Some, None, List, refl, sym, subst, inl}
use Rattle.std.proofs.Common.{inr}
use Rattle.std.specs.Prelude.{◌&&◌, ◌==◌, is_some, not}
use Rattle.std.proofs.lemmas.Bool.{eqb-true, false≢true}
use Rattle.bosh_base.specs.CallStep.{CallStep, is_gone, unless_gone, yes_or_no}
use Rattle.bosh_base.specs.Cloud.{disk_creation, disk_stays, disks_created, holder_of, is_disk_there, when}
use Rattle.bosh_base.specs.History.{chosen}
use Rattle.bosh_base.specs.declared.answer.Answer.{Answer}
use Rattle.bosh_base.specs.declared.answer.Answer.TheVariants as answers
use Rattle.bosh_base.specs.declared.call.Call.{Call}
use Rattle.bosh_base.specs.declared.call.Call.TheVariants as calls
use Rattle.bosh_base.specs.declared.digest.Digest.{Digest}
use Rattle.bosh_base.specs.declared.entry.Effect.{Effect}
use Rattle.bosh_base.specs.declared.entry.Entry.{Entry}
use Rattle.bosh_base.specs.declared.entry.Entry.TheVariants as entries
use Rattle.bosh_base.specs.declared.key.KeyWork.{KeyWork}
use Rattle.bosh_base.specs.declared.owner.Owner.TheVariants.{Disk}
use Rattle.bosh_base.specs.declared.snapshot.Orphan.{Orphan}
use Rattle.bosh_history.specs.Calls.{shows_gone}
use Rattle.bosh_history.specs.Moments.{Moment, OpenCall}
use Rattle.bosh_history.specs.Ties.{is_wanted_as}
use Rattle.bosh_history.specs.Words.{holds}
use Rattle.laws_effects.proofs.CreationLemmas.{is_disk_there-grown}
use Rattle.laws_facts.specs.Facts.{Holds}
use Rattle.laws_facts.specs.OpenCalls.{fits_orphan, fits_owner, is_on_orphan}
use Rattle.laws_row_facts.specs.Words.{where_any}
use Rattle.laws_row_frames.proofs.WithinLemmas.{are_within}
use Rattle.laws_rows.specs.Rightful.{done_with}
use Rattle.laws_slots.proofs.OrphanCases.{parts_of}
use Rattle.laws_slots.specs.Orphans.{is_orphan_as_recorded}

module _ (built : KeyWork → List Digest → Digest) (xs : List Entry) (d : ℕ) (e : Effect) (has : Bool) (answer : Answer)
  where
    deleted : (disk : ℕ) → (disk == d) ≡ true → e.call ≡ calls.DeleteDisk disk
        → CallStep built xs (calls.DeleteDisk disk) has answer → shows_gone (calls.DeleteDisk disk) answer ≡ true
        → is_disk_there (done_with has xs e) d ≡ false
    deleted disk same call (inl (says, takes)) shows =
        (λ j. is_disk_there (done_with (takes j) xs e) d)
        ∙ by (is_disk_there xs disk && not (is_some (holder_of xs disk)))
        (sym (λ j. shows_gone (calls.DeleteDisk disk) (says j)) ∙ shows)
      where
        by : (there : Bool) → shows_gone (calls.DeleteDisk disk) (unless_gone there answers.Done) ≡ true
            → is_disk_there (done_with (not (is_gone (unless_gone there answers.Done))) xs e) d ≡ false
        by true shows =
            is_disk_there-grown xs (entries.Effect e) d
            ∙ ((λ j. chosen (disk_stays d (disks_created xs) (call j)) (is_disk_there xs d))
            ∙ (λ j. chosen (when (same j) false) (is_disk_there xs d)))
        by false shows = absurd (false≢true shows)
    deleted disk same call (inr (failed, may)) shows =
        absurd (false≢true (sym (λ j. shows_gone (calls.DeleteDisk disk) (failed j)) ∙ shows))

    absent : (disk : ℕ) → (disk == d) ≡ true → CallStep built xs (calls.HasDisk disk) has answer
        → shows_gone (calls.HasDisk disk) answer ≡ true → is_disk_there (done_with has xs e) d ≡ false
    absent disk same (inl (says, takes)) shows =
        (λ j. is_disk_there (done_with (takes j) xs e) (sym (eqb-true disk d same) j))
        ∙ by (is_disk_there xs disk) (sym (λ j. shows_gone (calls.HasDisk disk) (says j)) ∙ shows)
      where
        by : (there : Bool) → shows_gone (calls.HasDisk disk) (yes_or_no there) ≡ true → there ≡ false
        by true shows = absurd (false≢true shows)
        by false shows = refl
    absent disk same (inr (failed, may)) shows =
        absurd (false≢true (sym (λ j. shows_gone (calls.HasDisk disk) (failed j)) ∙ shows))

    pub gone_now : (call : Call) → e.call ≡ call → is_on_orphan call d ≡ true → CallStep built xs call has answer
        → shows_gone call answer ≡ true → is_disk_there (done_with has xs e) d ≡ false
    gone_now (calls.DeleteDisk disk) is on step shows = deleted disk on is step shows
    gone_now (calls.HasDisk disk) is on step shows = absent disk on step shows
    gone_now call is on step shows = absurd (false≢true on)

-- the disk of an open call was made
pub orphan_made : (m : Moment) (h : Holds m) (n : ℕ) (call : OpenCall) (d : ℕ) → m.calls n ≡ Some call
    → call.begin.owner ≡ Disk d
    → (e : Effect) × (disk_creation m.effects d ≡ Some e) × (d ≤ disks_created m.effects)
orphan_made m h n call d is own =
    by (m.known.orphan d) refl
    (subst (λ owner. fits_owner m.known call.begin owner ≡ true) own (h.performed n call is).fits_owner)
  where
    of : (it : Orphan) (o : Option Effect) → disk_creation m.effects d ≡ o → is_wanted_as it o ≡ true
        → (e : Effect) × (disk_creation m.effects d ≡ Some e) × (d ≤ disks_created m.effects)
    of it (Some e) is made = (e, is, (are_within m.effects).disks d e is)
    of it None is made = absurd (false≢true made)

    by : (o : Option Orphan) → m.known.orphan d ≡ o → holds (fits_orphan call.begin.n call.begin.call d) o ≡ true
        → (e : Effect) × (disk_creation m.effects d ≡ Some e) × (d ≤ disks_created m.effects)
    by (Some it) at fits =
        of it (disk_creation m.effects d) refl
        (parts_of m.effects d it
        (sym (λ j. where_any (is_orphan_as_recorded m.effects d) (at j)) ∙ (h.disks d).orphan)).made
    by None at fits = absurd (false≢true fits)

pub orphan_low : (m : Moment) (h : Holds m) (n : ℕ) (call : OpenCall) (d : ℕ) → m.calls n ≡ Some call
    → call.begin.owner ≡ Disk d → d ≤ disks_created m.effects
orphan_low m h n call d is own = let (e, made, low) = orphan_made m h n call d is own in low
