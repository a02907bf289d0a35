-- Each part of a move leaves each disk that is there recorded once, also once each open call is answered.
use Rattle.std.proofs.Common.{◌≡◌, ◌∙◌, ℕ, Bool, true, false, Option, Some, None, [], ◌∷◌, ◌++◌, refl, inl, inr}
use Rattle.std.specs.Prelude.{◌⊎◌, is_some}
use Rattle.std.proofs.lemmas.Bool.{false≢true}
use Rattle.bosh_base.specs.CallStep.{CallStep}
use Rattle.bosh_base.specs.Cloud.{is_disk_there}
use Rattle.bosh_base.specs.declared.entry.Entry.{Entry}
use Rattle.bosh_base.specs.declared.entry.Entry.TheVariants as entries
use Rattle.bosh_base.specs.declared.moves.Did.{Did}
use Rattle.bosh_history.specs.Moments.{Moment, OpenCall, performing}
use Rattle.bosh_history.specs.Notes.{Outside}
use Rattle.bosh_history.specs.Permitted.{PerformsOpen}
use Rattle.laws_cloud.proofs.DoneLemmas.{done_now, made_by}
use Rattle.laws_compile_machines_kept.proofs.KeptLemmas.{not_done}
use Rattle.laws_disks_kept.proofs.AnswerKept.{answers_kept}
use Rattle.laws_disks_kept.proofs.CountLemmas.{Counted, counted, recorded}
use Rattle.laws_disks_kept.proofs.GrowthLemmas.{counted_later, Makes, there_before}
use Rattle.laws_disks_kept.proofs.NewDisks.{new_counted}
use Rattle.laws_disks_kept.proofs.OnceAnswers.{answered_once}
use Rattle.laws_disks_kept.proofs.OnceNotes.{once_noted}
use Rattle.laws_disks_kept.specs.Disks.{AreRecordedOnce, AreRecordedOnceAnswered}
use Rattle.laws_facts.specs.Disks.{is_recorded_once}
use Rattle.laws_facts.specs.Facts.{Holds}
use Rattle.laws_moves.specs.Parts.{after_part, Forgotten, IsKeptByParts, Lost, Noted, Performed, Written}
use Rattle.laws_rows.specs.Rightful.{done_with}

-- ---- one more entry

-- where it makes no disk, or the disk that it makes is recorded once, each disk is
grown : (m : Moment) (h : Holds m) (x : Entry)
    → ((d : ℕ) → Makes m.effects x d → Counted (m.effects ++ x ∷ []) m.known.row (is_some (m.known.orphan d)) d)
    → (d : ℕ) → is_recorded_once (m.effects ++ x ∷ []) m.known.row (is_some (m.known.orphan d)) d ≡ true
grown m h x new d =
    recorded (m.effects ++ x ∷ []) m.known.row (is_some (m.known.orphan d)) d
    (λ there. by (there_before m.effects x d there))
  where
    by : (is_disk_there m.effects d ≡ true) ⊎ Makes m.effects x d
        → Counted (m.effects ++ x ∷ []) m.known.row (is_some (m.known.orphan d)) d
    by (inl was) =
        counted_later m.effects x m.known.row (is_some (m.known.orphan d)) d
        (counted m.effects m.known.row (is_some (m.known.orphan d)) d (h.disks d).once was)
    by (inr makes) = new d makes

performed_once : (outside : Outside) (m : Moment) (h : Holds m) (did : Did) (call : OpenCall)
    → m.calls did.n ≡ Some call → call.did ≡ None
    → CallStep outside.built m.effects call.begin.call did.effect did.answer → AreRecordedOnce (performing m did)
performed_once outside m h did call is none step d =
    (λ j. is_recorded_once (done_now m did call is j) m.known.row (is_some (m.known.orphan d)) d)
    ∙ by did.effect
  where
    by : (has : Bool)
        → is_recorded_once (done_with has m.effects (made_by m.known call.begin)) m.known.row
        (is_some (m.known.orphan d)) d ≡ true
    by true = grown m h (entries.Effect (made_by m.known call.begin)) (new_counted m h did.n call is none) d
    by false = (h.disks d).once

pub once_kept : IsKeptByParts AreRecordedOnce
once_kept outside m (Performed did) may h = by (m.calls did.n) refl may
  where
    by : (that : Option OpenCall) → m.calls did.n ≡ that → PerformsOpen outside m.effects did that
        → AreRecordedOnce (performing m did)
    by (Some call) is performs =
        performed_once outside m h did call is (not_done call.did performs.not_yet) performs.step
    by None is performs = absurd performs
once_kept outside m (Written w) may h =
    grown m h (entries.Write w) (λ d makes. absurd (false≢true makes.0))
once_kept outside m (Lost loss) may h =
    grown m h (entries.Lost loss) (λ d makes. absurd (false≢true makes.0))
once_kept outside m (Noted e) may h = once_noted outside m e may.0 may.1 h
once_kept outside m Forgotten may h = λ d. (h.disks d).once

-- .. also once an open call is answered
pub answered_kept : IsKeptByParts AreRecordedOnceAnswered
answered_kept outside m part may h =
    answered_once (after_part m part) (once_kept outside m part may h) (answers_kept outside m part may h)
