-- Each part of a move keeps the facts of orphaned disks and of their open calls.
use Rattle.std.proofs.Common.{◌≡◌, ◌∙◌, ℕ, Bool, true, false, Option, Some, None, [], ◌∷◌, ◌++◌, refl, sym, subst}
use Rattle.std.specs.Prelude.{◌≢◌, eqb, if◌then◌else◌}
use Rattle.std.specs.Option.{option_and_then}
use Rattle.std.proofs.lemmas.Bool.{eq-eqb, false≢true}
use Rattle.bosh_base.specs.CallStep.{CallStep}
use Rattle.bosh_base.specs.declared.answer.Answer.{Answer}
use Rattle.bosh_base.specs.declared.answer.Answer.TheVariants as answers
use Rattle.bosh_base.specs.declared.entry.Entry.TheVariants as entries
use Rattle.bosh_base.specs.declared.moves.Did.{Did}
use Rattle.bosh_base.specs.declared.owner.Owner.TheVariants.{Disk}
use Rattle.bosh_base.specs.declared.snapshot.Orphan.{Orphan}
use Rattle.bosh_history.specs.Moments.{dep_of, losing, Moment, OpenCall, performed_call, performing}
use Rattle.bosh_history.specs.Notes.{Outside}
use Rattle.bosh_history.specs.Permitted.{PerformsOpen}
use Rattle.bosh_history.specs.Words.{holds}
use Rattle.bosh_rows.specs.Same.{same_owner}
use Rattle.laws_cloud.proofs.DoneLemmas.{done_now, made_by}
use Rattle.laws_compile_machines_kept.proofs.KeptLemmas.{not_done}
use Rattle.laws_compile_machines_kept.proofs.OwnLemmas.{failed_instead, not_taken}
use Rattle.laws_disks_kept.proofs.OrphanBegun.{orphans_noted}
use Rattle.laws_disks_kept.proofs.OrphanCalls.{doubts_answered, doubts_itself, failed_orphan, orphan_began}
use Rattle.laws_disks_kept.proofs.OrphanCalls.{OrphanBegan}
use Rattle.laws_disks_kept.proofs.OrphanEntries.{answered_noted, fitting_noted}
use Rattle.laws_disks_kept.proofs.OrphanFrames.{Leaves, lost, others, written}
use Rattle.laws_disks_kept.specs.Disks.{AreOrphansAnswered, AreOrphansAsRecorded, AreOrphansFitting}
use Rattle.laws_facts.specs.CallFacts.{IsOwnerKept}
use Rattle.laws_facts.specs.Facts.{Holds}
use Rattle.laws_facts.specs.OpenCalls.{fits_orphan, fits_owner}
use Rattle.laws_items.proofs.OwnerLemmas.{same_owner_is}
use Rattle.laws_moves.specs.Parts.{Forgotten, IsKeptByParts, Lost, Noted, Performed, Written}
use Rattle.laws_row_facts.specs.Words.{where_any}
use Rattle.laws_rows.specs.Rightful.{done_with}
use Rattle.laws_slots.proofs.OrphanCases.{orphan_kept}
use Rattle.laws_slots.specs.Orphans.{is_orphan_as_recorded, orphan_answered}

same_disk : (d : ℕ) → same_owner (Disk d) (Disk d) ≡ true
same_disk d = eq-eqb d d refl

-- ---- what the cloud does of a call

module _ (outside : Outside) (m : Moment) (h : Holds m) (did : Did) (call : OpenCall) (is : m.calls did.n ≡ Some call)
    (none : call.did ≡ None) (step : CallStep outside.built m.effects call.begin.call did.effect did.answer) where
  left_apart : (d : ℕ) → call.begin.owner ≢ Disk d
      → Leaves m.effects (performing m did).effects d (m.known.orphan d)
  left_apart d apart x doubts recorded =
      (λ j. where_any (is_orphan_as_recorded (done_now m did call is j) d) x) ∙ by did.effect
    where
      by : (has : Bool)
          → where_any (is_orphan_as_recorded (done_with has m.effects (made_by m.known call.begin)) d) x ≡ true
      by true = others m h d did.n call is apart x doubts recorded
      by false = recorded

  own_answered : (d : ℕ) → call.begin.owner ≡ Disk d → (answer : Answer)
      → CallStep outside.built m.effects call.begin.call did.effect answer
      → where_any (is_orphan_as_recorded (performing m did).effects d)
      (option_and_then (orphan_answered call.begin.call answer) (m.known.orphan d)) ≡ true
  own_answered d own answer step =
      by (m.known.orphan d) refl
      (subst (λ owner. fits_owner m.known call.begin owner ≡ true) own (h.performed did.n call is).fits_owner)
    where
      by : (orphan : Option Orphan) → m.known.orphan d ≡ orphan
          → holds (fits_orphan call.begin.n call.begin.call d) orphan ≡ true
          → where_any (is_orphan_as_recorded (performing m did).effects d)
          (option_and_then (orphan_answered call.begin.call answer) (m.known.orphan d)) ≡ true
      by None at fits = absurd (false≢true fits)
      by (Some it) at fits =
          (λ j. where_any (is_orphan_as_recorded (done_now m did call is j) d)
          (option_and_then (orphan_answered call.begin.call answer) (at j)))
          ∙ ((λ j. where_any (is_orphan_as_recorded (done_with did.effect m.effects (record {
            n = call.begin.n;
            owner = own j;
            dep = dep_of m.known (own j);
            call = call.begin.call;
          })) d)
          (orphan_answered call.begin.call answer (sym began.begun j)))
          ∙ orphan_kept outside.built m.effects d began.was call.begin.n (dep_of m.known (Disk d)) call.begin.call
          did.effect answer (began.recorded recorded (not_taken m h did.n call is none)) began.is_call
          (not_taken m h did.n call is none) step)
        where
          began : OrphanBegan m.effects call.begin.n call.begin.call d it
          began = orphan_began m.effects call.begin.n d it call.begin.call fits

          recorded : is_orphan_as_recorded m.effects d it ≡ true
          recorded = sym (λ j. where_any (is_orphan_as_recorded m.effects d) (at j)) ∙ (h.disks d).orphan

  failed : (d : ℕ) (orphan : Option Orphan)
      → option_and_then (orphan_answered call.begin.call answers.Failed) orphan ≡ orphan
  failed d (Some it) = failed_orphan call.begin.call it
  failed d None = refl

  orphans_performed : AreOrphansAsRecorded (performing m did)
  orphans_performed d = by (same_owner call.begin.owner (Disk d)) refl
    where
      by : (same : Bool) → same_owner call.begin.owner (Disk d) ≡ same
          → where_any (is_orphan_as_recorded (performing m did).effects d) (m.known.orphan d) ≡ true
      by true same =
          sym (λ j. where_any (is_orphan_as_recorded (performing m did).effects d) (failed d (m.known.orphan d) j))
          ∙ own_answered d (same_owner_is call.begin.owner (Disk d) same) answers.Failed
          (failed_instead outside.built m.effects call.begin.call did.effect did.answer step)
      by false other =
          left_apart d (λ same. false≢true (sym other ∙ ((λ j. same_owner (same j) (Disk d)) ∙ same_disk d)))
          (m.known.orphan d) (doubts_itself (m.known.orphan d)) (h.disks d).orphan

  -- what another open call leaves
  answered_left : (n : ℕ) (that : OpenCall) (d : ℕ) → m.calls n ≡ Some that → that.begin.owner ≡ Disk d
      → eqb did.n n ≡ false → (told : Option Did) → IsOwnerKept m that.begin told (Disk d)
      → IsOwnerKept (performing m did) that.begin told (Disk d)
  answered_left n that d now own other (Some told) kept =
      left_apart d (λ same. false≢true (sym other
      ∙ eq-eqb did.n n ((h.known.calls n that now).one_call did.n call is (same ∙ sym own))))
      (option_and_then (orphan_answered that.begin.call told.answer) (m.known.orphan d))
      (doubts_answered that.begin.call told.answer (m.known.orphan d)) kept
  answered_left n that d now own other None kept = tt

  answers_performed : AreOrphansAnswered (performing m did)
  answers_performed n that d now own = by (eqb did.n n) refl now
    where
      performed : Some (record call { did = Some did }) ≡ Some that → record call { did = Some did } ≡ that
      performed now = cc

      by : (same : Bool) → eqb did.n n ≡ same
          → (if same then performed_call did (m.calls did.n) else m.calls n) ≡ Some that
          → IsOwnerKept (performing m did) that.begin that.did (Disk d)
      by true same now =
          let it : record call { did = Some did } ≡ that =
          performed (sym (λ j. performed_call did (is j)) ∙ now) in
          subst (λ (it : OpenCall). IsOwnerKept (performing m did) it.begin it.did (Disk d)) it
          (own_answered d ((λ j. (it j).begin.owner) ∙ own) did.answer step)
      by false other now =
          answered_left n that d now own other that.did
          (subst (λ owner. IsOwnerKept m that.begin that.did owner) own (h.performed n that now).owner_kept)

  fitting_performed : AreOrphansFitting (performing m did)
  fitting_performed n that d now own = by (eqb did.n n) now
    where
      performed : Some (record call { did = Some did }) ≡ Some that → record call { did = Some did } ≡ that
      performed now = cc

      by : (same : Bool) → (if same then performed_call did (m.calls did.n) else m.calls n) ≡ Some that
          → fits_owner m.known that.begin (Disk d) ≡ true
      by true now =
          let it : record call { did = Some did } ≡ that =
          performed (sym (λ j. performed_call did (is j)) ∙ now) in
          sym (λ j. fits_owner m.known (it j).begin (Disk d))
          ∙ subst (λ owner. fits_owner m.known call.begin owner ≡ true) ((λ j. (it j).begin.owner) ∙ own)
          (h.performed did.n call is).fits_owner
      by false now =
          subst (λ owner. fits_owner m.known that.begin owner ≡ true) own (h.performed n that now).fits_owner

-- ---- parts

pub orphans_kept : IsKeptByParts AreOrphansAsRecorded
orphans_kept outside m (Performed did) may h = by (m.calls did.n) refl may
  where
    by : (that : Option OpenCall) → m.calls did.n ≡ that → PerformsOpen outside m.effects did that
        → AreOrphansAsRecorded (performing m did)
    by (Some call) is performs =
        orphans_performed outside m h did call is (not_done call.did performs.not_yet) performs.step
    by None is performs = absurd performs
orphans_kept outside m (Written w) may h =
    λ d. written m.effects d (m.known.orphan d) w (m.known.orphan d) (doubts_itself (m.known.orphan d))
    (h.disks d).orphan
orphans_kept outside m (Lost loss) may h =
    λ d. lost m.effects d (m.known.orphan d) loss (m.known.orphan d) (doubts_itself (m.known.orphan d))
    (h.disks d).orphan
orphans_kept outside m (Noted e) may h = orphans_noted outside m e may.0 may.1 h
orphans_kept outside m Forgotten may h = λ d. (h.disks d).orphan

-- the facts of an open call that stays as it is
fits_as : (m : Moment) (h : Holds m) (n : ℕ) (call : OpenCall) (d : ℕ) → m.calls n ≡ Some call
    → call.begin.owner ≡ Disk d → fits_owner m.known call.begin (Disk d) ≡ true
fits_as m h n call d is own =
    subst (λ owner. fits_owner m.known call.begin owner ≡ true) own (h.performed n call is).fits_owner

pub fitting_kept : IsKeptByParts AreOrphansFitting
fitting_kept outside m (Performed did) may h = by (m.calls did.n) refl may
  where
    by : (that : Option OpenCall) → m.calls did.n ≡ that → PerformsOpen outside m.effects did that
        → AreOrphansFitting (performing m did)
    by (Some call) is performs =
        fitting_performed outside m h did call is (not_done call.did performs.not_yet) performs.step
    by None is performs = absurd performs
fitting_kept outside m (Written w) may h = fits_as m h
fitting_kept outside m (Lost loss) may h = fits_as m h
fitting_kept outside m (Noted e) may h = fitting_noted outside m e may.1 h
fitting_kept outside m Forgotten may h = λ n call d is own. absurd cc

answered_as : (m : Moment) (h : Holds m) (later : Moment) → later.known ≡ m.known → later.calls ≡ m.calls
    → ((d : ℕ) → Leaves m.effects later.effects d (m.known.orphan d)) → AreOrphansAnswered later
answered_as m h later same calls leaves n call d is own =
    by call.did
    (subst (λ owner. IsOwnerKept m call.begin call.did owner) own
    (h.performed n call (sym (λ j. calls j n) ∙ is)).owner_kept)
  where
    by : (did : Option Did) → IsOwnerKept m call.begin did (Disk d) → IsOwnerKept later call.begin did (Disk d)
    by (Some did) kept =
        (λ j. where_any (is_orphan_as_recorded later.effects d)
        (option_and_then (orphan_answered call.begin.call did.answer) ((same j).orphan d)))
        ∙ leaves d (option_and_then (orphan_answered call.begin.call did.answer) (m.known.orphan d))
        (doubts_answered call.begin.call did.answer (m.known.orphan d)) kept
    by None kept = tt

pub answered_kept : IsKeptByParts AreOrphansAnswered
answered_kept outside m (Performed did) may h = by (m.calls did.n) refl may
  where
    by : (that : Option OpenCall) → m.calls did.n ≡ that → PerformsOpen outside m.effects did that
        → AreOrphansAnswered (performing m did)
    by (Some call) is performs =
        answers_performed outside m h did call is (not_done call.did performs.not_yet) performs.step
    by None is performs = absurd performs
answered_kept outside m (Written w) may h =
    answered_as m h (record m { effects = m.effects ++ entries.Write w ∷ [] }) refl refl
    (λ d. written m.effects d (m.known.orphan d) w)
answered_kept outside m (Lost loss) may h =
    answered_as m h (losing m loss) refl refl (λ d. lost m.effects d (m.known.orphan d) loss)
answered_kept outside m (Noted e) may h = answered_noted outside m e may.1 h
answered_kept outside m Forgotten may h = λ n call d is own. absurd cc
