-- Each part of a move keeps what each answer leaves of how often the disks of its owner are recorded.
use Rattle.std.proofs.Common.{◌≡◌, ◌∙◌, ℕ, ◌≤◌, Bool, true, false, Option, Some, None, [], ◌∷◌, ◌++◌, refl, sym}
use Rattle.std.proofs.Common.{subst, inl, inr, arith, ◌+◌}
use Rattle.std.specs.Prelude.{◌⊎◌, ◌≢◌, eqb, if◌then◌else◌, is_some}
use Rattle.std.proofs.lemmas.Bool.{and_parts, eq-eqb, false≢true}
use Rattle.bosh_base.specs.CallStep.{CallStep}
use Rattle.bosh_base.specs.Cloud.{disk_creation, disks_created, is_disk_creation, is_disk_there}
use Rattle.bosh_base.specs.declared.entry.Begin.{Begin}
use Rattle.bosh_base.specs.declared.entry.Effect.{Effect}
use Rattle.bosh_base.specs.declared.entry.Entry.{Entry}
use Rattle.bosh_base.specs.declared.entry.Entry.TheVariants as entries
use Rattle.bosh_base.specs.declared.inst.Inst.{Inst}
use Rattle.bosh_base.specs.declared.moves.Did.{Did}
use Rattle.bosh_base.specs.declared.owner.Owner.{Owner}
use Rattle.bosh_base.specs.declared.owner.Owner.TheVariants.{Compile, Disk, Instance}
use Rattle.bosh_history.specs.Moments.{losing, Moment, OpenCall, performed_call, performing}
use Rattle.bosh_history.specs.Notes.{Outside}
use Rattle.bosh_history.specs.Permitted.{PerformsOpen}
use Rattle.laws_cloud.proofs.DoneLemmas.{done_now, made_by}
use Rattle.laws_compile_machines_kept.proofs.KeptLemmas.{not_done}
use Rattle.laws_disks_kept.proofs.AnswerNotes.{answers_noted, Grows, keeps_as, same_grows, same_owner_self}
use Rattle.laws_disks_kept.proofs.CountLemmas.{Counted, counted}
use Rattle.laws_disks_kept.proofs.GrowthLemmas.{made_before, Makes, there_before}
use Rattle.laws_disks_kept.proofs.InstanceAnswers.{instance_keeps}
use Rattle.laws_disks_kept.proofs.OnceAnswers.{answers_keep, AnswersKeep, KeepsOwn}
use Rattle.laws_disks_kept.proofs.OrphanAnswers.{gone_now, orphan_low}
use Rattle.laws_effects.proofs.CreationLemmas.{disk_creation_next}
use Rattle.laws_facts.specs.Facts.{Holds}
use Rattle.laws_facts.specs.OpenCalls.{fits_known, is_on_orphan}
use Rattle.laws_moves.specs.Parts.{Forgotten, IsKeptByParts, Lost, Noted, Performed, Written}
use Rattle.laws_rows.specs.Rightful.{done_with}

-- ---- one more entry of the cloud

module _ (m : Moment) (h : Holds m) (x : Entry) where
  known : (d : ℕ) → is_disk_there m.effects d ≡ true → (e : Effect) × (disk_creation m.effects d ≡ Some e)
  known d there =
      let it : Counted m.effects m.known.row (is_some (m.known.orphan d)) d =
      counted m.effects m.known.row (is_some (m.known.orphan d)) d (h.disks d).once there in
      (it.effect, it.made)

  -- it makes no disk for the instance
  instance_grows : (i : Inst)
      → ((d : ℕ) (e : Effect) → Makes m.effects x d → disk_creation (m.effects ++ x ∷ []) d ≡ Some e
      → e.owner ≢ Instance i)
      → Grows m.effects (m.effects ++ x ∷ []) (Instance i)
  instance_grows i others d e there made own = by (there_before m.effects x d there)
    where
      by : (is_disk_there m.effects d ≡ true) ⊎ Makes m.effects x d
          → (is_disk_there m.effects d ≡ true) × (disk_creation m.effects d ≡ Some e)
      by (inl was) =
          let (old, before) = known d was in
          (was, before ∙ (sym (made_before m.effects x d old before) ∙ made))
      by (inr makes) = absurd (others d e makes made own)

  -- a disk that was orphaned is not made again
  disk_grows : (d : ℕ) → d ≤ disks_created m.effects → Grows m.effects (m.effects ++ x ∷ []) (Disk d)
  disk_grows d low gone = by (is_disk_there (m.effects ++ x ∷ []) d) refl
    where
      of : (is_disk_there m.effects d ≡ true) ⊎ Makes m.effects x d → ⊥
      of (inl was) = false≢true (sym gone ∙ was)
      of (inr makes) = let last : d ≡ disks_created m.effects + 1 = makes.1 in absurd (omega arith)

      by : (there : Bool) → is_disk_there (m.effects ++ x ∷ []) d ≡ there → there ≡ false
      by false there = refl
      by true there = absurd (of (there_before m.effects x d there))

-- ---- what the cloud does of a call

module _ (outside : Outside) (m : Moment) (h : Holds m) (did : Did) (call : OpenCall) (is : m.calls did.n ≡ Some call)
    (none : call.did ≡ None) (step : CallStep outside.built m.effects call.begin.call did.effect did.answer) where
  -- its own
  own_keeps : KeepsOwn (performing m did).effects m.known call.begin did.answer call.begin.owner
  own_keeps = by call.begin.owner refl
    where
      of : (owner : Owner) → call.begin.owner ≡ owner
          → KeepsOwn (performing m did).effects m.known call.begin did.answer owner
      of (Instance i) own = instance_keeps outside m h did call is none step i own
      of (Compile t s) own = tt
      of (Disk d) own =
          λ shows.
          (λ j. is_disk_there (done_now m did call is j) d)
          ∙ gone_now outside.built m.effects d (made_by m.known call.begin) did.effect did.answer call.begin.call
          refl
          (and_parts (is_on_orphan call.begin.call d) _
          (subst (λ owner. fits_known m.known call.begin owner ≡ true) own (h.known.calls did.n call is).fits)).0
          step shows

      by : (owner : Owner) → call.begin.owner ≡ owner
          → KeepsOwn (performing m did).effects m.known call.begin did.answer call.begin.owner
      by owner own =
          subst (KeepsOwn (performing m did).effects m.known call.begin did.answer) (sym own) (of owner own)

  -- another's
  performed_grows : (n : ℕ) (that : OpenCall) → m.calls n ≡ Some that → call.begin.owner ≢ that.begin.owner
      → Grows m.effects (performing m did).effects that.begin.owner
  performed_grows n that now apart =
      subst (λ xs. Grows m.effects xs that.begin.owner) (sym (done_now m did call is)) (by did.effect)
    where
      made : Effect
      made = made_by m.known call.begin

      of : (owner : Owner) → that.begin.owner ≡ owner → Grows m.effects (m.effects ++ entries.Effect made ∷ []) owner
      of (Instance i) own =
          instance_grows m h (entries.Effect made) i
          (λ d e makes is mine.
          let both : Some made ≡ Some e =
          sym (disk_creation_next m.effects made makes.0)
          ∙ ((λ j. disk_creation (m.effects ++ entries.Effect made ∷ []) (sym makes.1 j)) ∙ is) in
          let same : made ≡ e = cc in
          apart ((λ j. (same j).owner) ∙ (mine ∙ sym own)))
      of (Compile t s) own = tt
      of (Disk d) own = disk_grows m h (entries.Effect made) d (orphan_low m h n that d now own)

      by : (has : Bool) → Grows m.effects (done_with has m.effects made) that.begin.owner
      by true = subst (Grows m.effects (m.effects ++ entries.Effect made ∷ [])) refl (of that.begin.owner refl)
      by false = same_grows m.effects that.begin.owner

  answers_performed : AnswersKeep (performing m did)
  answers_performed n that told now is_told = by (eqb did.n n) refl now
    where
      performed : Some (record call { did = Some did }) ≡ Some that → record call { did = Some did } ≡ that
      performed now = cc

      by : (same : Bool) → eqb did.n n ≡ same
          → (if same then performed_call did (m.calls did.n) else m.calls n) ≡ Some that
          → KeepsOwn (performing m did).effects m.known that.begin told.answer that.begin.owner
      by true same now =
          let it : record call { did = Some did } ≡ that = performed (sym (λ j. performed_call did (is j)) ∙ now) in
          let both : Some did ≡ Some told = (λ j. (it j).did) ∙ is_told in
          let one : did ≡ told = cc in
          subst (λ (told : Did). KeepsOwn (performing m did).effects m.known that.begin told.answer that.begin.owner)
          one
          (subst (λ (begin : Begin). KeepsOwn (performing m did).effects m.known begin did.answer begin.owner)
          (λ j. (it j).begin) own_keeps)
      by false other now =
          keeps_as m.effects (performing m did).effects m.known m.known that.begin told.answer that.begin.owner
          (same_owner_self m.known that.begin.owner)
          (performed_grows n that now
          (λ same. false≢true (sym other
          ∙ eq-eqb did.n n ((h.known.calls n that now).one_call did.n call is same))))
          (answers_keep m h n that told now is_told)

-- ---- parts

-- what is no creation of a disk
others_grow : (m : Moment) (h : Holds m) (x : Entry) → is_disk_creation x ≡ false → (n : ℕ) (call : OpenCall)
    → m.calls n ≡ Some call → (owner : Owner) → call.begin.owner ≡ owner
    → Grows m.effects (m.effects ++ x ∷ []) owner
others_grow m h x none n call is (Instance i) own =
    instance_grows m h x i (λ d e makes made mine. false≢true (sym none ∙ makes.0))
others_grow m h x none n call is (Compile t s) own = tt
others_grow m h x none n call is (Disk d) own = disk_grows m h x d (orphan_low m h n call d is own)

answers_grown : (m : Moment) (h : Holds m) (x : Entry) → is_disk_creation x ≡ false → (later : Moment)
    → later.known ≡ m.known → later.calls ≡ m.calls → later.effects ≡ (m.effects ++ x ∷ []) → AnswersKeep later
answers_grown m h x none later same calls effects n call did is told =
    let before : m.calls n ≡ Some call = sym (λ j. calls j n) ∙ is in
    subst (λ xs. KeepsOwn xs later.known call.begin did.answer call.begin.owner) (sym effects)
    (subst (λ k. KeepsOwn (m.effects ++ x ∷ []) k call.begin did.answer call.begin.owner) (sym same)
    (keeps_as m.effects (m.effects ++ x ∷ []) m.known m.known call.begin did.answer call.begin.owner
    (same_owner_self m.known call.begin.owner)
    (others_grow m h x none n call before call.begin.owner refl) (answers_keep m h n call did before told)))

pub answers_kept : IsKeptByParts AnswersKeep
answers_kept outside m (Performed did) may h = by (m.calls did.n) refl may
  where
    by : (that : Option OpenCall) → m.calls did.n ≡ that → PerformsOpen outside m.effects did that
        → AnswersKeep (performing m did)
    by (Some call) is performs =
        answers_performed outside m h did call is (not_done call.did performs.not_yet) performs.step
    by None is performs = absurd performs
answers_kept outside m (Written w) may h =
    answers_grown m h (entries.Write w) refl (record m { effects = m.effects ++ entries.Write w ∷ [] }) refl refl refl
answers_kept outside m (Lost loss) may h = answers_grown m h (entries.Lost loss) refl (losing m loss) refl refl refl
answers_kept outside m (Noted e) may h = answers_noted outside m e may.1 h
answers_kept outside m Forgotten may h = λ n call did is told. absurd cc
