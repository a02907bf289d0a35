-- A disk that a call makes is recorded once: it is in doubt of that call.
use Rattle.std.proofs.Common.{◌≡◌, ◌∙◌, ℕ, ◌+◌, ◌≤◌, Bool, true, false, Option, Some, None, [], ◌∷◌, ◌++◌, refl, sym}
use Rattle.std.proofs.Common.{subst, arith}
use Rattle.std.specs.Prelude.{◌&&◌, is_some}
use Rattle.std.specs.Option.{option_eq}
use Rattle.std.proofs.lemmas.Bool.{and_parts, eq-eqb, false≢true}
use Rattle.bosh_base.specs.Cloud.{creates_disk, disk_creation, disks_created}
use Rattle.bosh_base.specs.declared.call.Call.{Call}
use Rattle.bosh_base.specs.declared.call.Call.TheVariants as calls
use Rattle.bosh_base.specs.declared.entry.Effect.{Effect}
use Rattle.bosh_base.specs.declared.entry.Entry.TheVariants as entries
use Rattle.bosh_base.specs.declared.inst.Inst.{Inst}
use Rattle.bosh_base.specs.declared.owner.Owner.{Owner}
use Rattle.bosh_base.specs.declared.owner.Owner.TheVariants.{Compile, Disk, Instance}
use Rattle.bosh_base.specs.declared.snapshot.Orphan.{Orphan}
use Rattle.bosh_history.specs.Known.{Slot}
use Rattle.bosh_history.specs.Moments.{Moment, OpenCall}
use Rattle.bosh_history.specs.Ties.{is_making, is_wanted_as}
use Rattle.bosh_history.specs.Words.{holds}
use Rattle.bosh_rows.specs.After.{leaves_doubt}
use Rattle.bosh_rows.specs.Tied.{is_made_for, one_if}
use Rattle.laws_cloud.proofs.CallLemmas.{doubt_is}
use Rattle.laws_cloud.proofs.DoneLemmas.{made_by}
use Rattle.laws_disks_kept.proofs.CountLemmas.{count_unrecorded, Counted, Kept, row_kept}
use Rattle.laws_disks_kept.proofs.GrowthLemmas.{Makes}
use Rattle.laws_effects.proofs.CreationLemmas.{disk_creation_next}
use Rattle.laws_facts.specs.Facts.{Holds}
use Rattle.laws_facts.specs.OpenCalls.{call_of_row, fits_known, fits_slot, is_on_orphan}
use Rattle.laws_facts.specs.Owners.{is_doubt}
use Rattle.laws_row_facts.specs.Calls.{row_before}
use Rattle.laws_row_facts.specs.Words.{implies, same_call, where_any}
use Rattle.laws_row_frames.proofs.WithinLemmas.{are_within}
use Rattle.laws_rows.specs.SoundDisks.{is_recorded}
use Rattle.laws_slots.proofs.OrphanCases.{parts_of}
use Rattle.laws_slots.specs.Orphans.{is_orphan_as_recorded}

slot_makes : (n : ℕ) (call : Call) (it : Slot) → fits_slot n call it ≡ true → creates_disk call ≡ false
slot_makes n (calls.CreateVm make disks) it fits = refl
slot_makes n (calls.DeleteVm v) it fits = refl
slot_makes n (calls.FindVm agent) it fits = refl
slot_makes n (calls.HasVm v) it fits = refl
slot_makes n (calls.CompilePackage v work deps) it fits = refl
slot_makes n call it fits = absurd (false≢true fits)

orphan_makes : (call : Call) (d : ℕ) → is_on_orphan call d ≡ true → creates_disk call ≡ false
orphan_makes (calls.DeleteDisk disk) d on = refl
orphan_makes (calls.HasDisk disk) d on = refl
orphan_makes call d on = absurd (false≢true on)

-- a call that makes a disk leaves a doubt, which makes it
making : (n : ℕ) (call : Call) → creates_disk call ≡ true
    → (leaves_doubt call ≡ true) × (is_making n (Some (record { n = n; call = call })) ≡ true)
making n (calls.CreateDisk want v) makes = (refl, (λ j. eq-eqb n n refl j && true))
making n call makes = absurd (false≢true makes)

module _ (m : Moment) (h : Holds m) (d : ℕ) (last : d ≡ disks_created m.effects + 1) where
  -- nothing is recorded of the next disk
  next_unrecorded : (i : Inst) → is_recorded (m.known.row i).disks d ≡ false
  next_unrecorded i = by (is_recorded (m.known.row i).disks d) refl
    where
      high : (o : Option Effect) → disk_creation m.effects d ≡ o → is_made_for (Instance i) o ≡ true → ⊥
      high (Some e) is made =
          let low : d ≤ disks_created m.effects = (are_within m.effects).disks d e is in absurd (omega arith)
      high None is made = false≢true made

      by : (there : Bool) → is_recorded (m.known.row i).disks d ≡ there → there ≡ false
      by false none = refl
      by true there =
          let kept : Kept m.effects i d = row_kept m h i d there in
          absurd (high (disk_creation m.effects d) refl kept.made)

  next_no_orphan : is_some (m.known.orphan d) ≡ false
  next_no_orphan = by (m.known.orphan d) refl
    where
      high : (it : Orphan) (o : Option Effect) → disk_creation m.effects d ≡ o → is_wanted_as it o ≡ true → ⊥
      high it (Some e) is made =
          let low : d ≤ disks_created m.effects = (are_within m.effects).disks d e is in absurd (omega arith)
      high it None is made = false≢true made

      by : (o : Option Orphan) → m.known.orphan d ≡ o → is_some o ≡ false
      by None at = refl
      by (Some it) at =
          absurd (high it (disk_creation m.effects d) refl
          (parts_of m.effects d it
          (sym (λ j. where_any (is_orphan_as_recorded m.effects d) (at j)) ∙ (h.disks d).orphan)).made)

module _ (m : Moment) (h : Holds m) (n : ℕ) (call : OpenCall) (is : m.calls n ≡ Some call) (none : call.did ≡ None) where
  -- only a call of an instance makes disks
  of_instance : creates_disk call.begin.call ≡ true → (i : Inst) × (call.begin.owner ≡ Instance i)
  of_instance makes = by call.begin.owner refl (h.known.calls n call is).fits
    where
      of_slot : (slot : Option Slot) → holds (fits_slot call.begin.n call.begin.call) slot ≡ true → ⊥
      of_slot (Some it) fits = false≢true (sym (slot_makes call.begin.n call.begin.call it fits) ∙ makes)
      of_slot None fits = false≢true fits

      by : (owner : Owner) → call.begin.owner ≡ owner → fits_known m.known call.begin call.begin.owner ≡ true
          → (i : Inst) × (call.begin.owner ≡ Instance i)
      by (Instance i) own fits = (i, own)
      by (Compile t s) own fits =
          absurd (of_slot (m.known.slot t s)
          (subst (λ owner. fits_known m.known call.begin owner ≡ true) own fits))
      by (Disk d) own fits =
          absurd (false≢true (sym (orphan_makes call.begin.call d
          (and_parts (is_on_orphan call.begin.call d) _
          (subst (λ owner. fits_known m.known call.begin owner ≡ true) own fits)).0) ∙ makes))

  doubted : (i : Inst) → call.begin.owner ≡ Instance i → leaves_doubt call.begin.call ≡ true
      → (m.known.row i).doubt ≡ Some (record { n = call.begin.n; call = call.begin.call })
  doubted i own leaves =
      doubt_is call.begin.n call.begin.call (m.known.row i).doubt
      (sym (λ j. implies (leaves j) (is_doubt call.begin.n call.begin.call (m.known.row i).doubt))
      ∙ (and_parts (implies (leaves_doubt call.begin.call)
      (is_doubt call.begin.n call.begin.call (m.known.row i).doubt)) _
      (and_parts (option_eq same_call
      (call_of_row (m.known.task call.begin.task) i (row_before call.begin.call (m.known.row i)))
      (Some call.begin.call)) _
      (subst (λ owner. fits_known m.known call.begin owner ≡ true) own (h.known.calls n call is).fits)).1).0)

  pub new_counted : (d : ℕ) → Makes m.effects (entries.Effect (made_by m.known call.begin)) d
      → Counted (m.effects ++ entries.Effect (made_by m.known call.begin) ∷ []) m.known.row
      (is_some (m.known.orphan d)) d
  new_counted d makes =
      let (i, own) = of_instance makes.0 in
      let (leaves, one) = making call.begin.n call.begin.call makes.0 in
      record {
        effect = made_by m.known call.begin;
        made =
            (λ j. disk_creation (m.effects ++ entries.Effect (made_by m.known call.begin) ∷ []) (makes.1 j))
            ∙ disk_creation_next m.effects (made_by m.known call.begin) makes.0;
        inst = i;
        owner = own;
        once =
            (λ j. count_unrecorded (m.known.row i).disks d (next_unrecorded m h d makes.1 i) j
            + one_if (((λ k. is_making call.begin.n (doubted i own leaves k)) ∙ one) j)
            + one_if (next_no_orphan m h d makes.1 j));
      }
