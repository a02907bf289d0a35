-- The deployments of owners stay, of those with an open call and of those with a call in doubt; and a call in doubt of a
-- row is the row's own.
use Rattle.std.proofs.Common.{◌≡◌, ◌∙◌, ℕ, Bool, true, false, ◌&&◌, not, Option, Some, None}
use Rattle.std.proofs.Common.{ap, refl, sym, subst}
use Rattle.std.specs.Prelude.{◌≤◌, eqb, if◌then◌else◌, is_some, nat_le}
use Rattle.std.specs.List.{list_all}
use Rattle.std.specs.Option.{option_and_then, option_eq, option_map}
use Rattle.std.specs.Str.{bytes_eq}
use Rattle.std.proofs.lemmas.Bool.{and_parts, eqb-true, false≢true, leb-true}
use Rattle.bosh_base.specs.Cloud.{is_disk_there}
use Rattle.bosh_base.specs.declared.call.Call.{Call}
use Rattle.bosh_base.specs.declared.call.Call.TheVariants.{DeleteDisk}
use Rattle.bosh_base.specs.declared.entry.Begin.{Begin}
use Rattle.bosh_base.specs.declared.entry.Entry.{Entry}
use Rattle.bosh_base.specs.declared.entry.Entry.TheVariants as entries
use Rattle.bosh_base.specs.declared.inst.Inst.{Inst}
use Rattle.bosh_base.specs.declared.owner.Owner.{Owner}
use Rattle.bosh_base.specs.declared.owner.Owner.TheVariants.{Instance, Compile, Disk}
use Rattle.bosh_base.specs.declared.row.DiskRow.{DiskRow}
use Rattle.bosh_base.specs.declared.row.Doubt.{Doubt}
use Rattle.bosh_base.specs.declared.snapshot.Orphan.{Orphan}
use Rattle.bosh_history.specs.Calls.{begins, orphan_begun}
use Rattle.bosh_history.specs.Known.{Known, Slot, dep_named}
use Rattle.bosh_history.specs.Learn.{learn}
use Rattle.bosh_history.specs.Moments.{Moment, OpenCall, dep_of, dep_of_orphan}
use Rattle.bosh_history.specs.Notes.{MayNote, Outside}
use Rattle.bosh_rows.specs.Tied.{is_disk_kept}
use Rattle.laws_answered_rows.proofs.OwnLemmas.{created_parts}
use Rattle.laws_cloud.proofs.DiskLemmas.{recorded_in, without}
use Rattle.laws_cloud.proofs.OrphanFrames.{Becomes, comes, leaves, orphan_note, remains}
use Rattle.laws_facts.proofs.DepLemmas.{dep_begin}
use Rattle.laws_facts.proofs.MadeLemmas.{same_tasks}
use Rattle.laws_facts.specs.Disks.{is_recorded_once}
use Rattle.laws_facts.specs.Facts.{Holds}
use Rattle.laws_facts.specs.Numbers.{EffectFacts, is_open_for}
use Rattle.laws_facts.specs.OpenCalls.{fits_known, fits_slot, is_on_orphan}
use Rattle.laws_facts.specs.Owners.{doubt_of}
use Rattle.laws_items.proofs.DoneLemmas.{some_from}
use Rattle.laws_items.proofs.ItemFrames.{was_noted}
use Rattle.laws_items.proofs.ItemLemmas.{LeavesOpen, spares}
use Rattle.laws_items.proofs.MarkLemmas.{Spares}
use Rattle.laws_items.proofs.OrphanFrames.{orphan_stays}
use Rattle.laws_items.proofs.RowFrames.{is_beginning}
use Rattle.laws_items.proofs.SlotFrames.{SameWork, WasThere, was_answered}
use Rattle.laws_row_facts.specs.Numbers.{IsDoubtItsOwn, is_effect_of}
use Rattle.laws_row_facts.specs.Words.{where_any}
use Rattle.laws_rows.proofs.ListLemmas.{IsIn, all_in}
use Rattle.laws_rows.specs.SoundDisks.{is_recorded}

-- ---- words

pub where_some : {X : Type 0} (test : X → Bool) (o : Option X) (x : X) → where_any test o ≡ true → o ≡ Some x
    → test x ≡ true
where_some test o x all is = sym (ap (where_any test) is) ∙ all

pub where_first : {X : Type 0} (p q : X → Bool) (o : Option X) → where_any (λ x. p x && q x) o ≡ true
    → where_any p o ≡ true
where_first p q (Some x) is = (and_parts (p x) (q x) is).0
where_first p q None is = refl

pub where_each : {X : Type 0} (test : X → Bool) (o : Option X) → ((x : X) → o ≡ Some x → test x ≡ true)
    → where_any test o ≡ true
where_each test (Some x) each = each x refl
where_each test None each = refl

-- ---- a row and its call in doubt

-- what is in doubt of a row is the row's own
pub doubt_of_row : (m : Moment) → EffectFacts m → ((i : Inst) → (m.known.row i).inst ≡ i) → (i : Inst)
    → IsDoubtItsOwn m.effects (m.known.row i)
doubt_of_row m effects own_row i =
    (λ j. where_any
    (λ d. list_all (is_effect_of d.n (Instance (own_row i j)) (own_row i j).dep d.call) m.effects)
    (m.known.row i).doubt)
    ∙ where_first (λ d. list_all (is_effect_of d.n (Instance i) i.dep d.call) m.effects)
    (λ d. where_any (is_open_for (Instance i) d.call) (m.calls d.n)) (m.known.row i).doubt
    (effects.doubts_own (Instance i))

module _ (m : Moment) (h : Holds m) where
  pub row_doubt : (i : Inst) → IsDoubtItsOwn m.effects (m.known.row i)
  row_doubt = doubt_of_row m h.effects h.known.lists.own_row

  -- a disk of a row is not orphaned
  pub not_orphaned : (i : Inst) (d : ℕ) → is_recorded (m.known.row i).disks d ≡ true
      → is_some (m.known.orphan d) ≡ true → ⊥
  not_orphaned i d has some =
      let it : (x : DiskRow) × (IsIn x (m.known.row i).disks) × (x.disk ≡ d) =
      recorded_in (m.known.row i).disks d has in
      let kept : is_disk_kept m.effects (m.known.row i) it.0 ≡ true =
      all_in (is_disk_kept m.effects (m.known.row i)) it.0 (m.known.row i).disks
      (created_parts m.effects (m.known.row i) (h.rows i).created).kept it.1 in
      let there : is_disk_there m.effects d ≡ true =
      ap (is_disk_there m.effects) (sym it.2) ∙ (and_parts (is_disk_there m.effects it.0.disk) _ kept).0 in
      let once : is_recorded_once m.effects m.known.row true d ≡ true =
      (λ j. is_recorded_once m.effects m.known.row (sym some j) d) ∙ (h.disks d).once in
      let none : not (is_recorded (m.known.row i).disks d) ≡ true =
      (and_parts (not (is_recorded (m.known.row i).disks d)) _
      (without m.effects m.known.row d there once i (h.known.lists.own_row i) (h.rows i).created (row_doubt i))).0 in
      false≢true (sym (ap not has) ∙ none)

  -- a compile machine is of a task that was opened
  pub slot_low : (t s : ℕ) (it : Slot) → m.known.slot t s ≡ Some it → t ≤ m.known.tasks
  slot_low t s it is =
      let own : (nat_le 1 t && (nat_le t m.known.tasks && option_eq bytes_eq (Some it.dep) (m.known.task t).dep)) ≡ true
      =
      where_some
      (λ it. nat_le 1 t && (nat_le t m.known.tasks && option_eq bytes_eq (Some it.dep) (m.known.task t).dep))
      (m.known.slot t s) it (h.known.numbers.of_tasks t s) is in
      leb-true t m.known.tasks
      (and_parts (nat_le t m.known.tasks) _ (and_parts (nat_le 1 t) _ own).1).0

-- ---- an entry

module _ (outside : Outside) (m : Moment) (h : Holds m) (e : Entry) (may : MayNote outside m e) where
  -- a disk that stays orphaned was of the same instance
  dep_disk : (d : ℕ) → is_some (m.known.orphan d) ≡ true → is_some ((learn m.known e).orphan d) ≡ true
      → dep_of_orphan ((learn m.known e).orphan d) ≡ dep_of_orphan (m.known.orphan d)
  dep_disk d some still = by (orphan_note outside m e d may)
    where
      by : Becomes m.known d (m.known.orphan d) ((learn m.known e).orphan d)
          → dep_of_orphan ((learn m.known e).orphan d) ≡ dep_of_orphan (m.known.orphan d)
      by (leaves none) = absurd (false≢true (sym (ap is_some none) ∙ still))
      by (comes i it is none has) = absurd (not_orphaned m h i d has some)
      by (remains was it old new same) =
          ap dep_of_orphan new ∙ ((λ j. (same j).dep) ∙ sym (ap dep_of_orphan old))

  -- the owner of a call that stays open
  pub dep_open : (n : ℕ) (call : OpenCall) → m.calls n ≡ Some call → LeavesOpen e n
      → dep_of (learn m.known e) call.begin.owner ≡ dep_of m.known call.begin.owner
  dep_open n call is other = by call.begin.owner refl
    where
      fits : (owner : Owner) → call.begin.owner ≡ owner → fits_known m.known call.begin owner ≡ true
      fits owner own =
          subst (λ (o : Owner). fits_known m.known call.begin o ≡ true) own (h.known.calls n call is).fits

      spared : (owner : Owner) → call.begin.owner ≡ owner → Spares m e owner
      spared owner own =
          subst (λ (o : Owner). Spares m e o) own (spares outside m h.known n call is e may other)

      slot_of : (t s : ℕ) (slot : Option Slot) → m.known.slot t s ≡ slot → is_some slot ≡ true → t ≤ m.known.tasks
      slot_of t s (Some it) at_slot some = slot_low m h t s it at_slot
      slot_of t s None at_slot some = absurd (false≢true some)

      by : (owner : Owner) → call.begin.owner ≡ owner → dep_of (learn m.known e) owner ≡ dep_of m.known owner
      by (Instance i) own = refl
      by (Compile t s) own =
          ap dep_named
          ((same_tasks outside m e may).dep t
          (slot_of t s (m.known.slot t s) refl
          (some_from (fits_slot call.begin.n call.begin.call) (m.known.slot t s) (fits (Compile t s) own))))
      by (Disk d) own =
          let some : is_some (m.known.orphan d) ≡ true =
          (and_parts (is_on_orphan call.begin.call d) (is_some (m.known.orphan d)) (fits (Disk d) own)).1 in
          dep_disk d some (orphan_stays outside m e d may (spared (Disk d) own) some)

  -- a compile machine that is there is of a task that was opened
  slot_was : (e_is : Entry) → e ≡ e_is → is_beginning e_is ≡ false → (t s : ℕ)
      → WasThere (m.known.slot t s) ((learn m.known e_is).slot t s)
  slot_was (entries.Begin b) same other t s = absurd (false≢true (sym other))
  slot_was (entries.End it) same other t s = was_answered it.answer (m.known.begun it.n) m.known t s
  slot_was (entries.Snapshot it) same other t s =
      absurd (subst (λ (x : Entry). MayNote outside m x) same may)
  slot_was entry same other t s =
      was_noted outside m entry (subst (λ (x : Entry). MayNote outside m x) same may) refl t s

  -- the owner of a call in doubt
  pub dep_doubt : is_beginning e ≡ false → (owner : Owner) (dt : Doubt) → doubt_of (learn m.known e) owner ≡ Some dt
      → dep_of (learn m.known e) owner ≡ dep_of m.known owner
  dep_doubt other (Instance i) dt is = refl
  dep_doubt other (Compile t s) dt is = by ((learn m.known e).slot t s) refl is
    where
      by : (slot : Option Slot) → (learn m.known e).slot t s ≡ slot
          → option_and_then (λ (it : Slot). it.doubt) slot ≡ Some dt
          → dep_of (learn m.known e) (Compile t s) ≡ dep_of m.known (Compile t s)
      by (Some now) at_slot doubted =
          let was : (it : Slot) × (m.known.slot t s ≡ Some it) × SameWork it now = slot_was e refl other t s now at_slot
          in
          ap dep_named ((same_tasks outside m e may).dep t (slot_low m h t s was.0 was.1))
      by None at_slot doubted = absurd cc
  dep_doubt other (Disk d) dt is = by (orphan_note outside m e d may)
    where
      none_here : (it : Option Orphan) → it ≡ None → option_and_then (λ (o : Orphan). o.doubt) it ≡ Some dt → ⊥
      none_here (Some it) none some = cc
      none_here None none some = cc

      no_doubt : (it : Orphan) → it.doubt ≡ None → (o : Option Orphan) → o ≡ Some it
          → option_and_then (λ (x : Orphan). x.doubt) o ≡ Some dt → ⊥
      no_doubt it none o same some =
          let doubted : it.doubt ≡ Some dt = sym (ap (option_and_then (λ (x : Orphan). x.doubt)) same) ∙ some in
          let both : None ≡ Some dt = sym none ∙ doubted in cc

      by : Becomes m.known d (m.known.orphan d) ((learn m.known e).orphan d)
          → dep_of (learn m.known e) (Disk d) ≡ dep_of m.known (Disk d)
      by (leaves none) = absurd (none_here ((learn m.known e).orphan d) none is)
      by (comes i it new none has) = absurd (no_doubt it none ((learn m.known e).orphan d) new is)
      by (remains was it old new same) = ap dep_of_orphan new ∙ ((λ j. (same j).dep) ∙ sym (ap dep_of_orphan old))

-- ---- a call begins

begun_dep : (n : ℕ) (call : Call) (it : Option Orphan)
    → dep_of_orphan (option_map (orphan_begun n call) it) ≡ dep_of_orphan it
begun_dep n (DeleteDisk disk) (Some it) = refl
begun_dep n call (Some it) = refl
begun_dep n call None = refl

orphan_dep : (b : Begin) (owner : Owner) (k : Known) (d : ℕ)
    → dep_of_orphan ((begins b owner k).orphan d) ≡ dep_of_orphan (k.orphan d)
orphan_dep b (Instance i) k d = refl
orphan_dep b (Compile t s) k d = refl
orphan_dep b (Disk disk) k d = by (eqb disk d) refl
  where
    by : (same : Bool) → eqb disk d ≡ same
        → dep_of_orphan (if same then option_map (orphan_begun b.n b.call) (k.orphan disk) else k.orphan d)
        ≡ dep_of_orphan (k.orphan d)
    by true same =
        begun_dep b.n b.call (k.orphan disk) ∙ ap (λ n. dep_of_orphan (k.orphan n)) (eqb-true disk d same)
    by false other = refl

-- each owner keeps its deployment
pub dep_begins : (m : Moment) (b : Begin) (owner : Owner)
    → dep_of (learn m.known (entries.Begin b)) owner ≡ dep_of m.known owner
dep_begins m b (Instance i) = refl
dep_begins m b (Compile t s) = ap dep_named (dep_begin m b t)
dep_begins m b (Disk d) = orphan_dep b b.owner m.known d
