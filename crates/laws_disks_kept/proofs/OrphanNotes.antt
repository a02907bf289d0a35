-- What entries leave of orphaned disks.
use Rattle.std.proofs.Common.{◌≡◌, ◌∙◌, ℕ, Bool, true, false, Option, Some, None, List, [], ◌∷◌, refl, subst}
use Rattle.std.specs.Prelude.{◌≢◌, ◌==◌, eqb, if◌then◌else◌, ◌||◌}
use Rattle.std.specs.List.{list_all}
use Rattle.std.specs.Option.{option_and_then, option_map}
use Rattle.std.proofs.lemmas.Bool.{and_parts, eqb-true, eq-eqb, ne_eqb}
use Rattle.bosh_base.specs.declared.answer.Answer.{Answer}
use Rattle.bosh_base.specs.declared.call.Call.{Call}
use Rattle.bosh_base.specs.declared.entry.Begin.{Begin}
use Rattle.bosh_base.specs.declared.entry.Entry.{Entry}
use Rattle.bosh_base.specs.declared.entry.Entry.TheVariants as entries
use Rattle.bosh_base.specs.declared.inst.Inst.{Inst}
use Rattle.bosh_base.specs.declared.owner.Owner.{Owner}
use Rattle.bosh_base.specs.declared.owner.Owner.TheVariants.{Compile, Disk, Instance}
use Rattle.bosh_base.specs.declared.row.DiskRow.{DiskRow}
use Rattle.bosh_base.specs.declared.snapshot.Orphan.{Orphan}
use Rattle.bosh_history.specs.Calls.{begins, call_ended, ends_of, orphan_after, orphan_begun, orphan_told, shows_gone}
use Rattle.bosh_history.specs.Calls.{shows_there, slot_answered}
use Rattle.bosh_history.specs.Known.{Known, Slot}
use Rattle.bosh_history.specs.Learn.{learn}
use Rattle.bosh_history.specs.Moments.{Moment}
use Rattle.bosh_history.specs.Notes.{MayNote, Outside}
use Rattle.bosh_history.specs.Slots.{slot_after}
use Rattle.bosh_history.specs.Updates.{orphan_of, orphans_after}
use Rattle.bosh_history.specs.Words.{at, without}
use Rattle.laws_facts.proofs.FrameLemmas.{compiled_orphans, orphans_done}
use Rattle.laws_rows.specs.SoundDisks.{is_recorded}
use Rattle.laws_slots.specs.Orphans.{orphan_answered}

abbrev pub Orphans : Type 0
Orphans = ℕ → Option Orphan

-- ---- one changes

pub at_orphan : (P : ℕ → Option Orphan → Type 0) (disk : ℕ) (x : Option Orphan) (f : Orphans) → P disk x
    → ((d : ℕ) → P d (f d)) → (d : ℕ) → P d (at eqb disk x f d)
at_orphan P disk x f new old d = by (eqb disk d) refl
  where
    by : (same : Bool) → eqb disk d ≡ same → P d (if same then x else f d)
    by true same = subst (λ n. P n x) (eqb-true disk d same) new
    by false other = old d

pub orphan_apart : (disk : ℕ) (x : Option Orphan) (f : Orphans) (d : ℕ) → disk ≢ d → at eqb disk x f d ≡ f d
orphan_apart disk x f d apart = λ j. if ne_eqb disk d apart j then x else f d

pub orphan_itself : (d : ℕ) (x : Option Orphan) (f : Orphans) → at eqb d x f d ≡ x
orphan_itself d x f = λ j. if eq-eqb d d refl j then x else f d

-- ---- several are orphaned

pub after_orphans : (P : ℕ → Option Orphan → Type 0) (i : Inst) (test : DiskRow → Bool)
    → ((it : DiskRow) → test it ≡ true → P it.disk (Some (orphan_of i it))) → (disks : List DiskRow) (old : Orphans)
    → list_all test disks ≡ true → ((d : ℕ) → P d (old d)) → (d : ℕ) → P d (orphans_after i disks old d)
after_orphans P i test new [] old all was d = was d
after_orphans P i test new (it ∷ disks) old all was d =
    let parts : (test it ≡ true) × (list_all test disks ≡ true) = and_parts (test it) (list_all test disks) all in
    after_orphans P i test new disks (at eqb it.disk (Some (orphan_of i it)) old) parts.1
    (at_orphan P it.disk (Some (orphan_of i it)) old (new it parts.0) was) d

-- one that is none of them stays
pub orphans_apart : (i : Inst) (disks : List DiskRow) (old : Orphans) (d : ℕ) → is_recorded disks d ≡ false
    → orphans_after i disks old d ≡ old d
orphans_apart i [] old d none = refl
orphans_apart i (it ∷ disks) old d none =
    by (it.disk == d) refl none (orphans_apart i disks (at eqb it.disk (Some (orphan_of i it)) old) d)
  where
    by : (same : Bool) → (it.disk == d) ≡ same → (same || is_recorded disks d) ≡ false
        → (is_recorded disks d ≡ false
        → orphans_after i disks (at eqb it.disk (Some (orphan_of i it)) old) d
        ≡ at eqb it.disk (Some (orphan_of i it)) old d)
        → orphans_after i disks (at eqb it.disk (Some (orphan_of i it)) old) d ≡ old d
    by true same none rest = absurd cc
    by false other none rest =
        rest none
        ∙ (λ j. if other j then Some (orphan_of i it) else old d)

-- ---- a call begins, and is answered

-- the orphaned disks, once a call of an owner has begun
abbrev pub orphans_begun : Begin → Owner → Orphans → Orphans
orphans_begun b (Disk d) f = at eqb d (option_map (orphan_begun b.n b.call) (f d)) f
orphans_begun b owner f = f

pub orphans_begin : (b : Begin) (owner : Owner) (k : Known) → (begins b owner k).orphan ≡ orphans_begun b owner k.orphan
orphans_begin b (Instance i) k = refl
orphans_begin b (Compile t s) k = refl
orphans_begin b (Disk d) k = refl

-- .. and once it is answered
abbrev pub orphans_told : Begin → Answer → Owner → Orphans → Orphans
orphans_told b answer (Disk d) f = at eqb d (option_and_then (orphan_answered b.call answer) (f d)) f
orphans_told b answer owner f = f

told_orphan : (gone there : Bool) (o : Option Orphan) → (if gone then None else option_map (orphan_told there) o)
    ≡ option_and_then (λ it. if gone then None else Some (orphan_told there it)) o
told_orphan true there (Some it) = refl
told_orphan true there None = refl
told_orphan false there (Some it) = refl
told_orphan false there None = refl

told_disk : (d : ℕ) (call : Call) (answer : Answer) (k : Known)
    → (orphan_after d call answer k).orphan
    ≡ at eqb d (option_and_then (orphan_answered call answer) (k.orphan d)) k.orphan
told_disk d call answer k =
    by (shows_gone call answer)
    ∙ (λ j. at eqb d (told_orphan (shows_gone call answer) (shows_there call answer) (k.orphan d) j) k.orphan)
  where
    told : Option Orphan
    told = option_map (orphan_told (shows_there call answer)) (k.orphan d)

    by : (gone : Bool)
        → (if gone then record k { orphans = without eqb d k.orphans; orphan = at eqb d None k.orphan }
        else record k { orphan = at eqb d told k.orphan }).orphan ≡ at eqb d (if gone then None else told) k.orphan
    by true = refl
    by false = refl

slot_orphans : (t s : ℕ) (it : Option Slot) (k : Known) → (slot_answered t s it k).orphan ≡ k.orphan
slot_orphans t s (Some it) k = refl
slot_orphans t s None k = refl

pub orphans_ended : (answer : Answer) (b : Begin) (k : Known)
    → (call_ended answer (Some b) k).orphan ≡ orphans_told b answer b.owner k.orphan
orphans_ended answer b k =
    (compiled_orphans b.call answer (ends_of b answer b.owner k)).orphan ∙ by b.owner
  where
    by : (owner : Owner) → (ends_of b answer owner k).orphan ≡ orphans_told b answer owner k.orphan
    by (Instance i) = refl
    by (Compile t s) = slot_orphans t s (slot_after b.n b.call answer (k.slot t s)) k
    by (Disk d) = told_disk d b.call answer k

-- ---- other entries

-- the entry changes what is known of orphaned disks
abbrev changes_orphans : Entry → Bool
changes_orphans (entries.Begin b) = true
changes_orphans (entries.End e) = true
changes_orphans (entries.UpdDone u) = true
changes_orphans (entries.Gone u) = true
changes_orphans entry = false

-- another leaves them
pub orphans_note : (outside : Outside) (m : Moment) (e : Entry) → MayNote outside m e → changes_orphans e ≡ false
    → (learn m.known e).orphan ≡ m.known.orphan
orphans_note outside m (entries.Begin b) may none = absurd cc
orphans_note outside m (entries.End e) may none = absurd cc
orphans_note outside m (entries.UpdDone u) may none = absurd cc
orphans_note outside m (entries.Gone u) may none = absurd cc
orphans_note outside m (entries.TaskDone t) may none = (orphans_done m t).orphan
orphans_note outside m (entries.Snapshot s) may none = absurd may
orphans_note outside m entry may none = refl
