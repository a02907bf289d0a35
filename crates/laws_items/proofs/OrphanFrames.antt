-- An orphaned disk stays recorded, unless a call on it is answered.
use Rattle.std.proofs.Common.{◌≡◌, ◌∙◌, ℕ, Bool, true, false, Option, Some, None, List, [], ◌∷◌, ap, refl}
use Rattle.std.specs.Prelude.{◌≢◌, eqb, if◌then◌else◌, is_some}
use Rattle.std.specs.Option.{option_map}
use Rattle.std.proofs.lemmas.Bool.{eqb-true}
use Rattle.bosh_base.specs.declared.answer.Answer.{Answer}
use Rattle.bosh_base.specs.declared.entry.Begin.{Begin}
use Rattle.bosh_base.specs.declared.entry.Entry.{Entry}
use Rattle.bosh_base.specs.declared.entry.Entry.TheVariants as entries
use Rattle.bosh_base.specs.declared.goal.GoalRow.{GoalRow}
use Rattle.bosh_base.specs.declared.inst.Inst.{Inst}
use Rattle.bosh_base.specs.declared.owner.Owner.{Owner}
use Rattle.bosh_base.specs.declared.owner.Owner.TheVariants.{Instance, Compile, Disk}
use Rattle.bosh_base.specs.declared.row.DiskRow.{DiskRow}
use Rattle.bosh_base.specs.declared.snapshot.Orphan.{Orphan}
use Rattle.bosh_history.specs.Calls.{begins, call_ended, ends_of, orphan_begun, orphan_told, shows_gone, shows_there}
use Rattle.bosh_history.specs.Calls.{slot_answered}
use Rattle.bosh_history.specs.Known.{Known, Slot, want_in}
use Rattle.bosh_history.specs.Learn.{learn}
use Rattle.bosh_history.specs.Moments.{Moment}
use Rattle.bosh_history.specs.Notes.{MayNote, Outside}
use Rattle.bosh_history.specs.Slots.{slot_after}
use Rattle.bosh_history.specs.Updates.{orphan_of, orphans_after, update_done}
use Rattle.bosh_history.specs.Words.{at, without}
use Rattle.bosh_rows.specs.After.{left_behind}
use Rattle.laws_facts.proofs.FrameLemmas.{compiled_orphans, orphans_done}
use Rattle.laws_items.proofs.MarkLemmas.{Spares}

-- it is recorded still
abbrev Stays : Option Orphan → Option Orphan → Type 0
Stays old new = is_some old ≡ true → is_some new ≡ true

stays_at : (disk d : ℕ) (x : Option Orphan) (f : ℕ → Option Orphan) → (disk ≡ d → Stays (f d) x)
    → Stays (f d) (at eqb disk x f d)
stays_at disk d x f goes is = by (eqb disk d) refl
  where
    by : (b : Bool) → eqb disk d ≡ b → is_some (if b then x else f d) ≡ true
    by true same = goes (eqb-true disk d same) is
    by false other = is

mapped : (f : Orphan → Orphan) (it : Option Orphan) → Stays it (option_map f it)
mapped f (Some it) is = refl
mapped f None is = is

-- more of them
grown : (i : Inst) (disks : List DiskRow) (old : ℕ → Option Orphan) (d : ℕ)
    → Stays (old d) (orphans_after i disks old d)
grown i [] old d is = is
grown i (it ∷ disks) old d is =
    grown i disks (at eqb it.disk (Some (orphan_of i it)) old) d
    (stays_at it.disk d (Some (orphan_of i it)) old (λ same some. refl) is)

begun : (b : Begin) (owner : Owner) (k : Known) (d : ℕ) → Stays (k.orphan d) ((begins b owner k).orphan d)
begun b (Instance i) k d is = is
begun b (Compile t s) k d is = is
begun b (Disk disk) k d is =
    stays_at disk d (option_map (orphan_begun b.n b.call) (k.orphan disk)) k.orphan
    (λ same some.
    mapped (orphan_begun b.n b.call) (k.orphan disk) (ap (λ n. is_some (k.orphan n)) same ∙ some)) is

slot_orphans : (t s : ℕ) (it : Option Slot) (k : Known) → (slot_answered t s it k).orphan ≡ k.orphan
slot_orphans t s (Some it) k = refl
slot_orphans t s None k = refl

answered : (b : Begin) (answer : Answer) (owner : Owner) (k : Known) (d : ℕ) → owner ≢ Disk d
    → Stays (k.orphan d) ((ends_of b answer owner k).orphan d)
answered b answer (Instance i) k d apart is = is
answered b answer (Compile t s) k d apart is =
    (λ j. is_some (slot_orphans t s (slot_after b.n b.call answer (k.slot t s)) k j d)) ∙ is
answered b answer (Disk disk) k d apart is = by (shows_gone b.call answer)
  where
    told : Option Orphan
    told = option_map (orphan_told (shows_there b.call answer)) (k.orphan disk)

    by : (gone : Bool)
        → is_some ((if gone then record k { orphans = without eqb disk k.orphans; orphan = at eqb disk None k.orphan }
        else record k { orphan = at eqb disk told k.orphan }).orphan d) ≡ true
    by true = stays_at disk d None k.orphan (λ same. absurd (apart (ap Disk same))) is
    by false = stays_at disk d told k.orphan (λ same. absurd (apart (ap Disk same))) is

ended : (answer : Answer) (b : Option Begin) (k : Known) (d : ℕ) → ((it : Begin) → b ≡ Some it → it.owner ≢ Disk d)
    → Stays (k.orphan d) ((call_ended answer b k).orphan d)
ended answer (Some b) k d apart is =
    (λ j. is_some ((compiled_orphans b.call answer (ends_of b answer b.owner k)).orphan j d))
    ∙ answered b answer b.owner k d (apart b refl) is
ended answer None k d apart is = is

updated : (want : Option GoalRow) (i : Inst) (k : Known) (d : ℕ) → Stays (k.orphan d) ((update_done want i k).orphan d)
updated (Some want) i k d is = grown i (left_behind want (k.row i)) k.orphan d is
updated None i k d is = is

pub orphan_stays : (outside : Outside) (m : Moment) (e : Entry) (d : ℕ) → MayNote outside m e → Spares m e (Disk d)
    → is_some (m.known.orphan d) ≡ true → is_some ((learn m.known e).orphan d) ≡ true
orphan_stays outside m (entries.Begin b) d may spares is = begun b b.owner m.known d is
orphan_stays outside m (entries.End e) d may spares is = ended e.answer (m.known.begun e.n) m.known d spares is
orphan_stays outside m (entries.UpdDone u) d may spares is =
    updated (want_in (m.known.task u.task).goal u.inst) u.inst m.known d is
orphan_stays outside m (entries.Gone u) d may spares is = grown u.inst (m.known.row u.inst).disks m.known.orphan d is
orphan_stays outside m (entries.TaskDone t) d may spares is = (λ j. is_some ((orphans_done m t).orphan j d)) ∙ is
orphan_stays outside m (entries.Snapshot s) d may spares is = absurd may
orphan_stays outside m entry d may spares is = is
