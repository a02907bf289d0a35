-- What becomes of the records of orphaned disks: an entry takes one away, leaves it with its instance, or makes one anew
-- of a disk that a row had.
use Rattle.std.proofs.Common.{◌≡◌, ◌∙◌, ℕ, Bool, true, false, not, Option, Some, None, List, [], ◌∷◌}
use Rattle.std.proofs.Common.{refl, sym, subst, inl, inr}
use Rattle.std.specs.Prelude.{◌⊎◌, ◌||◌, ◌==◌, eqb, filter, if◌then◌else◌}
use Rattle.std.specs.Option.{option_map}
use Rattle.std.proofs.lemmas.Bool.{eqb-true}
use Rattle.bosh_base.specs.declared.answer.Answer.{Answer}
use Rattle.bosh_base.specs.declared.call.Call.{Call}
use Rattle.bosh_base.specs.declared.call.Call.TheVariants.{DeleteDisk}
use Rattle.bosh_base.specs.declared.entry.Begin.{Begin}
use Rattle.bosh_base.specs.declared.entry.Entry.{Entry}
use Rattle.bosh_base.specs.declared.entry.Entry.TheVariants as entries
use Rattle.bosh_base.specs.declared.goal.GoalRow.{GoalRow}
use Rattle.bosh_base.specs.declared.inst.Inst.{Inst}
use Rattle.bosh_base.specs.declared.owner.Owner.{Owner}
use Rattle.bosh_base.specs.declared.owner.Owner.TheVariants.{Instance, Compile, Disk}
use Rattle.bosh_base.specs.declared.row.DiskRow.{DiskRow}
use Rattle.bosh_base.specs.declared.snapshot.Orphan.{Orphan}
use Rattle.bosh_history.specs.Calls.{begins, call_ended, ends_of, orphan_begun, orphan_told, shows_gone, shows_there}
use Rattle.bosh_history.specs.Known.{Known, want_in}
use Rattle.bosh_history.specs.Learn.{learn}
use Rattle.bosh_history.specs.Moments.{Moment}
use Rattle.bosh_history.specs.Notes.{MayNote, Outside}
use Rattle.bosh_history.specs.Slots.{slot_after}
use Rattle.bosh_history.specs.Updates.{orphan_of, orphans_after, update_done}
use Rattle.bosh_history.specs.Words.{at, without}
use Rattle.bosh_rows.specs.After.{left_behind}
use Rattle.bosh_rows.specs.Disks.{stays}
use Rattle.laws_facts.proofs.FrameLemmas.{compiled_orphans, orphans_done, slot_orphans}
use Rattle.laws_rows.specs.SoundDisks.{is_recorded}

-- what becomes of it
pub data Becomes (k : Known) (d : ℕ) (old new : Option Orphan) : Type 0 where
  leaves : new ≡ None → Becomes k d old new
  comes : (i : Inst) (it : Orphan) → new ≡ Some it → it.doubt ≡ None → is_recorded (k.row i).disks d ≡ true
      → Becomes k d old new
  remains : (was it : Orphan) → old ≡ Some was → new ≡ Some it → it.inst ≡ was.inst → Becomes k d old new

becomes_itself : (k : Known) (d : ℕ) (it : Option Orphan) → Becomes k d it it
becomes_itself k d (Some it) = remains it it refl refl refl
becomes_itself k d None = leaves refl

becomes_same : (k : Known) (d : ℕ) (old new : Option Orphan) → new ≡ old → Becomes k d old new
becomes_same k d old new same =
    subst (λ (it : Option Orphan). Becomes k d old it) (sym same) (becomes_itself k d old)

becomes_mapped : (k : Known) (d : ℕ) (f : Orphan → Orphan) → ((it : Orphan) → (f it).inst ≡ it.inst)
    → (it : Option Orphan) → Becomes k d it (option_map f it)
becomes_mapped k d f same (Some it) = remains it (f it) refl refl (same it)
becomes_mapped k d f same None = leaves refl

-- one of several
becomes_at : (k : Known) (disk d : ℕ) (x : Option Orphan) (f : ℕ → Option Orphan) → Becomes k disk (f disk) x
    → Becomes k d (f d) (at eqb disk x f d)
becomes_at k disk d x f one = by (eqb disk d) refl
  where
    by : (b : Bool) → eqb disk d ≡ b → Becomes k d (f d) (if b then x else f d)
    by true same = subst (λ n. Becomes k n (f n) x) (eqb-true disk d same) one
    by false other = becomes_itself k d (f d)

begun_inst : (n : ℕ) (call : Call) (it : Orphan) → (orphan_begun n call it).inst ≡ it.inst
begun_inst n (DeleteDisk disk) it = refl
begun_inst n call it = refl

told_inst : (b : Bool) (it : Orphan) → (orphan_told b it).inst ≡ it.inst
told_inst true it = refl
told_inst false it = refl

begun : (b : Begin) (owner : Owner) (k : Known) (d : ℕ) → Becomes k d (k.orphan d) ((begins b owner k).orphan d)
begun b (Instance i) k d = becomes_itself k d (k.orphan d)
begun b (Compile t s) k d = becomes_itself k d (k.orphan d)
begun b (Disk disk) k d =
    becomes_at k disk d (option_map (orphan_begun b.n b.call) (k.orphan disk)) k.orphan
    (becomes_mapped k disk (orphan_begun b.n b.call) (begun_inst b.n b.call) (k.orphan disk))

answered : (b : Begin) (answer : Answer) (owner : Owner) (k : Known) (d : ℕ)
    → Becomes k d (k.orphan d) ((ends_of b answer owner k).orphan d)
answered b answer (Instance i) k d = becomes_itself k d (k.orphan d)
answered b answer (Compile t s) k d =
    becomes_same k d (k.orphan d) _
    (λ j. (slot_orphans t s (slot_after b.n b.call answer (k.slot t s)) k).orphan j d)
answered b answer (Disk disk) k d = by (shows_gone b.call answer)
  where
    told : Option Orphan
    told = option_map (orphan_told (shows_there b.call answer)) (k.orphan disk)

    by : (gone : Bool)
        → Becomes k d (k.orphan d)
        ((if gone then record k { orphans = without eqb disk k.orphans; orphan = at eqb disk None k.orphan }
        else record k { orphan = at eqb disk told k.orphan }).orphan d)
    by true = becomes_at k disk d None k.orphan (leaves refl)
    by false =
        becomes_at k disk d told k.orphan
        (becomes_mapped k disk (orphan_told (shows_there b.call answer)) (told_inst (shows_there b.call answer))
        (k.orphan disk))

ended : (answer : Answer) (b : Option Begin) (k : Known) (d : ℕ)
    → Becomes k d (k.orphan d) ((call_ended answer b k).orphan d)
ended answer (Some b) k d =
    subst (λ (it : Option Orphan). Becomes k d (k.orphan d) it)
    (sym (λ j. (compiled_orphans b.call answer (ends_of b answer b.owner k)).orphan j d))
    (answered b answer b.owner k d)
ended answer None k d = becomes_itself k d (k.orphan d)

-- the disks of a row come to it
orphaned : (i : Inst) (disks : List DiskRow) (old : ℕ → Option Orphan) (d : ℕ)
    → (orphans_after i disks old d ≡ old d)
    ⊎ ((it : Orphan) × (orphans_after i disks old d ≡ Some it) × (it.doubt ≡ None) × (is_recorded disks d ≡ true))
orphaned i [] old d = inl refl
orphaned i (x ∷ disks) old d = by (orphaned i disks (at eqb x.disk (Some (orphan_of i x)) old) d)
  where
    or_right : (a b : Bool) → b ≡ true → (a || b) ≡ true
    or_right true b is = refl
    or_right false b is = is

    here : (b : Bool) → (x.disk == d) ≡ b
        → orphans_after i (x ∷ disks) old d ≡ (if b then Some (orphan_of i x) else old d)
        → (orphans_after i (x ∷ disks) old d ≡ old d)
        ⊎ ((it : Orphan) × (orphans_after i (x ∷ disks) old d ≡ Some it) × (it.doubt ≡ None)
        × (is_recorded (x ∷ disks) d ≡ true))
    here true same is = inr (orphan_of i x, is, refl, (λ j. same j || is_recorded disks d))
    here false other is = inl is

    by : (orphans_after i (x ∷ disks) old d ≡ at eqb x.disk (Some (orphan_of i x)) old d)
        ⊎ ((it : Orphan) × (orphans_after i (x ∷ disks) old d ≡ Some it) × (it.doubt ≡ None)
        × (is_recorded disks d ≡ true))
        → (orphans_after i (x ∷ disks) old d ≡ old d)
        ⊎ ((it : Orphan) × (orphans_after i (x ∷ disks) old d ≡ Some it) × (it.doubt ≡ None)
        × (is_recorded (x ∷ disks) d ≡ true))
    by (inl same) = here (x.disk == d) refl same
    by (inr (it, is, none, has)) = inr (it, is, none, or_right (x.disk == d) (is_recorded disks d) has)

-- those that go are among those that were there
left_recorded : (want : GoalRow) (disks : List DiskRow) (d : ℕ)
    → is_recorded (filter (λ it. not (stays want it)) disks) d ≡ true → is_recorded disks d ≡ true
left_recorded want [] d is = is
left_recorded want (x ∷ disks) d is =
    by (not (stays want x)) refl (x.disk == d) refl is (λ some. left_recorded want disks d some)
  where
    by : (goes : Bool) → not (stays want x) ≡ goes → (same : Bool) → (x.disk == d) ≡ same
        → is_recorded (if goes then x ∷ filter (λ it. not (stays want it)) disks
        else filter (λ it. not (stays want it)) disks) d ≡ true
        → (is_recorded (filter (λ it. not (stays want it)) disks) d ≡ true → is_recorded disks d ≡ true)
        → is_recorded (x ∷ disks) d ≡ true
    by goes going true same is others = λ j. same j || is_recorded disks d
    by true going false other is others =
        (λ j. other j || is_recorded disks d)
        ∙ others (sym (λ j. other j || is_recorded (filter (λ it. not (stays want it)) disks) d) ∙ is)
    by false going false other is others = (λ j. other j || is_recorded disks d) ∙ others is

becomes_orphaned : (k : Known) (i : Inst) (disks : List DiskRow) (d : ℕ)
    → (is_recorded disks d ≡ true → is_recorded (k.row i).disks d ≡ true)
    → Becomes k d (k.orphan d) (orphans_after i disks k.orphan d)
becomes_orphaned k i disks d has = by (orphaned i disks k.orphan d)
  where
    by : (orphans_after i disks k.orphan d ≡ k.orphan d)
        ⊎ ((it : Orphan) × (orphans_after i disks k.orphan d ≡ Some it) × (it.doubt ≡ None)
        × (is_recorded disks d ≡ true))
        → Becomes k d (k.orphan d) (orphans_after i disks k.orphan d)
    by (inl same) = becomes_same k d (k.orphan d) (orphans_after i disks k.orphan d) same
    by (inr (it, is, none, recorded)) = comes i it is none (has recorded)

updated : (want : Option GoalRow) (i : Inst) (k : Known) (d : ℕ)
    → Becomes k d (k.orphan d) ((update_done want i k).orphan d)
updated (Some want) i k d =
    becomes_orphaned k i (left_behind want (k.row i)) d (left_recorded want (k.row i).disks d)
updated None i k d = becomes_itself k d (k.orphan d)

pub orphan_note : (outside : Outside) (m : Moment) (e : Entry) (d : ℕ) → MayNote outside m e
    → Becomes m.known d (m.known.orphan d) ((learn m.known e).orphan d)
orphan_note outside m (entries.Begin b) d may = begun b b.owner m.known d
orphan_note outside m (entries.End e) d may = ended e.answer (m.known.begun e.n) m.known d
orphan_note outside m (entries.UpdDone u) d may =
    updated (want_in (m.known.task u.task).goal u.inst) u.inst m.known d
orphan_note outside m (entries.Gone u) d may =
    becomes_orphaned m.known u.inst (m.known.row u.inst).disks d (λ is. is)
orphan_note outside m (entries.TaskDone t) d may =
    becomes_same m.known d (m.known.orphan d) _ (λ j. (orphans_done m t).orphan j d)
orphan_note outside m (entries.Snapshot s) d may = absurd may
orphan_note outside m entry d may = becomes_itself m.known d (m.known.orphan d)
