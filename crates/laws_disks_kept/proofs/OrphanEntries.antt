-- An orphaned disk with an open call stays as it is, and the call fits it.
use Rattle.std.proofs.Common.{◌≡◌, ◌∙◌, ℕ, Bool, true, false, Option, Some, None, List, ◌∷◌, ap, refl, sym, subst, []}
use Rattle.std.specs.Prelude.{◌≢◌, ◌==◌, eqb, if◌then◌else◌, not, filter, ◌||◌}
use Rattle.std.specs.Option.{option_and_then, option_map}
use Rattle.std.proofs.lemmas.Bool.{false≢true}
use Rattle.bosh_base.specs.declared.answer.Answer.{Answer}
use Rattle.bosh_base.specs.declared.entry.Begin.{Begin}
use Rattle.bosh_base.specs.declared.entry.Entry.{Entry}
use Rattle.bosh_base.specs.declared.entry.Entry.TheVariants as entries
use Rattle.bosh_base.specs.declared.goal.GoalRow.{GoalRow}
use Rattle.bosh_base.specs.declared.inst.Inst.{Inst}
use Rattle.bosh_base.specs.declared.moves.Did.{Did}
use Rattle.bosh_base.specs.declared.owner.Owner.{Owner}
use Rattle.bosh_base.specs.declared.owner.Owner.TheVariants.{Compile, Disk, Instance}
use Rattle.bosh_base.specs.declared.row.DiskRow.{DiskRow}
use Rattle.bosh_base.specs.declared.snapshot.Orphan.{Orphan}
use Rattle.bosh_history.specs.Calls.{call_ended, orphan_begun}
use Rattle.bosh_history.specs.Known.{want_in}
use Rattle.bosh_history.specs.Learn.{learn}
use Rattle.bosh_history.specs.Moments.{Moment, noting, OpenCall}
use Rattle.bosh_history.specs.Notes.{MayNote, Outside}
use Rattle.bosh_history.specs.Updates.{update_done}
use Rattle.bosh_history.specs.Words.{holds}
use Rattle.bosh_rows.specs.After.{left_behind}
use Rattle.bosh_rows.specs.Disks.{stays}
use Rattle.laws_disks_kept.proofs.CountLemmas.{unrecorded}
use Rattle.laws_disks_kept.proofs.OrphanBegun.{begun_fitting}
use Rattle.laws_disks_kept.proofs.OrphanNotes.{orphan_apart, Orphans, orphans_apart, orphans_begin, orphans_begun}
use Rattle.laws_disks_kept.proofs.OrphanNotes.{orphans_ended, orphans_note, orphans_told}
use Rattle.laws_disks_kept.specs.Disks.{AreOrphansAnswered, AreOrphansFitting}
use Rattle.laws_facts.proofs.CallLemmas.{none_open}
use Rattle.laws_facts.specs.CallFacts.{IsOwnerKept}
use Rattle.laws_facts.specs.Facts.{Holds}
use Rattle.laws_facts.specs.OpenCalls.{fits_orphan, fits_owner}
use Rattle.laws_items.proofs.ItemLemmas.{LeavesOpen, spares}
use Rattle.laws_items.proofs.MarkLemmas.{Spares}
use Rattle.laws_row_facts.specs.Words.{where_any}
use Rattle.laws_rows.specs.SoundDisks.{is_recorded}
use Rattle.laws_slots.specs.Orphans.{is_orphan_as_recorded, orphan_answered}

-- ---- a disk with an open call stays as it is

pub filtered : (p : DiskRow → Bool) (disks : List DiskRow) (d : ℕ) → is_recorded disks d ≡ false
    → is_recorded (filter p disks) d ≡ false
filtered p [] d none = refl
filtered p (it ∷ disks) d none = by (p it) (it.disk == d) refl none (filtered p disks d)
  where
    by : (keeps same : Bool) → (it.disk == d) ≡ same → (same || is_recorded disks d) ≡ false
        → (is_recorded disks d ≡ false → is_recorded (filter p disks) d ≡ false)
        → is_recorded (if keeps then it ∷ filter p disks else filter p disks) d ≡ false
    by keeps true same none rest = absurd (false≢true (sym none))
    by true false other none rest =
        (λ j. other j || is_recorded (filter p disks) d) ∙ rest none
    by false false other none rest = rest none

begun_apart : (b : Begin) (owner : Owner) (f : Orphans) (d : ℕ) → owner ≢ Disk d → orphans_begun b owner f d ≡ f d
begun_apart b (Instance i) f d apart = refl
begun_apart b (Compile t s) f d apart = refl
begun_apart b (Disk disk) f d apart =
    orphan_apart disk (option_map (orphan_begun b.n b.call) (f disk)) f d (λ same. apart (ap Disk same))

told_apart : (b : Begin) (answer : Answer) (owner : Owner) (f : Orphans) (d : ℕ) → owner ≢ Disk d
    → orphans_told b answer owner f d ≡ f d
told_apart b answer (Instance i) f d apart = refl
told_apart b answer (Compile t s) f d apart = refl
told_apart b answer (Disk disk) f d apart =
    orphan_apart disk (option_and_then (orphan_answered b.call answer) (f disk)) f d (λ same. apart (ap Disk same))

module _ (outside : Outside) (m : Moment) (h : Holds m) (n : ℕ) (call : OpenCall) (is : m.calls n ≡ Some call) (d : ℕ)
    (own : call.begin.owner ≡ Disk d) where
  fits_now : holds (fits_orphan call.begin.n call.begin.call d) (m.known.orphan d) ≡ true
  fits_now = subst (λ owner. fits_owner m.known call.begin owner ≡ true) own (h.performed n call is).fits_owner

  none_recorded : (i : Inst) → is_recorded (m.known.row i).disks d ≡ false
  none_recorded i = by (m.known.orphan d) refl fits_now
    where
      by : (o : Option Orphan) → m.known.orphan d ≡ o
          → holds (fits_orphan call.begin.n call.begin.call d) o ≡ true → is_recorded (m.known.row i).disks d ≡ false
      by (Some it) at fits = unrecorded m h d it at i
      by None at fits = absurd (false≢true fits)

  pub orphan_same : (e : Entry) → MayNote outside m e → LeavesOpen e n → (learn m.known e).orphan d ≡ m.known.orphan d
  orphan_same (entries.Begin b) may other =
      (λ j. orphans_begin b b.owner m.known j d)
      ∙ begun_apart b b.owner m.known.orphan d
      (λ same. none_open m b.owner h.known.numbers.past may.is_idle n call is (own ∙ sym same))
  orphan_same (entries.End e) may other = by (m.known.begun e.n) refl
    where
      apart : (b : Begin) → m.known.begun e.n ≡ Some b → b.owner ≢ Disk d
      apart = subst (Spares m (entries.End e)) own (spares outside m h.known n call is (entries.End e) may other)

      by : (b : Option Begin) → m.known.begun e.n ≡ b
          → (call_ended e.answer (m.known.begun e.n) m.known).orphan d ≡ m.known.orphan d
      by (Some b) known =
          (λ j. (call_ended e.answer (known j) m.known).orphan d)
          ∙ ((λ j. orphans_ended e.answer b m.known j d)
          ∙ told_apart b e.answer b.owner m.known.orphan d (apart b known))
      by None known = λ j. (call_ended e.answer (known j) m.known).orphan d
  orphan_same (entries.UpdDone u) may other = by (want_in (m.known.task u.task).goal u.inst)
    where
      by : (want : Option GoalRow) → (update_done want u.inst m.known).orphan d ≡ m.known.orphan d
      by (Some want) =
          orphans_apart u.inst (left_behind want (m.known.row u.inst)) m.known.orphan d
          (filtered (λ it. not (stays want it)) (m.known.row u.inst).disks d (none_recorded u.inst))
      by None = refl
  orphan_same (entries.Gone u) may other =
      orphans_apart u.inst (m.known.row u.inst).disks m.known.orphan d (none_recorded u.inst)
  orphan_same (entries.Snapshot s) may other = absurd may
  orphan_same entry may other = λ j. orphans_note outside m entry may refl j d

  still_fitting : (e : Entry) → MayNote outside m e → LeavesOpen e n
      → fits_owner (learn m.known e) call.begin (Disk d) ≡ true
  still_fitting e may other =
      (λ j. holds (fits_orphan call.begin.n call.begin.call d) (orphan_same e may other j)) ∙ fits_now

  still_answered : (e : Entry) → MayNote outside m e → LeavesOpen e n
      → IsOwnerKept (noting m e) call.begin call.did (Disk d)
  still_answered e may other =
      by call.did (subst (λ owner. IsOwnerKept m call.begin call.did owner) own (h.performed n call is).owner_kept)
    where
      by : (did : Option Did) → IsOwnerKept m call.begin did (Disk d) → IsOwnerKept (noting m e) call.begin did (Disk d)
      by (Some did) kept =
          (λ j. where_any (is_orphan_as_recorded m.effects d)
          (option_and_then (orphan_answered call.begin.call did.answer) (orphan_same e may other j))) ∙ kept
      by None kept = tt

-- ---- the open calls, once an entry is noted

pub fitting_noted : (outside : Outside) (m : Moment) (e : Entry) → MayNote outside m e → Holds m
    → AreOrphansFitting (noting m e)
fitting_noted outside m (entries.Begin b) may h n call d is own = by (eqb b.n n) is
  where
    opened_as : Some (record { begin = b; did = None }) ≡ Some call → record { begin = b; did = None } ≡ call
    opened_as now = cc

    by : (same : Bool) → (if same then Some (record { begin = b; did = None }) else m.calls n) ≡ Some call
        → fits_owner (learn m.known (entries.Begin b)) call.begin (Disk d) ≡ true
    by true now =
        sym (λ j. fits_owner (learn m.known (entries.Begin b)) (opened_as now j).begin (Disk d))
        ∙ begun_fitting outside m h b may d ((λ j. (opened_as now j).begin.owner) ∙ own)
    by false now = still_fitting outside m h n call now d own (entries.Begin b) may tt
fitting_noted outside m (entries.End e) may h n call d is own = by (eqb e.n n) refl is
  where
    by : (same : Bool) → eqb e.n n ≡ same → (if same then None else m.calls n) ≡ Some call
        → fits_owner (learn m.known (entries.End e)) call.begin (Disk d) ≡ true
    by true same now = absurd cc
    by false other now = still_fitting outside m h n call now d own (entries.End e) may other
fitting_noted outside m (entries.Snapshot s) may h n call d is own = absurd may
fitting_noted outside m entry may h n call d is own = still_fitting outside m h n call is d own entry may tt

pub answered_noted : (outside : Outside) (m : Moment) (e : Entry) → MayNote outside m e → Holds m
    → AreOrphansAnswered (noting m e)
answered_noted outside m (entries.Begin b) may h n call d is own = by (eqb b.n n) is
  where
    opened_as : Some (record { begin = b; did = None }) ≡ Some call → record { begin = b; did = None } ≡ call
    opened_as now = cc

    by : (same : Bool) → (if same then Some (record { begin = b; did = None }) else m.calls n) ≡ Some call
        → IsOwnerKept (noting m (entries.Begin b)) call.begin call.did (Disk d)
    by true now =
        subst (λ (it : OpenCall). IsOwnerKept (noting m (entries.Begin b)) it.begin it.did (Disk d)) (opened_as now) tt
    by false now = still_answered outside m h n call now d own (entries.Begin b) may tt
answered_noted outside m (entries.End e) may h n call d is own = by (eqb e.n n) refl is
  where
    by : (same : Bool) → eqb e.n n ≡ same → (if same then None else m.calls n) ≡ Some call
        → IsOwnerKept (noting m (entries.End e)) call.begin call.did (Disk d)
    by true same now = absurd cc
    by false other now = still_answered outside m h n call now d own (entries.End e) may other
answered_noted outside m (entries.Snapshot s) may h n call d is own = absurd may
answered_noted outside m entry may h n call d is own = still_answered outside m h n call is d own entry may tt
