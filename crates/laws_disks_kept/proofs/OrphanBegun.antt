-- Each entry leaves orphaned disks what their records say.
use Rattle.std.proofs.Common.{◌≡◌, ◌∙◌, ℕ, Bool, true, false, Option, Some, None, List, refl, sym, subst, inr, []}
use Rattle.std.specs.List.{list_all}
use Rattle.std.specs.Prelude.{◌==◌, if◌then◌else◌, is_some, not}
use Rattle.std.specs.Option.{option_and_then, option_map}
use Rattle.std.proofs.lemmas.Bool.{and_from, and_parts, eq-eqb, false≢true}
use Rattle.bosh_base.specs.Cloud.{disk_creation, is_disk_there}
use Rattle.bosh_base.specs.ExactParts.{Decides-call}
use Rattle.bosh_base.specs.declared.answer.Answer.{Answer}
use Rattle.bosh_base.specs.declared.answer.Answer.TheVariants as answers
use Rattle.bosh_base.specs.declared.call.Call.{Call}
use Rattle.bosh_base.specs.declared.call.Call.TheVariants as calls
use Rattle.bosh_base.specs.declared.entry.Begin.{Begin}
use Rattle.bosh_base.specs.declared.entry.Effect.{Effect}
use Rattle.bosh_base.specs.declared.entry.Entry.{Entry}
use Rattle.bosh_base.specs.declared.entry.Entry.TheVariants as entries
use Rattle.bosh_base.specs.declared.goal.GoalRow.{GoalRow}
use Rattle.bosh_base.specs.declared.inst.Inst.{Inst}
use Rattle.bosh_base.specs.declared.moves.Did.{Did}
use Rattle.bosh_base.specs.declared.owner.Owner.{Owner}
use Rattle.bosh_base.specs.declared.owner.Owner.TheVariants.{Compile, Disk, Instance}
use Rattle.bosh_base.specs.declared.row.DiskRow.{DiskRow}
use Rattle.bosh_base.specs.declared.row.Row.{Row}
use Rattle.bosh_base.specs.declared.snapshot.Orphan.{Orphan}
use Rattle.bosh_history.specs.Calls.{begins, call_ended, orphan_begun}
use Rattle.bosh_history.specs.Known.{want_in}
use Rattle.bosh_history.specs.Learn.{learn}
use Rattle.bosh_history.specs.Moments.{Moment, noting, OpenCall}
use Rattle.bosh_history.specs.Notes.{Begins, EndsCall, MayNote, Outside}
use Rattle.bosh_history.specs.Notes as notes
use Rattle.bosh_history.specs.Recovered.{may_follow}
use Rattle.bosh_history.specs.Steps.{call_now, disk_call}
use Rattle.bosh_history.specs.Ties.{is_wanted_as}
use Rattle.bosh_history.specs.Updates.{orphan_of, orphans_after, update_done}
use Rattle.bosh_history.specs.Words.{holds}
use Rattle.bosh_rows.specs.After.{left_behind}
use Rattle.bosh_rows.specs.Same.{same_owner}
use Rattle.bosh_rows.specs.Standing.{same_truth}
use Rattle.bosh_rows.specs.Tied.{is_disk_kept, was_provided}
use Rattle.laws_compile_machines_kept.proofs.OwnLemmas.{next_fresh}
use Rattle.laws_disks_kept.proofs.OrphanCalls.{failed_orphan}
use Rattle.laws_disks_kept.proofs.OrphanNotes.{after_orphans, at_orphan, orphan_itself, Orphans, orphans_begin}
use Rattle.laws_disks_kept.proofs.OrphanNotes.{orphans_begun, orphans_ended, orphans_note, orphans_told}
use Rattle.laws_disks_kept.proofs.UpdateLemmas.{done_free, gone_free}
use Rattle.laws_disks_kept.specs.Disks.{AreOrphansAsRecorded}
use Rattle.laws_effects.specs.Orderly.{is_taken}
use Rattle.laws_facts.specs.CallFacts.{IsOwnerKept}
use Rattle.laws_facts.specs.Facts.{Holds}
use Rattle.laws_facts.specs.OpenCalls.{fits_orphan}
use Rattle.laws_row_facts.specs.Words.{where_any}
use Rattle.laws_row_frames.specs.Updates.{is_let_go_of}
use Rattle.laws_slots.proofs.OrphanCases.{from_parts, orphan_kept}
use Rattle.laws_slots.specs.Orphans.{is_call_of_orphan, is_orphan_as_recorded, orphan_answered}

-- ---- a call begins

one : (d : ℕ) (it : Option Orphan) (call : Call) → option_map (disk_call d) it ≡ Some call
    → (o : Orphan) × (it ≡ Some o) × (disk_call d o ≡ call)
one d (Some o) call is = let same : disk_call d o ≡ call = cc in (o, refl, same)
one d None call is = absurd cc

module _ (d n : ℕ) (it : Orphan) where
  is_for_orphan : is_call_of_orphan d (disk_call d it) it ≡ true
  is_for_orphan = by (is_some it.doubt) refl
    where
      by : (doubts : Bool) → is_some it.doubt ≡ doubts
          → is_call_of_orphan d (if doubts then calls.HasDisk d else calls.DeleteDisk d) it ≡ true
      by true doubts = and_from (d == d) _ (eq-eqb d d refl) doubts
      by false none = and_from (d == d) _ (eq-eqb d d refl) (λ j. not (none j))

  begun_fits : fits_orphan n (disk_call d it) d (orphan_begun n (disk_call d it) it) ≡ true
  begun_fits = by (is_some it.doubt) refl
    where
      by : (doubts : Bool) → is_some it.doubt ≡ doubts
          → fits_orphan n (if doubts then calls.HasDisk d else calls.DeleteDisk d) d
          (orphan_begun n (if doubts then calls.HasDisk d else calls.DeleteDisk d) it) ≡ true
      by true doubts = and_from (d == d) _ (eq-eqb d d refl) doubts
      by false none =
          and_from (d == d) _ (eq-eqb d d refl)
          (and_from (n == n) _ (eq-eqb n n refl) ((Decides-call (calls.DeleteDisk d) (calls.DeleteDisk d)).1 refl))

module _ (outside : Outside) (m : Moment) (h : Holds m) (b : Begin) (may : Begins m b) where
  pub fresh : is_taken m.effects b.n ≡ false
  fresh = next_fresh m h b.n may.number

  begun_recorded : (d : ℕ) → b.owner ≡ Disk d
      → where_any (is_orphan_as_recorded m.effects d) (option_map (orphan_begun b.n b.call) (m.known.orphan d)) ≡ true
  begun_recorded d own =
      let (it, is, call) = one d (m.known.orphan d) b.call (sym (λ j. call_now m b.task (own j)) ∙ may.is_call) in
      (λ j. where_any (is_orphan_as_recorded m.effects d) (option_map (orphan_begun b.n b.call) (is j)))
      ∙ (sym (λ j. where_any (is_orphan_as_recorded m.effects d) (failed_orphan b.call (orphan_begun b.n b.call it) j))
      ∙ orphan_kept outside.built m.effects d it b.n [] b.call false answers.Failed
      (sym (λ j. where_any (is_orphan_as_recorded m.effects d) (is j)) ∙ (h.disks d).orphan)
      ((λ j. is_call_of_orphan d (sym call j) it) ∙ is_for_orphan d b.n it) fresh
      (inr (refl, λ is. absurd (false≢true is))))

  begun_orphans : (owner : Owner) → b.owner ≡ owner → (d : ℕ)
      → where_any (is_orphan_as_recorded m.effects d) (orphans_begun b owner m.known.orphan d) ≡ true
  begun_orphans (Instance i) own d = (h.disks d).orphan
  begun_orphans (Compile t s) own d = (h.disks d).orphan
  begun_orphans (Disk disk) own d =
      at_orphan (λ d x. where_any (is_orphan_as_recorded m.effects d) x ≡ true) disk
      (option_map (orphan_begun b.n b.call) (m.known.orphan disk)) m.known.orphan (begun_recorded disk own)
      (λ d. (h.disks d).orphan) d

  orphan_now : (d : ℕ) → b.owner ≡ Disk d
      → (learn m.known (entries.Begin b)).orphan d ≡ option_map (orphan_begun b.n b.call) (m.known.orphan d)
  orphan_now d own =
      (λ j. (begins b (own j) m.known).orphan d)
      ∙ orphan_itself d (option_map (orphan_begun b.n b.call) (m.known.orphan d)) m.known.orphan

  pub begun_fitting : (d : ℕ) → b.owner ≡ Disk d
      → holds (fits_orphan b.n b.call d) ((learn m.known (entries.Begin b)).orphan d) ≡ true
  begun_fitting d own =
      let (it, is, call) = one d (m.known.orphan d) b.call (sym (λ j. call_now m b.task (own j)) ∙ may.is_call) in
      (λ j. holds (fits_orphan b.n b.call d) ((orphan_now d own
      ∙ (λ k. option_map (orphan_begun b.n b.call) (is k))) j))
      ∙ (λ j. fits_orphan b.n (sym call j) d (orphan_begun b.n (sym call j) it)) ∙ begun_fits d b.n it

-- ---- disks that are left behind

module _ (xs : List Entry) (i : Inst) (row : Row) (own : row.inst ≡ i) where
  left_recorded : (it : DiskRow) → is_let_go_of xs row it ≡ true
      → where_any (is_orphan_as_recorded xs it.disk) (Some (orphan_of i it)) ≡ true
  left_recorded it free =
      let kept : (is_disk_kept xs row it ≡ true) × _ = and_parts (is_disk_kept xs row it) _ free in
      let parts : (is_disk_there xs it.disk ≡ true)
      × (was_provided (Instance row.inst) it.tag it.want (disk_creation xs it.disk) ≡ true) =
      and_parts (is_disk_there xs it.disk)
      (was_provided (Instance row.inst) it.tag it.want (disk_creation xs it.disk)) kept.0 in
      from_parts xs it.disk (orphan_of i it) (record {
        made = wanted (disk_creation xs it.disk)
            ((λ j. was_provided (Instance (sym own j)) it.tag it.want (disk_creation xs it.disk)) ∙ parts.1);
        doubt = refl;
        there = λ j. same_truth (parts.0 j) true;
      })
    where
      wanted : (o : Option Effect) → was_provided (Instance i) it.tag it.want o ≡ true
          → is_wanted_as (orphan_of i it) o ≡ true
      wanted (Some e) was =
          let first : (same_owner e.owner (Instance i) ≡ true) × _ = and_parts (same_owner e.owner (Instance i)) _ was in
          and_from (same_owner e.owner (Instance i)) _ first.0 (and_parts (e.n == it.tag) _ first.1).1
      wanted None was = absurd (false≢true was)

  left_orphans : (disks : List DiskRow) (old : Orphans) → list_all (is_let_go_of xs row) disks ≡ true
      → ((d : ℕ) → where_any (is_orphan_as_recorded xs d) (old d) ≡ true)
      → (d : ℕ) → where_any (is_orphan_as_recorded xs d) (orphans_after i disks old d) ≡ true
  left_orphans disks old free was d =
      after_orphans (λ d x. where_any (is_orphan_as_recorded xs d) x ≡ true) i (is_let_go_of xs row) left_recorded
      disks old free was d

-- ---- entries

told : (m : Moment) (b : Begin) (answer : Answer) (d : ℕ) (did : Option Did) → notes.answers answer did
    → IsOwnerKept m b did (Disk d)
    → where_any (is_orphan_as_recorded m.effects d) (option_and_then (orphan_answered b.call answer) (m.known.orphan d))
    ≡ true
told m b answer d (Some did) says kept =
    (λ j. where_any (is_orphan_as_recorded m.effects d)
    (option_and_then (orphan_answered b.call (sym says j)) (m.known.orphan d))) ∙ kept
told m b answer d None says kept = absurd says

told_orphans : (m : Moment) (h : Holds m) (n : ℕ) (call : OpenCall) → m.calls n ≡ Some call → (answer : Answer)
    → notes.answers answer call.did → (owner : Owner) → call.begin.owner ≡ owner → (d : ℕ)
    → where_any (is_orphan_as_recorded m.effects d) (orphans_told call.begin answer owner m.known.orphan d) ≡ true
told_orphans m h n call is answer says (Instance i) own d = (h.disks d).orphan
told_orphans m h n call is answer says (Compile t s) own d = (h.disks d).orphan
told_orphans m h n call is answer says (Disk disk) own d =
    at_orphan (λ d x. where_any (is_orphan_as_recorded m.effects d) x ≡ true) disk
    (option_and_then (orphan_answered call.begin.call answer) (m.known.orphan disk)) m.known.orphan
    (told m call.begin answer disk call.did says
    (subst (λ owner. IsOwnerKept m call.begin call.did owner) own (h.performed n call is).owner_kept))
    (λ d. (h.disks d).orphan) d

pub orphans_noted : (outside : Outside) (m : Moment) (e : Entry) → may_follow m e ≡ true → MayNote outside m e → Holds m
    → AreOrphansAsRecorded (noting m e)
orphans_noted outside m (entries.Begin b) follows may h d =
    (λ j. where_any (is_orphan_as_recorded m.effects d) (orphans_begin b b.owner m.known j d))
    ∙ begun_orphans outside m h b may b.owner refl d
orphans_noted outside m (entries.End e) follows may h d = by (m.calls e.n) refl may
  where
    by : (that : Option OpenCall) → m.calls e.n ≡ that → EndsCall e that
        → where_any (is_orphan_as_recorded m.effects d) ((learn m.known (entries.End e)).orphan d) ≡ true
    by (Some that) is ends =
        (λ j. where_any (is_orphan_as_recorded m.effects d)
        ((call_ended e.answer ((h.known.calls e.n that is).begun j) m.known).orphan d))
        ∙ ((λ j. where_any (is_orphan_as_recorded m.effects d) (orphans_ended e.answer that.begin m.known j d))
        ∙ told_orphans m h e.n that is e.answer ends that.begin.owner refl d)
    by None is ends = absurd ends
orphans_noted outside m (entries.UpdDone u) follows may h d = by (want_in (m.known.task u.task).goal u.inst) refl
  where
    by : (want : Option GoalRow) → want_in (m.known.task u.task).goal u.inst ≡ want
        → where_any (is_orphan_as_recorded m.effects d)
        ((update_done (want_in (m.known.task u.task).goal u.inst) u.inst m.known).orphan d) ≡ true
    by (Some want) wants =
        (λ j. where_any (is_orphan_as_recorded m.effects d) ((update_done (wants j) u.inst m.known).orphan d))
        ∙ left_orphans m.effects u.inst (m.known.row u.inst) (h.known.lists.own_row u.inst)
        (left_behind want (m.known.row u.inst)) m.known.orphan (done_free m h u follows may want wants)
        (λ d. (h.disks d).orphan) d
    by None wants =
        (λ j. where_any (is_orphan_as_recorded m.effects d) ((update_done (wants j) u.inst m.known).orphan d))
        ∙ (h.disks d).orphan
orphans_noted outside m (entries.Gone u) follows may h d =
    left_orphans m.effects u.inst (m.known.row u.inst) (h.known.lists.own_row u.inst) (m.known.row u.inst).disks
    m.known.orphan (gone_free m h u may) (λ d. (h.disks d).orphan) d
orphans_noted outside m (entries.Snapshot it) follows may h d = absurd may
orphans_noted outside m entry follows may h d =
    (λ j. where_any (is_orphan_as_recorded m.effects d) (orphans_note outside m entry may refl j d))
    ∙ (h.disks d).orphan
