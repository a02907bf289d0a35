-- Each entry leaves each disk that is there recorded once.
use Rattle.std.proofs.Common.{◌≡◌, ◌∙◌, ℕ, ◌+◌, Bool, true, false, Option, Some, None, refl, sym, inl, inr}
use Rattle.std.specs.Prelude.{◌&&◌, ◌==◌, ◌≢◌, if◌then◌else◌, is_some, not}
use Rattle.std.specs.Option.{option_and_then, option_map}
use Rattle.std.proofs.lemmas.Bool.{eqb-true, false≢true}
use Rattle.bosh_base.specs.declared.answer.Answer.{Answer}
use Rattle.bosh_base.specs.declared.call.Call.TheVariants as calls
use Rattle.bosh_base.specs.declared.entry.Begin.{Begin}
use Rattle.bosh_base.specs.declared.entry.End.{End}
use Rattle.bosh_base.specs.declared.entry.Entry.{Entry}
use Rattle.bosh_base.specs.declared.entry.Entry.TheVariants as entries
use Rattle.bosh_base.specs.declared.inst.Inst.{Inst}
use Rattle.bosh_base.specs.declared.moves.Did.{Did}
use Rattle.bosh_base.specs.declared.owner.Owner.{Owner}
use Rattle.bosh_base.specs.declared.owner.Owner.TheVariants.{Compile, Disk, Instance}
use Rattle.bosh_base.specs.declared.snapshot.Orphan.{Orphan}
use Rattle.bosh_history.specs.Calls.{begins, call_ended, orphan_begun, orphan_told, shows_gone, shows_there}
use Rattle.bosh_history.specs.Known.{Known}
use Rattle.bosh_history.specs.Learn.{learn}
use Rattle.bosh_history.specs.Moments.{Moment, noting, OpenCall}
use Rattle.bosh_history.specs.Notes.{Begins, EndsCall, MayNote, Outside}
use Rattle.bosh_history.specs.Notes as notes
use Rattle.bosh_history.specs.Recovered.{may_follow}
use Rattle.bosh_history.specs.Steps.{call_now, want_of}
use Rattle.bosh_history.specs.Ties.{is_making}
use Rattle.bosh_rows.proofs.SameLemmas.{same_inst_decides}
use Rattle.bosh_rows.specs.After.{begun_row, leaves_doubt}
use Rattle.bosh_rows.specs.Same.{same_inst, same_owner}
use Rattle.bosh_rows.specs.Tied.{one_if}
use Rattle.laws_disks_kept.proofs.CountLemmas.{Counted, counted, recorded, times}
use Rattle.laws_disks_kept.proofs.GrowthLemmas.{unmade}
use Rattle.laws_disks_kept.proofs.InstanceAnswers.{Asks, asks}
use Rattle.laws_disks_kept.proofs.OnceAnswers.{orphan_other, row_other, row_own}
use Rattle.laws_disks_kept.proofs.OnceUpdates.{done_once, gone_once}
use Rattle.laws_disks_kept.proofs.OrphanBegun.{fresh}
use Rattle.laws_disks_kept.proofs.OrphanNotes.{at_orphan, orphan_itself, Orphans, orphans_begin, orphans_begun}
use Rattle.laws_disks_kept.proofs.OrphanNotes.{orphans_ended, orphans_note, orphans_told}
use Rattle.laws_disks_kept.proofs.RowTimes.{begun_times, makes_none}
use Rattle.laws_disks_kept.specs.Disks.{AreRecordedOnce}
use Rattle.laws_facts.specs.CallFacts.{is_disk_kept_by}
use Rattle.laws_facts.specs.Disks.{is_recorded_once}
use Rattle.laws_facts.specs.Facts.{Holds}
use Rattle.laws_facts.specs.OpenCalls.{is_orphan_answered, rows_answered}
use Rattle.laws_items.proofs.OwnerLemmas.{same_owner_is}
use Rattle.laws_items.proofs.RowFrames.{ended_own, ended_row, row_note}
use Rattle.laws_row_facts.specs.Words.{where_any}
use Rattle.laws_slots.specs.Orphans.{orphan_answered}

module _ (m : Moment) (h : Holds m) where
  abbrev pub Now : ℕ → Type 0
  Now d = Counted m.effects m.known.row (is_some (m.known.orphan d)) d

  -- what is known then has each disk that is there once
  pub once_by : (k : Known) (d : ℕ)
      → ((it : Now d) → times (k.row it.inst) d it.effect.n + one_if (is_some (k.orphan d)) ≡ 1)
      → is_recorded_once m.effects k.row (is_some (k.orphan d)) d ≡ true
  once_by k d same =
      recorded m.effects k.row (is_some (k.orphan d)) d
      (λ there. of (counted m.effects m.known.row (is_some (m.known.orphan d)) d (h.disks d).once there))
    where
      of : Now d → Counted m.effects k.row (is_some (k.orphan d)) d
      of it = record {
        effect = it.effect;
        made = it.made;
        inst = it.inst;
        owner = it.owner;
        once = same it;
      }

-- ---- a call begins

mapped : (f : Orphan → Orphan) (o : Option Orphan) → is_some (option_map f o) ≡ is_some o
mapped f (Some it) = refl
mapped f None = refl

begun_some : (b : Begin) (owner : Owner) (f : Orphans) (d : ℕ) → is_some (orphans_begun b owner f d) ≡ is_some (f d)
begun_some b (Instance i) f d = refl
begun_some b (Compile t s) f d = refl
begun_some b (Disk disk) f d =
    at_orphan (λ d x. is_some x ≡ is_some (f d)) disk (option_map (orphan_begun b.n b.call) (f disk)) f
    (mapped (orphan_begun b.n b.call) (f disk)) (λ d. refl) d

module _ (outside : Outside) (m : Moment) (h : Holds m) (b : Begin) (may : Begins m b) where
  -- a call that leaves a doubt begins on a row that makes no disk
  quiet : (i : Inst) → b.owner ≡ Instance i → (tag : ℕ) → leaves_doubt b.call ≡ true
      → is_making tag (m.known.row i).doubt ≡ false
  quiet i own tag leaves =
      of (asks (m.known.task b.task) i (m.known.row i) b.call (sym (λ j. call_now m b.task (own j)) ∙ may.is_call))
    where
      of : Asks (m.known.task b.task) i (m.known.row i) b.call → is_making tag (m.known.row i).doubt ≡ false
      of (inl (v, ping)) = absurd (false≢true ((λ j. leaves_doubt (ping j)) ∙ leaves))
      of (inr next) =
          makes_none (want_of (m.known.task b.task) i) (m.known.row i) tag
          (λ n found. let same : Some b.call ≡ Some (calls.FindDisk n) = sym next ∙ found in
          let one : b.call ≡ calls.FindDisk n = cc in
          false≢true (sym (λ j. leaves_doubt (one j)) ∙ leaves))

  begun_row_times : (owner : Owner) → b.owner ≡ owner → (d : ℕ) (it : Now m h d)
      → times ((begins b owner m.known).row it.inst) d it.effect.n ≡ times (m.known.row it.inst) d it.effect.n
  begun_row_times (Instance i) own d it = by (same_inst i it.inst) refl
    where
      by : (same : Bool) → same_inst i it.inst ≡ same
          → times (if same_inst i it.inst then begun_row b.n b.call (m.known.row i) else m.known.row it.inst) d
          it.effect.n ≡ times (m.known.row it.inst) d it.effect.n
      by true same =
          (λ j. times (if same j then begun_row b.n b.call (m.known.row i) else m.known.row it.inst) d it.effect.n)
          ∙ (begun_times b.n d it.effect.n b.call (m.known.row i)
          (unmade m.effects b.n d it.effect (fresh outside m h b may) it.made)
          (quiet i own it.effect.n)
          ∙ (λ j. times (m.known.row ((same_inst_decides i it.inst).0 same j)) d it.effect.n))
      by false other =
          λ j. times (if other j then begun_row b.n b.call (m.known.row i) else m.known.row it.inst) d it.effect.n
  begun_row_times (Compile t s) own d it = refl
  begun_row_times (Disk disk) own d it = refl

  begun_once : (d : ℕ) (it : Now m h d)
      → times ((learn m.known (entries.Begin b)).row it.inst) d it.effect.n
      + one_if (is_some ((learn m.known (entries.Begin b)).orphan d)) ≡ 1
  begun_once d it =
      (λ j. begun_row_times b.owner refl d it j
      + one_if (((λ l. is_some (orphans_begin b b.owner m.known l d)) ∙ begun_some b b.owner m.known.orphan d) j))
      ∙ it.once

-- ---- a call is answered

module _ (k : Known) (b : Begin) (answer : Answer) where
  ended_rows : (o : Inst) → (call_ended answer (Some b) k).row o ≡ rows_answered k b answer o
  ended_rows o = by (same_owner b.owner (Instance o)) refl
    where
      by : (same : Bool) → same_owner b.owner (Instance o) ≡ same
          → (call_ended answer (Some b) k).row o ≡ rows_answered k b answer o
      by true same =
          let own : b.owner ≡ Instance o = same_owner_is b.owner (Instance o) same in
          ended_own answer b k o own ∙ sym (row_own k b answer o own)
      by false other =
          ended_row answer (Some b) k o (λ that is own. apart (let one : b ≡ that = cc in (λ j. (one j).owner) ∙ own))
          ∙ sym (row_other k b answer o apart)
        where
          apart : b.owner ≢ Instance o
          apart same =
              false≢true (sym other
              ∙ ((λ l. same_owner (same l) (Instance o)) ∙ (same_inst_decides o o).1 refl))

  told_some : (o : Option Orphan) (gone there : Bool)
      → is_some (option_and_then (λ it. if gone then None else Some (orphan_told there it)) o)
      ≡ (is_some o && not (true && gone))
  told_some (Some it) true there = refl
  told_some (Some it) false there = refl
  told_some None true there = refl
  told_some None false there = refl

  pub ended_orphans : (d : ℕ) → is_some ((call_ended answer (Some b) k).orphan d) ≡ is_orphan_answered k b answer d
  ended_orphans d = (λ j. is_some (orphans_ended answer b k j d)) ∙ by b.owner refl
    where
      of_disk : (disk : ℕ) → b.owner ≡ Disk disk → (same : Bool) → (disk == d) ≡ same
          → is_some (orphans_told b answer (Disk disk) k.orphan d)
          ≡ (is_some (k.orphan d) && not ((disk == d) && shows_gone b.call answer))
      of_disk disk own true same =
          let one : disk ≡ d = eqb-true disk d same in
          (λ j. is_some (orphans_told b answer (Disk (one j)) k.orphan d))
          ∙ ((λ j. is_some (orphan_itself d (option_and_then (orphan_answered b.call answer) (k.orphan d)) k.orphan j))
          ∙ (told_some (k.orphan d) (shows_gone b.call answer) (shows_there b.call answer)
          ∙ sym (λ j. is_some (k.orphan d) && not (same j && shows_gone b.call answer))))
      of_disk disk own false other =
          (λ j. is_some (if other j then option_and_then (orphan_answered b.call answer) (k.orphan disk)
          else k.orphan d))
          ∙ (whole (is_some (k.orphan d))
          ∙ sym (λ j. is_some (k.orphan d) && not (other j && shows_gone b.call answer)))
        where
          whole : (b : Bool) → b ≡ (b && true)
          whole true = refl
          whole false = refl

      by : (owner : Owner) → b.owner ≡ owner
          → is_some (orphans_told b answer owner k.orphan d) ≡ is_orphan_answered k b answer d
      by (Instance i) own =
          sym (orphan_other k b answer d (λ j. same_owner (own j) (Disk d) && shows_gone b.call answer))
      by (Compile t s) own =
          sym (orphan_other k b answer d (λ j. same_owner (own j) (Disk d) && shows_gone b.call answer))
      by (Disk disk) own =
          of_disk disk own (disk == d) refl
          ∙ sym (λ j. is_some (k.orphan d) && not (same_owner (own j) (Disk d) && shows_gone b.call answer))

ended_once : (m : Moment) (h : Holds m) (e : End) → EndsCall e (m.calls e.n) → (d : ℕ)
    → is_recorded_once m.effects (learn m.known (entries.End e)).row
    (is_some ((learn m.known (entries.End e)).orphan d)) d ≡ true
ended_once m h e may d = by (m.calls e.n) refl may
  where
    told : (that : OpenCall) → m.calls e.n ≡ Some that → (did : Option Did) → that.did ≡ did
        → notes.answers e.answer did
        → is_recorded_once m.effects (learn m.known (entries.End e)).row
        (is_some ((learn m.known (entries.End e)).orphan d)) d ≡ true
    told that is (Some did) is_did says =
        (λ j. is_recorded_once m.effects (call_ended e.answer ((h.known.calls e.n that is).begun j) m.known).row
        (is_some ((call_ended e.answer ((h.known.calls e.n that is).begun j) m.known).orphan d)) d)
        ∙ ((λ j. is_recorded_once m.effects (λ o. ended_rows m.known that.begin e.answer o j)
        (ended_orphans m.known that.begin e.answer d j) d)
        ∙ ((λ j. is_disk_kept_by m that.begin d (record did { answer = sym says j }))
        ∙ (sym (λ j. where_any (is_disk_kept_by m that.begin d) (is_did j)) ∙ (h.performed e.n that is).disks_kept d)))
    told that is None is_did says = absurd says

    by : (that : Option OpenCall) → m.calls e.n ≡ that → EndsCall e that
        → is_recorded_once m.effects (learn m.known (entries.End e)).row
        (is_some ((learn m.known (entries.End e)).orphan d)) d ≡ true
    by (Some that) is ends = told that is that.did refl ends
    by None is ends = absurd ends

-- ---- entries

pub once_noted : (outside : Outside) (m : Moment) (e : Entry) → may_follow m e ≡ true → MayNote outside m e → Holds m
    → AreRecordedOnce (noting m e)
once_noted outside m (entries.Begin b) follows may h d =
    once_by m h (learn m.known (entries.Begin b)) d (begun_once outside m h b may d)
once_noted outside m (entries.End e) follows may h d = ended_once m h e may d
once_noted outside m (entries.UpdDone u) follows may h d =
    once_by m h (learn m.known (entries.UpdDone u)) d (done_once m h d u follows may)
once_noted outside m (entries.Gone u) follows may h d =
    once_by m h (learn m.known (entries.Gone u)) d (gone_once m h d u may)
once_noted outside m (entries.Snapshot s) follows may h d = absurd may
once_noted outside m entry follows may h d =
    (λ j. is_recorded_once m.effects (λ i. row_note outside m entry i may refl tt j)
    (is_some (orphans_note outside m entry may refl j d)) d) ∙ (h.disks d).once
