-- A site stays good that noted entries which may be, and halted then since the director's store failed.
use Rattle.std.proofs.Common.{◌≡◌, ◌∙◌, ℕ, Bool, true, false, List, [], ◌∷◌, ◌++◌, Option, Some, None, ap, refl, subst, sym, length}
use Rattle.std.specs.Prelude.{fold, map}
use Rattle.std.specs.List.{filter_map}
use Rattle.std.proofs.lemmas.Bool.{false≢true}
use Rattle.bosh_base.specs.declared.entry.Entry.{Entry}
use Rattle.bosh_base.specs.declared.entry.Entry.TheVariants as entries
use Rattle.bosh_base.specs.declared.moves.Cause.{Cause}
use Rattle.bosh_base.specs.declared.moves.Move.TheVariants as moves
use Rattle.bosh_base.specs.declared.failure.Failure.TheVariants as failures
use Rattle.bosh_cloud.specs.CloudView.{CloudView}
use Rattle.bosh_cloud.specs.Loading as cloud
use Rattle.bosh_history.specs.Moments.{Moment, Opening, durable_entry, later, noting}
use Rattle.bosh_history.specs.Notes.{Begins, BeginsUpdate, EndsTask, EndsUpdate, IsCause, Leaves, MayNote, Outside}
use Rattle.bosh_history.specs.Permitted.{IsRunFrom}
use Rattle.bosh_journal.specs.Appends.{added}
use Rattle.bosh_journal.specs.JournalView.{Pending}
use Rattle.bosh_ports.specs.declared.keeper.Keeper as keeper
use Rattle.bosh_world.specs.Steps.{Notes}
use Rattle.bosh_world.specs.declared.site.Site.{Site}
use Rattle.laws_held.proofs.PartLemmas.{whole_moves}
use Rattle.laws_held.specs.Whole.{Whole}
use Rattle.laws_sites.proofs.HaltLemmas.{may_come_none}
use Rattle.laws_sites.proofs.MomentLemmas.{MayBeNext, later_from, run_from}
use Rattle.laws_sites.proofs.NoteLemmas.{effects_noted, halted_noted}
use Rattle.laws_sites.proofs.StepLemmas.{IsAfter, good_on, stopped}
use Rattle.laws_sites.specs.Good.{GoesOn, IsGood, IsRecorded, moment_of}
use Rattle.laws_stands_noted.proofs.AgreesLemmas.{move_agrees}
use Rattle.bosh_history.specs.Fit.{has_numbers}
use Rattle.laws_sites.proofs.CountLemmas.{HasRoomFor, numbers_next}
use Rattle.bosh_moves.proofs.TellLemmas.{after_notes}
use Rattle.bosh_moves.specs.Story.{effects_told}
use Rattle.laws_sites.proofs.ExplainLemmas.{explained, MayPend, MayCome}

-- ---- what may be noted may be kept once it has halted

begins_stopped : (m : Moment) (b : _) → Begins m b → Begins (stopped m) b
begins_stopped m b may = record {
  is_open = may.is_open;
  none_failed = may.none_failed;
  number = may.number;
  is_idle = may.is_idle;
  is_item = may.is_item;
  has_begun = may.has_begun;
  is_call = may.is_call;
}

begins_update_stopped : (m : Moment) (u : _) → BeginsUpdate m u → BeginsUpdate (stopped m) u
begins_update_stopped m u may = record {
  is_open = may.is_open;
  is_changed = may.is_changed;
  waits = may.waits;
  is_asked = may.is_asked;
  is_item = may.is_item;
  may_begin = may.may_begin;
}

ends_update_stopped : (m : Moment) (u : _) → EndsUpdate m u → EndsUpdate (stopped m) u
ends_update_stopped m u may = record {
  is_open = may.is_open;
  is_changed = may.is_changed;
  is_asked = may.is_asked;
  is_idle = may.is_idle;
  no_step = may.no_step;
  is_item = may.is_item;
  canaries_first = may.canaries_first;
}

leaves_stopped : (m : Moment) (u : _) → Leaves m u → Leaves (stopped m) u
leaves_stopped m u may = record {
  is_open = may.is_open;
  is_obsolete = may.is_obsolete;
  is_asked = may.is_asked;
  is_idle = may.is_idle;
  no_step = may.no_step;
  is_item = may.is_item;
}

ends_task_stopped : (m : Moment) (t : _) → EndsTask m t → EndsTask (stopped m) t
ends_task_stopped m t may = record {
  is_open = may.is_open;
  none_failed = may.none_failed;
  no_call = may.no_call;
  all_asked = may.all_asked;
  all_changed = may.all_changed;
  all_gone = may.all_gone;
  no_machine = may.no_machine;
  all_compiled = may.all_compiled;
  all_deleted = may.all_deleted;
}

note_stopped : (outside : Outside) (m : Moment) (e : Entry) → MayNote outside m e → MayNote outside (stopped m) e
note_stopped outside m (entries.Release r) may = may
note_stopped outside m (entries.Stemcell s) may = may
note_stopped outside m (entries.Config file) may = may
note_stopped outside m (entries.TaskOpen o) may = may
note_stopped outside m (entries.Begin b) may = begins_stopped m b may
note_stopped outside m (entries.End e) may = may
note_stopped outside m (entries.UpdBegin u) may = begins_update_stopped m u may
note_stopped outside m (entries.UpdDone u) may = ends_update_stopped m u may
note_stopped outside m (entries.Gone u) may = leaves_stopped m u may
note_stopped outside m (entries.TaskDone t) may = ends_task_stopped m t may
note_stopped outside m (entries.TaskError e) may =
    record { is_open = may.is_open; no_call = may.no_call; cause = by e.cause may.cause }
  where
    by : (cause : _) → IsCause m e.task cause → IsCause (stopped m) e.task cause
    by failures.Interrupted is = is
    by cause is = is
note_stopped outside m e may = absurd may

-- what is pending may be kept
pub pending_stopped : (outside : Outside) (m : Moment) (e : Entry) (is_broken : Bool) (pending : Option Pending)
    → MayBeNext outside m e → HasRoomFor m e → has_numbers m.known ≡ true → pending ≡ Some (added e)
    → MayPend outside (stopped m) is_broken pending
pending_stopped outside m e is_broken pending may room numbers is =
    subst (MayPend outside (stopped m) is_broken) (sym is) (by is_broken)
  where
    by : (b : Bool) → MayPend outside (stopped m) b (Some (added e))
    by true = (
      refl,
      (note_stopped outside m e may.0.2, may.0.1),
      may.1,
      numbers_next outside m e may.0.2 room numbers,
    )
    by false = tt

-- ---- moves that note, and then a halt

pub whole_noted : (outside : Outside) (m : Moment) (noted : List Entry) → Whole m
    → IsRunFrom outside m (map moves.Note noted) → Whole (fold later m (map moves.Note noted))
whole_noted outside m [] whole may = whole
whole_noted outside m (e ∷ noted) whole may =
    whole_noted outside (noting m e) noted (whole_moves outside m (moves.Note e) may.0 whole) may.1

durable_halt : (noted : List Entry) (cause : Cause)
    → filter_map durable_entry (map moves.Note noted ++ moves.Halt cause ∷ []) ≡ noted
durable_halt [] cause = refl
durable_halt (e ∷ noted) cause = ap (λ es. e ∷ es) (durable_halt noted cause)

module _ {K L : Type 0} {k : keeper.Ghosts K} {l : keeper.Ghosts L} (outside : Outside) (bodies : K → Option (List (List ℕ)))
    (cloud_bodies : L → Option (List (List ℕ))) (faults : K → ℕ) (o : Opening) (was now : Site K L k l)
    (noted : List Entry) (cause : Cause) (good : IsGood outside bodies cloud_bodies o was)
    (notes : Notes bodies faults was noted (Some cause) now) (whole : Whole (moment_of o was))
    (may : IsRunFrom outside (moment_of o was) (map moves.Note noted))
    (recorded : IsRecorded (fold later (moment_of o was) (map moves.Note noted)) now)
    (numbers : has_numbers (fold later (moment_of o was) (map moves.Note noted)).known ≡ true)
    (pends : MayPend outside (stopped (fold later (moment_of o was) (map moves.Note noted))) now.book.journal.is_broken
    now.book.journal.pending) where
  abbrev after : Moment
  after = fold later (moment_of o was) (map moves.Note noted)

  goes : GoesOn bodies cloud_bodies (moment_of o was) was
  goes = good.runs notes.running

  runs : after.halted ≡ false
  runs = halted_noted (moment_of o was) noted ∙ good.halted ∙ notes.running

  last : fold later (moment_of o was) (map moves.Note noted ++ moves.Halt cause ∷ []) ≡ stopped after
  last = later_from (moment_of o was) (map moves.Note noted) (moves.Halt cause ∷ [])

  told : IsRecorded (stopped after) now
  told = record {
    told = recorded.told;
    agrees = move_agrees outside after recorded.told (moves.Halt cause) recorded.agrees
        (whole_noted outside (moment_of o was) noted whole may).holds.known recorded.whole.stands.tells_well runs;
    whole = recorded.whole;
  }

  pub noted_halt_good : IsGood outside bodies cloud_bodies o now
  noted_halt_good =
      good_on outside bodies cloud_bodies o was now (map moves.Note noted ++ moves.Halt cause ∷ []) good
      notes.comes.story notes.same_opening
      (run_from outside (moment_of o was) (map moves.Note noted) (moves.Halt cause ∷ []) may (runs, tt, tt))
      (notes.book.entries ∙ ap (λ es. was.book.journal.entries ++ es) (sym (durable_halt noted cause)))
      (subst (λ (m : Moment). IsAfter outside bodies cloud_bodies m now) (sym last) (record {
        halted = sym notes.halted;
        numbers = numbers;
        told = notes.comes.told
            ∙ after_notes noted (Some cause) (length now.cloud.effects) (effects_told was.history was.cloud.effects)
            ∙ good.told
            ∙ ap (λ (es : List Entry). length es) (sym (effects_noted (moment_of o was) noted));
        recorded = λ read. told;
        runs = λ running. absurd (false≢true (sym running ∙ notes.halted));
        halts = λ is. explained outside bodies cloud_bodies (stopped after) now (record {
          wrote = None;
          took = [];
          may_write = tt;
          may_take = tt;
          effects = (λ i. (notes.same_cloud i).effects) ∙ goes.effects ∙ sym (effects_noted (moment_of o was) noted);
          may_come = may_come_none outside (stopped after) None [] now.cloud.is_stale now.cloud.pending
              ((λ i. (notes.same_cloud i).is_stale) ∙ was.is_site.cloud_runs notes.running);
          may_pend = pends;
          book_kept = notes.book.kept goes.book_kept;
          cloud_kept = subst (λ (c : CloudView L). cloud.IsKept cloud_bodies c) (sym notes.same_cloud) goes.cloud_kept;
          numbers = numbers;
        });
      }))
