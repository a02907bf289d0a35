-- What came from outside is sound at each moment of a permitted history: the releases, and the cloud config.
use Rattle.std.proofs.Common.{◌≡◌, ◌∙◌, ℕ, Bool, true, false, List, [], ◌∷◌, Option, Some, None}
use Rattle.std.proofs.Common.{ap, arith, inl, inr, refl, subst, sym}
use Rattle.std.specs.Prelude.{◌<◌, Contains, eqb, fold, is_some, if◌then◌else◌}
use Rattle.std.specs.Option.{option_map, option_map_or}
use Rattle.std.proofs.lemmas.List.Elements.{All-nil}
use Rattle.bosh_asks.specs.Goals.{AreSound, config_in}
use Rattle.bosh_base.specs.declared.answer.Answer.{Answer}
use Rattle.bosh_base.specs.declared.answer.Answer.TheVariants as answers
use Rattle.bosh_base.specs.declared.call.Call.{Call}
use Rattle.bosh_base.specs.declared.call.Call.TheVariants.{CompilePackage}
use Rattle.bosh_base.specs.declared.entry.Begin.{Begin}
use Rattle.bosh_base.specs.declared.entry.Entry.{Entry}
use Rattle.bosh_base.specs.declared.entry.Entry.TheVariants as entries
use Rattle.bosh_base.specs.declared.goal.Goal.{Goal}
use Rattle.bosh_base.specs.declared.goal.GoalRow.{GoalRow}
use Rattle.bosh_base.specs.declared.inst.Inst.{Inst}
use Rattle.bosh_base.specs.declared.moves.Move.{Move}
use Rattle.bosh_base.specs.declared.owner.Owner.{Owner}
use Rattle.bosh_base.specs.declared.owner.Owner.TheVariants.{Compile, Disk, Instance}
use Rattle.bosh_base.specs.declared.task.TaskKind.{TaskKind}
use Rattle.bosh_base.specs.declared.task.TaskKind.TheVariants.{DeleteDeployment, Deploy, Fix}
use Rattle.bosh_history.proofs.KnownLemmas.{known_by_entries}
use Rattle.bosh_history.specs.Calls.{begins, call_ended, compiles, ends_of, orphan_after, orphan_told, shows_gone, shows_there, slot_answered}
use Rattle.bosh_history.specs.Fit.{AreShortened, IsFit, StandFor, empty, left}
use Rattle.bosh_history.specs.Known.{Known, Slot, dep_of_task, want_in}
use Rattle.bosh_history.specs.Learn.{known_of, learn}
use Rattle.bosh_history.specs.Moments.{Moment, Opening, beginning, durable, later, moment}
use Rattle.bosh_history.specs.Notes.{MayNote, Outside}
use Rattle.bosh_history.specs.Permitted.{IsRun, IsRunFrom}
use Rattle.bosh_history.specs.Slots.{slot_after}
use Rattle.bosh_history.specs.Snapshots.{snapshot_of}
use Rattle.bosh_history.specs.Tasks.{settles}
use Rattle.bosh_history.specs.Updates.{update_done}
use Rattle.bosh_history.specs.Words.{at, without}
use Rattle.bosh_release.specs.Sound.{IsSound}
use Rattle.laws_facts.proofs.MoveLemmas.{by_note}
use Rattle.laws_runs.proofs.PlainLemmas.{stored_told}
use Rattle.laws_undamaged.specs.Settled.{TellsRightly}
use Rattle.laws_undamaged.specs.Uploads.{AreUploadsSound}

-- ---- what leaves uploads as they are

-- the releases and the cloud config
pub record SameUploads (old new : Known) : Type 0 where
  pub releases : new.releases ≡ old.releases
  pub config : new.config ≡ old.config

same_begun : (b : Begin) (owner : Owner) (k : Known) → SameUploads k (begins b owner k)
same_begun b (Instance i) k = record { releases = refl; config = refl }
same_begun b (Compile t s) k = record { releases = refl; config = refl }
same_begun b (Disk d) k = record { releases = refl; config = refl }

same_slot : (t s : ℕ) (it : Option Slot) (k : Known) → SameUploads k (slot_answered t s it k)
same_slot t s (Some it) k = record { releases = refl; config = refl }
same_slot t s None k = record { releases = refl; config = refl }

same_orphan : (d : ℕ) (call : Call) (answer : Answer) (k : Known) → SameUploads k (orphan_after d call answer k)
same_orphan d call answer k = by (shows_gone call answer)
  where
    by : (gone : Bool)
        → SameUploads k
        (if gone
        then record k { orphans = without eqb d k.orphans; orphan = at eqb d None k.orphan }
        else record k { orphan = at eqb d (option_map (orphan_told (shows_there call answer)) (k.orphan d)) k.orphan })
    by true = record { releases = refl; config = refl }
    by false = record { releases = refl; config = refl }

same_answered : (b : Begin) (answer : Answer) (owner : Owner) (k : Known) → SameUploads k (ends_of b answer owner k)
same_answered b answer (Instance i) k = record { releases = refl; config = refl }
same_answered b answer (Compile t s) k = same_slot t s (slot_after b.n b.call answer (k.slot t s)) k
same_answered b answer (Disk d) k = same_orphan d b.call answer k

same_compiled : (call : Call) (answer : Answer) (old k : Known) → SameUploads old k → SameUploads old (compiles call answer k)
same_compiled (CompilePackage vm work deps) (answers.Built digest) old k same =
    record { releases = same.releases; config = same.config }
same_compiled (CompilePackage vm work deps) answer old k same = same
same_compiled call answer old k same = same

same_ended : (answer : Answer) (b : Option Begin) (k : Known) → SameUploads k (call_ended answer b k)
same_ended answer (Some b) k = record { releases = same.releases; config = same.config }
  where
    same : SameUploads k (compiles b.call answer (ends_of b answer b.owner k))
    same = same_compiled b.call answer k (ends_of b answer b.owner k) (same_answered b answer b.owner k)
same_ended answer None k = record { releases = refl; config = refl }

same_updated : (want : Option GoalRow) (i : Inst) (k : Known) → SameUploads k (update_done want i k)
same_updated (Some want) i k = record { releases = refl; config = refl }
same_updated None i k = record { releases = refl; config = refl }

same_settled : (kind : TaskKind) (goal : Option Goal) (dep : List ℕ) (k : Known) → SameUploads k (settles kind goal dep k)
same_settled Deploy goal dep k = record { releases = refl; config = refl }
same_settled Fix goal dep k = record { releases = refl; config = refl }
same_settled DeleteDeployment goal dep k = record { releases = refl; config = refl }
same_settled kind goal dep k = record { releases = refl; config = refl }

-- ---- no release

none_there : {X : Type 0} (x : X) → Contains [] x → ⊥
none_there x it = let below : it.0 < 0 = it.1 in absurd (omega (arith, below))

pub none_sound : AreSound []
none_sound = (All-nil IsSound, λ release other pack that one two prints. absurd (none_there release one.release_there))

-- ---- one more entry

abbrev pub HasSoundUploads : Known → Type 0
HasSoundUploads k = AreUploadsSound k.releases k.config

still_sound : (old new : Known) → SameUploads old new → HasSoundUploads old → HasSoundUploads new
still_sound old new same it = record {
  releases = subst AreSound (sym same.releases) it.releases;
  config = ap (λ file. option_map_or (λ text. is_some (config_in text)) file true) same.config ∙ it.config;
}

-- it brings neither a release nor a cloud config
abbrev IsOther : Entry → Type 0
IsOther (entries.Release r) = ⊥
IsOther (entries.Config file) = ⊥
IsOther (entries.Snapshot s) = ⊥
IsOther e = Unit {0}

same_uploads : (k : Known) (e : Entry) → IsOther e → SameUploads k (learn k e)
same_uploads k (entries.Release r) other = absurd other
same_uploads k (entries.Config file) other = absurd other
same_uploads k (entries.Snapshot s) other = absurd other
same_uploads k (entries.Begin b) other = record { releases = same.releases; config = same.config }
  where
    same : SameUploads k (begins b b.owner k)
    same = same_begun b b.owner k
same_uploads k (entries.End e) other = same_ended e.answer (k.begun e.n) k
same_uploads k (entries.UpdDone u) other = record { releases = same.releases; config = same.config }
  where
    same : SameUploads k (update_done (want_in (k.task u.task).goal u.inst) u.inst k)
    same = same_updated (want_in (k.task u.task).goal u.inst) u.inst k
same_uploads k (entries.TaskDone t) other = record { releases = same.releases; config = same.config }
  where
    same : SameUploads k (settles (k.task t).kind (k.task t).goal (dep_of_task k t) k)
    same = same_settled (k.task t).kind (k.task t).goal (dep_of_task k t) k
same_uploads k e other = record { releases = refl; config = refl }

-- an entry that brings no release leaves the releases
abbrev IsNoRelease : Entry → Type 0
IsNoRelease (entries.Release r) = ⊥
IsNoRelease (entries.Snapshot s) = ⊥
IsNoRelease e = Unit {0}

pub releases_kept : (k : Known) (e : Entry) → IsNoRelease e → (learn k e).releases ≡ k.releases
releases_kept k (entries.Release r) none = absurd none
releases_kept k (entries.Snapshot s) none = absurd none
releases_kept k (entries.Config file) none = refl
releases_kept k e none = (same_uploads k e tt).releases

module _ (outside : Outside) (right : TellsRightly outside) where
  note_sound : (m : Moment) (e : Entry) → MayNote outside m e → HasSoundUploads m.known → HasSoundUploads (learn m.known e)
  note_sound m (entries.Release r) may it = record {
    releases = right.releases m.known.releases r may.goes_with;
    config = it.config;
  }
  note_sound m (entries.Config file) may it = record { releases = it.releases; config = right.configs file may }
  note_sound m (entries.Snapshot s) may it = absurd may
  note_sound m e may it = still_sound m.known (learn m.known e) (same_uploads m.known e tt) it

  -- ---- a history

  sound_later : (m : Moment) (moves : List Move) → IsRunFrom outside m moves → HasSoundUploads m.known
      → HasSoundUploads (fold later m moves).known
  sound_later m [] run it = it
  sound_later m (move ∷ moves) run it =
      sound_later (later m move) moves run.1 (by_note outside HasSoundUploads m (λ e may. note_sound m e may it) it move run.0)

  -- a store tells of the same uploads as what was written
  pub stored_sound : (stored written : List Entry) → StandFor stored written → HasSoundUploads (known_of written)
      → HasSoundUploads (known_of stored)
  stored_sound stored written (inl alike) it =
      still_sound (known_of written) (known_of stored) (record {
        releases = ap (λ (k : Known). k.releases) (stored_told stored written alike);
        config = ap (λ (k : Known). k.config) (stored_told stored written alike);
      }) it
  stored_sound stored written (inr short) it = by stored short
    where
      by : (stored : List Entry) → AreShortened stored written → HasSoundUploads (known_of stored)
      by [] short = absurd short
      by (entry ∷ []) short =
          still_sound (known_of written) (known_of (entry ∷ [])) (record {
            releases = ap (λ (k : Known). k.releases)
                (stored_told (entry ∷ []) (entries.Snapshot (snapshot_of (known_of written)) ∷ []) (short, tt));
            config = ap (λ (k : Known). k.config)
                (stored_told (entry ∷ []) (entries.Snapshot (snapshot_of (known_of written)) ∷ []) (short, tt));
          }) it
      by (entry ∷ e ∷ more) short = absurd short

  fit_sound : (o : Opening) → IsFit outside o → HasSoundUploads (beginning o).known
  fit_sound o empty = record { releases = none_sound; config = refl }
  fit_sound o (left before next session fit pair) =
      stored_sound next.entries (durable before session) pair.entries
      (subst HasSoundUploads (known_by_entries before session)
      (sound_later (beginning before) session pair.is_run (fit_sound before fit)))

  pub run_sound : (o : Opening) (moves : List Move) → IsFit outside o → IsRun outside o moves
      → HasSoundUploads (moment o moves).known
  run_sound o moves fit run = sound_later (beginning o) moves run (fit_sound o fit)
