-- A site stays good as entries are noted that may be, one after the other, as far as its records stand for them.
use Rattle.std.proofs.Common.{◌≡◌, ◌∙◌, ◌<◌, ◌≤◌, ℕ, Bool, true, false, List, [], ◌∷◌, ◌++◌, Option, None, ap, append-nil, arith, refl, subst, sym, length}
use Rattle.std.specs.Prelude.{◌≢◌, fold, map, if◌then◌else◌}
use Rattle.std.specs.List.{filter_map}
use Rattle.std.proofs.lemmas.Bool.{false≢true}
use Rattle.bosh_base.specs.declared.entry.Entry.{Entry}
use Rattle.bosh_base.specs.declared.entry.Entry.TheVariants as entries
use Rattle.bosh_base.specs.declared.moves.Cause.{Cause}
use Rattle.bosh_base.specs.declared.moves.Move.{Move}
use Rattle.bosh_base.specs.declared.moves.Move.TheVariants as moves
use Rattle.bosh_book.specs.declared.standing.Standing.TheVariants.{Unread}
use Rattle.bosh_calls.specs.Calls.{is_other, without}
use Rattle.bosh_calls.specs.declared.calls.OpenCall as site
use Rattle.bosh_cloud.specs.CloudView.{CloudView}
use Rattle.bosh_cloud.specs.Loading as cloud
use Rattle.bosh_fold.specs.Learns.{Learns, LearnsAll}
use Rattle.bosh_history.specs.Fit.{IsFit, has_numbers}
use Rattle.bosh_history.specs.Moments.{Moment, Opening, durable_entry, later, noting}
use Rattle.bosh_history.specs.Notes.{MayNote, Outside}
use Rattle.bosh_history.specs.Permitted.{IsPermitted, IsRunFrom}
use Rattle.bosh_history.specs.Recovered.{is_recovering, may_follow}
use Rattle.bosh_ports.specs.declared.keeper.Keeper as keeper
use Rattle.bosh_records.specs.declared.records.Records.{Records}
use Rattle.bosh_world.specs.Holds.{IsHeld}
use Rattle.bosh_world.specs.Steps.{Notes}
use Rattle.bosh_world.specs.Told.{story_of}
use Rattle.bosh_world.specs.declared.held.HeldCall.{HeldCall}
use Rattle.bosh_world.specs.declared.site.Site.{Site}
use Rattle.laws_addresses.proofs.WorkLemmas.{less_works}
use Rattle.laws_facts.proofs.FrameLemmas.{numbers_end}
use Rattle.laws_facts.proofs.LockLemmas.{note_stays}
use Rattle.laws_facts.specs.Owners.{works}
use Rattle.laws_held.proofs.HeldLemmas.{run_holds}
use Rattle.laws_held.proofs.PartLemmas.{whole_moves}
use Rattle.laws_held.specs.Whole.{Whole}
use Rattle.laws_sites.proofs.CallLemmas.{calls_ended, calls_on}
use Rattle.laws_sites.proofs.HeldLemmas.{held_may_end}
use Rattle.laws_sites.proofs.StepLemmas.{book_goes_on, good_on}
use Rattle.laws_sites.specs.Calls.{AreCalls, AreRising}
use Rattle.laws_sites.specs.Good.{GoesOn, IsGood, IsRecorded, moment_of}
use Rattle.laws_stands.specs.Agrees.{Agrees}
use Rattle.laws_stands.specs.Told.{Told, telling}
use Rattle.laws_stands_noted.proofs.AgreesLemmas.{move_agrees}
use Rattle.laws_stands_fits.proofs.EntriesLemmas.{whole_with_room}
use Rattle.laws_stands_fits.specs.Whole.{StandsWhole}
use Rattle.laws_tasks.proofs.RecoveredLemmas.{still_recovered}
use Rattle.laws_sites.proofs.CountLemmas.{calls_numbered, numbers_next}
use Rattle.bosh_moves.proofs.TellLemmas.{after_notes}
use Rattle.bosh_moves.specs.Story.{effects_told}

-- ---- what notes leave of a moment

pub noted_of : (noted : List Entry) → filter_map durable_entry (map moves.Note noted) ≡ noted
noted_of [] = refl
noted_of (e ∷ noted) = ap (λ es. e ∷ es) (noted_of noted)

pub halted_noted : (m : Moment) (noted : List Entry) → (fold later m (map moves.Note noted)).halted ≡ m.halted
halted_noted m [] = refl
halted_noted m (e ∷ noted) = halted_noted (noting m e) noted

pub effects_noted : (m : Moment) (noted : List Entry) → (fold later m (map moves.Note noted)).effects ≡ m.effects
effects_noted m [] = refl
effects_noted m (e ∷ noted) = effects_noted (noting m e) noted

-- ---- the history

pub noted_good : {K L : Type 0} {k : keeper.Ghosts K} {l : keeper.Ghosts L} (outside : Outside)
    (bodies : K → Option (List (List ℕ))) (cloud_bodies : L → Option (List (List ℕ))) (faults : K → ℕ) (o : Opening)
    (was now : Site K L k l) (noted : List Entry) → IsGood outside bodies cloud_bodies o was
    → Notes bodies faults was noted None now → IsRunFrom outside (moment_of o was) (map moves.Note noted)
    → (now.book.standing ≢ Unread → IsRecorded (fold later (moment_of o was) (map moves.Note noted)) now)
    → is_recovering (fold later (moment_of o was) (map moves.Note noted)) ≡ false
    → has_numbers (fold later (moment_of o was) (map moves.Note noted)).known ≡ true
    → AreCalls (story_of now) now.calls.unsettled (fold later (moment_of o was) (map moves.Note noted)).calls
    → AreRising 0 now.calls.unsettled → IsGood outside bodies cloud_bodies o now
noted_good {L = L} outside bodies cloud_bodies faults o was now noted good notes may recorded recovered numbers calls
    rising =
    good_on outside bodies cloud_bodies o was now (map moves.Note noted) good
    (notes.comes.story ∙ ap (λ more. story_of was ++ more) (append-nil (map moves.Note noted))) notes.same_opening may
    (notes.book.entries ∙ ap (λ es. was.book.journal.entries ++ es) (sym (noted_of noted)))
    (record {
      halted = halted_noted (moment_of o was) noted ∙ good.halted ∙ notes.running ∙ sym notes.halted;
      numbers = numbers;
      told = notes.comes.told
          ∙ after_notes noted None (length now.cloud.effects) (effects_told was.history was.cloud.effects)
          ∙ good.told
          ∙ ap (λ (es : List Entry). length es) (sym (effects_noted (moment_of o was) noted));
      recorded = recorded;
      runs = λ running. record {
        recovered = recovered;
        effects = (λ i. (notes.same_cloud i).effects) ∙ goes.effects ∙ sym (effects_noted (moment_of o was) noted);
        calls = calls;
        rising = rising;
        book_kept = notes.book.kept goes.book_kept;
        cloud_kept = subst (λ (c : CloudView L). cloud.IsKept cloud_bodies c) (sym notes.same_cloud) goes.cloud_kept;
      };
      halts = λ halted. absurd (false≢true (sym notes.halted ∙ halted));
    })
  where
    goes : GoesOn bodies cloud_bodies (moment_of o was) was
    goes = good.runs notes.running

-- ---- the records

-- as long as calls have numbers
abbrev pub HaveNumbers : Moment → List Entry → Type 0
HaveNumbers m [] = Unit {0}
HaveNumbers m (e ∷ noted) = (m.known.last_call < 18446744073709551615) × HaveNumbers (noting m e) noted

-- one more entry that is permitted is learned, and what is recorded stands for it and fits it
abbrev pub OneMoreStands : Type 0
OneMoreStands =
    (outside : Outside) (m : Moment) (told : Told) (was now : Records) (entry : Entry) → StandsWhole told was
    → Agrees m told → Whole m → m.known.last_call < 18446744073709551615 → may_follow m entry ≡ true
    → MayNote outside m entry → Learns was entry now → StandsWhole (telling told entry) now

module _ (one_more : OneMoreStands) where
  -- what is recorded stands for what is told after them
  pub all_stand : (outside : Outside) (m : Moment) (told : Told) (was now : Records) (noted : List Entry) → Whole m
      → StandsWhole told was → Agrees m told → IsRunFrom outside m (map moves.Note noted) → HaveNumbers m noted
      → LearnsAll was noted now
      → StandsWhole (fold telling told noted) now
      × Agrees (fold later m (map moves.Note noted)) (fold telling told noted)
  all_stand outside m told was now [] holds whole agrees may numbers learns =
      (whole_with_room told was now learns whole, agrees)
  all_stand outside m told was now (e ∷ noted) holds whole agrees may numbers (roomy, mid, alike, learns, others) =
      all_stand outside (noting m e) (telling told e) mid now noted (whole_moves outside m (moves.Note e) may.0 holds)
      (one_more outside m told roomy mid e (whole_with_room told was roomy alike whole) agrees holds numbers.0 may.0.1 may.0.2
      learns)
      (move_agrees outside m told (moves.Note e) agrees holds.holds.known whole.stands.tells_well may.0) may.1 numbers.1 others

  pub noted_recorded : {K L : Type 0} {k : keeper.Ghosts K} {l : keeper.Ghosts L} (outside : Outside)
      (bodies : K → Option (List (List ℕ))) (cloud_bodies : L → Option (List (List ℕ))) (faults : K → ℕ) (o : Opening)
      (was now : Site K L k l) (noted : List Entry) (halt : Option Cause) → IsFit outside o
      → IsGood outside bodies cloud_bodies o was
      → Notes bodies faults was noted halt now → IsRunFrom outside (moment_of o was) (map moves.Note noted)
      → HaveNumbers (moment_of o was) noted
      → IsRecorded (fold later (moment_of o was) (map moves.Note noted)) now
  noted_recorded outside bodies cloud_bodies faults o was now noted halt fit good notes may numbers = record {
    told = fold telling it.told noted;
    agrees = both.1;
    whole = both.0;
  }
    where
      it : IsRecorded (moment_of o was) was
      it = good.recorded (book_goes_on was notes.running).1

      both : StandsWhole (fold telling it.told noted) now.book.records
          × Agrees (fold later (moment_of o was) (map moves.Note noted)) (fold telling it.told noted)
      both = all_stand outside (moment_of o was) it.told was.book.records now.book.records noted
          (run_holds outside o (story_of was) fit good.run) it.whole it.agrees may numbers notes.book.learns

  -- ---- a call is settled

  rising_without : (n last : ℕ) (calls : List site.OpenCall) → AreRising last calls → AreRising last (without n calls)
  rising_without n last [] are = tt
  rising_without n last (call ∷ calls) are =
      by (is_other n call) (rising_without n call.n calls are.1) (rising_without n last calls)
    where
      from_lower : (rest : List site.OpenCall) → AreRising call.n rest → AreRising last rest
      from_lower [] are_more = tt
      from_lower (next ∷ rest) are_more = (less last call.n next.n are.0 are_more.0, are_more.1)
        where
          less : (a b c : ℕ) → a < b → b < c → a < c
          less a b c one other = grind (arith, one, other)

      by : (b : Bool) → AreRising call.n (without n calls) → (AreRising last calls → AreRising last (without n calls))
          → AreRising last (if b then call ∷ without n calls else without n calls)
      by true rest more = (are.0, rest)
      by false rest more = from_lower (without n calls) rest

  pub settled_good : {K L : Type 0} {k : keeper.Ghosts K} {l : keeper.Ghosts L} (outside : Outside)
      (bodies : K → Option (List (List ℕ))) (cloud_bodies : L → Option (List (List ℕ))) (faults : K → ℕ) (o : Opening)
      (was now : Site K L k l) (call : HeldCall) → IsFit outside o → IsGood outside bodies cloud_bodies o was
      → IsHeld was call
      → Notes bodies faults was (entries.End (record { n = call.permit.n; answer = call.answer }) ∷ []) None now
      → now.calls.unsettled ≡ without call.permit.n was.calls.unsettled → IsGood outside bodies cloud_bodies o now
  settled_good outside bodies cloud_bodies faults o was now call fit good held notes calls =
      noted_good outside bodies cloud_bodies faults o was now (ends ∷ []) good notes (may, tt, tt)
      (λ read. noted_recorded outside bodies cloud_bodies faults o was now (ends ∷ []) None fit good notes (may, tt, tt)
      (calls_numbered (moment_of o was).known good.numbers, tt))
      recovered (numbers_next outside (moment_of o was) ends may.2 tt good.numbers)
      (subst (λ (all : List Move). AreCalls all now.calls.unsettled (later (moment_of o was) (moves.Note ends)).calls)
      (sym notes.comes.story)
      (calls_on (story_of was) (moves.Note ends ∷ []) now.calls.unsettled (later (moment_of o was) (moves.Note ends)).calls
      (subst (λ (list : List site.OpenCall). AreCalls (story_of was) list (later (moment_of o was) (moves.Note ends)).calls)
      (sym calls)
      (calls_ended (story_of was) was.calls.unsettled (moment_of o was).calls call.permit.n goes.calls))))
      (subst (AreRising 0) (sym calls) (rising_without call.permit.n 0 was.calls.unsettled goes.rising))
    where
      ends : Entry
      ends = entries.End (record { n = call.permit.n; answer = call.answer })

      goes : GoesOn bodies cloud_bodies (moment_of o was) was
      goes = good.runs notes.running

      may : IsPermitted outside (moment_of o was) (moves.Note ends)
      may = held_may_end outside bodies cloud_bodies o was call good notes.running held

      recovered : is_recovering (later (moment_of o was) (moves.Note ends)) ≡ false
      recovered = still_recovered outside (moment_of o was) (run_holds outside o (story_of was) fit good.run).holds.known ends
          may.2 goes.recovered
