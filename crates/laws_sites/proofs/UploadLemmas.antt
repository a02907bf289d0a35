-- A site stays good as a release, a stemcell or a cloud config is recorded, and where that is refused.
use Rattle.std.proofs.Common.{◌≡◌, ◌∙◌, ◌≤◌, ℕ, Bool, true, false, List, [], ◌∷◌, Option, Some, None, ap, refl, subst, sym}
use Rattle.std.specs.Prelude.{◌&&◌, ◌||◌, cond, find, is_some, not}
use Rattle.std.specs.List.{list_any}
use Rattle.std.specs.Str.{bytes_eq}
use Rattle.std.specs.declared.cmp.Ordering.{Ordering}
use Rattle.std.specs.declared.cmp.Ordering.TheVariants.{Equal}
use Rattle.std.proofs.lemmas.Bool.{false≢true}
use Rattle.bosh_asks.specs.Goals.{config_in}
use Rattle.bosh_base.specs.Version.{version_order}
use Rattle.bosh_base.specs.declared.entry.Entry.{Entry}
use Rattle.bosh_base.specs.declared.entry.Entry.TheVariants as entries
use Rattle.bosh_base.specs.declared.moves.Move.{Move}
use Rattle.bosh_base.specs.declared.moves.Move.TheVariants as moves
use Rattle.bosh_base.specs.declared.release.Release.{Release}
use Rattle.bosh_base.specs.declared.stemcell.Stemcell.{Stemcell}
use Rattle.bosh_book.specs.Uploads as book
use Rattle.bosh_book.specs.declared.uploads.Added.{Added}
use Rattle.bosh_book.specs.declared.uploads.Added.TheVariants.{New, Same}
use Rattle.bosh_calls.specs.CallsView.{CallsView}
use Rattle.bosh_fold.specs.Learns.{Learns, LearnsAll}
use Rattle.bosh_history.specs.Fit.{IsFit}
use Rattle.bosh_history.specs.Known.{Known}
use Rattle.bosh_history.specs.Learn.{learn}
use Rattle.bosh_history.specs.Moments.{Moment, Opening, noting}
use Rattle.bosh_history.specs.Notes as history
use Rattle.bosh_history.specs.Notes.{MayNote, Outside}
use Rattle.bosh_history.specs.Openings.{HasSource}
use Rattle.bosh_history.specs.Recovered.{is_interruption}
use Rattle.bosh_ports.specs.declared.keeper.Keeper as keeper
use Rattle.bosh_records.specs.declared.records.Records.{Records}
use Rattle.bosh_world.specs.Pending.{IsAllowed, Pends}
use Rattle.bosh_world.specs.Refuses.{Refuses}
use Rattle.bosh_world.specs.Steps.{Notes, entries_for}
use Rattle.bosh_world.specs.Told.{story_of}
use Rattle.bosh_world.specs.declared.fault.SiteFault.{SiteFault}
use Rattle.bosh_world.specs.declared.site.Site.{Site}
use Rattle.laws_addresses.proofs.WorkLemmas.{less_works}
use Rattle.laws_facts.proofs.LockLemmas.{is_opening, note_stays}
use Rattle.laws_held.proofs.HeldLemmas.{run_holds}
use Rattle.laws_sites.proofs.CallLemmas.{calls_on}
use Rattle.laws_sites.proofs.MomentLemmas.{MayBeNext}
use Rattle.laws_sites.proofs.NoteLemmas.{noted_good}
use Rattle.laws_sites.proofs.StepLemmas.{book_goes_on}
use Rattle.laws_sites.proofs.StoppedLemmas.{left_still, refused_book_good, still_good}
use Rattle.laws_sites.specs.Calls.{AreCalls, AreRising}
use Rattle.laws_sites.specs.Found.{IsFoundOut}
use Rattle.laws_sites.specs.Good.{GoesOn, IsGood, IsRecorded, moment_of}
use Rattle.laws_stands.specs.Agrees.{Agrees}
use Rattle.laws_stands.specs.Stands.{Stands}
use Rattle.laws_stands.specs.Told.{Told, telling}
use Rattle.laws_stands_fits.proofs.EntriesLemmas.{fits_after, whole_with_room}
use Rattle.laws_stands_fits.specs.Own.{TellsOwn}
use Rattle.laws_stands_fits.specs.Whole.{StandsWhole}
use Rattle.laws_stands_fits.specs.Within.{is_within}
use Rattle.laws_stands_noted.proofs.AgreesLemmas.{move_agrees}
use Rattle.laws_stands_noted.proofs.NotedLemmas.{config_noted, release_noted, stemcell_noted}
use Rattle.laws_tasks.proofs.RecoveredLemmas.{still_recovered}
use Rattle.laws_sites.proofs.CountLemmas.{HasRoomFor, numbers_next}

-- ---- what an upload leaves

abbrev pub is_upload : Entry → Bool
is_upload (entries.Release r) = true
is_upload (entries.Stemcell s) = true
is_upload (entries.Config file) = true
is_upload entry = false

upload_within : (e : Entry) → is_upload e ≡ true → is_within e ≡ true
upload_within (entries.Release r) is = refl
upload_within (entries.Stemcell s) is = refl
upload_within (entries.Config file) is = refl
upload_within e is = absurd (false≢true is)

upload_calls : (m : Moment) (e : Entry) → is_upload e ≡ true → (noting m e).calls ≡ m.calls
upload_calls m (entries.Release r) is = refl
upload_calls m (entries.Stemcell s) is = refl
upload_calls m (entries.Config file) is = refl
upload_calls m e is = absurd (false≢true is)

-- an upload begins no call, and opens no task
upload_room : (m : Moment) (e : Entry) → is_upload e ≡ true → HasRoomFor m e
upload_room m (entries.Release r) is = tt
upload_room m (entries.Stemcell s) is = tt
upload_room m (entries.Config file) is = tt
upload_room m e is = absurd (false≢true is)

-- ---- what is recorded

upload_own : (told : Told) (e : Entry) → is_upload e ≡ true → TellsOwn told → TellsOwn (telling told e)
upload_own told (entries.Release r) is own = record {
  lists = own.lists;
  calls = own.calls;
  few = own.few;
  unshared = own.unshared;
}
upload_own told (entries.Stemcell s) is own = record {
  lists = own.lists;
  calls = own.calls;
  few = own.few;
  unshared = own.unshared;
}
upload_own told (entries.Config file) is own = record {
  lists = own.lists;
  calls = own.calls;
  few = own.few;
  unshared = own.unshared;
}
upload_own told e is own = absurd (false≢true is)

upload_stands : (told : Told) (was now : Records) (e : Entry) → is_upload e ≡ true → Stands told was → Learns was e now
    → Stands (telling told e) now
upload_stands told was now (entries.Release r) is stands learns = release_noted told was now stands r learns
upload_stands told was now (entries.Stemcell s) is stands learns = stemcell_noted told was now stands s learns
upload_stands told was now (entries.Config file) is stands learns = config_noted told was now stands file learns
upload_stands told was now e is stands learns = absurd (false≢true is)

upload_whole : (outside : Outside) (m : Moment) (told : Told) (was now : Records) (e : Entry) → is_upload e ≡ true
    → MayNote outside m e → Agrees m told → StandsWhole told was → Learns was e now → StandsWhole (telling told e) now
upload_whole outside m told was now e is may agrees whole learns = record {
  stands = upload_stands told was now e is whole.stands learns;
  fits = fits_after outside m told was now e (upload_within e is) may agrees whole.stands whole.fits learns;
  own = upload_own told e is whole.own;
}

learned_whole : (outside : Outside) (m : Moment) (told : Told) (was now : Records) (e : Entry) → is_upload e ≡ true
    → MayNote outside m e → Agrees m told → StandsWhole told was → LearnsAll was (e ∷ []) now
    → StandsWhole (telling told e) now
learned_whole outside m told was now e is may agrees whole (roomy, mid, alike, learns, others) =
    whole_with_room (telling told e) mid now others
    (upload_whole outside m told roomy mid e is may agrees (whole_with_room told was roomy alike whole) learns)

-- ---- it may be noted

none_there : {X : Type 0} (p : X → Bool) (xs : List X) → find p xs ≡ None → list_any p xs ≡ false
none_there p [] none = refl
none_there p (x ∷ xs) none = by (p x) none (none_there p xs)
  where
    by : (b : Bool) → cond b (Some x) (find p xs) ≡ None → (find p xs ≡ None → list_any p xs ≡ false)
        → (b || list_any p xs) ≡ false
    by true none rest = absurd (let no = none in cc)
    by false none rest = rest none

same_order : (one other : List ℕ) → book.are_equal one other ≡ history.same_version one other
same_order one other = by (version_order one other)
  where
    by : (o : Option Ordering) → book.is_equal o ≡ history.is_equal o
    by None = refl
    by (Some Equal) = refl
    by (Some other) = refl

module _ (outside : Outside) (found : IsFoundOut outside) (m : Moment) where
  release_may : (releases : List Release) (release : Release) → releases ≡ m.known.releases
      → book.IsUpload releases release New → MayNote outside m (entries.Release release)
  release_may releases release are is =
      subst (λ (all : List Release). history.Uploads outside (record m.known { releases = all }) release) are (record {
        is_version = is.1;
        is_new = (λ i. list_any (λ it. bytes_eq it.name release.name && sym (same_order it.version release.version) i) releases)
            ∙ none_there (λ it. bytes_eq it.name release.name && book.are_equal it.version release.version) releases is.0;
        goes_with = found.releases releases release is.2;
      })

  stemcell_may : (stemcells : List Stemcell) (os version : List ℕ) → stemcells ≡ m.known.stemcells
      → book.IsAdded stemcells os version New → MayNote outside m (entries.Stemcell (record { os = os; version = version }))
  stemcell_may stemcells os version are is = record {
    is_version = is.0;
    is_new = (λ i. list_any (λ it. bytes_eq it.os os && sym (same_order it.version version) i) (sym are i)) ∙ is.1;
  }

module _ {K L : Type 0} {k : keeper.Ghosts K} {l : keeper.Ghosts L} (outside : Outside) (bodies : K → Option (List (List ℕ)))
    (cloud_bodies : L → Option (List (List ℕ))) (faults : K → ℕ) (o : Opening) (was now : Site K L k l)
    (fit : IsFit outside o) (good : IsGood outside bodies cloud_bodies o was) (calls : now.calls ≡ was.calls) where
  abbrev m : Moment
  m = moment_of o was

  -- an upload opens no task, so that it has no source to tell
  none_told : (e : Entry) → is_upload e ≡ true → HasSource e
  none_told (entries.Release release) is = tt
  none_told (entries.Stemcell stemcell) is = tt
  none_told (entries.Config file) is = tt
  none_told e is = absurd (false≢true is)

  upload_next : (e : Entry) → is_upload e ≡ true → was.history.is_halted ≡ false → MayNote outside m e
      → MayBeNext outside m e
  upload_next e is running may =
      ((good.halted ∙ running, (λ i. not ((good.runs running).recovered i) || is_interruption e), may), none_told e is)

  upload_good : (e : Entry) → is_upload e ≡ true → MayNote outside m e → Notes bodies faults was (e ∷ []) None now
      → IsGood outside bodies cloud_bodies o now
  upload_good e is may_note notes =
      noted_good outside bodies cloud_bodies faults o was now (e ∷ []) good notes (next.0, tt, next.1) (λ read. recorded)
      (still_recovered outside m (run_holds outside o (story_of was) fit good.run).holds.known e may_note goes.recovered)
      (numbers_next outside m e may_note (upload_room m e is) good.numbers)
      (subst (λ (all : List Move). AreCalls all now.calls.unsettled (noting m e).calls) (sym notes.comes.story)
      (calls_on (story_of was) (moves.Note e ∷ []) now.calls.unsettled (noting m e).calls
      (subst (λ of_calls. AreCalls (story_of was) now.calls.unsettled of_calls) (sym (upload_calls m e is))
      (subst (λ (c : CallsView). AreCalls (story_of was) c.unsettled m.calls) (sym calls) goes.calls))))
      (subst (λ (c : CallsView). AreRising 0 c.unsettled) (sym calls) goes.rising)
    where
      goes : GoesOn bodies cloud_bodies m was
      goes = good.runs notes.running

      it : IsRecorded m was
      it = good.recorded (book_goes_on was notes.running).1

      next : MayBeNext outside m e
      next = upload_next e is notes.running may_note

      recorded : IsRecorded (noting m e) now
      recorded = record {
        told = telling it.told e;
        agrees = move_agrees outside m it.told (moves.Note e) it.agrees
            (run_holds outside o (story_of was) fit good.run).holds.known it.whole.stands.tells_well next.0;
        whole = learned_whole outside m it.told was.book.records now.book.records e is may_note it.agrees it.whole
            notes.book.learns;
      }

  -- it is recorded, or was before
  added_good : (e : Entry) (added : Added) → is_upload e ≡ true → (added ≡ New → was.history.is_halted ≡ false → MayNote outside m e)
      → Notes bodies faults was (entries_for added e) None now → IsGood outside bodies cloud_bodies o now
  added_good e New is may notes = upload_good e is (may refl notes.running) notes
  added_good e Same is may notes =
      still_good bodies cloud_bodies faults outside o was now good notes (λ i. (calls i).unsettled)

  -- .. or that is refused
  upload_refused : (e : Entry) → is_upload e ≡ true → (Allowed : Type 0) (why : SiteFault)
      → (was.history.is_halted ≡ false → Allowed → MayNote outside m e) → Refuses bodies faults was [] why now
      → Pends was (IsAllowed Allowed e) now → IsGood outside bodies cloud_bodies o now
  upload_refused e upload Allowed why may refuses pends =
      refused_book_good outside bodies cloud_bodies o faults was now [] why fit good
      (left_still bodies cloud_bodies faults outside o was now (IsAllowed Allowed e) good (λ i. (calls i).unsettled) pends
      (λ running entry is. subst (λ (e : Entry). MayBeNext outside m e × HasRoomFor m e) (sym is.1)
      (upload_next e upload running (may running is.0), upload_room m e upload))) refuses

  -- ---- releases, stemcells, configs

  module _ (found : IsFoundOut outside) where
    its_records : was.history.is_halted ≡ false → IsRecorded m was
    its_records running = good.recorded (book_goes_on was running).1

    may_release : (release : Release) → was.history.is_halted ≡ false
        → book.IsUpload was.book.records.releases.items release New → MayNote outside m (entries.Release release)
    may_release release running is =
        release_may outside found m was.book.records.releases.items release
        (ap (λ arrivals. arrivals.releases) (its_records running).whole.stands.uploads
        ∙ (λ i. ((its_records running).agrees.known_is i).releases)) is

    may_stemcell : (os version : List ℕ) → was.history.is_halted ≡ false
        → book.IsAdded was.book.records.stemcells.items os version New
        → MayNote outside m (entries.Stemcell (record { os = os; version = version }))
    may_stemcell os version running is =
        stemcell_may outside found m was.book.records.stemcells.items os version
        (ap (λ arrivals. arrivals.stemcells) (its_records running).whole.stands.uploads
        ∙ (λ i. ((its_records running).agrees.known_is i).stemcells)) is

    pub release_good : (release : Release) (added : Added) → book.IsUpload was.book.records.releases.items release added
        → Notes bodies faults was (entries_for added (entries.Release release)) None now
        → IsGood outside bodies cloud_bodies o now
    release_good release added is =
        added_good (entries.Release release) added refl
        (λ new running. may_release release running
        (subst (book.IsUpload was.book.records.releases.items release) new is))

    pub release_refused : (release : Release) (why : SiteFault) → Refuses bodies faults was [] why now
        → Pends was (IsAllowed (book.IsUpload was.book.records.releases.items release New) (entries.Release release)) now
        → IsGood outside bodies cloud_bodies o now
    release_refused release why =
        upload_refused (entries.Release release) refl (book.IsUpload was.book.records.releases.items release New) why
        (may_release release)

    pub stemcell_good : (os version : List ℕ) (added : Added)
        → book.IsAdded was.book.records.stemcells.items os version added
        → Notes bodies faults was (entries_for added (entries.Stemcell (record { os = os; version = version }))) None now
        → IsGood outside bodies cloud_bodies o now
    stemcell_good os version added is =
        added_good (entries.Stemcell (record { os = os; version = version })) added refl
        (λ new running. may_stemcell os version running
        (subst (book.IsAdded was.book.records.stemcells.items os version) new is))

    pub stemcell_refused : (os version : List ℕ) (why : SiteFault) → Refuses bodies faults was [] why now
        → Pends was (IsAllowed (book.IsAdded was.book.records.stemcells.items os version New)
        (entries.Stemcell (record { os = os; version = version }))) now → IsGood outside bodies cloud_bodies o now
    stemcell_refused os version why =
        upload_refused (entries.Stemcell (record { os = os; version = version })) refl
        (book.IsAdded was.book.records.stemcells.items os version New) why (may_stemcell os version)

    pub config_good : (file : List ℕ) → is_some (config_in file) ≡ true
        → Notes bodies faults was (entries.Config file ∷ []) None now → IsGood outside bodies cloud_bodies o now
    config_good file is notes = upload_good (entries.Config file) refl (found.configs file is) notes

    pub config_refused : (file : List ℕ) (why : SiteFault) → Refuses bodies faults was [] why now
        → Pends was (IsAllowed (is_some (config_in file) ≡ true) (entries.Config file)) now
        → IsGood outside bodies cloud_bodies o now
    config_refused file why =
        upload_refused (entries.Config file) refl (is_some (config_in file) ≡ true) why (λ running. found.configs file)
