-- A good site stays good where a restart of it is refused.
use Rattle.std.proofs.Common.{◌≡◌, ◌∙◌, ℕ, Bool, true, false, List, [], ◌++◌, Option, Some, None, Ok, Err, ap, append-nil, inl, inr, length, refl, subst, sym}
use Rattle.std.specs.Prelude.{◌≢◌, ◌⊎◌, IfSome}
use Rattle.std.specs.List.{filter_map}
use Rattle.std.proofs.lemmas.Bool.{false≢true}
use Rattle.bosh_base.specs.declared.entry.Entry.{Entry}
use Rattle.bosh_book.specs.declared.book.Book.{Book}
use Rattle.bosh_book.specs.declared.standing.Standing.TheVariants.{Unread}
use Rattle.bosh_history.specs.Fit.{IsFit, has_numbers}
use Rattle.bosh_history.specs.Known.{Known}
use Rattle.bosh_history.specs.Moments.{Moment, Opening, durable_entry}
use Rattle.bosh_history.specs.Notes.{Outside}
use Rattle.bosh_journal.specs.Reads as journal_reads
use Rattle.bosh_journal.specs.Spelled.{Spell, format_of, written_in}
use Rattle.bosh_journal.specs.declared.fault.JournalFault.{JournalFault}
use Rattle.bosh_journal.specs.declared.fault.JournalFault.TheVariants as journal_faults
use Rattle.bosh_moves.specs.Story.{effects_told}
use Rattle.bosh_ports.specs.Rigged.{RigState}
use Rattle.bosh_ports.specs.declared.keeper.Keeper as keeper
use Rattle.bosh_world.proofs.SiteRestartLemmas.{after_halt}
use Rattle.bosh_world.specs.Restarts.{IsNotRead, IsUnread, RefusesRestart, first_halt}
use Rattle.bosh_world.specs.Steps.{bodies_of}
use Rattle.bosh_world.specs.declared.fault.SiteFault.{SiteFault}
use Rattle.bosh_world.specs.declared.site.Site.{Site}
use Rattle.laws_restarts.proofs.HaltedLemmas.{at_halt, halt_explained, halt_recorded, halt_run, has_halted, same_effects, same_known}
use Rattle.laws_restarts.proofs.RestartLemmas.{halts_good}
use Rattle.laws_sites.proofs.KeepLemmas.{unsaid_good}
use Rattle.laws_sites.proofs.StepLemmas.{good_on}
use Rattle.laws_sites.specs.Good.{FindsIn, HasHalted, IsGood, IsLeft, IsLeftOf, IsPresent, IsRecorded, SayDone}
use Rattle.laws_stands_fits.specs.Whole.{StandsWhole}

-- ---- stores that were not read hold what they held

same_list : (told later : Option (List (List ℕ))) (Says : List (List ℕ) → List Entry → Type 0) (Is : List Entry → Type 0)
    → FindsIn told Says Is → IfSome told (λ list. later ≡ Some list) → later ≡ told
same_list (Some list) later Says Is finds same = same
same_list None later Says Is finds same = absurd finds

refused_list : (told later : Option (List (List ℕ))) (refusal : JournalFault) → IsPresent told
    → IfSome told (λ list. journal_reads.LeavesList (Err refusal) list later) → later ≡ told
refused_list None later refusal present leaves = absurd present
refused_list (Some list) later refusal present leaves = by refusal leaves
  where
    by : (f : JournalFault) → journal_reads.LeavesIn (format_of list) (Err f) list later → later ≡ Some list
    by journal_faults.StoreFault (inl same) = same
    by journal_faults.StoreFault (inr (found, spelled, is)) = is ∙ (λ i. Some (written_in (present i) list found))
    by f leaves = leaves

nothing_durable : (off : Bool) → filter_map durable_entry (first_halt off) ≡ []
nothing_durable true = refl
nothing_durable false = refl

module _ {K L : Type 0} {k : keeper.Ghosts K} {l : keeper.Ghosts L} (outside : Outside) (bodies : K → Option (List (List ℕ)))
    (faults : K → ℕ) (is_broken : K → Bool) (cloud_bodies : L → Option (List (List ℕ))) (cloud_faults : L → ℕ) (o : Opening)
    (was now : Site K L k l) (fit : IsFit outside o) (good : IsGood outside bodies cloud_bodies o was) where
  abbrev there : Moment
  there = at_halt outside bodies cloud_bodies o was good

  explains : HasHalted outside bodies cloud_bodies there was
  explains = halt_explained outside bodies cloud_bodies o was good

  -- what the two stores hold
  record SameStores : Type 0 where
    cloud : cloud_bodies now.cloud.store ≡ cloud_bodies was.cloud.store
    book : bodies_of bodies now.book.journal.store ≡ bodies_of bodies was.book.journal.store

  same_stores : (fault : SiteFault) → IsUnread bodies faults is_broken cloud_bodies cloud_faults was fault now → SameStores
  same_stores fault (inl (memory, same_cloud, same_book)) = record {
    cloud = λ i. cloud_bodies (same_cloud i).store;
    book = λ i. bodies_of bodies (same_book i).journal.store;
  }
  same_stores fault (inr (inl (unread, same_book))) = record {
    cloud = same_list (cloud_bodies was.cloud.store) (cloud_bodies now.cloud.store) SayDone (IsLeft outside there)
        explains.cloud unread.reads.list;
    book = λ i. bodies_of bodies (same_book i).journal.store;
  }
  same_stores fault (inr (inr (rereads, (refusal, (unread, told))))) = record {
    cloud = same_list (cloud_bodies was.cloud.store) (cloud_bodies now.cloud.store) SayDone (IsLeft outside there)
        explains.cloud rereads.reads.list;
    book = refused_list (bodies_of bodies was.book.journal.store) (bodies_of bodies now.book.journal.store)
        unread.reading.refusal explains.present unread.reading.reads.list;
  }

  recorded_same : now.book ≡ was.book → now.book.standing ≢ Unread → IsRecorded there now
  recorded_same same read =
      let it : IsRecorded there was = halt_recorded outside bodies cloud_bodies o was good fit
      (λ unread. read ((λ i. (same i).standing) ∙ unread)) in
      record {
        told = it.told;
        agrees = it.agrees;
        whole = subst (λ (b : Book (RigState K)). StandsWhole it.told b.records) (sym same) it.whole;
      }

  recorded : (fault : SiteFault) → IsUnread bodies faults is_broken cloud_bodies cloud_faults was fault now
      → now.book.standing ≢ Unread → IsRecorded there now
  recorded fault (inl (memory, same_cloud, same_book)) read = recorded_same same_book read
  recorded fault (inr (inl (unread, same_book))) read = recorded_same same_book read
  recorded fault (inr (inr (rereads, (refusal, (unread, told))))) read = absurd (read unread.standing)

  unread_good : (fault : SiteFault) → IsNotRead bodies faults is_broken cloud_bodies cloud_faults was fault now
      → IsGood outside bodies cloud_bodies o now
  unread_good fault refused =
      good_on outside bodies cloud_bodies o was now (first_halt was.history.is_halted) good refused.comes.story
      refused.same_opening (halt_run outside bodies cloud_bodies o was good)
      (refused.same_entries ∙ sym (append-nil was.book.journal.entries)
      ∙ ap (λ (es : List Entry). was.book.journal.entries ++ es) (sym (nothing_durable was.history.is_halted)))
      (record {
        halted = has_halted outside bodies cloud_bodies o was good ∙ sym refused.halted;
        numbers = ap has_numbers (same_known outside bodies cloud_bodies o was good) ∙ good.numbers;
        told = refused.comes.told
            ∙ after_halt was.history.is_halted (length now.cloud.effects) (effects_told was.history was.cloud.effects)
            ∙ good.told
            ∙ ap (λ (es : List Entry). length es) (sym (same_effects outside bodies cloud_bodies o was good));
        recorded = recorded fault refused.unread;
        runs = λ running. absurd (false≢true (sym running ∙ refused.halted));
        halts = λ is. record {
          cloud = subst (λ told. FindsIn told SayDone (IsLeft outside there)) (sym stores.cloud) explains.cloud;
          book = subst (λ (es : List Entry). FindsIn (bodies_of bodies now.book.journal.store) Spell (IsLeftOf outside there es))
              (sym refused.same_entries)
              (subst (λ told. FindsIn told Spell (IsLeftOf outside there was.book.journal.entries)) (sym stores.book)
              explains.book);
          present = subst IsPresent (sym stores.book) explains.present;
        };
      })
    where
      stores : SameStores
      stores = same_stores fault refused.unread

  -- ---- all

  pub refused_good : (fault : SiteFault)
      → RefusesRestart bodies faults is_broken cloud_bodies cloud_faults was fault now
      → IsGood outside bodies cloud_bodies o now
  refused_good fault (inl (memory, comes, keeps)) = unsaid_good outside bodies cloud_bodies o was now good comes keeps
  refused_good fault (inr (inl refused)) = unread_good fault refused
  refused_good fault (inr (inr (started, (cause, (again, restarts))))) =
      halts_good outside bodies faults is_broken cloud_bodies cloud_faults o was now fit good started (Some cause) restarts
      cause refl
