-- A site stays good where all that its history tells stays: a reply is noted, or a trap is set.
use Rattle.std.proofs.Common.{◌≡◌, ◌∙◌, ℕ, Bool, List, [], ◌∷◌, ◌++◌, Option, append-nil, refl, subst, sym, length}
use Rattle.std.specs.Prelude.{fold}
use Rattle.std.specs.List.{filter_map}
use Rattle.bosh_base.specs.declared.moves.Move.{Move}
use Rattle.bosh_base.specs.declared.moves.Move.TheVariants as moves
use Rattle.bosh_base.specs.declared.moves.Said as said
use Rattle.bosh_book.specs.declared.book.Book.{Book}
use Rattle.bosh_calls.specs.declared.calls.OpenCall as site
use Rattle.bosh_cloud.specs.CloudView.{CloudView}
use Rattle.bosh_cloud.specs.Loading as cloud
use Rattle.bosh_history.specs.Moments.{Moment, Opening, durable_entry, later}
use Rattle.bosh_history.specs.Notes.{Outside}
use Rattle.bosh_history.specs.Permitted.{IsRunFrom}
use Rattle.bosh_journal.specs.Kept as journal
use Rattle.bosh_moves.specs.Story.{effects_told, story}
use Rattle.bosh_ports.specs.Rigged.{RigState}
use Rattle.bosh_ports.specs.declared.keeper.Keeper as keeper
use Rattle.bosh_traps.specs.declared.trap.Trap.{Trap}
use Rattle.bosh_traps.specs.declared.trap.Trap.TheVariants.{Fail, Stop, Store}
use Rattle.bosh_world.specs.Arms.{Arms, book_with, cloud_with}
use Rattle.bosh_world.specs.Steps.{Comes, IsSame, KeepsBooks, Says, bodies_of}
use Rattle.bosh_world.specs.Told.{story_of}
use Rattle.bosh_world.specs.declared.site.Site.{Site}
use Rattle.laws_sites.proofs.CallLemmas.{calls_on}
use Rattle.laws_sites.proofs.StepLemmas.{good_on}
use Rattle.laws_sites.specs.Calls.{AreCalls, AreRising}
use Rattle.laws_sites.specs.Good.{GoesOn, HasHalted, IsGood, IsRecorded, moment_of, FindsIn, IsLeft, IsLeftOf, IsPresent, SayDone}
use Rattle.laws_stands_fits.specs.Whole.{StandsWhole}
use Rattle.bosh_history.specs.Fit.{has_numbers}
use Rattle.bosh_journal.specs.Spelled.{Spell}
use Rattle.bosh_base.specs.declared.entry.Entry.{Entry}

-- ---- what stays of a book, of a cloud, and of a site

pub record KeepsBook {K : Type 0} (bodies : K → Option (List (List ℕ))) (was now : Book (RigState K)) : Type 0 where
  pub entries : now.journal.entries ≡ was.journal.entries
  pub records : now.records ≡ was.records
  pub standing : now.standing ≡ was.standing
  pub tells : bodies_of bodies now.journal.store ≡ bodies_of bodies was.journal.store
  pub kept : journal.IsKept (bodies_of bodies) was.journal → journal.IsKept (bodies_of bodies) now.journal

pub record KeepsCloud {L : Type 0} (bodies : L → Option (List (List ℕ))) (was now : CloudView L) : Type 0 where
  pub effects : now.effects ≡ was.effects
  pub tells : bodies now.store ≡ bodies was.store
  pub kept : cloud.IsKept bodies was → cloud.IsKept bodies now

-- .. but for moves that come
pub record Keeps {K L : Type 0} {k : keeper.Ghosts K} {l : keeper.Ghosts L} (bodies : K → Option (List (List ℕ)))
    (cloud_bodies : L → Option (List (List ℕ))) (was : Site K L k l) (more : List Move) (now : Site K L k l) : Type 0
  where
    pub book : KeepsBook bodies was.book now.book
    pub cloud : KeepsCloud cloud_bodies was.cloud now.cloud
    pub told : story_of now ≡ story_of was ++ more
    pub halted : now.history.is_halted ≡ was.history.is_halted
    pub calls : now.calls.unsettled ≡ was.calls.unsettled
    pub opening : now.opening ≡ was.opening
    pub counted : effects_told now.history now.cloud.effects ≡ effects_told was.history was.cloud.effects

pub same_book : {K : Type 0} (bodies : K → Option (List (List ℕ))) (was now : Book (RigState K)) → now ≡ was
    → KeepsBook bodies was now
same_book {K} bodies was now same = subst (KeepsBook bodies was) (sym same) (record {
  entries = refl;
  records = refl;
  standing = refl;
  tells = refl;
  kept = λ it. it;
})

pub same_cloud : {L : Type 0} (bodies : L → Option (List (List ℕ))) (was now : CloudView L) → now ≡ was
    → KeepsCloud bodies was now
same_cloud bodies was now same = subst (KeepsCloud bodies was) (sym same) (record {
  effects = refl;
  tells = refl;
  kept = λ it. it;
})

module _ {K L : Type 0} {k : keeper.Ghosts K} {l : keeper.Ghosts L} (outside : Outside) (bodies : K → Option (List (List ℕ)))
    (cloud_bodies : L → Option (List (List ℕ))) (o : Opening) (was now : Site K L k l)
    (good : IsGood outside bodies cloud_bodies o was) where
  abbrev m : Moment
  m = moment_of o was

  -- moves come that change nothing
  pub kept_good : (more : List Move) → fold later m more ≡ m → IsRunFrom outside m more
      → filter_map durable_entry more ≡ [] → Keeps bodies cloud_bodies was more now
      → IsGood outside bodies cloud_bodies o now
  kept_good more same may none keeps =
      good_on outside bodies cloud_bodies o was now more good keeps.told keeps.opening may
      (keeps.book.entries ∙ sym (append-nil was.book.journal.entries)
      ∙ (λ i. was.book.journal.entries ++ sym none i))
      (record {
        halted = (λ i. (same i).halted) ∙ good.halted ∙ sym keeps.halted;
        numbers = (λ i. has_numbers (same i).known) ∙ good.numbers;
        told = keeps.counted ∙ good.told ∙ (λ i. length (sym same i).effects);
        recorded = λ read. recorded (good.recorded (λ unread. read (keeps.book.standing ∙ unread)));
        runs = λ running. goes (good.runs (sym keeps.halted ∙ running));
        halts = λ halted. stays (good.halts (sym keeps.halted ∙ halted));
      })
    where
      recorded : IsRecorded m was → IsRecorded (fold later m more) now
      recorded it = subst (λ (next : Moment). IsRecorded next now) (sym same) (record {
        told = it.told;
        agrees = it.agrees;
        whole = subst (StandsWhole it.told) (sym keeps.book.records) it.whole;
      })

      goes : GoesOn bodies cloud_bodies m was → GoesOn bodies cloud_bodies (fold later m more) now
      goes it = subst (λ (next : Moment). GoesOn bodies cloud_bodies next now) (sym same) (record {
        recovered = it.recovered;
        effects = keeps.cloud.effects ∙ it.effects;
        calls = subst (λ (all : List Move). AreCalls all now.calls.unsettled m.calls) (sym keeps.told)
            (calls_on (story_of was) more now.calls.unsettled m.calls
            (subst (λ (these : List site.OpenCall). AreCalls (story_of was) these m.calls) (sym keeps.calls) it.calls));
        rising = subst (AreRising 0) (sym keeps.calls) it.rising;
        book_kept = keeps.book.kept it.book_kept;
        cloud_kept = keeps.cloud.kept it.cloud_kept;
      })

      stays : HasHalted outside bodies cloud_bodies m was → HasHalted outside bodies cloud_bodies (fold later m more) now
      stays it = subst (λ (next : Moment). HasHalted outside bodies cloud_bodies next now) (sym same) (record {
        cloud = subst (λ told. FindsIn told SayDone (IsLeft outside m)) (sym keeps.cloud.tells) it.cloud;
        book = subst (λ (es : List Entry). FindsIn (bodies_of bodies now.book.journal.store) Spell (IsLeftOf outside m es))
            (sym keeps.book.entries)
            (subst (λ told. FindsIn told Spell (IsLeftOf outside m was.book.journal.entries)) (sym keeps.book.tells) it.book);
        present = subst IsPresent (sym keeps.book.tells) it.present;
      })

  -- its parts are as they were
  pub same_parts_good : IsSame was now → IsGood outside bodies cloud_bodies o now
  same_parts_good same = kept_good [] refl tt refl (record {
    book = same_book bodies was.book now.book same.same_book;
    cloud = same_cloud cloud_bodies was.cloud now.cloud same.same_cloud;
    told = (λ i. story (same.same_history i) (same.same_book i).journal.entries (same.same_cloud i).effects)
        ∙ sym (append-nil (story_of was));
    halted = λ i. (same.same_history i).is_halted;
    calls = λ i. (same.same_calls i).unsettled;
    opening = same.same_opening;
    counted = λ i. effects_told (same.same_history i) (same.same_cloud i).effects;
  })

  -- ---- replies

  books_keep : (more : List Move) → Comes was more now → KeepsBooks was now
      → effects_told now.history now.cloud.effects ≡ effects_told was.history was.cloud.effects
      → Keeps bodies cloud_bodies was more now
  books_keep more comes keeps counted = record {
    book = same_book bodies was.book now.book keeps.same_book;
    cloud = same_cloud cloud_bodies was.cloud now.cloud keeps.same_cloud;
    told = comes.story;
    halted = keeps.same_halt;
    calls = λ i. (keeps.same_calls i).unsettled;
    opening = keeps.same_opening;
    counted = counted;
  }

  pub said_good : (reply : said.Said) → Says was reply now → IsGood outside bodies cloud_bodies o now
  said_good reply says =
      kept_good (moves.Said reply ∷ []) refl (tt, tt, tt) refl (books_keep (moves.Said reply ∷ []) says.comes says.keeps says.comes.told)

  pub unsaid_good : Comes was [] now → KeepsBooks was now → IsGood outside bodies cloud_bodies o now
  unsaid_good comes keeps = kept_good [] refl tt refl (books_keep [] comes keeps comes.told)

  -- ---- traps

  book_rigged : (trap : Trap) → KeepsBook bodies was.book (book_with was.book trap)
  book_rigged (Store count how) = record {
    entries = refl;
    records = refl;
    standing = refl;
    tells = refl;
    kept = λ it. it;
  }
  book_rigged (Fail method owner count outcome) = same_book bodies was.book was.book refl
  book_rigged (Stop before method owner count all) = same_book bodies was.book was.book refl

  cloud_doomed : (trap : Trap) → KeepsCloud cloud_bodies was.cloud (cloud_with was.cloud trap)
  cloud_doomed (Fail method owner count outcome) = record {
    effects = refl;
    tells = refl;
    kept = λ it. it;
  }
  cloud_doomed (Store count how) = same_cloud cloud_bodies was.cloud was.cloud refl
  cloud_doomed (Stop before method owner count all) = same_cloud cloud_bodies was.cloud was.cloud refl

  pub armed_good : (trap : Trap) → Arms was trap now → IsGood outside bodies cloud_bodies o now
  armed_good trap arms = kept_good [] refl tt refl (record {
    book = its_book;
    cloud = its_cloud;
    told = (λ i. story (arms.same_history i) (its_book.entries i) (its_cloud.effects i)) ∙ sym (append-nil (story_of was));
    halted = λ i. (arms.same_history i).is_halted;
    calls = λ i. (arms.same_calls i).unsettled;
    opening = arms.same_opening;
    counted = λ i. effects_told (arms.same_history i) (its_cloud.effects i);
  })
    where
      its_book : KeepsBook bodies was.book now.book
      its_book = subst (KeepsBook bodies was.book) (sym arms.book) (book_rigged trap)

      its_cloud : KeepsCloud cloud_bodies was.cloud now.cloud
      its_cloud = subst (KeepsCloud cloud_bodies was.cloud) (sym arms.cloud) (cloud_doomed trap)
