-- What a restart leaves of a site.
use Rattle.std.proofs.Common.{◌≡◌, ℕ, Bool, true, false, Option, Some, None, Result, Ok, Err, List, ◌∷◌, ◌++◌, refl, sym, ◌∙◌, ap}
use Rattle.std.proofs.Common.{subst, append_assoc, length, map, drop, min, inl, inr}
use Rattle.std.specs.Prelude.{◌⊎◌, ◌+◌, IfErr, OnOk, is_some, nat_lt}
use Rattle.std.proofs.lemmas.Bool.{false≢true}
use Rattle.bosh_asks.specs.declared.fault.BookFault.{BookFault}
use Rattle.bosh_base.specs.History.{Extends}
use Rattle.bosh_base.specs.declared.entry.Entry.{Entry}
use Rattle.bosh_base.specs.declared.moves.Cause.{Cause}
use Rattle.bosh_base.specs.declared.moves.Move.{Move}
use Rattle.bosh_base.specs.declared.moves.Move.TheVariants as moves
use Rattle.bosh_base.specs.declared.moves.Stop as stops
use Rattle.bosh_book.specs.Running.{is_stopped}
use Rattle.bosh_book.specs.Starts.{IsNotReloaded, StartsFrom}
use Rattle.bosh_book.specs.declared.book.Book.{Book}
use Rattle.bosh_cloud.specs.CloudView.{CloudView}
use Rattle.bosh_cloud.specs.Loading.{IsKept}
use Rattle.bosh_cloud.specs.Notes.{SameFates}
use Rattle.bosh_moves.proofs.StoryLemmas.{extends_more}
use Rattle.bosh_moves.proofs.TellLemmas.{after_notes, story_all, told_on}
use Rattle.bosh_moves.specs.Found.{kept_at, stop_of}
use Rattle.bosh_moves.specs.Story.{HistoryView, effects_after, effects_told, halts, kept_count, story}
use Rattle.bosh_ports.specs.Rigged.{RigState, broken_of, faults_of}
use Rattle.bosh_ports.specs.declared.keeper.Keeper as keeper
use Rattle.bosh_world.specs.Anew.{BookRestarts, GoesAnew, Halts, HaltsAnew, IsAtHalt, SameTraps, StaysUnread}
use Rattle.bosh_world.specs.IsSite.{IsSite}
use Rattle.bosh_world.specs.Restarts.{IsBookUnread, IsCloudUnread, IsNotRead, IsUnread, RefusesRestart, Rereads, Restarts, first_halt, read_count}
use Rattle.bosh_world.specs.Steps.{bodies_of}
use Rattle.bosh_world.specs.declared.fault.SiteFault.{SiteFault}
use Rattle.bosh_world.specs.declared.site.Site.{Site}

-- the moves of a restart, where so many entries and effects were told
abbrev tail : List Entry → List Entry → ℕ → Option Cause → ℕ → ℕ → List Move
tail entries effects read halt n told =
    moves.Stop (stop_of (kept_at (nat_lt n read) entries n) (drop told effects))
    ∷ map moves.Note (drop (min n (length entries) + kept_count (Some (nat_lt n read))) entries)
    ++ halts halt

-- what has come once the site had halted, and started anew
story_anew : (was mid now : HistoryView) (entries effects entries_now effects_now : List Entry) (read : ℕ)
    (halt : Option Cause) → Halts was entries effects mid → IsAtHalt mid entries →
    GoesAnew mid entries_now effects_now (nat_lt mid.entries read) halt now →
    story now entries_now effects_now
    ≡ story was entries effects ++ (first_halt was.is_halted
    ++ tail entries_now effects_now read halt (length entries) (effects_told was effects))
story_anew was mid now entries effects entries_now effects_now read halt first at anew =
    anew.story
    ∙ ap (λ n. mid.moves ++ tail entries_now effects_now read halt n mid.effects) at.all
    ∙ ap (λ e. mid.moves ++ tail entries_now effects_now read halt (length entries) e)
    (sym (told_on mid effects at.told.no_restart) ∙ first.same_effects)
    ∙ ap (λ ms. ms ++ tail entries_now effects_now read halt (length entries) (effects_told was effects))
    (sym (story_all mid entries effects at.told.no_restart at.all at.told.no_halt) ∙ first.story)
    ∙ append_assoc (story was entries effects) (first_halt was.is_halted)
    (tail entries_now effects_now read halt (length entries) (effects_told was effects))

-- a restart tells all effects
pub after_stop : (off : Bool) (stop : stops.Stop) (entries : List Entry) (halt : Option Cause) (there told : ℕ) →
    effects_after (first_halt off ++ (moves.Stop stop ∷ map moves.Note entries ++ halts halt)) there told ≡ there
after_stop true stop entries halt there told = after_notes entries halt there there
after_stop false stop entries halt there told = after_notes entries halt there there

-- .. and a halt before it none
pub after_halt : (off : Bool) (there told : ℕ) → effects_after (first_halt off) there told ≡ told
after_halt true there told = refl
after_halt false there told = refl

-- a site that has halted, and is otherwise as it was
pub record IsHaltOf {K L : Type 0} {k : keeper.Ghosts K} {l : keeper.Ghosts L} (was mid : Site K L k l) : Type 0 where
  pub first : Halts was.history was.book.journal.entries was.cloud.effects mid.history
  pub at : IsAtHalt mid.history was.book.journal.entries
  pub same_book : mid.book ≡ was.book
  pub same_cloud : mid.cloud ≡ was.cloud
  pub same_calls : mid.calls ≡ was.calls
  pub same_armed : mid.traps.items ≡ was.traps.items
  pub same_opening : mid.opening ≡ was.opening

pub restarts : {K L : Type 0} {k : keeper.Ghosts K} {l : keeper.Ghosts L}
    (bodies : K → Option (List (List ℕ))) (faults : K → ℕ) (is_broken : K → Bool)
    (cloud_bodies : L → Option (List (List ℕ))) (cloud_faults : L → ℕ) (was mid : Site K L k l)
    (started : Result (Unit {0}) BookFault) (halt : Option Cause) (now : Site K L k l) → IsHaltOf was mid →
    BookRestarts bodies faults is_broken mid started halt now →
    Rereads cloud_bodies cloud_faults mid.cloud now.cloud → SameTraps mid now →
    Restarts bodies faults is_broken cloud_bodies cloud_faults was started halt now
restarts bodies faults is_broken cloud_bodies cloud_faults was mid started halt now of anew reads same = record {
  book =
      subst (λ (it : Book (RigState _)). StartsFrom (bodies_of bodies) (faults_of faults) (broken_of is_broken) false
      it.journal.store started now.book) of.same_book anew.book;
  cloud =
      subst (λ (it : CloudView _). Rereads cloud_bodies cloud_faults it now.cloud) of.same_cloud reads;
  comes = record {
    grows =
        extends_more was.history.moves mid.history.moves now.history.moves anew.anew.grows.0 of.first.grows
        anew.anew.grows.1;
    story =
        story_anew was.history mid.history now.history was.book.journal.entries was.cloud.effects now.book.journal.entries
        now.cloud.effects (read_count now.book) halt of.first of.at anew.anew;
    told =
        anew.anew.same_effects
        ∙ sym (after_stop was.history.is_halted _ _ halt (length now.cloud.effects)
        (effects_told was.history was.cloud.effects));
  };
  halted = anew.anew.halted;
  no_calls = anew.no_calls;
  same_armed = same.same_armed ∙ of.same_armed;
  same_opening = same.same_opening ∙ of.same_opening;
}

pub restarts_on : {K L F : Type 0} {k : keeper.Ghosts K} {l : keeper.Ghosts L}
    (bodies : K → Option (List (List ℕ))) (faults : K → ℕ) (is_broken : K → Bool)
    (cloud_bodies : L → Option (List (List ℕ))) (cloud_faults : L → ℕ) (was mid now : Site K L k l)
    (result : Result (Unit {0}) F) → IsHaltOf was mid →
    OnOk result (BookRestarts bodies faults is_broken mid (Ok tt) None now
    × Rereads cloud_bodies cloud_faults mid.cloud now.cloud) → SameTraps mid now →
    OnOk result (Restarts bodies faults is_broken cloud_bodies cloud_faults was (Ok tt) None now)
restarts_on bodies faults is_broken cloud_bodies cloud_faults was mid now (Ok value) of anew same =
    restarts bodies faults is_broken cloud_bodies cloud_faults was mid (Ok tt) None now of anew.0 anew.1 same
restarts_on bodies faults is_broken cloud_bodies cloud_faults was mid now (Err fault) of anew same = tt

-- the stores of a site that is otherwise as it was
unread_of : {K L : Type 0} {k : keeper.Ghosts K} {l : keeper.Ghosts L}
    (bodies : K → Option (List (List ℕ))) (faults : K → ℕ) (is_broken : K → Bool)
    (cloud_bodies : L → Option (List (List ℕ))) (cloud_faults : L → ℕ) (was mid now : Site K L k l) (fault : SiteFault) →
    IsHaltOf was mid → IsUnread bodies faults is_broken cloud_bodies cloud_faults mid fault now →
    IsUnread bodies faults is_broken cloud_bodies cloud_faults was fault now
unread_of bodies faults is_broken cloud_bodies cloud_faults was mid now fault of (inl memory) =
    inl (memory.0, memory.1 ∙ of.same_cloud, memory.2 ∙ of.same_book)
unread_of bodies faults is_broken cloud_bodies cloud_faults was mid now fault of (inr (inl refused)) =
    inr (inl (
      subst (λ (it : CloudView _). IsCloudUnread cloud_bodies cloud_faults it fault now.cloud) of.same_cloud refused.0,
      refused.1 ∙ of.same_book,
    ))
unread_of bodies faults is_broken cloud_bodies cloud_faults was mid now fault of (inr (inr unread)) =
    inr (inr (
      subst (λ (it : CloudView _). Rereads cloud_bodies cloud_faults it now.cloud) of.same_cloud unread.0,
      subst (λ (it : Book (RigState _)). IsBookUnread bodies faults is_broken it fault now.book) of.same_book unread.1,
    ))

not_read : {K L : Type 0} {k : keeper.Ghosts K} {l : keeper.Ghosts L}
    (bodies : K → Option (List (List ℕ))) (faults : K → ℕ) (is_broken : K → Bool)
    (cloud_bodies : L → Option (List (List ℕ))) (cloud_faults : L → ℕ) (was mid now : Site K L k l) (fault : SiteFault) →
    IsHaltOf was mid → IsUnread bodies faults is_broken cloud_bodies cloud_faults mid fault now → StaysUnread cloud_bodies mid now →
    SameTraps mid now → IsNotRead bodies faults is_broken cloud_bodies cloud_faults was fault now
not_read bodies faults is_broken cloud_bodies cloud_faults was mid now fault of unread stays same =
    let entries : now.book.journal.entries ≡ was.book.journal.entries =
    stays.same_entries ∙ ap (λ it. it.journal.entries) of.same_book in
    record {
      unread = unread_of bodies faults is_broken cloud_bodies cloud_faults was mid now fault of unread;
      comes = record {
        grows = subst (λ (it : HistoryView). Extends was.history.moves it.moves) (sym stays.same_history) of.first.grows;
        story =
            ap (λ h. story h now.book.journal.entries now.cloud.effects) stays.same_history
            ∙ story_all mid.history now.book.journal.entries now.cloud.effects of.at.told.no_restart
            (of.at.all ∙ ap (λ (it : List Entry). length it) (sym entries)) of.at.told.no_halt
            ∙ sym (story_all mid.history was.book.journal.entries was.cloud.effects of.at.told.no_restart of.at.all
            of.at.told.no_halt)
            ∙ of.first.story;
        told =
            ap (λ h. effects_told h now.cloud.effects) stays.same_history
            ∙ told_on mid.history now.cloud.effects of.at.told.no_restart
            ∙ sym (told_on mid.history was.cloud.effects of.at.told.no_restart)
            ∙ of.first.same_effects
            ∙ sym (after_halt was.history.is_halted (length now.cloud.effects)
            (effects_told was.history was.cloud.effects));
      };
      halted = ap (λ h. h.is_halted) stays.same_history ∙ of.at.halted;
      same_entries = entries;
      same_fates = subst (λ (it : CloudView _). SameFates it now.cloud) of.same_cloud stays.same_fates;
      cloud_kept = subst (λ (it : CloudView _). IsKept cloud_bodies it → IsKept cloud_bodies now.cloud) of.same_cloud
          stays.cloud_kept;
      same_calls = stays.same_calls ∙ of.same_calls;
      same_armed = same.same_armed ∙ of.same_armed;
      same_opening = same.same_opening ∙ of.same_opening;
    }

pub refuses_restart : {K L T : Type 0} {k : keeper.Ghosts K} {l : keeper.Ghosts L}
    (bodies : K → Option (List (List ℕ))) (faults : K → ℕ) (is_broken : K → Bool)
    (cloud_bodies : L → Option (List (List ℕ))) (cloud_faults : L → ℕ) (was mid now : Site K L k l)
    (result : Result T SiteFault) → IsHaltOf was mid →
    IfErr result (λ fault. HaltsAnew bodies faults is_broken mid fault now
    × Rereads cloud_bodies cloud_faults mid.cloud now.cloud
    ⊎ IsUnread bodies faults is_broken cloud_bodies cloud_faults mid fault now × StaysUnread cloud_bodies mid now) →
    SameTraps mid now →
    IfErr result (λ fault. RefusesRestart bodies faults is_broken cloud_bodies cloud_faults was fault now)
refuses_restart bodies faults is_broken cloud_bodies cloud_faults was mid now (Ok value) of refused same = tt
refuses_restart bodies faults is_broken cloud_bodies cloud_faults was mid now (Err fault) of (inl anew) same =
    inr (inr (
      anew.0.started,
      (
        anew.0.cause,
        (
          anew.0.again,
          restarts bodies faults is_broken cloud_bodies cloud_faults was mid anew.0.started (Some anew.0.cause) now of
              anew.0.restarts anew.1 same,
        ),
      ),
    ))
refuses_restart bodies faults is_broken cloud_bodies cloud_faults was mid now (Err fault) of (inr unread) same =
    inr (inl (not_read bodies faults is_broken cloud_bodies cloud_faults was mid now fault of unread.0 unread.1 same))

pub halt_of : {K L : Type 0} {k : keeper.Ghosts K} {l : keeper.Ghosts L} (was mid : Site K L k l)
    (entries effects : List Entry) → entries ≡ was.book.journal.entries → effects ≡ was.cloud.effects →
    Halts was.history entries effects mid.history → IsAtHalt mid.history entries → mid.book ≡ was.book →
    mid.cloud ≡ was.cloud → mid.calls ≡ was.calls → mid.traps.items ≡ was.traps.items → mid.opening ≡ was.opening → IsHaltOf was mid
halt_of was mid entries effects is are first at book cloud calls armed opening = record {
  first =
      subst (λ (es : List Entry). Halts was.history was.book.journal.entries es mid.history) are
      (subst (λ (es : List Entry). Halts was.history es effects mid.history) is first);
  at = subst (λ (es : List Entry). IsAtHalt mid.history es) is at;
  same_book = book;
  same_cloud = cloud;
  same_calls = calls;
  same_armed = armed;
  same_opening = opening;
}

-- a book that tells how many tasks it ended has started
pub started_by : {K T : Type 0} (bodies : K → Option (List (List ℕ))) (faults : K → ℕ) (is_broken : K → Bool) (was now : Book K)
    (result : Result T BookFault) (mended : Option ℕ) →
    IsNotReloaded bodies faults is_broken was result now
    ⊎ StartsFrom bodies faults is_broken false was.journal.store result now →
    mended ≡ now.mended → is_some mended ≡ true → StartsFrom bodies faults is_broken false was.journal.store result now
started_by bodies faults is_broken was now result mended (inl unread) is some =
    absurd (false≢true (sym (ap (λ it. is_some it) (is ∙ unread.mended)) ∙ some))
started_by bodies faults is_broken was now result mended (inr starts) is some = starts

-- the cloud was read again before
pub refused_reread : {K L T : Type 0} {k : keeper.Ghosts K} {l : keeper.Ghosts L}
    (bodies : K → Option (List (List ℕ))) (faults : K → ℕ) (is_broken : K → Bool)
    (cloud_bodies : L → Option (List (List ℕ))) (cloud_faults : L → ℕ) (was now : Site K L k l) (cloud : CloudView L)
    (site : IsSite was.book.journal.entries (is_stopped was.book) cloud.is_stale was.history) (result : Result T SiteFault) →
    Rereads cloud_bodies cloud_faults was.cloud cloud → now.cloud ≡ cloud →
    IfErr result (λ fault. HaltsAnew bodies faults is_broken (record was { cloud = cloud; is_site = site }) fault now
    ⊎ IsBookUnread bodies faults is_broken was.book fault now.book
    × StaysUnread cloud_bodies (record was { cloud = cloud; is_site = site }) now) →
    IfErr result (λ fault. HaltsAnew bodies faults is_broken was fault now
    × Rereads cloud_bodies cloud_faults was.cloud now.cloud
    ⊎ IsUnread bodies faults is_broken cloud_bodies cloud_faults was fault now × StaysUnread cloud_bodies was now)
refused_reread bodies faults is_broken cloud_bodies cloud_faults was now cloud site (Ok value) rereads same refused = tt
refused_reread bodies faults is_broken cloud_bodies cloud_faults was now cloud site (Err fault) rereads same (inl anew) =
    inl (
      record {
        started = anew.started;
        cause = anew.cause;
        again = anew.again;
        restarts = record {
          book = anew.restarts.book;
          anew = anew.restarts.anew;
          no_calls = anew.restarts.no_calls;
        };
      },
      subst (λ (it : CloudView _). Rereads cloud_bodies cloud_faults was.cloud it) (sym same) rereads,
    )
refused_reread bodies faults is_broken cloud_bodies cloud_faults was now cloud site (Err fault) rereads same (inr unread) =
    inr (
      inr (inr (
        subst (λ (it : CloudView _). Rereads cloud_bodies cloud_faults was.cloud it) (sym same) rereads,
        unread.0,
      )),
      record {
        same_history = unread.1.same_history;
        same_entries = unread.1.same_entries;
        same_fates = (
          unread.1.same_fates.0 ∙ rereads.same_fates.0,
          unread.1.same_fates.1 ∙ rereads.same_fates.1,
        );
        cloud_kept = λ kept. unread.1.cloud_kept (rereads.kept kept);
        same_calls = unread.1.same_calls;
      },
    )
