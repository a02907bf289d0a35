-- Each call of a site adds moves to its history, and no reply.
use Rattle.std.proofs.Common.{◌≡◌, ℕ, Bool, true, false, Option, Some, None, Result, Ok, Err, List, [], ◌∷◌, ◌++◌, inl, inr, map, refl, sym, ◌∙◌, ap, subst, append-nil}
use Rattle.std.specs.Prelude.{IfErr, IfOk, OnOk, ◌+◌, drop, length, min}
use Rattle.bosh_asks.specs.declared.ask.Ask.{Ask}
use Rattle.bosh_asks.specs.declared.fault.BookFault.{BookFault}
use Rattle.bosh_asks.specs.declared.fault.BookFault.TheVariants as book
use Rattle.bosh_base.specs.declared.entry.Entry.{Entry}
use Rattle.bosh_base.specs.declared.moves.Cause.{Cause}
use Rattle.bosh_base.specs.declared.moves.Cause.TheVariants as causes
use Rattle.bosh_base.specs.declared.moves.Move.{Move}
use Rattle.bosh_base.specs.declared.moves.Move.TheVariants as moves
use Rattle.bosh_directing.specs.Acts.{Acts, past_of}
use Rattle.bosh_moves.proofs.SilentLemmas.{halts_silent, notes_silent}
use Rattle.bosh_moves.specs.Replies.{replies_in}
use Rattle.bosh_moves.specs.Story.{effects_told, halts, kept_count, story}
use Rattle.bosh_ports.specs.declared.keeper.Keeper as keeper
use Rattle.bosh_transcript.proofs.PastLemmas.{proceeds_none, proceeds_then, silent_then}
use Rattle.bosh_transcript.specs.Past.{AreSilent, Continues}
use Rattle.bosh_traps.specs.declared.trap.Trap.{Trap}
use Rattle.bosh_traps.specs.declared.trap.Trap.TheVariants as traps
use Rattle.bosh_world.specs.Arms.{Arms, book_with, cloud_with}
use Rattle.bosh_world.specs.Jobs.{Changes, RefusesJob}
use Rattle.bosh_world.specs.Refuses.{Refuses}
use Rattle.bosh_world.specs.Restarts.{RefusesRestart, Restarts, first_halt, has_found_entry, restart_moves}
use Rattle.bosh_world.specs.Steps.{Comes, IsSame, Notes, OpensTask}
use Rattle.bosh_world.specs.Told.{story_of}
use Rattle.bosh_world.specs.declared.fault.SiteFault.{SiteFault}
use Rattle.bosh_world.specs.declared.fault.SiteFault.TheVariants.{Book, CloudDamaged, CloudStore, Memory, NoMachine, NotRunning}
use Rattle.bosh_world.specs.declared.site.Site.{Site}

-- moves that have come
pub continues_comes : {K L : Type 0} {k : keeper.Ghosts K} {l : keeper.Ghosts L} (was now : Site K L k l)
    (segment : List Move) → Comes was segment now → now.opening ≡ was.opening →
    Continues (past_of was) segment (past_of now)
continues_comes was now segment comes opening = record {
  same_opening = opening;
  story = comes.story;
  grows = comes.grows;
}

-- .. without a reply
pub acts_comes : {K L : Type 0} {k : keeper.Ghosts K} {l : keeper.Ghosts L} (was now : Site K L k l) (segment : List Move) →
    Comes was segment now → AreSilent segment → now.opening ≡ was.opening → Acts was now
acts_comes was now segment comes silent opening = record {
  segment = segment;
  continues = continues_comes was now segment comes opening;
  silent = silent;
}

-- nothing happens
pub acts_none : {K L : Type 0} {k : keeper.Ghosts K} {l : keeper.Ghosts L} (site : Site K L k l) → Acts site site
acts_none site = proceeds_none (past_of site)

-- .. and then something
pub acts_then : {K L : Type 0} {k : keeper.Ghosts K} {l : keeper.Ghosts L} (was mid now : Site K L k l) → Acts was mid →
    Acts mid now → Acts was now
acts_then was mid now first rest = proceeds_then (past_of was) (past_of mid) (past_of now) first rest

pub acts_is : {K L : Type 0} {k : keeper.Ghosts K} {l : keeper.Ghosts L} (was now : Site K L k l) → now ≡ was → Acts was now
acts_is was now is = subst (Acts was) (sym is) (acts_none was)

pub same_story : {K L : Type 0} {k : keeper.Ghosts K} {l : keeper.Ghosts L} (was now : Site K L k l) → IsSame was now →
    story_of now ≡ story_of was
same_story was now same =
    λ i. story (same.same_history i) (same.same_book i).journal.entries (same.same_cloud i).effects

pub acts_same : {K L : Type 0} {k : keeper.Ghosts K} {l : keeper.Ghosts L} (was now : Site K L k l) → IsSame was now →
    Acts was now
acts_same was now same = acts_comes was now [] (record {
  grows = ([], ap (λ h. h.moves) same.same_history ∙ sym (append-nil was.history.moves));
  story = same_story was now same ∙ sym (append-nil (story_of was));
  told = λ i. effects_told (same.same_history i) (same.same_cloud i).effects;
}) refl same.same_opening

-- ---- entries are noted

noted_silent : (noted : List Entry) (halt : Option Cause) → AreSilent (map moves.Note noted ++ halts halt)
noted_silent noted halt = silent_then (map moves.Note noted) (halts halt) (notes_silent noted) (halts_silent halt)

pub acts_notes : {K L : Type 0} {k : keeper.Ghosts K} {l : keeper.Ghosts L} (bodies : K → Option (List (List ℕ)))
    (faults : K → ℕ) (was now : Site K L k l) (noted : List Entry) (halt : Option Cause) →
    Notes bodies faults was noted halt now → Acts was now
acts_notes bodies faults was now noted halt notes =
    acts_comes was now (map moves.Note noted ++ halts halt) notes.comes (noted_silent noted halt) notes.same_opening

-- a refusal of the site
pub acts_refused : {K L : Type 0} {k : keeper.Ghosts K} {l : keeper.Ghosts L} (bodies : K → Option (List (List ℕ)))
    (faults : K → ℕ) (was now : Site K L k l) (noted : List Entry) (fault : SiteFault) →
    Refuses bodies faults was noted fault now → Acts was now
acts_refused bodies faults was now noted (Book book.Stopped) (inl same) = acts_is was now same.1
acts_refused bodies faults was now noted (Book book.Stopped) (inr fails) =
    acts_notes bodies faults was now noted (Some causes.Stop) fails.1.notes
acts_refused bodies faults was now noted (Book book.StoreFault) fails =
    acts_notes bodies faults was now noted (Some causes.Store) fails.1.notes
acts_refused bodies faults was now noted (Book book.Memory) notes = acts_notes bodies faults was now noted None notes.1
acts_refused bodies faults was now noted (Book book.Full) notes = acts_notes bodies faults was now noted None notes.1
acts_refused bodies faults was now noted (Book (book.Locked task)) notes = acts_notes bodies faults was now noted None notes.1
acts_refused bodies faults was now noted (Book (book.Damaged place)) notes =
    acts_notes bodies faults was now noted None notes.1
acts_refused bodies faults was now noted (Book (book.Differs name)) notes = acts_notes bodies faults was now noted None notes.1
acts_refused bodies faults was now noted (Book (book.NoDeployment name)) notes =
    acts_notes bodies faults was now noted None notes.1
acts_refused bodies faults was now noted (Book (book.NoInstance inst)) notes =
    acts_notes bodies faults was now noted None notes.1
acts_refused bodies faults was now noted (Book (book.NoDisk disk)) notes = acts_notes bodies faults was now noted None notes.1
acts_refused bodies faults was now noted (Book (book.NotOrphaned disk)) notes =
    acts_notes bodies faults was now noted None notes.1
acts_refused bodies faults was now noted (Book (book.Goal other)) notes = acts_notes bodies faults was now noted None notes.1
acts_refused bodies faults was now noted (Book book.Limit) notes = acts_notes bodies faults was now noted None notes.1
acts_refused bodies faults was now noted (Book (book.Consumed by)) notes = acts_notes bodies faults was now noted None notes.1
acts_refused bodies faults was now noted CloudStore notes = acts_notes bodies faults was now noted None notes.1
acts_refused bodies faults was now noted (CloudDamaged position) notes = acts_notes bodies faults was now noted None notes.1
acts_refused bodies faults was now noted (NotRunning inst) notes = acts_notes bodies faults was now noted None notes.1
acts_refused bodies faults was now noted (NoMachine inst) notes = acts_notes bodies faults was now noted None notes.1
acts_refused bodies faults was now noted Memory notes = acts_notes bodies faults was now noted None notes.1

-- entries are noted, or that is refused
pub acts_answers : {T : Type 0} {K L : Type 0} {k : keeper.Ghosts K} {l : keeper.Ghosts L}
    (bodies : K → Option (List (List ℕ))) (faults : K → ℕ) (was now : Site K L k l) (noted : T → List Entry)
    (result : Result T SiteFault) → IfOk result (λ value. Notes bodies faults was (noted value) None now) →
    IfErr result (λ fault. Refuses bodies faults was [] fault now) → Acts was now
acts_answers bodies faults was now noted (Ok value) notes refused = acts_notes bodies faults was now (noted value) None notes
acts_answers bodies faults was now noted (Err fault) notes refused = acts_refused bodies faults was now [] fault refused

pub acts_set : {K L : Type 0} {k : keeper.Ghosts K} {l : keeper.Ghosts L} (bodies : K → Option (List (List ℕ)))
    (faults : K → ℕ) (was now : Site K L k l) (noted : List Entry) (result : Result (Unit {0}) SiteFault) →
    OnOk result (Notes bodies faults was noted None now) →
    IfErr result (λ fault. Refuses bodies faults was [] fault now) → Acts was now
acts_set bodies faults was now noted (Ok value) notes refused = acts_notes bodies faults was now noted None notes
acts_set bodies faults was now noted (Err fault) notes refused = acts_refused bodies faults was now [] fault refused

-- the task opens, or that is refused
pub acts_opens : {K L : Type 0} {k : keeper.Ghosts K} {l : keeper.Ghosts L} (bodies : K → Option (List (List ℕ)))
    (faults : K → ℕ) (was now : Site K L k l) (ask : Ask) (result : Result ℕ SiteFault) →
    IfOk result (λ task. OpensTask bodies faults was ask task now) →
    IfErr result (λ fault. Refuses bodies faults was [] fault now) → Acts was now
acts_opens bodies faults was now ask (Ok task) opens refused = acts_notes bodies faults was now _ None opens.notes
acts_opens bodies faults was now ask (Err fault) opens refused = acts_refused bodies faults was now [] fault refused

-- ---- the cloud changes

-- a change of the cloud was told
pub acts_changes : {K L : Type 0} {k : keeper.Ghosts K} {l : keeper.Ghosts L} (bodies : L → Option (List (List ℕ)))
    (faults : L → ℕ) (was now : Site K L k l) (done : Entry) (move : Move) → Changes bodies faults was done move now →
    replies_in (move ∷ []) ≡ [] → Acts was now
acts_changes bodies faults was now done move changes silent =
    acts_comes was now (move ∷ []) changes.comes silent changes.same_opening

-- .. or refused
pub acts_unchanged : {K L : Type 0} {k : keeper.Ghosts K} {l : keeper.Ghosts L} (bodies : L → Option (List (List ℕ)))
    (faults : L → ℕ) (was now : Site K L k l) (Is : Entry → Type 0) (May : SiteFault → Type 0) (fault : SiteFault) →
    RefusesJob bodies faults was Is May fault now → Acts was now
acts_unchanged bodies faults was now Is May (Book book.Stopped) same = acts_is was now same.1
acts_unchanged bodies faults was now Is May CloudStore (done, is, fails) =
    acts_comes was now (moves.Halt causes.CloudStore ∷ []) fails.halts.comes refl fails.halts.same_opening
acts_unchanged bodies faults was now Is May Memory lacks = acts_comes was now [] lacks.comes refl lacks.same_opening
acts_unchanged bodies faults was now Is May (Book book.StoreFault) same = acts_is was now same.1
acts_unchanged bodies faults was now Is May (Book book.Memory) same = acts_is was now same.1
acts_unchanged bodies faults was now Is May (Book book.Full) same = acts_is was now same.1
acts_unchanged bodies faults was now Is May (Book (book.Locked task)) same = acts_is was now same.1
acts_unchanged bodies faults was now Is May (Book (book.Damaged place)) same = acts_is was now same.1
acts_unchanged bodies faults was now Is May (Book (book.Differs name)) same = acts_is was now same.1
acts_unchanged bodies faults was now Is May (Book (book.NoDeployment name)) same = acts_is was now same.1
acts_unchanged bodies faults was now Is May (Book (book.NoInstance inst)) same = acts_is was now same.1
acts_unchanged bodies faults was now Is May (Book (book.NoDisk disk)) same = acts_is was now same.1
acts_unchanged bodies faults was now Is May (Book (book.NotOrphaned disk)) same = acts_is was now same.1
acts_unchanged bodies faults was now Is May (Book (book.Goal other)) same = acts_is was now same.1
acts_unchanged bodies faults was now Is May (Book book.Limit) same = acts_is was now same.1
acts_unchanged bodies faults was now Is May (Book (book.Consumed by)) same = acts_is was now same.1
acts_unchanged bodies faults was now Is May (CloudDamaged position) same = acts_is was now same.1
acts_unchanged bodies faults was now Is May (NotRunning inst) same = acts_is was now same.1
acts_unchanged bodies faults was now Is May (NoMachine inst) same = acts_is was now same.1

-- ---- traps, and a restart

-- neither an entry nor an effect
armed_story : {K L : Type 0} {k : keeper.Ghosts K} {l : keeper.Ghosts L} (was : Site K L k l) (trap : Trap) →
    story was.history (book_with was.book trap).journal.entries (cloud_with was.cloud trap).effects ≡ story_of was
armed_story was (traps.Fail method owner k outcome) = refl
armed_story was (traps.Store k how) = refl
armed_story was (traps.Stop before method owner k all) = refl

armed_told : {K L : Type 0} {k : keeper.Ghosts K} {l : keeper.Ghosts L} (was : Site K L k l) (trap : Trap) →
    effects_told was.history (cloud_with was.cloud trap).effects ≡ effects_told was.history was.cloud.effects
armed_told was (traps.Fail method owner k outcome) = refl
armed_told was (traps.Store k how) = refl
armed_told was (traps.Stop before method owner k all) = refl

-- a trap is set
pub acts_armed : {K L : Type 0} {k : keeper.Ghosts K} {l : keeper.Ghosts L} (was now : Site K L k l) (trap : Trap) →
    Arms was trap now → Acts was now
acts_armed was now trap arms = acts_comes was now [] (record {
  grows = ([], ap (λ h. h.moves) arms.same_history ∙ sym (append-nil was.history.moves));
  story = (λ i. story (arms.same_history i) (arms.book i).journal.entries (arms.cloud i).effects) ∙ armed_story was trap
      ∙ sym (append-nil (story_of was));
  told = (λ i. effects_told (arms.same_history i) (arms.cloud i).effects) ∙ armed_told was trap;
}) refl arms.same_opening

-- the director starts anew
first_silent : (halted : Bool) → AreSilent (first_halt halted)
first_silent true = refl
first_silent false = refl

restart_silent : {K L : Type 0} {k : keeper.Ghosts K} {l : keeper.Ghosts L} (was now : Site K L k l) (halt : Option Cause) →
    AreSilent (restart_moves was now halt)
restart_silent was now halt =
    noted_silent
    (drop (min (length was.book.journal.entries) (length now.book.journal.entries)
    + kept_count (Some (has_found_entry was now.book))) now.book.journal.entries) halt

pub acts_restarts : {K L : Type 0} {k : keeper.Ghosts K} {l : keeper.Ghosts L} (bodies : K → Option (List (List ℕ)))
    (faults : K → ℕ) (is_broken : K → Bool) (cloud_bodies : L → Option (List (List ℕ))) (cloud_faults : L → ℕ)
    (was now : Site K L k l) (started : Result (Unit {0}) BookFault) (halt : Option Cause) →
    Restarts bodies faults is_broken cloud_bodies cloud_faults was started halt now → Acts was now
acts_restarts bodies faults is_broken cloud_bodies cloud_faults was now started halt restarts =
    acts_comes was now (first_halt was.history.is_halted ++ restart_moves was now halt) restarts.comes
    (silent_then (first_halt was.history.is_halted) (restart_moves was now halt) (first_silent was.history.is_halted)
    (restart_silent was now halt))
    restarts.same_opening

-- .. or that is refused
pub acts_unstarted : {K L : Type 0} {k : keeper.Ghosts K} {l : keeper.Ghosts L} (bodies : K → Option (List (List ℕ)))
    (faults : K → ℕ) (is_broken : K → Bool) (cloud_bodies : L → Option (List (List ℕ))) (cloud_faults : L → ℕ)
    (was now : Site K L k l) (fault : SiteFault) →
    RefusesRestart bodies faults is_broken cloud_bodies cloud_faults was fault now → Acts was now
acts_unstarted bodies faults is_broken cloud_bodies cloud_faults was now fault (inl lacks) =
    acts_comes was now [] lacks.1 refl lacks.2.same_opening
acts_unstarted bodies faults is_broken cloud_bodies cloud_faults was now fault (inr (inl unread)) =
    acts_comes was now (first_halt was.history.is_halted) unread.comes (first_silent was.history.is_halted)
    unread.same_opening
acts_unstarted bodies faults is_broken cloud_bodies cloud_faults was now fault (inr (inr again)) =
    acts_restarts bodies faults is_broken cloud_bodies cloud_faults was now again.0 (Some again.1.0) again.1.1.1
