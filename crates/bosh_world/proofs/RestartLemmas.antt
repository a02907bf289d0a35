-- What a restart leaves of the moves.
use Rattle.std.proofs.Common.{◌≡◌, ◌≤◌, ◌<◌, ◌+◌, Bool, true, false, Option, Some, Result, Ok, Err, List, [], ◌∷◌, ◌++◌}
use Rattle.std.proofs.Common.{refl, sym, ◌∙◌, ap, subst, append-nil, length, drop, min, inr}
use Rattle.std.specs.Prelude.{◌⊎◌, OnErr, OnOk, is_some}
use Rattle.std.proofs.lemmas.List.Elements.{filter_map-append}
use Rattle.bosh_base.specs.History.{chosen}
use Rattle.bosh_base.specs.declared.entry.Entry.{Entry}
use Rattle.bosh_base.specs.declared.moves.Cause.{Cause}
use Rattle.bosh_base.specs.declared.moves.Cause.TheVariants as causes
use Rattle.bosh_base.specs.declared.moves.Move.TheVariants.{Stop}
use Rattle.bosh_moves.proofs.RestartLemmas.{IsRestarted, owed_anew, told_anew}
use Rattle.bosh_moves.proofs.SilentLemmas.{tells_silent}
use Rattle.bosh_moves.proofs.StoryLemmas.{extends_more}
use Rattle.bosh_moves.proofs.TellLemmas.{halt_comes, tells_then, then_told}
use Rattle.bosh_moves.specs.Found.{kept_at, stop_of}
use Rattle.bosh_moves.specs.Replies.{replies_in, reply_of}
use Rattle.bosh_moves.specs.Story.{Follows, HistoryView, IsOf, IsTold, Tells, halts, kept_count, story}
use Rattle.bosh_world.specs.Anew.{GoesAnew, Halts, IsAtHalt, halt_after}
use Rattle.bosh_world.specs.Restarts.{first_halt}

-- it halts, where it has not
pub record HaltsNow (was now : HistoryView) : Type 0 where
  pub running : was.is_halted ≡ false → now ≡ record was { halt = Some causes.Stop; is_halted = true }
  pub halted : was.is_halted ≡ true → now ≡ was

of_by : (off : Bool) (was now : HistoryView) (entries : List Entry) → was.is_halted ≡ off → IsOf was entries →
    HaltsNow was now → IsOf now entries
of_by true was now entries is of halt = subst (λ (h : HistoryView). IsOf h entries) (sym (halt.halted is)) of
of_by false was now entries is of halt =
    (halt_comes was now entries [] (Some causes.Stop) of is (halt.running is)).is_of

pub of_halted : (was now : HistoryView) (entries : List Entry) → IsOf was entries → HaltsNow was now → IsOf now entries
of_halted was now entries of halt = of_by was.is_halted was now entries refl of halt

halts_by : (off : Bool) (was told halt now : HistoryView) (entries effects : List Entry) → was.is_halted ≡ off →
    Tells was entries effects told → HaltsNow told halt → Tells halt entries effects now →
    Halts was entries effects now
halts_by true was told halt now entries effects is before comes after =
    let again : Tells told entries effects now =
    subst (λ (h : HistoryView). Tells h entries effects now) (comes.halted (before.halted ∙ is)) after in
    let all : Tells was entries effects now = tells_then was told now entries effects before again in
    record {
      grows = all.grows;
      story =
          all.story
          ∙ sym (append-nil (story was entries effects))
          ∙ ap (λ b. story was entries effects ++ first_halt b) (sym is);
      same_effects = all.same_effects;
      is_of = all.is_of;
      halted = all.halted ∙ is;
    }
halts_by false was told halt now entries effects is before comes after =
    let off : told.is_halted ≡ false = before.halted ∙ is in
    let follows : Follows told entries effects (Some causes.Stop) now =
    then_told told halt now entries effects (Some causes.Stop)
    (halt_comes told halt entries effects (Some causes.Stop) before.is_of off (comes.running off)) after in
    record {
      grows = extends_more was.moves told.moves now.moves follows.grows.0 before.grows follows.grows.1;
      story =
          follows.story
          ∙ ap (λ ms. ms ++ halts (Some causes.Stop)) before.story
          ∙ ap (λ b. story was entries effects ++ first_halt b) (sym is);
      same_effects = follows.same_effects ∙ before.same_effects;
      is_of = follows.is_of;
      halted = follows.halted;
    }

pub halts_first : (was told halt now : HistoryView) (entries effects : List Entry) → Tells was entries effects told →
    HaltsNow told halt → Tells halt entries effects now → Halts was entries effects now
halts_first was told halt now entries effects before comes after =
    halts_by was.is_halted was told halt now entries effects refl before comes after

-- .. and all is told
pub at_halt : {T F : Type 0} (result : Result T F) (was now : HistoryView) (entries effects : List Entry) →
    Halts was entries effects now →
    OnOk result (IsTold now × (now.entries ≡ length entries) × (2 ≤ now.free)) →
    OnOk result (Halts was entries effects now × IsAtHalt now entries)
at_halt (Ok value) was now entries effects comes told =
    (comes, record { told = told.0; all = told.1; halted = comes.halted })
at_halt (Err fault) was now entries effects comes told = tt

same_moves : (off : Bool) (was now : HistoryView) → was.is_halted ≡ off → HaltsNow was now → now.moves ≡ was.moves
same_moves true was now is halt = ap (λ h. h.moves) (halt.halted is)
same_moves false was now is halt = ap (λ h. h.moves) (halt.running is)

pub halts_silent : (was told halt now : HistoryView) (entries effects : List Entry) → Tells was entries effects told →
    HaltsNow told halt → Tells halt entries effects now → replies_in now.moves ≡ replies_in was.moves
halts_silent was told halt now entries effects before comes after =
    tells_silent halt now entries effects after
    ∙ ap replies_in (same_moves told.is_halted told halt refl comes)
    ∙ tells_silent was told entries effects before

-- the history where a restart was told
abbrev pub IsAnew : HistoryView → List Entry → List Entry → Bool → Option Cause → HistoryView → Type 0
IsAnew was entries effects kept halt now =
    now ≡ record was {
      moves = was.moves ++ Stop (stop_of (kept_at kept entries was.entries) (drop was.effects effects)) ∷ [];
      free = now.free;
      entries = min was.entries (length entries) + kept_count (Some kept);
      effects = length effects;
      halt = halt;
      is_halted = is_some halt;
    }

-- .. and where there was no memory for it
abbrev pub IsOwed : HistoryView → List Entry → Bool → Option Cause → HistoryView → Type 0
IsOwed was entries kept halt now =
    now ≡ record was {
      free = now.free;
      entries = min was.entries (length entries);
      restart = Some kept;
      halt = Some (chosen halt causes.Stop);
    }

-- a restart was told, or there was no memory for it
pub anew : {T F : Type 0} (result : Result T F) (was now : HistoryView) (entries effects : List Entry) (kept : Bool)
    (halt : Option Cause) → was.is_halted ≡ true → IsTold was → (kept ≡ true → was.entries < length entries) →
    OnOk result (IsAnew was entries effects kept halt now) → OnErr result (IsOwed was entries kept halt now) →
    IsRestarted was entries effects kept (halt_after result halt) now
anew (Ok value) was now entries effects kept halt halted told there ok not =
    told_anew was now entries effects kept halt told there ok
anew (Err fault) was now entries effects kept halt halted told there ok not =
    owed_anew was now entries effects kept (chosen halt causes.Stop) halted there not

pub anew_silent : {T F : Type 0} (result : Result T F) (was now : HistoryView) (entries effects : List Entry)
    (kept : Bool) (halt : Option Cause) →
    OnOk result (IsAnew was entries effects kept halt now) → OnErr result (IsOwed was entries kept halt now) →
    replies_in now.moves ≡ replies_in was.moves
anew_silent (Ok value) was now entries effects kept halt ok not =
    ap (λ h. replies_in h.moves) ok
    ∙ filter_map-append reply_of was.moves
    (Stop (stop_of (kept_at kept entries was.entries) (drop was.effects effects)) ∷ [])
    ∙ append-nil (replies_in was.moves)
anew_silent (Err fault) was now entries effects kept halt ok not = ap (λ h. replies_in h.moves) not

-- .. and what happened is told
pub goes_anew : (was restarted now : HistoryView) (entries effects : List Entry) (kept : Bool) (halt : Option Cause) →
    IsRestarted was entries effects kept halt restarted → Tells restarted entries effects now →
    GoesAnew was entries effects kept halt now
goes_anew was restarted now entries effects kept halt is tells = record {
  grows = extends_more was.moves restarted.moves now.moves tells.grows.0 is.grows tells.grows.1;
  story = tells.story ∙ is.story;
  same_effects = tells.same_effects ∙ is.same_effects;
  is_of = tells.is_of;
  halted = tells.halted ∙ is.halted;
}

pub stays_halted : {T F : Type 0} (result : Result T F) (cause : Cause) → halt_after result (Some cause) ≡ Some cause
stays_halted (Ok value) cause = refl
stays_halted (Err fault) cause = refl

pub or_halts : {T F : Type 0} (result : Result T F) (was now : HistoryView) (entries effects : List Entry) →
    Halts was entries effects now → OnErr result (Tells was entries effects now ⊎ Halts was entries effects now)
or_halts (Ok value) was now entries effects comes = tt
or_halts (Err fault) was now entries effects comes = inr comes
