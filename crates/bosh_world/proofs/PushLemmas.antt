-- A move is told at once, where all was told before.
use Rattle.std.proofs.Common.{◌≡◌, ◌≤◌, ℕ, Bool, None, List, [], ◌∷◌, ◌++◌, sym, ◌∙◌, ap, subst, append-nil, append_assoc, length}
use Rattle.std.proofs.lemmas.List.Elements.{filter_map-append}
use Rattle.bosh_base.specs.declared.entry.Entry.{Entry}
use Rattle.bosh_base.specs.declared.moves.Move.{Move}
use Rattle.bosh_base.specs.declared.moves.Said as said
use Rattle.bosh_moves.proofs.StoryLemmas.{extends_more}
use Rattle.bosh_moves.proofs.TellLemmas.{of_on, story_all, told_on, within_on}
use Rattle.bosh_moves.specs.Replies.{replies_in, reply_of}
use Rattle.bosh_moves.specs.Story.{HistoryView, effects_after}
use Rattle.bosh_ports.specs.declared.keeper.Keeper as keeper
use Rattle.bosh_world.specs.IsSite.{IsSite}
use Rattle.bosh_world.specs.Steps.{Comes, IsAllTold}
use Rattle.bosh_world.specs.Told.{story_of}
use Rattle.bosh_world.specs.declared.site.Site.{Site}

-- a move at the end, which tells so many effects
abbrev pub pushed : HistoryView → Move → ℕ → ℕ → HistoryView
pushed history step free effects = record history { moves = history.moves ++ step ∷ []; free = free; effects = effects }

-- it comes
pub push_comes : {K L : Type 0} {k : keeper.Ghosts K} {l : keeper.Ghosts L} (was now : Site K L k l) (step : Move)
    (free effects : ℕ) → IsAllTold was → now.book ≡ was.book → now.history ≡ pushed was.history step free effects →
    effects ≡ effects_after (step ∷ []) (length now.cloud.effects) was.history.effects → Comes was (step ∷ []) now
push_comes was now step free effects told same is tells =
    let entries : was.history.entries ≡ length was.book.journal.entries = told.entries in
    record {
      grows = (step ∷ [], ap (λ h. h.moves) is);
      story =
          story_all now.history now.book.journal.entries now.cloud.effects
          (ap (λ h. h.restart) is ∙ told.told.no_restart)
          (ap (λ h. h.entries) is ∙ entries ∙ sym (ap (λ b. length b.journal.entries) same))
          (ap (λ h. h.halt) is ∙ told.told.no_halt)
          ∙ ap (λ h. h.moves) is
          ∙ ap (λ ms. ms ++ step ∷ []) (sym (story_all was.history was.book.journal.entries was.cloud.effects
          told.told.no_restart entries told.told.no_halt));
      told =
          told_on now.history now.cloud.effects (ap (λ h. h.restart) is ∙ told.told.no_restart)
          ∙ ap (λ h. h.effects) is
          ∙ tells
          ∙ ap (effects_after (step ∷ []) (length now.cloud.effects))
          (sym (told_on was.history was.cloud.effects told.told.no_restart));
    }

-- the site keeps what it keeps
pub push_any : (was now : HistoryView) (entries : List Entry) (stopped stale : Bool) (step : Move) (free effects : ℕ) →
    IsSite entries stopped stale was → was.restart ≡ None → was.halt ≡ None →
    now ≡ pushed was step free effects → IsSite entries stopped stale now
push_any was now entries stopped stale step free effects site restart halt is = record {
  is_of = of_on now entries (ap (λ h. h.restart) is ∙ restart)
      (subst (λ (n : ℕ). n ≤ length entries) (sym (ap (λ h. h.entries) is)) (within_on was entries restart site.is_of))
      (λ stays. ap (λ h. h.halt) is ∙ halt);
  book_runs = λ stays. site.book_runs (sym (ap (λ h. h.is_halted) is) ∙ stays);
  cloud_runs = λ stays. site.cloud_runs (sym (ap (λ h. h.is_halted) is) ∙ stays);
}

-- its reply, where it is one, is noted
pub push_replies : (was now : List Move) (step : Move) → now ≡ was ++ step ∷ [] →
    replies_in now ≡ replies_in was ++ replies_in (step ∷ [])
push_replies was now step is = ap replies_in is ∙ filter_map-append reply_of was (step ∷ [])

-- one that is no reply notes none
pub push_silent : (was now : List Move) (step : Move) → replies_in (step ∷ []) ≡ [] → now ≡ was ++ step ∷ [] →
    replies_in now ≡ replies_in was
push_silent was now step none is =
    push_replies was now step is
    ∙ ap (λ (more : List said.Said). replies_in was ++ more) none
    ∙ append-nil (replies_in was)

-- what had happened was told, and then a move came
pub comes_then : {K L : Type 0} {k : keeper.Ghosts K} {l : keeper.Ghosts L} (was mid now : Site K L k l) (more : List Move) →
    Comes was [] mid → Comes mid more now → Comes was more now
comes_then was mid now more before comes = record {
  grows = extends_more was.history.moves mid.history.moves now.history.moves comes.grows.0 before.grows comes.grows.1;
  story = comes.story ∙ ap (λ ms. ms ++ more) (before.story ∙ append-nil (story_of was));
  told = comes.told ∙ ap (effects_after more (length now.cloud.effects)) before.told;
}
