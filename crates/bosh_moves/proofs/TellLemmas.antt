-- Moves are told one after another.
use Rattle.std.proofs.Common.{◌≡◌, ◌≤◌, ℕ, ◌+◌, Bool, true, false, Option, Some, None, Result, Ok, Err, List, [], ◌∷◌, ◌++◌, refl, sym, ◌∙◌, ap, subst, append_assoc, append-nil, arith, length, length-append, map, drop}
use Rattle.std.specs.Prelude.{is_some, OnErr, OnOk}
use Rattle.std.proofs.Math.Seq.{drop-length}
use Rattle.std.proofs.lemmas.List.{drop-append-le, map-append}
use Rattle.std.proofs.lemmas.Bool.{false≢true}
use Rattle.bosh_base.specs.declared.entry.Entry.{Entry}
use Rattle.bosh_base.specs.declared.moves.Cause.{Cause}
use Rattle.bosh_base.specs.declared.moves.Move.{Move}
use Rattle.bosh_base.specs.declared.moves.Move.TheVariants.{Note, Stop}
use Rattle.bosh_moves.proofs.StoryLemmas.{extends_more, extends_self}
use Rattle.bosh_moves.specs.Found.{kept_at, stop_of}
use Rattle.bosh_moves.specs.Story.{Follows, HistoryView, IsOf, IsTold, Tells, TellsNotes, effects_after, effects_by, effects_told, halts, kept_count, notes, stops, story, to_tell, told_count}

plus_none : (n : ℕ) → n + 0 ≡ n
plus_none n = omega arith

-- the story by its parts
pub story_by : (h : HistoryView) (entries effects : List Entry) (restart : Option Bool) → h.restart ≡ restart →
    story h entries effects ≡ h.moves ++ (stops restart h.entries h.effects entries effects
    ++ (map Note (drop (h.entries + kept_count restart) entries) ++ halts h.halt))
unfolding story to_tell notes told_count
story_by h entries effects restart is =
    ap (λ r. h.moves ++ (stops r h.entries h.effects entries effects
    ++ (map Note (drop (h.entries + kept_count r) entries) ++ halts h.halt))) is

-- .. where no restart is to be told
pub story_on : (h : HistoryView) (entries effects : List Entry) → h.restart ≡ None →
    story h entries effects ≡ h.moves ++ (map Note (drop h.entries entries) ++ halts h.halt)
story_on h entries effects is =
    story_by h entries effects None is
    ∙ ap (λ n. h.moves ++ (map Note (drop n entries) ++ halts h.halt)) (plus_none h.entries)

-- .. and the notes are told
pub story_told : (h : HistoryView) (entries effects : List Entry) → h.restart ≡ None → h.entries ≡ length entries →
    story h entries effects ≡ h.moves ++ halts h.halt
story_told h entries effects is all =
    story_on h entries effects is
    ∙ ap (λ n. h.moves ++ (map Note (drop n entries) ++ halts h.halt)) all
    ∙ ap (λ es. h.moves ++ (map Note es ++ halts h.halt)) (drop-length entries)

-- .. and nothing is left
pub story_all : (h : HistoryView) (entries effects : List Entry) → h.restart ≡ None → h.entries ≡ length entries →
    h.halt ≡ None → story h entries effects ≡ h.moves
story_all h entries effects is all none =
    story_told h entries effects is all ∙ ap (λ c. h.moves ++ halts c) none ∙ append-nil h.moves

pub of_by : (h : HistoryView) (entries : List Entry) (restart : Option Bool) → h.restart ≡ restart → IsOf h entries →
    h.entries + kept_count restart ≤ length entries
unfolding told_count
of_by h entries restart is of = subst (λ (r : Option Bool). h.entries + kept_count r ≤ length entries) is of.within

-- it tells no more entries than there are, where no restart is to be told
pub within_on : (h : HistoryView) (entries : List Entry) → h.restart ≡ None → IsOf h entries → h.entries ≤ length entries
within_on h entries is of = subst (λ (n : ℕ). n ≤ length entries) (plus_none h.entries) (of_by h entries None is of)

within_none : (h : HistoryView) (entries : List Entry) → h.restart ≡ None → h.entries ≤ length entries →
    told_count h ≤ length entries
unfolding told_count
within_none h entries is within =
    subst (λ (r : Option Bool). h.entries + kept_count r ≤ length entries) (sym is)
    (subst (λ (n : ℕ). n ≤ length entries) (sym (plus_none h.entries)) within)

-- where no restart is to be told
pub of_on : (h : HistoryView) (entries : List Entry) → h.restart ≡ None → h.entries ≤ length entries →
    (h.is_halted ≡ false → h.halt ≡ None) → IsOf h entries
of_on h entries is within no_halt = record {
  within = within_none h entries is within;
  no_restart = λ running. is;
  no_halt = no_halt;
}

within_owed : (h : HistoryView) (entries : List Entry) (kept : Bool) → h.restart ≡ Some kept →
    h.entries + kept_count (Some kept) ≤ length entries → told_count h ≤ length entries
unfolding told_count
within_owed h entries kept is within =
    subst (λ (r : Option Bool). h.entries + kept_count r ≤ length entries) (sym is) within

-- where one is, the site has halted
pub of_owed : (h : HistoryView) (entries : List Entry) (kept : Bool) → h.restart ≡ Some kept →
    h.entries + kept_count (Some kept) ≤ length entries → h.is_halted ≡ true → IsOf h entries
of_owed h entries kept is within halted = record {
  within = within_owed h entries kept is within;
  no_restart = λ running. absurd (false≢true (sym running ∙ halted));
  no_halt = λ running. absurd (false≢true (sym running ∙ halted));
}

-- the effects that are told, by the restart
pub effects_on : (h : HistoryView) (effects : List Entry) (restart : Option Bool) → h.restart ≡ restart →
    effects_told h effects ≡ effects_by restart h.effects (length effects)
unfolding effects_told
effects_on h effects restart is = ap (λ r. effects_by r h.effects (length effects)) is

same_told : (was now : HistoryView) (effects : List Entry) → now.restart ≡ was.restart → now.effects ≡ was.effects →
    effects_told now effects ≡ effects_told was effects
unfolding effects_told
same_told was now effects restart told =
    ap (λ r. effects_by r now.effects (length effects)) restart
    ∙ ap (λ n. effects_by was.restart n (length effects)) told

pub tells_self : (h : HistoryView) (entries effects : List Entry) → IsOf h entries → Tells h entries effects h
tells_self h entries effects of = record {
  grows = extends_self h.moves;
  story = refl;
  same_effects = refl;
  is_of = of;
  halted = refl;
}

of_freely : (was now : HistoryView) (entries : List Entry) → IsOf was entries → now ≡ record was { free = now.free } →
    IsOf now entries
unfolding told_count
of_freely was now entries of is = record {
  within = subst (λ (h : HistoryView). told_count h ≤ length entries) (sym is) of.within;
  no_restart = λ running. ap (λ h. h.restart) is ∙ of.no_restart (sym (ap (λ h. h.is_halted) is) ∙ running);
  no_halt = λ running. ap (λ h. h.halt) is ∙ of.no_halt (sym (ap (λ h. h.is_halted) is) ∙ running);
}

story_freely : (was now : HistoryView) (entries effects : List Entry) → now ≡ record was { free = now.free } →
    story now entries effects ≡ story was entries effects
unfolding story to_tell notes told_count
story_freely was now entries effects is = ap (λ h. story h entries effects) is

-- the places that are free are no matter
pub tells_freely : (was now : HistoryView) (entries effects : List Entry) → IsOf was entries →
    now ≡ record was { free = now.free } → Tells was entries effects now
tells_freely was now entries effects of is = record {
  grows = ([], ap (λ h. h.moves) is ∙ sym (append-nil was.moves));
  story = story_freely was now entries effects is;
  same_effects = same_told was now effects (ap (λ h. h.restart) is) (ap (λ h. h.effects) is);
  is_of = of_freely was now entries of is;
  halted = ap (λ h. h.is_halted) is;
}

pub tells_then : (first mid last : HistoryView) (entries effects : List Entry) → Tells first entries effects mid →
    Tells mid entries effects last → Tells first entries effects last
tells_then first mid last entries effects was now = record {
  grows = extends_more first.moves mid.moves last.moves now.grows.0 was.grows now.grows.1;
  story = now.story ∙ was.story;
  same_effects = now.same_effects ∙ was.same_effects;
  is_of = now.is_of;
  halted = now.halted ∙ was.halted;
}

no_halt_by : (was now : HistoryView) (entries : List Entry) → IsOf was entries → now.is_halted ≡ was.is_halted →
    now.halt ≡ was.halt → now.is_halted ≡ false → now.halt ≡ None
no_halt_by was now entries of halted halt running = halt ∙ of.no_halt (sym halted ∙ running)

-- a restart is told
pub stop_told : (was now : HistoryView) (entries effects : List Entry) (kept : Bool) → was.restart ≡ Some kept →
    IsOf was entries →
    now ≡ record was {
      moves = was.moves ++ Stop (stop_of (kept_at kept entries was.entries) (drop was.effects effects)) ∷ [];
      free = now.free;
      entries = was.entries + kept_count (Some kept);
      effects = length effects;
      restart = None;
    } → Tells was entries effects now
stop_told was now entries effects kept restart of is =
    let stop : List Move = Stop (stop_of (kept_at kept entries was.entries) (drop was.effects effects)) ∷ [] in
    let left : List Move = map Note (drop (was.entries + kept_count (Some kept)) entries) ++ halts was.halt in
    let none : now.restart ≡ None = ap (λ h. h.restart) is in
    record {
      grows = (stop, ap (λ h. h.moves) is);
      story =
          story_on now entries effects none
          ∙ ap (λ h. h.moves ++ (map Note (drop h.entries entries) ++ halts h.halt)) is
          ∙ append_assoc was.moves stop left
          ∙ sym (story_by was entries effects (Some kept) restart);
      same_effects =
          effects_on now effects None none
          ∙ ap (λ h. h.effects) is
          ∙ sym (effects_on was effects (Some kept) restart);
      is_of = of_on now entries none
          (subst (λ (n : ℕ). n ≤ length entries) (sym (ap (λ h. h.entries) is)) (of_by was entries (Some kept) restart of))
          (no_halt_by was now entries of (ap (λ h. h.is_halted) is) (ap (λ h. h.halt) is));
      halted = ap (λ h. h.is_halted) is;
    }

-- notes are told
pub notes_told : (was now : HistoryView) (entries effects : List Entry) → was.restart ≡ None → IsOf was entries →
    TellsNotes was entries now → Tells was entries effects now
notes_told was now entries effects restart of tells =
    let none : now.restart ≡ None = tells.same_restart ∙ restart in
    record {
      grows = tells.grows;
      story =
          story_on now entries effects none
          ∙ sym (append_assoc now.moves (map Note (drop now.entries entries)) (halts now.halt))
          ∙ ap (λ ms. ms ++ halts now.halt) tells.story
          ∙ ap (λ c. (was.moves ++ map Note (drop was.entries entries)) ++ halts c) tells.same_halt
          ∙ append_assoc was.moves (map Note (drop was.entries entries)) (halts was.halt)
          ∙ sym (story_on was entries effects restart);
      same_effects = same_told was now effects tells.same_restart tells.same_effects;
      is_of = of_on now entries none tells.within (no_halt_by was now entries of tells.halted tells.same_halt);
      halted = tells.halted;
    }

-- a halt is told
pub halt_told : (was now : HistoryView) (entries effects : List Entry) → was.restart ≡ None →
    was.entries ≡ length entries →
    now ≡ record was { moves = was.moves ++ halts was.halt; free = now.free; halt = None } →
    Tells was entries effects now
halt_told was now entries effects restart all is =
    let none : now.restart ≡ None = ap (λ h. h.restart) is ∙ restart in
    let all_now : now.entries ≡ length entries = ap (λ h. h.entries) is ∙ all in
    record {
      grows = (halts was.halt, ap (λ h. h.moves) is);
      story =
          story_all now entries effects none all_now (ap (λ h. h.halt) is)
          ∙ ap (λ h. h.moves) is
          ∙ sym (story_told was entries effects restart all);
      same_effects = same_told was now effects (ap (λ h. h.restart) is) (ap (λ h. h.effects) is);
      is_of = of_on now entries none (omega (arith, all_now)) (λ running. ap (λ h. h.halt) is);
      halted = ap (λ h. h.is_halted) is;
    }

-- what has happened where neither a restart nor a halt is to be told
pub bare : (was : HistoryView) (entries effects : List Entry) → was.restart ≡ None → was.halt ≡ None →
    story was entries effects ≡ was.moves ++ map Note (drop was.entries entries)
bare was entries effects restart halt =
    story_on was entries effects restart
    ∙ ap (λ c. was.moves ++ (map Note (drop was.entries entries) ++ halts c)) halt
    ∙ ap (λ ms. was.moves ++ ms) (append-nil (map Note (drop was.entries entries)))

-- where no restart is to be told, the effects that are told are those that moves tell
pub told_on : (h : HistoryView) (effects : List Entry) → h.restart ≡ None → effects_told h effects ≡ h.effects
told_on h effects none = effects_on h effects None none

-- .. however many are there, of a site that has not halted
pub told_running : (h : HistoryView) (entries effects others : List Entry) → IsOf h entries → h.is_halted ≡ false →
    effects_told h effects ≡ effects_told h others
told_running h entries effects others of running =
    told_on h effects (of.no_restart running) ∙ sym (told_on h others (of.no_restart running))

-- notes and a halt tell no effect
pub after_notes : (entries : List Entry) (halt : Option Cause) (there told : ℕ) →
    effects_after (map Note entries ++ halts halt) there told ≡ told
after_notes [] (Some cause) there told = refl
after_notes [] None there told = refl
after_notes (entry ∷ entries) halt there told = after_notes entries halt there told

-- a site that has not halted has notes to tell at most
pub bare_on : (was : HistoryView) (entries effects : List Entry) → IsOf was entries → was.is_halted ≡ false →
    story was entries effects ≡ was.moves ++ map Note (drop was.entries entries)
bare_on was entries effects of running =
    bare was entries effects (of.no_restart running) (of.no_halt running)

-- .. and more of them where there are more entries
pub story_more : (h : HistoryView) (entries more effects effects_now : List Entry) → IsOf h entries →
    h.is_halted ≡ false → story h (entries ++ more) effects_now ≡ story h entries effects ++ map Note more
story_more h entries more effects effects_now of running =
    bare h (entries ++ more) effects_now (of.no_restart running) (of.no_halt running)
    ∙ ap (λ es. h.moves ++ map Note es)
    (drop-append-le h.entries entries more (within_on h entries (of.no_restart running) of))
    ∙ ap (λ ms. h.moves ++ ms) (map-append Note (drop h.entries entries) more)
    ∙ sym (append_assoc h.moves (map Note (drop h.entries entries)) (map Note more))
    ∙ ap (λ ms. ms ++ map Note more) (sym (bare_on h entries effects of running))

pub of_more : (h : HistoryView) (entries more : List Entry) → IsOf h entries → IsOf h (entries ++ more)
of_more h entries more of = record {
  within = omega (arith, of.within, length-append entries more);
  no_restart = of.no_restart;
  no_halt = of.no_halt;
}

pub none_halted : (halt : Option Cause) → is_some halt ≡ false → halt ≡ None
none_halted (Some cause) running = absurd (false≢true (sym running))
none_halted None running = refl

-- a halt comes, or none
pub halt_comes : (was now : HistoryView) (entries effects : List Entry) (halt : Option Cause) → IsOf was entries →
    was.is_halted ≡ false → now ≡ record was { halt = halt; is_halted = is_some halt } →
    Follows was entries effects halt now
halt_comes was now entries effects halt of running is =
    let restart : was.restart ≡ None = of.no_restart running in
    let none : now.restart ≡ None = ap (λ h. h.restart) is ∙ restart in
    let notes : List Move = map Note (drop was.entries entries) in
    let halted : now.is_halted ≡ is_some halt = ap (λ h. h.is_halted) is in
    record {
      grows = ([], ap (λ h. h.moves) is ∙ sym (append-nil was.moves));
      story =
          story_on now entries effects none
          ∙ ap (λ h. h.moves ++ (map Note (drop h.entries entries) ++ halts h.halt)) is
          ∙ sym (append_assoc was.moves notes (halts halt))
          ∙ ap (λ ms. ms ++ halts halt) (sym (bare was entries effects restart (of.no_halt running)));
      same_effects = same_told was now effects (ap (λ h. h.restart) is) (ap (λ h. h.effects) is);
      is_of = of_on now entries none
          (subst (λ (n : ℕ). n ≤ length entries) (sym (ap (λ h. h.entries) is)) (within_on was entries restart of))
          (λ off. ap (λ h. h.halt) is ∙ none_halted halt (sym halted ∙ off));
      halted = halted;
    }

-- .. and what happened is told
pub then_told : (was mid now : HistoryView) (entries effects : List Entry) (halt : Option Cause) →
    Follows was entries effects halt mid → Tells mid entries effects now → Follows was entries effects halt now
then_told was mid now entries effects halt follows tells = record {
  grows = extends_more was.moves mid.moves now.moves tells.grows.0 follows.grows tells.grows.1;
  story = tells.story ∙ follows.story;
  same_effects = tells.same_effects ∙ follows.same_effects;
  is_of = tells.is_of;
  halted = tells.halted ∙ follows.halted;
}

-- all is told, and there are places for two moves
pub told_all : {T E : Type 0} (result : Result T E) (was now : HistoryView) (count : ℕ) → was.restart ≡ None →
    was.halt ≡ None → was.entries ≡ count → now ≡ record was { free = now.free } → OnOk result (2 ≤ now.free) →
    OnOk result (IsTold now × (now.entries ≡ count) × (2 ≤ now.free))
told_all (Ok value) was now count restart halt all is free = (
  record { no_restart = ap (λ h. h.restart) is ∙ restart; no_halt = ap (λ h. h.halt) is ∙ halt },
  ap (λ h. h.entries) is ∙ all,
  free,
)
told_all (Err fault) was now count restart halt all is free = tt

-- a restart is told, or there is no memory for it
pub stop_or_not : {T E : Type 0} (result : Result T E) (was now : HistoryView) (entries effects : List Entry)
    (kept : Bool) → was.restart ≡ Some kept → IsOf was entries →
    OnOk result (now ≡ record was {
      moves = was.moves ++ Stop (stop_of (kept_at kept entries was.entries) (drop was.effects effects)) ∷ [];
      free = now.free;
      entries = was.entries + kept_count (Some kept);
      effects = length effects;
      restart = None;
    }) → OnErr result (now ≡ record was { free = now.free }) →
    Tells was entries effects now × OnOk result (now.restart ≡ None)
stop_or_not (Ok value) was now entries effects kept restart of is not =
    (stop_told was now entries effects kept restart of is, ap (λ h. h.restart) is)
stop_or_not (Err fault) was now entries effects kept restart of is not =
    (tells_freely was now entries effects of not, tt)
