-- What a restart leaves.
use Rattle.std.proofs.Common.{◌≡◌, ◌≤◌, ◌<◌, ℕ, ◌+◌, Bool, true, false, Option, Some, None, List, [], ◌∷◌, ◌++◌, refl, sym, ◌∙◌, ap, subst, append-nil, append_assoc, arith, length, map, drop, min}
use Rattle.std.specs.Prelude.{is_some, slice_get, unwrap_or}
use Rattle.bosh_base.specs.History.{Extends, chosen}
use Rattle.bosh_base.specs.declared.entry.Entry.{Entry}
use Rattle.bosh_base.specs.declared.moves.Cause.{Cause}
use Rattle.bosh_base.specs.declared.moves.Move.{Move}
use Rattle.bosh_base.specs.declared.moves.Move.TheVariants.{Note, Stop}
use Rattle.bosh_moves.proofs.TellLemmas.{effects_on, none_halted, of_on, of_owed, story_by, story_on}
use Rattle.bosh_moves.specs.Found.{kept_at, stop_of}
use Rattle.bosh_moves.specs.Story.{HistoryView, IsOf, IsTold, effects_told, halts, kept_count, story}

same_history : (a b : HistoryView) → a.moves ≡ b.moves → a.free ≡ b.free → a.entries ≡ b.entries →
    a.effects ≡ b.effects → a.restart ≡ b.restart → a.halt ≡ b.halt → a.is_halted ≡ b.is_halted → a ≡ b
same_history a b moves free entries effects restart halt halted =
    ap (λ it. record a { moves = it }) moves
    ∙ ap (λ it. record a { moves = b.moves; free = it }) free
    ∙ ap (λ it. record a { moves = b.moves; free = b.free; entries = it }) entries
    ∙ ap (λ it. record a { moves = b.moves; free = b.free; entries = b.entries; effects = it }) effects
    ∙ ap (λ it. record b { restart = it; halt = a.halt; is_halted = a.is_halted }) restart
    ∙ ap (λ it. record b { halt = it; is_halted = a.is_halted }) halt
    ∙ ap (λ it. record b { is_halted = it }) halted

within_least : (entries : List Entry) (place : ℕ) → place < length entries → min place (length entries) ≡ place
within_least entries place within = omega (arith, within)

kept_at_least : (kept : Bool) (entries : List Entry) (place : ℕ) → (kept ≡ true → place < length entries) →
    kept_at kept entries (min place (length entries)) ≡ kept_at kept entries place
kept_at_least true entries place there = ap (slice_get entries) (within_least entries place (there refl))
kept_at_least false entries place there = refl

-- an entry that was kept is there
pub least_within : (kept : Bool) (entries : List Entry) (place : ℕ) → (kept ≡ true → place < length entries) →
    min place (length entries) + kept_count (Some kept) ≤ length entries
least_within true entries place there = omega (arith, there refl)
least_within false entries place there = omega arith

-- the restart was told, and the site goes on or halts again
pub restarted : (was owed told now : HistoryView) (entries effects : List Entry) (kept : Bool) (halt : Option Cause) →
    IsTold was → (kept ≡ true → was.entries < length entries) →
    owed ≡ record was { entries = min was.entries (length entries); restart = Some kept } →
    told ≡ record owed {
      moves = owed.moves ++ Stop (stop_of (kept_at kept entries owed.entries) (drop owed.effects effects)) ∷ [];
      free = told.free;
      entries = owed.entries + kept_count (Some kept);
      effects = length effects;
      restart = None;
    } →
    now ≡ record told { halt = halt; is_halted = is_some halt } →
    now ≡ record was {
      moves = was.moves ++ Stop (stop_of (kept_at kept entries was.entries) (drop was.effects effects)) ∷ [];
      free = now.free;
      entries = min was.entries (length entries) + kept_count (Some kept);
      effects = length effects;
      halt = halt;
      is_halted = is_some halt;
    }
restarted was owed told now entries effects kept halt bare there owes tells stands =
    same_history now (record was {
      moves = was.moves ++ Stop (stop_of (kept_at kept entries was.entries) (drop was.effects effects)) ∷ [];
      free = now.free;
      entries = min was.entries (length entries) + kept_count (Some kept);
      effects = length effects;
      halt = halt;
      is_halted = is_some halt;
    })
    (ap (λ h. h.moves) stands ∙ ap (λ h. h.moves) tells
    ∙ ap (λ h. h.moves ++ Stop (stop_of (kept_at kept entries h.entries) (drop h.effects effects)) ∷ []) owes
    ∙ ap (λ it. was.moves ++ Stop (stop_of it (drop was.effects effects)) ∷ [])
    (kept_at_least kept entries was.entries there))
    refl
    (ap (λ h. h.entries) stands ∙ ap (λ h. h.entries) tells ∙ ap (λ h. h.entries + kept_count (Some kept)) owes)
    (ap (λ h. h.effects) stands ∙ ap (λ h. h.effects) tells)
    (ap (λ h. h.restart) stands ∙ ap (λ h. h.restart) tells ∙ sym bare.no_restart)
    (ap (λ h. h.halt) stands)
    (ap (λ h. h.is_halted) stands)

-- there was no memory to tell the restart, and the site halts again
pub not_restarted : (was owed told now : HistoryView) (entries : List Entry) (kept : Bool) (given cause : Cause) →
    was.is_halted ≡ true → given ≡ cause →
    owed ≡ record was { entries = min was.entries (length entries); restart = Some kept } →
    told ≡ record owed { free = told.free } →
    now ≡ record told { halt = Some given; is_halted = true } →
    now ≡ record was {
      free = now.free;
      entries = min was.entries (length entries);
      restart = Some kept;
      halt = Some cause;
    }
not_restarted was owed told now entries kept given cause halted same owes tells stands =
    same_history now (record was {
      free = now.free;
      entries = min was.entries (length entries);
      restart = Some kept;
      halt = Some cause;
    })
    (ap (λ h. h.moves) stands ∙ ap (λ h. h.moves) tells ∙ ap (λ h. h.moves) owes)
    refl
    (ap (λ h. h.entries) stands ∙ ap (λ h. h.entries) tells ∙ ap (λ h. h.entries) owes)
    (ap (λ h. h.effects) stands ∙ ap (λ h. h.effects) tells ∙ ap (λ h. h.effects) owes)
    (ap (λ h. h.restart) stands ∙ ap (λ h. h.restart) tells ∙ ap (λ h. h.restart) owes)
    (ap (λ h. h.halt) stands ∙ ap Some same)
    (ap (λ h. h.is_halted) stands ∙ sym halted)

pub chosen_by : {A : Type 0} (given : Option A) (other : A) → unwrap_or given other ≡ chosen given other
chosen_by (Some value) other = refl
chosen_by None other = refl

-- The site was started anew: its moves go on with what the restart found, the entries after that, and a halt.
pub record IsRestarted (was : HistoryView) (entries effects : List Entry) (kept : Bool) (halt : Option Cause)
    (now : HistoryView) : Type 0 where
  pub grows : Extends was.moves now.moves
  pub story : story now entries effects ≡
      was.moves ++ (Stop (stop_of (kept_at kept entries was.entries) (drop was.effects effects))
      ∷ map Note (drop (min was.entries (length entries) + kept_count (Some kept)) entries) ++ halts halt)
  pub same_effects : effects_told now effects ≡ length effects
  pub is_of : IsOf now entries
  pub halted : now.is_halted ≡ is_some halt

pub told_anew : (was now : HistoryView) (entries effects : List Entry) (kept : Bool) (halt : Option Cause) →
    IsTold was → (kept ≡ true → was.entries < length entries) →
    now ≡ record was {
      moves = was.moves ++ Stop (stop_of (kept_at kept entries was.entries) (drop was.effects effects)) ∷ [];
      free = now.free;
      entries = min was.entries (length entries) + kept_count (Some kept);
      effects = length effects;
      halt = halt;
      is_halted = is_some halt;
    } → IsRestarted was entries effects kept halt now
told_anew was now entries effects kept halt bare there is =
    let stop : List Move = Stop (stop_of (kept_at kept entries was.entries) (drop was.effects effects)) ∷ [] in
    let none : now.restart ≡ None = ap (λ h. h.restart) is ∙ bare.no_restart in
    let halted : now.is_halted ≡ is_some halt = ap (λ h. h.is_halted) is in
    record {
      grows = (stop, ap (λ h. h.moves) is);
      story =
          story_on now entries effects none
          ∙ ap (λ h. h.moves ++ (map Note (drop h.entries entries) ++ halts h.halt)) is
          ∙ append_assoc was.moves stop
          (map Note (drop (min was.entries (length entries) + kept_count (Some kept)) entries) ++ halts halt);
      same_effects = effects_on now effects None none ∙ ap (λ h. h.effects) is;
      is_of = of_on now entries none
          (subst (λ (n : ℕ). n ≤ length entries) (sym (ap (λ h. h.entries) is))
          (least_within kept entries was.entries there))
          (λ running. ap (λ h. h.halt) is ∙ none_halted halt (sym halted ∙ running));
      halted = halted;
    }

pub owed_anew : (was now : HistoryView) (entries effects : List Entry) (kept : Bool) (cause : Cause) →
    was.is_halted ≡ true → (kept ≡ true → was.entries < length entries) →
    now ≡ record was {
      free = now.free;
      entries = min was.entries (length entries);
      restart = Some kept;
      halt = Some cause;
    } → IsRestarted was entries effects kept (Some cause) now
owed_anew was now entries effects kept cause halted there is =
    let restart : now.restart ≡ Some kept = ap (λ h. h.restart) is in
    record {
      grows = ([], ap (λ h. h.moves) is ∙ sym (append-nil was.moves));
      story =
          story_by now entries effects (Some kept) restart
          ∙ ap (λ h. h.moves ++ (Stop (stop_of (kept_at kept entries h.entries) (drop h.effects effects))
          ∷ (map Note (drop (h.entries + kept_count (Some kept)) entries) ++ halts h.halt))) is
          ∙ ap (λ it. was.moves ++ (Stop (stop_of it (drop was.effects effects))
          ∷ (map Note (drop (min was.entries (length entries) + kept_count (Some kept)) entries) ++ halts (Some cause))))
          (kept_at_least kept entries was.entries there);
      same_effects = effects_on now effects (Some kept) restart;
      is_of = of_owed now entries kept restart
          (subst (λ (n : ℕ). n + kept_count (Some kept) ≤ length entries) (sym (ap (λ h. h.entries) is))
          (least_within kept entries was.entries there))
          (ap (λ h. h.is_halted) is ∙ halted);
      halted = ap (λ h. h.is_halted) is ∙ halted;
    }
