-- What has happened stays the same while it is told.
use Rattle.std.proofs.Common.{◌≡◌, ◌≤◌, ℕ, ◌+◌, Some, List, [], ◌∷◌, ◌++◌, refl, sym, ◌∙◌, ap, subst, append_assoc, append-nil, arith, length, map, drop, suc, add-one, drop-cons}
use Rattle.std.proofs.lemmas.Option.{get_or_from_slice_get, slice_get_within}
use Rattle.std.specs.Prelude.{slice_get}
use Rattle.bosh_base.specs.History.{Extends}
use Rattle.bosh_base.specs.declared.entry.Entry.{Entry}
use Rattle.bosh_base.specs.declared.moves.Move.TheVariants.{Note}
use Rattle.bosh_moves.specs.Story.{HistoryView, TellsNotes}

pub extends_self : {X : Type 0} (xs : List X) → Extends xs xs
extends_self xs = ([], sym (append-nil xs))

pub extends_more : {X : Type 0} (xs ys zs more : List X) → Extends xs ys → zs ≡ ys ++ more → Extends xs zs
extends_more xs ys zs more (before, is) grows =
    (before ++ more, grows ∙ ap (λ them. them ++ more) is ∙ append_assoc xs before more)

-- what stands at a place is the first of what is left from there on
drop_next : (entries : List Entry) (place : ℕ) (entry : Entry) → slice_get entries place ≡ Some entry →
    drop place entries ≡ entry ∷ drop (place + 1) entries
drop_next entries place entry there =
    drop-cons entries place entry (slice_get_within entries place entry there)
    ∙ ap (λ it. it ∷ drop (suc place) entries) (get_or_from_slice_get entries place entry entry there)
    ∙ ap (λ n. entry ∷ drop n entries) (sym (add-one place))

next_within : (entries : List Entry) (place : ℕ) (entry : Entry) → slice_get entries place ≡ Some entry →
    place + 1 ≤ length entries
next_within entries place entry there = omega (arith, slice_get_within entries place entry there)

-- nothing was told yet
pub none_told : (was : HistoryView) (entries : List Entry) → was.entries ≤ length entries → TellsNotes was entries was
none_told was entries within = record {
  grows = extends_self was.moves;
  story = refl;
  within = within;
  same_effects = refl;
  same_restart = refl;
  same_halt = refl;
  halted = refl;
}

-- the places that are free are no matter
pub told_freely : (was mid now : HistoryView) (entries : List Entry) → TellsNotes was entries mid →
    now ≡ record mid { free = now.free } → TellsNotes was entries now
told_freely was mid now entries tells is = record {
  grows = subst (Extends was.moves) (sym (ap (λ h. h.moves) is)) tells.grows;
  story = ap (λ h. h.moves ++ map Note (drop h.entries entries)) is ∙ tells.story;
  within = subst (λ (n : ℕ). n ≤ length entries) (sym (ap (λ h. h.entries) is)) tells.within;
  same_effects = ap (λ h. h.effects) is ∙ tells.same_effects;
  same_restart = ap (λ h. h.restart) is ∙ tells.same_restart;
  same_halt = ap (λ h. h.halt) is ∙ tells.same_halt;
  halted = ap (λ h. h.is_halted) is ∙ tells.halted;
}

-- one note more
pub one_told : (was mid told : HistoryView) (entries : List Entry) (place : ℕ) (entry : Entry) →
    TellsNotes was entries mid → mid.entries ≡ place → slice_get entries place ≡ Some entry →
    told ≡ record mid { moves = mid.moves ++ Note entry ∷ []; free = told.free } →
    TellsNotes was entries (record told { entries = place + 1 })
one_told was mid told entries place entry tells at there is =
    let moves : told.moves ≡ mid.moves ++ Note entry ∷ [] = ap (λ h. h.moves) is in
    let rest : drop place entries ≡ entry ∷ drop (place + 1) entries = drop_next entries place entry there in
    record {
      grows = extends_more was.moves mid.moves told.moves (Note entry ∷ []) tells.grows moves;
      story =
          ap (λ ms. ms ++ map Note (drop (place + 1) entries)) moves
          ∙ append_assoc mid.moves (Note entry ∷ []) (map Note (drop (place + 1) entries))
          ∙ ap (λ es. mid.moves ++ map Note es) (sym rest)
          ∙ ap (λ n. mid.moves ++ map Note (drop n entries)) (sym at)
          ∙ tells.story;
      within = next_within entries place entry there;
      same_effects = ap (λ h. h.effects) is ∙ tells.same_effects;
      same_restart = ap (λ h. h.restart) is ∙ tells.same_restart;
      same_halt = ap (λ h. h.halt) is ∙ tells.same_halt;
      halted = ap (λ h. h.is_halted) is ∙ tells.halted;
    }
