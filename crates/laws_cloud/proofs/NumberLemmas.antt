-- Each part of a move keeps the facts on the numbers of effects.
use Rattle.std.proofs.Common.{◌≡◌, ◌∙◌, ℕ, Bool, true, false, ◌&&◌, Option, Some, None, List, [], ◌∷◌, ◌++◌}
use Rattle.std.proofs.Common.{refl}
use Rattle.std.specs.List.{list_all}
use Rattle.std.proofs.lemmas.Bool.{and_from, and_parts}
use Rattle.bosh_base.specs.declared.call.Call.{Call}
use Rattle.bosh_base.specs.declared.entry.Entry.{Entry}
use Rattle.bosh_base.specs.declared.entry.Entry.TheVariants as entries
use Rattle.bosh_base.specs.declared.entry.Loss.{Loss}
use Rattle.bosh_base.specs.declared.entry.Write.{Write}
use Rattle.bosh_base.specs.declared.moves.Did.{Did}
use Rattle.bosh_base.specs.declared.owner.Owner.{Owner}
use Rattle.bosh_base.specs.declared.row.Doubt.{Doubt}
use Rattle.bosh_history.specs.Moments.{Moment, OpenCall, dep_of, losing, performing}
use Rattle.bosh_history.specs.Notes.{Outside}
use Rattle.bosh_history.specs.Permitted.{PerformsOpen}
use Rattle.bosh_rows.specs.Standing.{same_truth}
use Rattle.laws_cloud.proofs.DoneLemmas.{all_more, taken_more}
use Rattle.laws_cloud.proofs.NoteLemmas.{doubt_parts, noted}
use Rattle.laws_cloud.proofs.OwnerFrames.{where_each, where_some}
use Rattle.laws_cloud.proofs.TellLemmas.{own_all, told_all}
use Rattle.laws_effects.specs.Orderly.{is_of_call, is_taken}
use Rattle.laws_facts.specs.Facts.{Holds}
use Rattle.laws_facts.specs.Numbers.{EffectFacts, has_effect, is_done_as_told}
use Rattle.laws_facts.specs.Numbers.{is_open_for}
use Rattle.laws_facts.specs.Owners.{doubt_of}
use Rattle.laws_moves.specs.Parts.{Forgotten, IsKeptByParts, Lost, Noted, Performed, Written}
use Rattle.laws_row_facts.specs.Numbers.{is_effect_of}
use Rattle.laws_row_facts.specs.Words.{where_any}

-- ---- a call is performed

performed : (outside : Outside) (m : Moment) (d : Did) → PerformsOpen outside m.effects d (m.calls d.n) → Holds m
    → EffectFacts (performing m d)
performed outside m d may h = by (m.calls d.n) refl may
  where
    by : (call : Option OpenCall) → m.calls d.n ≡ call → PerformsOpen outside m.effects d call
        → EffectFacts (performing m d)
    by (Some call) is performs = record {
      done_as_told = told_all outside m h d call is performs.not_yet;
      doubts_own = own_all outside m h d call is performs.not_yet;
    }
    by None is performs = absurd performs

-- ---- something else is done

module _ (m : Moment) (h : Holds m) (e : Entry) (no_call : (n : ℕ) → is_of_call n e ≡ false)
    (no_effect : (n : ℕ) (owner : Owner) (dep : List ℕ) (call : Call) → is_effect_of n owner dep call e ≡ true) where
  told_more : (n : ℕ) (call : OpenCall) → m.calls n ≡ Some call
      → (list_all
      (is_effect_of call.begin.n call.begin.owner (dep_of m.known call.begin.owner) call.begin.call)
      (m.effects ++ e ∷ [])
      && same_truth (is_taken (m.effects ++ e ∷ []) call.begin.n) (has_effect call.did)) ≡ true
  told_more n call is =
      let parts : (list_all test m.effects ≡ true)
      × (same_truth (is_taken m.effects call.begin.n) (has_effect call.did) ≡ true) =
      and_parts (list_all test m.effects) _
      (where_some (is_done_as_told m) (m.calls n) call (h.effects.done_as_told n) is) in
      and_from (list_all test (m.effects ++ e ∷ [])) _
      (all_more test m.effects e parts.0
      (no_effect call.begin.n call.begin.owner (dep_of m.known call.begin.owner) call.begin.call))
      ((λ j. same_truth (taken_more m.effects e call.begin.n (no_call call.begin.n) j) (has_effect call.did)) ∙ parts.1)
    where
      test : Entry → Bool
      test = is_effect_of call.begin.n call.begin.owner (dep_of m.known call.begin.owner) call.begin.call

  doubts_more : (owner : Owner) (dt : Doubt) → doubt_of m.known owner ≡ Some dt
      → (list_all (is_effect_of dt.n owner (dep_of m.known owner) dt.call) (m.effects ++ e ∷ [])
      && where_any (is_open_for owner dt.call) (m.calls dt.n)) ≡ true
  doubts_more owner dt is =
      let parts : (list_all test m.effects ≡ true) × (where_any (is_open_for owner dt.call) (m.calls dt.n) ≡ true) =
      and_parts (list_all test m.effects) _
      (where_some
      (λ it. list_all (is_effect_of it.n owner (dep_of m.known owner) it.call) m.effects
      && where_any (is_open_for owner it.call) (m.calls it.n))
      (doubt_of m.known owner) dt (h.effects.doubts_own owner) is) in
      and_from (list_all test (m.effects ++ e ∷ [])) _
      (all_more test m.effects e parts.0 (no_effect dt.n owner (dep_of m.known owner) dt.call)) parts.1
    where
      test : Entry → Bool
      test = is_effect_of dt.n owner (dep_of m.known owner) dt.call

written : (m : Moment) (w : Write) → Holds m → EffectFacts (record m { effects = m.effects ++ entries.Write w ∷ [] })
written m w h = record {
  done_as_told =
      λ n. where_each (is_done_as_told (record m { effects = m.effects ++ entries.Write w ∷ [] })) (m.calls n)
      (told_more m h (entries.Write w) (λ n. refl) (λ n owner dep call. refl) n);
  doubts_own =
      λ owner. where_each
      (λ it. list_all (is_effect_of it.n owner (dep_of m.known owner) it.call) (m.effects ++ entries.Write w ∷ [])
      && where_any (is_open_for owner it.call) (m.calls it.n))
      (doubt_of m.known owner)
      (doubts_more m h (entries.Write w) (λ n. refl) (λ n owner dep call. refl) owner);
}

lost : (m : Moment) (loss : Loss) → Holds m → EffectFacts (losing m loss)
lost m loss h = record {
  done_as_told =
      λ n. where_each (is_done_as_told (losing m loss)) (m.calls n)
      (told_more m h (entries.Lost loss) (λ n. refl) (λ n owner dep call. refl) n);
  doubts_own =
      λ owner. where_each
      (λ it. list_all (is_effect_of it.n owner (dep_of m.known owner) it.call) (m.effects ++ entries.Lost loss ∷ [])
      && where_any (is_open_for owner it.call) (m.calls it.n))
      (doubt_of m.known owner)
      (doubts_more m h (entries.Lost loss) (λ n. refl) (λ n owner dep call. refl) owner);
}

-- ---- all

pub numbers_kept : IsKeptByParts EffectFacts
numbers_kept outside m (Performed d) may h = performed outside m d may h
numbers_kept outside m (Written w) may h = written m w h
numbers_kept outside m (Lost loss) may h = lost m loss h
numbers_kept outside m (Noted e) may h = noted outside m h e may.1
numbers_kept outside m Forgotten may h = record {
  done_as_told = λ n. refl;
  doubts_own =
      λ owner. where_each
      (λ it. list_all (is_effect_of it.n owner (dep_of m.known owner) it.call) m.effects && true)
      (doubt_of m.known owner)
      (λ dt is.
      and_from (list_all (is_effect_of dt.n owner (dep_of m.known owner) dt.call) m.effects) true
      (doubt_parts outside m h owner dt is).0 refl);
}
