-- Each part of a move keeps what tasks have heard of machines, and what that rests on.
use Rattle.std.proofs.Common.{◌≡◌, ◌∙◌, ℕ, Bool, true, false, List, [], ◌∷◌, ◌++◌, refl, sym, inl, inr}
use Rattle.std.specs.Prelude.{◌⊎◌, ◌&&◌, ◌||◌, ◌==◌, not}
use Rattle.std.specs.List.{list_any}
use Rattle.std.proofs.lemmas.Bool.{and_parts, false≢true, or_cases, or_left, or_right}
use Rattle.std.proofs.lemmas.List.Folds.{list_any-append}
use Rattle.bosh_base.specs.declared.entry.Entry.{Entry}
use Rattle.bosh_base.specs.declared.entry.Entry.TheVariants as entries
use Rattle.bosh_base.specs.declared.entry.Loss.{Loss}
use Rattle.bosh_base.specs.declared.inst.Inst.{Inst}
use Rattle.bosh_history.specs.Items.{is_to_ping}
use Rattle.bosh_history.specs.Moments.{call_effects, losing, Moment, performing}
use Rattle.bosh_rows.specs.Tied.{is_loss_of, is_named_lost}
use Rattle.laws_facts.specs.Tasks.{has_to_hear, is_heard_of, is_row_heard_of}
use Rattle.laws_heard.proofs.AnswerLemmas.{hears_more, implied}
use Rattle.laws_heard.proofs.EntryLemmas.{heard_noted}
use Rattle.laws_heard.proofs.NoteLemmas.{implied_by}
use Rattle.laws_heard.proofs.RowLemmas.{HearsMore, same_heard}
use Rattle.laws_heard.proofs.SpecLemmas.{spec_noted}
use Rattle.laws_heard.specs.Heard.{AreHeardOf, HearingFacts, is_loss_real, IsKeptInHearing}
use Rattle.laws_moves.specs.Parts.{Forgotten, Lost, Noted, Performed, Written}
use Rattle.laws_outcomes_kept.proofs.StandLemmas.{none_works}
use Rattle.laws_row_facts.specs.Words.{implies}

-- ---- what hearing rests on

-- a loss that was named stays named
named_more : (xs ys : List Entry) (v : ℕ) → is_named_lost xs v ≡ true → is_named_lost (xs ++ ys) v ≡ true
named_more xs ys v is =
    list_any-append (is_loss_of v) xs ys ∙ or_left (list_any (is_loss_of v) xs) (list_any (is_loss_of v) ys) is

losses_later : (m : Moment) (f : HearingFacts m) (ys : List Entry) (t v : ℕ)
    → implies (m.early t v) (is_named_lost (m.effects ++ ys) v) ≡ true
losses_later m f ys t v =
    implied_by (m.early t v) (is_named_lost (m.effects ++ ys) v)
    (λ early. named_more m.effects ys v (implied (m.early t v) (is_named_lost m.effects v) (f.losses_real t v) early))

losses_lost : (m : Moment) (f : HearingFacts m) (loss : Loss) (t v : ℕ) → is_loss_real (losing m loss) t v ≡ true
losses_lost m f loss t v =
    implied_by (m.early t v || (loss.vm == v && not (m.heard t v)))
    (is_named_lost (m.effects ++ entries.Lost loss ∷ []) v)
    (λ early. by (or_cases (m.early t v) (loss.vm == v && not (m.heard t v)) early))
  where
    by : (m.early t v ≡ true) ⊎ ((loss.vm == v && not (m.heard t v)) ≡ true)
        → is_named_lost (m.effects ++ entries.Lost loss ∷ []) v ≡ true
    by (inl was) =
        named_more m.effects (entries.Lost loss ∷ []) v
        (implied (m.early t v) (is_named_lost m.effects v) (f.losses_real t v) was)
    by (inr now) =
        list_any-append (is_loss_of v) m.effects (entries.Lost loss ∷ [])
        ∙ or_right (list_any (is_loss_of v) m.effects) _
        (or_left (loss.vm == v) false (and_parts (loss.vm == v) (not (m.heard t v)) now).0)

pub hearing_kept : IsKeptInHearing HearingFacts
hearing_kept outside m (Performed d) may h f = record {
  losses_real = losses_later m f (call_effects m d.effect (m.calls d.n));
  specs_of_machines = f.specs_of_machines;
}
hearing_kept outside m (Written w) may h f = record {
  losses_real = losses_later m f (entries.Write w ∷ []);
  specs_of_machines = f.specs_of_machines;
}
hearing_kept outside m (Lost loss) may h f = record {
  losses_real = losses_lost m f loss;
  specs_of_machines = f.specs_of_machines;
}
hearing_kept outside m (Noted e) may h f = record {
  losses_real = f.losses_real;
  specs_of_machines = λ i. spec_noted outside m h f.specs_of_machines i e may.1;
}
hearing_kept outside m Forgotten may h f = record {
  losses_real = f.losses_real;
  specs_of_machines = f.specs_of_machines;
}

-- ---- what tasks have heard

-- a loss is early only for a task that has not heard of the machine
pub lost_more : (m : Moment) (loss : Loss) (t : ℕ) → HearsMore m (losing m loss) t
lost_more m loss t v was =
    (was, (λ j. m.early t v || (loss.vm == v && not (was j))) ∙ none (m.early t v) (loss.vm == v))
  where
    none : (a b : Bool) → (a || (b && false)) ≡ a
    none true b = refl
    none false true = refl
    none false false = refl

-- where the moment hears more
heard_more : (m later : Moment) → later.known ≡ m.known → ((t : ℕ) → HearsMore m later t) → (t : ℕ) (i : Inst)
    → is_heard_of m t i ≡ true → is_heard_of later t i ≡ true
heard_more m later same more t i heard =
    (λ j. implies (has_to_hear ((same j).task t) i)
    (is_to_ping ((same j).task t) i || is_row_heard_of later t ((same j).row i)))
    ∙ implied_by (has_to_hear (m.known.task t) i)
    (is_to_ping (m.known.task t) i || is_row_heard_of later t (m.known.row i))
    (λ hears. by (or_cases (is_to_ping (m.known.task t) i) (is_row_heard_of m t (m.known.row i))
    (implied (has_to_hear (m.known.task t) i)
    (is_to_ping (m.known.task t) i || is_row_heard_of m t (m.known.row i)) heard hears)))
  where
    by : (is_to_ping (m.known.task t) i ≡ true) ⊎ (is_row_heard_of m t (m.known.row i) ≡ true)
        → (is_to_ping (m.known.task t) i || is_row_heard_of later t (m.known.row i)) ≡ true
    by (inl asked) = or_left (is_to_ping (m.known.task t) i) _ asked
    by (inr was) =
        or_right (is_to_ping (m.known.task t) i) _
        (same_heard m later t (m.known.row i) (m.known.row i) (more t) refl refl refl was)

pub heard_kept : IsKeptInHearing AreHeardOf
heard_kept outside m (Performed d) may h f =
    λ t i working. heard_more m (performing m d) refl (hears_more m d) t i ((h.outcomes t working).is_heard_of i)
heard_kept outside m (Written w) may h f = λ t i working. (h.outcomes t working).is_heard_of i
heard_kept outside m (Lost loss) may h f =
    λ t i working. heard_more m (losing m loss) refl (lost_more m loss) t i ((h.outcomes t working).is_heard_of i)
heard_kept outside m (Noted e) may h f = heard_noted outside m e may.0 may.1 h
heard_kept outside m Forgotten may h f = λ t i working. absurd (false≢true (sym (none_works m t) ∙ working))
