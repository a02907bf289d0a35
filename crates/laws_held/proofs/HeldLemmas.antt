-- All facts outlast a session, and hold at each moment of a permitted history that began on a fit pair.
use Rattle.std.proofs.Common.{◌≡◌, ◌∙◌, Bool, true, false, List, [], ◌∷◌, refl, sym, subst}
use Rattle.std.specs.Prelude.{fold}
use Rattle.bosh_base.specs.declared.moves.Move.{Move}
use Rattle.bosh_history.proofs.KnownLemmas.{known_by_entries}
use Rattle.bosh_history.specs.Fit.{IsFit, LeavesPair, empty, left}
use Rattle.bosh_history.specs.Known.{Known}
use Rattle.bosh_history.specs.Learn.{known_of}
use Rattle.bosh_history.specs.Moments.{Moment, Opening, beginning, durable, later, moment, nothing}
use Rattle.bosh_history.specs.Notes.{Outside}
use Rattle.bosh_history.specs.Permitted.{IsRun, IsRunFrom}
use Rattle.bosh_rows.specs.Tied.{is_named_lost}
use Rattle.laws_facts.proofs.StartLemmas.{nothing_holds}
use Rattle.laws_heard.specs.Heard.{has_spec_of_machine}
use Rattle.laws_held.proofs.PartLemmas.{whole_moves}
use Rattle.laws_held.proofs.RestLemmas.{all_rest}
use Rattle.laws_held.specs.Whole.{Whole}
use Rattle.laws_row_facts.specs.Words.{implies}
use Rattle.laws_runs.proofs.ReadLemmas.{rests_then, stands}
use Rattle.laws_runs.proofs.RestLemmas.{Outlasts, Rests, reopened}

-- ---- what a session leaves

itself : (b : Bool) → implies b b ≡ true
itself true = refl
itself false = refl

-- nothing is under way at the moment before
whole_rest : (m : Moment) → Rests m → Whole m → (new : Known) → Outlasts m.known new → Whole (reopened new m.effects)
whole_rest m rests h new same = record {
  holds = all_rest m rests h.holds new same;
  hearing = record {
    losses_real = λ t v. itself (is_named_lost m.effects v);
    specs_of_machines = λ i. (λ j. has_spec_of_machine (same.row i j)) ∙ h.hearing.specs_of_machines i;
  };
}

pub left_holds : (outside : Outside) (before next : Opening) (session : List Move)
    → LeavesPair outside before session next → Whole (moment before session) → Whole (beginning next)
left_holds outside before next session pair there =
    subst (λ effects. Whole (reopened (known_of next.entries) effects)) (sym pair.effects)
    (whole_rest (moment before session) (rests_then (beginning before) session pair.stopped) there
    (known_of next.entries)
    (stands (moment before session) there.holds.known (durable before session) (known_by_entries before session)
    next.entries pair.entries))

whole_starts : Whole (beginning nothing)
whole_starts = record {
  holds = nothing_holds;
  hearing = record { losses_real = λ t v. refl; specs_of_machines = λ i. refl };
}

-- ---- a history

held_along : (outside : Outside) (m : Moment) (moves : List Move) → IsRunFrom outside m moves → Whole m
    → Whole (fold later m moves)
held_along outside m [] run h = h
held_along outside m (move ∷ moves) run h =
    held_along outside (later m move) moves run.1
    (whole_moves outside m move run.0 h)

pub fit_holds : (outside : Outside) (o : Opening) → IsFit outside o → Whole (beginning o)
fit_holds outside o empty = whole_starts
fit_holds outside o (left before next session fit pair) =
    left_holds outside before next session pair
    (held_along outside (beginning before) session pair.is_run (fit_holds outside before fit))

pub run_holds : (outside : Outside) (o : Opening) (moves : List Move) → IsFit outside o → IsRun outside o moves
    → Whole (moment o moves)
run_holds outside o moves fit run = held_along outside (beginning o) moves run (fit_holds outside o fit)
