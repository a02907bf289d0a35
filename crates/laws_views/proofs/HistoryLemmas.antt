-- What is known at each moment of a permitted history can be viewed.
use Rattle.std.proofs.Common.{◌≡◌, ◌≢◌, ◌∙◌, ℕ, ◌≤◌, Bool, true, false, not, List, [], ◌∷◌, Option, Some, None}
use Rattle.std.proofs.Common.{ap, arith, length, refl, subst, sym}
use Rattle.std.specs.Prelude.{fold, nat_le}
use Rattle.std.specs.Str.{bytes_eq}
use Rattle.std.proofs.lemmas.Bool.{and_parts, false≢true, leb-true}
use Rattle.bosh_base.specs.declared.entry.Entry.{Entry}
use Rattle.bosh_base.specs.declared.entry.Entry.TheVariants as entries
use Rattle.bosh_base.specs.declared.entry.TaskOpen.{TaskOpen}
use Rattle.bosh_base.specs.declared.goal.Goal.{Goal}
use Rattle.bosh_base.specs.declared.moves.Move.{Move}
use Rattle.bosh_history.proofs.KnownLemmas.{known_by_entries}
use Rattle.bosh_history.specs.Fit.{IsFit, LeavesPair, empty, left}
use Rattle.bosh_history.specs.Items.{slots_of}
use Rattle.bosh_history.specs.Known.{Known}
use Rattle.bosh_history.specs.Learn.{known_of, learn}
use Rattle.bosh_history.specs.Moments.{Moment, Opening, beginning, durable, later, moment}
use Rattle.bosh_history.specs.Notes.{MayNote, Outside}
use Rattle.bosh_history.specs.Permitted.{IsRun, IsRunFrom}
use Rattle.laws_facts.proofs.GoalLemmas.{OpensOf, bounds_of, of_dep, of_none, opens_of}
use Rattle.laws_facts.proofs.MoveLemmas.{by_note}
use Rattle.laws_runs.proofs.ReadLemmas.{run_facts, stands}
use Rattle.laws_runs.proofs.RestLemmas.{Outlasts}
use Rattle.laws_views.proofs.ViewedLemmas.{KeepsViewed, nothing_viewed, viewed_on}
use Rattle.laws_views.specs.Viewed.{CanBeViewed}

-- a task that may open has a name and slots that have numbers
opening_keeps : (m : Moment) (o : TaskOpen) (outside : Outside) → MayNote outside m (entries.TaskOpen o)
    → KeepsViewed (entries.TaskOpen o)
opening_keeps m o outside may = by (opens_of m.known o may.0)
  where
    by : OpensOf o → KeepsViewed (entries.TaskOpen o)
    by (of_dep dep goal dep_is goal_is same) = (
      λ nameless. absurd (false≢true (sym (ap not (named (let both : Some dep ≡ Some [] = sym dep_is ∙ nameless in cc)))
          ∙ bounds.0)),
      subst (λ goal. length (slots_of goal) ≤ 4294967296) (sym goal_is) (leb-true (length goal.slots) 4294967296 bounds.1),
    )
      where
        bounds : (not (bytes_eq goal.dep []) ≡ true) × (nat_le (length goal.slots) 4294967296 ≡ true)
        bounds = and_parts (not (bytes_eq goal.dep [])) _ (bounds_of m.known o goal goal_is may.1)

        named : dep ≡ [] → bytes_eq goal.dep [] ≡ true
        named nameless = ap (λ dep. bytes_eq dep []) (same ∙ nameless)
    by (of_none dep_is goal_is) = (
      λ nameless. absurd (let both : None ≡ Some [] = sym dep_is ∙ nameless in cc),
      subst (λ goal. length (slots_of goal) ≤ 4294967296) (sym goal_is) (let low : 0 ≤ 4294967296 = omega arith in low),
    )

note_keeps : (outside : Outside) (m : Moment) (e : Entry) → MayNote outside m e → KeepsViewed e
note_keeps outside m (entries.TaskOpen o) may = opening_keeps m o outside may
note_keeps outside m (entries.Snapshot s) may = absurd may
note_keeps outside m entry may = tt

viewed_later : (outside : Outside) (m : Moment) (moves : List Move) → IsRunFrom outside m moves → CanBeViewed m.known
    → CanBeViewed (fold later m moves).known
viewed_later outside m [] run viewed = viewed
viewed_later outside m (move ∷ moves) run viewed =
    viewed_later outside (later m move) moves run.1
    (by_note outside CanBeViewed m (λ e may. viewed_on m e (note_keeps outside m e may) viewed) viewed move run.0)

-- the same goals are known where the next session begins
goals_outlast : (old new : Known) → ((dep : List ℕ) → new.goal dep ≡ old.goal dep) → CanBeViewed old → CanBeViewed new
goals_outlast old new same viewed = record {
  named = same [] ∙ viewed.named;
  numbered = λ dep. subst (λ goal. length (slots_of goal) ≤ 4294967296) (sym (same dep)) (viewed.numbered dep);
}

fit_viewed : (outside : Outside) (o : Opening) → IsFit outside o → CanBeViewed (beginning o).known
fit_viewed outside o empty = nothing_viewed
fit_viewed outside o (left before next session fit pair) =
    goals_outlast (moment before session).known (known_of next.entries) outlasts.goal
    (viewed_later outside (beginning before) session pair.is_run (fit_viewed outside before fit))
  where
    outlasts : Outlasts (moment before session).known (known_of next.entries)
    outlasts =
        stands (moment before session) (run_facts outside before session fit pair.is_run) (durable before session)
        (known_by_entries before session) next.entries pair.entries

pub run_viewed : (outside : Outside) (o : Opening) (moves : List Move) → IsFit outside o → IsRun outside o moves
    → CanBeViewed (moment o moves).known
run_viewed outside o moves fit run = viewed_later outside (beginning o) moves run (fit_viewed outside o fit)
