-- A fit pair has the facts on what is known, and so has each moment of a permitted history that began on one.
use Rattle.std.proofs.Common.{◌≡◌, ◌∙◌, true, List, [], ◌∷◌, ap, refl, sym, subst, inl, inr}
use Rattle.std.specs.Prelude.{fold}
use Rattle.std.proofs.lemmas.Bool.{false≢true}
use Rattle.bosh_base.specs.declared.entry.Entry.{Entry}
use Rattle.bosh_base.specs.declared.entry.Entry.TheVariants as entries
use Rattle.bosh_base.specs.declared.moves.Move.{Move}
use Rattle.bosh_base.specs.declared.moves.Move.TheVariants as moves
use Rattle.bosh_history.proofs.KnownLemmas.{known_by_entries}
use Rattle.bosh_history.specs.Fit.{AreShortened, IsFit, LeavesPair, StandFor, empty, ends_stopped, left}
use Rattle.bosh_history.specs.Known.{Known}
use Rattle.bosh_history.specs.Learn.{known_of}
use Rattle.bosh_history.specs.Moments.{Moment, Opening, beginning, durable, later, moment}
use Rattle.bosh_history.specs.Notes.{Outside}
use Rattle.bosh_history.specs.Permitted.{IsRun}
use Rattle.bosh_history.specs.Snapshots.{known_by, snapshot_of}
use Rattle.laws_facts.proofs.StartLemmas.{nothing_known_holds}
use Rattle.laws_facts.specs.KnownFacts.{KnownFacts}
use Rattle.laws_runs.proofs.KeptLemmas.{facts_along}
use Rattle.laws_runs.proofs.PlainLemmas.{plain_known, stored_told}
use Rattle.laws_runs.proofs.RestLemmas.{Outlasts, Rests, facts_rest, keyless, reopened}
use Rattle.laws_facts.specs.Tasks.{is_within_limits}
use Rattle.bosh_history.specs.Slots.{is_compiled}
use Rattle.std.specs.Option.{option_map}
use Rattle.laws_runs.proofs.SnapshotLemmas.{snapshot_outlasts}

-- ---- a session that ends with a stop leaves nothing under way

more_stopped : (x y : Move) (more : List Move) → ends_stopped (x ∷ y ∷ more) ≡ ends_stopped (y ∷ more)
more_stopped (moves.Note e) y more = refl
more_stopped (moves.Did d) y more = refl
more_stopped (moves.Wrote w) y more = refl
more_stopped (moves.Halt cause) y more = refl
more_stopped (moves.Stop s) y more = refl
more_stopped (moves.Lost loss) y more = refl
more_stopped (moves.Said said) y more = refl

last_rests : (m : Moment) (x : Move) → ends_stopped (x ∷ []) ≡ true → Rests (later m x)
last_rests m (moves.Stop s) stopped = record { no_call = λ n. refl; stopped = refl }
last_rests m x stopped = absurd (false≢true stopped)

pub rests_then : (m : Moment) (session : List Move) → ends_stopped session ≡ true → Rests (fold later m session)
rests_then m [] stopped = absurd (false≢true stopped)
rests_then m (x ∷ []) stopped = last_rests m x stopped
rests_then m (x ∷ y ∷ more) stopped = rests_then (later m x) (y ∷ more) (sym (more_stopped x y more) ∙ stopped)

-- ---- what a store tells outlasts the session

itself : (k : Known) → Outlasts k k
itself k = record {
  instances = refl;
  row = λ i. refl;
  machines = refl;
  slot = λ t s. refl;
  orphans = refl;
  orphan = λ d. refl;
  deployments = refl;
  goal = λ dep. refl;
  shared = λ dep some. refl;
  built = refl;
  compiled = λ key. refl;
  tasks = refl;
  dep = λ t first within. refl;
  end = λ t first within. refl;
  within_limits = λ t i was. was;
  last_call = refl;
}

-- .. also where only the sources of tasks and the counts of their calls differ
outlasts_as : (k old new : Known) → plain_known new ≡ plain_known old → Outlasts k old → Outlasts k new
outlasts_as k old new alike same = record {
  instances = ap (λ (it : Known). it.instances) alike ∙ same.instances;
  row = λ i. ap (λ (it : Known). it.row i) alike ∙ same.row i;
  machines = ap (λ (it : Known). it.machines) alike ∙ same.machines;
  slot = λ t s. ap (λ (it : Known). option_map keyless (it.slot t s)) alike ∙ same.slot t s;
  orphans = ap (λ (it : Known). it.orphans) alike ∙ same.orphans;
  orphan = λ d. ap (λ (it : Known). it.orphan d) alike ∙ same.orphan d;
  deployments = ap (λ (it : Known). it.deployments) alike ∙ same.deployments;
  goal = λ dep. ap (λ (it : Known). it.goal dep) alike ∙ same.goal dep;
  shared = λ dep some. ap (λ (it : Known). it.shared dep) alike ∙ same.shared dep some;
  built = ap (λ (it : Known). it.built) alike ∙ same.built;
  compiled = λ key. ap (λ (it : Known). is_compiled it key) alike ∙ same.compiled key;
  tasks = ap (λ (it : Known). it.tasks) alike ∙ same.tasks;
  dep = λ t first within. ap (λ (it : Known). (it.task t).dep) alike ∙ same.dep t first within;
  end = λ t first within. ap (λ (it : Known). (it.task t).end) alike ∙ same.end t first within;
  within_limits = λ t i was. ap (λ (it : Known). is_within_limits it t i) alike ∙ same.within_limits t i was;
  last_call = ap (λ (it : Known). it.last_call) alike ∙ same.last_call;
}

module _ (m : Moment) (h : KnownFacts m) (written : List Entry) (known : m.known ≡ known_of written) where
  shortened : (stored : List Entry) → AreShortened stored written → Outlasts m.known (known_of stored)
  shortened [] short = absurd short
  shortened (entry ∷ []) short =
      outlasts_as m.known (known_by (snapshot_of m.known)) (known_of (entry ∷ []))
      (stored_told (entry ∷ []) (entries.Snapshot (snapshot_of (known_of written)) ∷ []) (short, tt)
      ∙ (λ j. plain_known (known_by (snapshot_of (sym known j)))))
      (snapshot_outlasts m h.lists)
  shortened (entry ∷ e ∷ more) short = absurd short

  pub stands : (stored : List Entry) → StandFor stored written → Outlasts m.known (known_of stored)
  stands stored (inl alike) =
      outlasts_as m.known m.known (known_of stored)
      (stored_told stored written alike ∙ (λ j. plain_known (sym known j)))
      (itself m.known)
  stands stored (inr short) = shortened stored short

-- ---- fit pairs

left_facts : (outside : Outside) (before next : Opening) (session : List Move)
    → LeavesPair outside before session next → KnownFacts (moment before session) → KnownFacts (beginning next)
left_facts outside before next session pair there =
    subst (λ effects. KnownFacts (reopened (known_of next.entries) effects)) (sym pair.effects)
    (facts_rest (moment before session) (rests_then (beginning before) session pair.stopped) there
    (known_of next.entries)
    (stands (moment before session) there (durable before session) (known_by_entries before session) next.entries
    pair.entries))

pub fit_facts : (outside : Outside) (o : Opening) → IsFit outside o → KnownFacts (beginning o)
fit_facts outside o empty = nothing_known_holds
fit_facts outside o (left before next session fit pair) =
    left_facts outside before next session pair
    (facts_along outside (beginning before) session pair.is_run (fit_facts outside before fit))

pub run_facts : (outside : Outside) (o : Opening) (moves : List Move) → IsFit outside o → IsRun outside o moves
    → KnownFacts (moment o moves)
run_facts outside o moves fit run = facts_along outside (beginning o) moves run (fit_facts outside o fit)
