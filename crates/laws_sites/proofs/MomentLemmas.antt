-- More moves after those that there are.
use Rattle.std.proofs.Common.{◌≡◌, ◌∙◌, List, [], ◌∷◌, ◌++◌, Option, Some, None, ap, append_assoc, refl, sym}
use Rattle.std.specs.Prelude.{fold}
use Rattle.std.specs.List.{filter_map}
use Rattle.bosh_base.specs.declared.entry.Entry.{Entry}
use Rattle.bosh_base.specs.declared.moves.Move.{Move}
use Rattle.bosh_base.specs.declared.moves.Move.TheVariants as moves
use Rattle.bosh_history.specs.Moments.{Moment, Opening, beginning, durable, durable_entry, later, moment}
use Rattle.bosh_history.specs.Notes.{Outside}
use Rattle.bosh_history.specs.Openings.{HasSource}
use Rattle.bosh_history.specs.Permitted.{IsPermitted, IsRun, IsRunFrom}

-- the entry may come next: it is permitted, and tells its source
abbrev pub MayBeNext : Outside → Moment → Entry → Type 0
MayBeNext outside m e = IsPermitted outside m (moves.Note e) × HasSource e

pub run_from : (outside : Outside) (m : Moment) (one other : List Move) → IsRunFrom outside m one
    → IsRunFrom outside (fold later m one) other → IsRunFrom outside m (one ++ other)
run_from outside m [] other was now = now
run_from outside m (move ∷ one) other was now = (was.0, run_from outside (later m move) one other was.1 now, was.2)

pub run_on : (outside : Outside) (o : Opening) (one other : List Move) → IsRun outside o one
    → IsRunFrom outside (moment o one) other → IsRun outside o (one ++ other)
run_on outside o one other was now = run_from outside (beginning o) one other was now

pub later_from : (m : Moment) (one other : List Move) → fold later m (one ++ other) ≡ fold later (fold later m one) other
later_from m [] other = refl
later_from m (move ∷ one) other = later_from (later m move) one other

pub later_on : (o : Opening) (one other : List Move) → moment o (one ++ other) ≡ fold later (moment o one) other
later_on o one other = later_from (beginning o) one other

kept_on : (one other : List Move)
    → filter_map durable_entry (one ++ other) ≡ filter_map durable_entry one ++ filter_map durable_entry other
kept_on [] other = refl
kept_on (move ∷ one) other = by (durable_entry move) refl (kept_on one other)
  where
    by : (o : Option Entry) → durable_entry move ≡ o
        → filter_map durable_entry (one ++ other) ≡ filter_map durable_entry one ++ filter_map durable_entry other
        → filter_map durable_entry (move ∷ (one ++ other))
        ≡ filter_map durable_entry (move ∷ one) ++ filter_map durable_entry other
    by (Some entry) is rest = rw is (ap (λ es. entry ∷ es) rest)
    by None is rest = rw is rest

pub durable_on : (o : Opening) (one other : List Move)
    → durable o (one ++ other) ≡ durable o one ++ filter_map durable_entry other
durable_on o one other =
    ap (λ es. o.entries ++ es) (kept_on one other)
    ∙ sym (append_assoc o.entries (filter_map durable_entry one) (filter_map durable_entry other))
