-- Facts on the current goal of one deployment, and on its links.
use Rattle.std.specs.Prelude.{◌≡◌, ℕ, Bool, true, ◌&&◌, ◌||◌, Option, Some, None, List, [], ◌++◌, map, codes}
use Rattle.std.specs.List.{list_all}
use Rattle.std.specs.Str.{bytes_eq}
use Rattle.bosh_base.specs.declared.goal.Goal.{Goal}
use Rattle.bosh_base.specs.declared.link.Tie.{Tie}
use Rattle.laws_facts.specs.Words.{unless}
use Rattle.bosh_history.specs.Goals.{inst_of}
use Rattle.bosh_history.specs.Held.{is_offered}
use Rattle.bosh_history.specs.Known.{offers_in}
use Rattle.bosh_history.specs.Keys.{stand_after_needs}
use Rattle.bosh_history.specs.Known.{Known}
use Rattle.bosh_history.specs.Links.{is_kept}
use Rattle.bosh_history.specs.Slots.{is_compiled}
use Rattle.bosh_history.specs.Sound.{has_offers, has_plan, has_slots}
use Rattle.bosh_rows.specs.SoundSnapshot.{are_distinct}
use Rattle.bosh_rows.specs.Same.{same_inst}

-- No instance stands twice, and each is of the deployment and of a group with one plan, which has room.
abbrev pub has_sound_rows : Goal → Bool
has_sound_rows goal =
    are_distinct same_inst (map inst_of goal.rows)
    && list_all (λ want. bytes_eq want.inst.dep goal.dep && has_plan goal want) goal.rows

-- A link of another deployment is offered by its current goal.
abbrev pub is_offered_now : Known → List ℕ → Tie → Bool
is_offered_now k dep tie =
    bytes_eq tie.provider.dep dep || is_offered tie.provider tie.kind (offers_in (k.goal tie.provider.dep))

-- the facts on the current goal of a deployment
pub record GoalFacts (k : Known) (dep : List ℕ) (goal : Goal) : Type 0 where
  -- it is of the deployment
  pub of_dep : goal.dep ≡ dep
  -- no instance stands twice, and each is of a group with a plan that has room
  pub sound_rows : has_sound_rows goal ≡ true
  -- no key stands twice, and what each needs is compiled or stands before it
  pub can_be_compiled : stand_after_needs (is_compiled k) [] goal.keys ≡ true
  -- where there are keys there is a slot
  pub has_slots : has_slots goal ≡ true
  -- it offers links of its own deployment alone
  pub own_offers : has_offers goal ≡ true
  -- a link of another deployment is offered by its last deploy that was done
  pub offered_when_done : list_all (is_kept k dep) goal.ties ≡ true
  -- a link of another deployment is offered by its current goal
  pub offered_now : list_all (is_offered_now k dep) goal.ties ≡ true

-- the tags of those that do not hold
abbrev pub goal_broken : Known → List ℕ → Goal → List (List ℕ)
goal_broken k dep goal =
    unless (codes "deployments listed") (bytes_eq goal.dep dep)
    ++ unless (codes "sound rows") (has_sound_rows goal)
    ++ unless (codes "can be compiled") (stand_after_needs (is_compiled k) [] goal.keys)
    ++ unless (codes "has slots") (has_slots goal)
    ++ unless (codes "own offers") (has_offers goal)
    ++ unless (codes "offered when done") (list_all (is_kept k dep) goal.ties)
    ++ unless (codes "offered now") (list_all (is_offered_now k dep) goal.ties)

-- .. of a deployment, where it has a goal
abbrev pub goal_broken_at : Known → List ℕ → List (List ℕ)
goal_broken_at k dep = by_goal (k.goal dep)
  where
    by_goal : Option Goal → List (List ℕ)
    by_goal (Some goal) = goal_broken k dep goal
    by_goal None = []
