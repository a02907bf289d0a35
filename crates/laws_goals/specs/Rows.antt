-- The instances that a goal wants, and the plans of their groups.
use Rattle.std.specs.Prelude.{◌≡◌, ℕ, true, nat_le, map}
use Rattle.std.specs.List.{list_all}
use Rattle.std.specs.Str.{bytes_eq}
use Rattle.bosh_base.specs.declared.goal.Goal.{Goal}
use Rattle.bosh_history.specs.Goals.{inst_of}
use Rattle.bosh_history.specs.Sound.{has_plan}
use Rattle.bosh_rows.specs.SoundSnapshot.{are_distinct}
use Rattle.bosh_rows.specs.Same.{same_inst}

-- No instance stands twice, each is of the deployment and of a group that has one plan, with room for one update at
-- least, and none is wanted younger than the last call.
pub record HasSoundRows (last_call : ℕ) (goal : Goal) : Type 0 where
  pub distinct : are_distinct same_inst (map inst_of goal.rows) ≡ true
  pub of_the_deployment : list_all (λ want. bytes_eq want.inst.dep goal.dep) goal.rows ≡ true
  pub planned : list_all (has_plan goal) goal.rows ≡ true
  pub fresh : list_all (λ want. nat_le want.fresh_after last_call) goal.rows ≡ true
