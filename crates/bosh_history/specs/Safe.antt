-- What no director may do, at any moment of a history (this project's profile).
use Rattle.std.specs.Prelude.{◌≡◌, Bool, true, ◌&&◌, List}
use Rattle.bosh_base.specs.declared.moves.Move.{Move}
use Rattle.bosh_history.specs.Moments.{Opening, Moment, beginning}
use Rattle.bosh_history.specs.Each.{EachMove, noted_well, durable_well}
use Rattle.bosh_history.specs.Deletions.{is_deletion_asked}
use Rattle.bosh_history.specs.Addresses.{are_apart, possible_machines, shares_no_address}
use Rattle.bosh_history.specs.Rolling.{are_within_limits, rolls_on}
use Rattle.bosh_history.specs.CompileKeys.{compiles_once}
use Rattle.bosh_history.specs.DiskContents.{keeps_disks}
use Rattle.bosh_history.specs.Phases.{in_phase}

-- what holds after each move held at the beginning
abbrev pub is_safe_opening : Moment → Bool
is_safe_opening m = are_apart (possible_machines m) && are_within_limits m.known

pub record IsSafe (o : Opening) (moves : List Move) : Type 0 where
  pub opening : is_safe_opening (beginning o) ≡ true
  pub deletions : EachMove is_deletion_asked (beginning o) moves
  pub addresses : EachMove shares_no_address (beginning o) moves
  pub rolling : EachMove rolls_on (beginning o) moves
  pub compile_keys : EachMove (durable_well compiles_once) (beginning o) moves
  pub disk_contents : EachMove (durable_well keeps_disks) (beginning o) moves
  pub phases : EachMove (noted_well in_phase) (beginning o) moves
