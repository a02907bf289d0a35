-- What a recorded instance keeps in a goal (bosh.io, "Availability zones" and "Networks": an instance stays in its zone
-- and keeps its dynamic address where it may).
use Rattle.std.specs.Prelude.{◌≡◌, ℕ, Bool, true, ◌&&◌, not, List, [], Some, Contains, find, map}
use Rattle.std.specs.Str.{bytes_eq}
use Rattle.bosh_base.specs.Plan.{is_dynamic, is_listed}
use Rattle.bosh_base.specs.declared.addr.NetAddr.{NetAddr}
use Rattle.bosh_base.specs.declared.goal.GoalRow.{GoalRow}
use Rattle.bosh_base.specs.declared.inst.Inst.{Inst}
use Rattle.bosh_base.specs.declared.make.Make.{Make}
use Rattle.bosh_base.specs.declared.plan.NetPlan.{NetPlan}
use Rattle.bosh_base.specs.declared.row.Row.{Row}
use Rattle.bosh_base.specs.declared.view.Held.{Held}
use Rattle.bosh_base.specs.declared.view.View.{View}
use Rattle.bosh_rows.specs.SoundSnapshot.{are_distinct}
use Rattle.bosh_manifest.specs.declared.group.Group.{Group}
use Rattle.bosh_manifest_parts.specs.declared.network.NetUse.{NetUse}
use Rattle.bosh_wants.specs.Zones.{recorded_zone}
use Rattle.bosh_pool.specs.Kept.{is_taken}
use Rattle.bosh_rows.specs.Same.{same_inst}

abbrev pub inst_in : Row → Inst
inst_in row = row.inst

-- no instance is recorded twice
abbrev pub AreRecordedOnce : List Row → Type 0
AreRecordedOnce rows = are_distinct same_inst (map inst_in rows) ≡ true

-- it keeps the zone that its last machine was made for, while its group lists that
abbrev pub KeepsZone : List Row → List Group → GoalRow → Type 0
KeepsZone rows groups want =
    (group : Group) (az : List ℕ) → Contains groups group → group.name ≡ want.inst.group
    → recorded_zone rows want.inst ≡ Some az → is_listed az group.azs ≡ true → want.make.az ≡ az

-- an address on the network that is dynamic in the zone and that nobody else has
abbrev pub may_keep : NetPlan → List Held → List ℕ → List ℕ → NetAddr → Bool
may_keep plan taken net az it = bytes_eq it.net net && (is_dynamic plan net az it.addr && not (is_taken taken it.addr))

-- on a network for which the manifest gives no addresses it keeps the first one that it may
abbrev pub KeepsAddresses : NetPlan → View → List Group → GoalRow → Type 0
KeepsAddresses plan view groups want =
    (group : Group) (network : NetUse) (row : Row) (make : Make) (it : NetAddr)
    → Contains groups group → group.name ≡ want.inst.group → Contains group.networks network → network.fixed ≡ []
    → Contains view.rows row → row.inst ≡ want.inst → row.make ≡ Some make
    → find (may_keep plan view.taken network.net want.make.az) make.nets ≡ Some it
    → Contains want.make.nets (record { net = network.net; addr = it.addr })

pub record KeepsPlace (plan : NetPlan) (view : View) (groups : List Group) (want : GoalRow) : Type 0 where
  pub zone : KeepsZone view.rows groups want
  pub addresses : KeepsAddresses plan view groups want
