-- The instances of a deployment and their availability zones (bosh.io, "Availability zones"; that a new instance goes
-- round the zones of its group is this project's profile).
use Rattle.std.specs.Prelude.{ℕ, ◌%◌, List, [], Option, Some, None, cond, find, length, slice_index_or}
use Rattle.bosh_base.specs.Plan.{is_listed}
use Rattle.bosh_base.specs.declared.inst.Inst.{Inst}
use Rattle.bosh_base.specs.declared.make.Make.{Make}
use Rattle.bosh_base.specs.declared.row.Row.{Row}
use Rattle.bosh_manifest.specs.declared.group.Group.{Group}
use Rattle.bosh_pool.specs.Fixed.{same_inst}

abbrev pub inst_of : List ℕ → Group → ℕ → Inst
inst_of dep group index = record { dep = dep; group = group.name; index = index }

-- what is recorded of an instance
abbrev pub row_of : List Row → Inst → Option Row
row_of rows inst = find (λ row. same_inst row.inst inst) rows

abbrev pub zone_made : Option Make → Option (List ℕ)
zone_made None = None
zone_made (Some make) = Some make.az

abbrev pub zone_in_row : Option Row → Option (List ℕ)
zone_in_row None = None
zone_in_row (Some row) = zone_made row.make

-- the zone that the last machine of an instance was made for
abbrev pub recorded_zone : List Row → Inst → Option (List ℕ)
recorded_zone rows inst = zone_in_row (row_of rows inst)

-- a new instance goes round the zones of its group
abbrev pub new_zone : Group → ℕ → List ℕ
new_zone group index = slice_index_or group.azs (index % length group.azs) []

-- a recorded one stays in its zone while the group lists it
abbrev pub zone_by : Group → ℕ → Option (List ℕ) → List ℕ
zone_by group index None = new_zone group index
zone_by group index (Some az) = cond (is_listed az group.azs) az (new_zone group index)

abbrev pub zone_of : List ℕ → List Row → Group → ℕ → List ℕ
zone_of dep rows group index = zone_by group index (recorded_zone rows (inst_of dep group index))
