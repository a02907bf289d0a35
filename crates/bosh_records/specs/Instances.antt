-- What is known of instances.
use Rattle.std.specs.Prelude.{◌≡◌, ℕ, Option, Some, None}
use Rattle.std.specs.BTreeMap.{get}
use Rattle.std.specs.Option.{option_and_then, option_map_or}
use Rattle.bosh_base.specs.Inst.{inst_cmp}
use Rattle.bosh_base.specs.declared.inst.Inst.{Inst}
use Rattle.bosh_base.specs.declared.row.Row.{Row}
use Rattle.bosh_base.specs.declared.owner.Owner.{Owner}
use Rattle.bosh_base.specs.declared.owner.Owner.TheVariants as owners
use Rattle.bosh_records.specs.Table.{altered}
use Rattle.bosh_work.specs.Part.{no_part}
use Rattle.bosh_work.specs.declared.part.GroupPlace.{GroupPlace}
use Rattle.bosh_work.specs.declared.part.Part.{Part}
use Rattle.bosh_records.specs.declared.instances.Instance.{Instance}
use Rattle.bosh_records.specs.declared.instances.Instances.{Instances}

-- what is known of an instance
abbrev pub known_in : Instances → Inst → Option Instance
known_in all inst = get inst_cmp all.by_inst inst

-- what is recorded of an instance
abbrev pub row_in : Instances → Inst → Option Row
row_in all inst = option_and_then (λ it. it.row) (known_in all inst)

-- the part of an instance in the open task of its deployment
abbrev pub part_in : Instances → Inst → Part
part_in all inst = option_map_or (λ it. it.part) (known_in all inst) no_part

-- the place of an owner among those that are asked first
abbrev pub ping_of : Instances → Owner → Option ℕ
ping_of all (owners.Instance inst) = (part_in all inst).ping
ping_of all owner = None

-- ---- what changes

-- an instance of which nothing is known yet
abbrev pub unknown : Instance
unknown = record { row = None; want = None; part = no_part; call = None }

-- of one instance something else is known, where something was known of it, and nothing changes elsewhere
abbrev pub IsChanged : Instances → Instances → Inst → (Instance → Instance) → Type 0
IsChanged before after inst change =
    after.by_inst.entries ≡ altered inst_cmp inst change before.by_inst.entries

abbrev pub with_ping : Option ℕ → Instance → Instance
with_ping place it = record it { part = record it.part { ping = place } }

abbrev pub with_leaving : Option ℕ → Instance → Instance
with_leaving place it = record it { part = record it.part { leaving = place } }

abbrev pub with_change : Option GroupPlace → Instance → Instance
with_change place it = record it { part = record it.part { change = place } }
