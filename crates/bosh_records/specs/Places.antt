-- Where an owner stands in the open task that has something to do for it.
use Rattle.std.specs.Prelude.{ℕ, List, Option, None}
use Rattle.std.specs.Option.{option_and_then, option_map_or}
use Rattle.std.specs.Ordering.{nat_cmp}
use Rattle.bosh_base.specs.Inst.{inst_cmp}
use Rattle.bosh_base.specs.declared.inst.Inst.{Inst}
use Rattle.bosh_base.specs.declared.owner.Owner.{Owner}
use Rattle.bosh_base.specs.declared.owner.Owner.TheVariants as owners
use Rattle.bosh_work.specs.Part.{no_part}
use Rattle.bosh_work.specs.declared.part.Part.{Part}
use Rattle.bosh_work.specs.declared.part.Places.{Places}
use Rattle.bosh_records.specs.Readers.{machine_cmp}
use Rattle.bosh_records.specs.Recorded.{Recorded, recorded}
use Rattle.bosh_records.specs.Table.{found, thing_in}
use Rattle.bosh_records.specs.declared.records.Records.{Records}

-- the part of an instance in the open task of its deployment
abbrev pub part_of : Recorded → Inst → Part
part_of it inst = option_map_or (λ known. known.part) (found inst_cmp it.instances inst) no_part

abbrev pub places_in : Recorded → Owner → Places
places_in it (owners.Instance inst) =
    record { part = part_of it inst; sweep = None; deleting = None }
places_in it (owners.Compile task slot) = record {
  part = no_part;
  sweep = option_and_then (λ machine. machine.sweep) (thing_in machine_cmp it.machines (record { task = task; slot = slot }));
  deleting = None;
}
places_in it (owners.Disk disk) = record {
  part = no_part;
  sweep = None;
  deleting = option_and_then (λ loose. loose.deleting) (thing_in nat_cmp it.orphans disk);
}

abbrev pub places_of : Records → Owner → Places
places_of records owner = places_in (recorded records) owner
