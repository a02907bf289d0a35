-- What was done to the cloud for one instance, and the rows that are recorded of it.
use Rattle.std.specs.Prelude.{ℕ, Bool, true, false, codes, Some, None, List, [], ◌∷◌, ◌++◌}
use Rattle.bosh_base.specs.declared.call.Call.{Call}
use Rattle.bosh_base.specs.declared.call.Call.TheVariants.{CreateVm, CreateDisk, AttachDisk, MountDisk, Apply, Start}
use Rattle.bosh_base.specs.declared.entry.Entry.{Entry}
use Rattle.bosh_base.specs.declared.entry.Entry.TheVariants.{Effect, Lost}
use Rattle.bosh_base.specs.declared.inst.Inst.{Inst}
use Rattle.bosh_base.specs.declared.owner.Owner.TheVariants.{Instance}
use Rattle.bosh_base.specs.declared.row.DiskRow.{DiskRow}
use Rattle.bosh_base.specs.declared.row.Row.{Row}
use Rattle.examples_histories.specs.Values.{web, z1, plain, with_j, disk}
use Rattle.examples_rows.specs.Rows.{active, having, up, with_spec}
use Rattle.bosh_rows.specs.Tied.{IsTiedRow}

-- ---- effects

abbrev pub done_for : Inst → ℕ → Call → Entry
done_for inst n call = Effect (record { n = n; owner = Instance inst; dep = codes "dep"; call = call })

abbrev pub done : ℕ → Call → Entry
done = done_for (web 0)

-- machine 1 is made, gets its spec, and is started
abbrev pub created : List Entry
created = done 1 (CreateVm (plain z1 10) []) ∷ []

abbrev pub applied : List Entry
applied = created ++ done 2 (Apply 1 with_j) ∷ []

abbrev pub started : List Entry
started = applied ++ done 3 (Start 1) ∷ []

-- disk 1 is made for it, attached and mounted, before its spec
abbrev pub provided : List Entry
provided = created ++ done 2 (CreateDisk (disk 10) 1) ∷ []

abbrev pub attached : List Entry
attached = provided ++ done 3 (AttachDisk 1 1) ∷ []

abbrev pub mounted : List Entry
mounted = attached ++ done 4 (MountDisk 1 1) ∷ []

abbrev pub started_with_disk : List Entry
started_with_disk = mounted ++ done 5 (Apply 1 with_j) ∷ done 6 (Start 1) ∷ []

-- one call more
abbrev pub and_then : ℕ → Call → List Entry → List Entry
and_then n call effects = effects ++ done n call ∷ []

-- a machine is lost, whole or its agent
abbrev pub and_lost : ℕ → Bool → List Entry → List Entry
and_lost vm whole effects = effects ++ Lost (record { vm = vm; whole = whole }) ∷ []

-- ---- rows

-- on machine 1 of call 1, as `wanted`
abbrev pub on_first : Row
on_first = record up { vm = Some (record { vm = 1; agent = 1 }) }

abbrev pub at_rest_on_first : Row
at_rest_on_first = record on_first { running = false }

abbrev pub bare_on_first : Row
bare_on_first = with_spec None at_rest_on_first

-- disk 1 of call 2
abbrev pub its_disk : Bool → Bool → DiskRow
its_disk attached mounted = record (active 1 10 attached mounted) { tag = 2 }

abbrev pub with_its_disk : Bool → Bool → Row → Row
with_its_disk attached mounted row = having (its_disk attached mounted ∷ []) row

abbrev pub first_with_disk : Row
first_with_disk = with_its_disk true true on_first

abbrev pub IsNotTied : List Entry → Row → Type 0
IsNotTied effects row = IsTiedRow effects row → ⊥
