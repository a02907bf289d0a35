-- How owners are spelled.
use Rattle.std.specs.Prelude.{ℕ, Bool, List, ◌&&◌, [], ◌∷◌, ◌++◌}
use Rattle.bosh_base.specs.declared.owner.Owner.{Owner}
use Rattle.bosh_base.specs.declared.owner.Owner.TheVariants.{Instance, Compile, Disk}
use Rattle.bosh_entry.specs.Reading.{Reader, making, one_of_at, ◌with◌}
use Rattle.bosh_entry.specs.Number.{number, is_number, number_at, small_at, is_small}
use Rattle.bosh_entry.specs.Inst.{inst, is_inst, inst_at}

-- whom a machine, a disk or a call belongs to
unfoldable pub owner : Owner → List ℕ
owner (Instance i) = 0 ∷ inst i
owner (Compile task slot) = 1 ∷ number task ++ number slot
owner (Disk n) = 2 ∷ number n

unfoldable pub is_owner : Owner → Bool
is_owner (Instance i) = is_inst i
is_owner (Compile task slot) = is_number task && is_small slot
is_owner (Disk n) = is_number n

abbrev pub owners : List (Reader Owner)
owners =
    making Instance with inst_at
    ∷ making Compile with number_at with small_at
    ∷ making Disk with number_at
    ∷ []

unfoldable pub owner_at : Reader Owner
owner_at = one_of_at owners
