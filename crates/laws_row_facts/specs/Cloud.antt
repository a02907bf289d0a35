-- Facts on what was done to the cloud alone.
use Rattle.std.specs.Prelude.{◌≡◌, ℕ, Bool, true, false, not, ◌&&◌, Option, Some, None, List, [], ◌∷◌, ◌++◌}
use Rattle.std.specs.List.{list_all}
use Rattle.std.specs.Option.{option_eq}
use Rattle.bosh_base.specs.Cloud.{numbers_to, vms_created, vm_creation, disks_created, holder_of}
use Rattle.bosh_base.specs.declared.entry.Effect.{Effect}
use Rattle.bosh_base.specs.declared.entry.Entry.{Entry}
use Rattle.bosh_base.specs.declared.entry.Entry.TheVariants as entries
use Rattle.bosh_base.specs.declared.owner.Owner.{Owner}
use Rattle.bosh_base.specs.declared.owner.Owner.TheVariants.{Instance}
use Rattle.laws_effects.specs.Holders.{AreHeldByTheirOwn, vm_owner, disk_owner}
use Rattle.laws_effects.specs.Orderly.{AreOrderly, is_created, is_taken, vms_named, disks_named}
use Rattle.laws_row_facts.specs.Words.{implies, where_any}
use Rattle.bosh_rows.specs.Same.{same_owner}
use Rattle.bosh_rows.specs.Tied.{is_named_lost}

-- ---- nothing was done to what was not created before, and no two calls had one number

-- the effect is of a call whose number no call before had
abbrev pub is_of_new_call : List Entry → Entry → Bool
is_of_new_call before (entries.Effect e) = not (is_taken before e.n)
is_of_new_call before entry = true

-- the test of IsNext: an entry names only what was created, and is of a new call
abbrev pub is_next : List Entry → Entry → Bool
is_next before entry =
    list_all (is_created (vms_created before)) (vms_named entry)
    && (list_all (is_created (disks_created before)) (disks_named entry) && is_of_new_call before entry)

-- the test of AreOrderly
abbrev pub are_orderly_after : List Entry → List Entry → Bool
are_orderly_after before [] = true
are_orderly_after before (entry ∷ more) = is_next before entry && are_orderly_after (before ++ entry ∷ []) more

-- ---- a machine that a loss names was created for an instance

-- the owner is an instance
abbrev pub is_instance : Owner → Bool
is_instance (Instance i) = true
is_instance owner = false

-- the effect was for an instance
abbrev pub is_for_instance : Option Effect → Bool
is_for_instance (Some e) = is_instance e.owner
is_for_instance None = false

-- where a loss names the machine, it was made for an instance
abbrev pub is_lost_of_instance : List Entry → ℕ → Bool
is_lost_of_instance effects v = implies (is_named_lost effects v) (is_for_instance (vm_creation effects v))

-- ---- a machine that holds a disk was created for the owner of the disk

-- the test of AreHeldByTheirOwn, of one disk
abbrev pub is_held_by_its_own : List Entry → ℕ → Bool
is_held_by_its_own effects d =
    where_any (λ v. option_eq same_owner (vm_owner effects v) (disk_owner effects d)) (holder_of effects d)

-- ---- all

-- the facts on what was done
pub record CloudFacts (effects : List Entry) : Type 0 where
  -- nothing was done to what was not created before, and no two calls had one number
  pub orderly : AreOrderly effects
  -- a machine that a loss names was created for an instance
  pub lost_of_instances : (v : ℕ) → is_lost_of_instance effects v ≡ true
  -- a machine that holds a disk was created for the owner of the disk
  pub held_by_own : AreHeldByTheirOwn effects

-- the tests of the facts, of each machine and disk that was created
abbrev pub are_cloud_facts : List Entry → Bool
are_cloud_facts effects =
    are_orderly_after [] effects
    && (list_all (is_lost_of_instance effects) (numbers_to (vms_created effects))
    && list_all (is_held_by_its_own effects) (numbers_to (disks_created effects)))
