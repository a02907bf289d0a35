-- What tables say of the entries of others, of the deployment's own, and of wants.
use Rattle.std.specs.Prelude.{◌≡◌, ℕ, Bool, false, ◌&&◌, not, List, [], Option, Some, None, find, filter, map, option_map, Vec, if◌then◌else◌}
use Rattle.std.specs.BTreeMap.{BTreeMap, get, get_by}
use Rattle.std.specs.Cmp.Lexicographic.{slice_cmp}
use Rattle.std.specs.Option.{is_some, option_copied}
use Rattle.std.specs.declared.alloc.Global.{Global}
use Rattle.std.specs.declared.cmp.Ordering.{Ordering}
use Rattle.std.specs.Ordering.{nat_cmp, ordering_then}
use Rattle.std.specs.Str.{bytes_eq}
use denote.Ref.{Bor}
use Rattle.bosh_base.specs.Inst.{inst_cmp}
use Rattle.bosh_base.specs.Plan.{is_dynamic}
use Rattle.bosh_base.specs.declared.addr.Addr.{Addr}
use Rattle.bosh_base.specs.declared.inst.Inst.{Inst}
use Rattle.bosh_base.specs.declared.owner.Owner.{Owner}
use Rattle.bosh_base.specs.declared.owner.Owner.TheVariants.{Instance, Compile, Disk}
use Rattle.bosh_base.specs.declared.plan.NetPlan.{NetPlan}
use Rattle.bosh_base.specs.declared.view.Held.{Held}
use Rattle.bosh_bands.specs.Least.{first_of}
use Rattle.bosh_pool.specs.Fixed.{holds, instance_of, is_given, is_owner, owner_of}
use Rattle.bosh_pool.specs.declared.entries.Entries.{Entries}
use Rattle.bosh_pool.specs.declared.holders.Holders.{Holders}
use Rattle.bosh_pool.specs.declared.want.Want.{Want}

-- the item at a number
abbrev pub first_at : {A : Type 0} → BTreeMap ℕ (Bor A) → ℕ → Option A
first_at table number = option_copied (get nat_cmp table number)

-- at each address the first entry that holds it
abbrev pub FirstEntries : List Held → BTreeMap ℕ (Bor Held) → Type 0
FirstEntries helds table = (addr : Addr) → first_at table addr.0 ≡ find (holds addr) helds

-- at each address the first want to which the manifest gives it
abbrev pub FirstWants : List Want → BTreeMap ℕ (Bor Want) → Type 0
FirstWants wants table = (addr : Addr) → first_at table addr.0 ≡ find (λ want. is_given addr want.fixed) wants

-- two owners are one instance
abbrev pub same_owner : Owner → Owner → Bool
same_owner (Instance inst) other = is_owner inst other
same_owner (Compile task slot) other = false
same_owner (Disk disk) other = false

-- of what is noted of an address, the first entry whose owner is not the instance
abbrev pub entry_beside : Inst → Option Holders → Option Held
entry_beside inst None = None
entry_beside inst (Some holders) =
    if is_owner inst holders.first.now.owner then option_copied holders.other else Some holders.first.now

-- at each address the first entry that is not an instance's, for every instance
abbrev pub AllHolders : List Held → BTreeMap ℕ Holders → Type 0
AllHolders helds table =
    (inst : Inst) (addr : Addr) → entry_beside inst (get nat_cmp table addr.0)
    ≡ find (λ held. holds addr held && not (is_owner inst held.owner)) helds

-- an entry is one of the instance on the network
abbrev pub is_of : Inst → List ℕ → Held → Bool
is_of inst net held = is_owner inst held.owner && bytes_eq held.net net

abbrev pub listed : Option (Vec (Bor Held) Global) → List Held
listed None = []
listed (Some entries) = map (λ entry. entry.now) entries.items

abbrev pub network_cmp : Inst → List ℕ → (Bor Inst × Bor (List ℕ)) → Ordering
network_cmp inst net key = ordering_then (inst_cmp inst key.0.now) (slice_cmp nat_cmp net key.1.now)

-- the entries of an instance on a network
abbrev pub entries_of : BTreeMap (Bor Inst × Bor (List ℕ)) (Vec (Bor Held) Global) → Inst → List ℕ → List Held
entries_of table inst net = listed (get_by (network_cmp inst net) table)

abbrev pub AreByNetwork : List Held → BTreeMap (Bor Inst × Bor (List ℕ)) (Vec (Bor Held) Global) → Type 0
AreByNetwork helds table = (inst : Inst) (net : List ℕ) → entries_of table inst net ≡ filter (is_of inst net) helds

-- the tables of what the others hold and of what the deployment's instances hold
pub record AreEntries (taken kept : List Held) (entries : Entries) : Type 0 where
  pub firsts : FirstEntries taken entries.taken
  pub holders : AllHolders kept entries.holders
  pub networks : AreByNetwork kept entries.kept

-- whoever has an address beside the instance, by the tables
abbrev pub found_holder : Entries → BTreeMap ℕ (Bor Want) → Inst → Addr → Option Owner
found_holder entries given inst addr =
    first_of (option_map owner_of (first_at entries.taken addr.0))
    (first_of (option_map owner_of (entry_beside inst (get nat_cmp entries.holders addr.0)))
    (option_map instance_of (first_at given addr.0)))

-- nobody else has the address of an entry, by the tables, and a want may have it
abbrev pub is_open_to : NetPlan → BTreeMap ℕ (Bor Held) → Want → Held → Bool
is_open_to plan taken want held =
    not (is_some (get nat_cmp taken held.addr.0)) && is_dynamic plan want.net want.az held.addr
