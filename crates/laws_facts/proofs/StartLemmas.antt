-- Each fact holds where nothing was there.
use Rattle.std.proofs.Common.{◌≡◌, ℕ, true, false, [], refl, arith}
use Rattle.bosh_base.specs.declared.owner.Owner.{Owner}
use Rattle.bosh_base.specs.declared.owner.Owner.TheVariants.{Instance, Compile, Disk}
use Rattle.laws_facts.specs.Addresses.{AddressFacts, Holder, Recorded, Machine, Wanted, Free, has_each_once, holds_address}
use Rattle.laws_facts.specs.CallFacts.{named}
use Rattle.laws_row_facts.proofs.StartLemmas.{start_cloud, start_row}
use Rattle.laws_facts.specs.CompileMachines.{SlotWorkFacts}
use Rattle.laws_slots.specs.Slots.{SlotFacts}
use Rattle.laws_facts.specs.Disks.{DiskFacts}
use Rattle.laws_facts.specs.Facts.{Holds}
use Rattle.laws_facts.specs.KnownFacts.{KnownFacts}
use Rattle.laws_facts.specs.Lists.{ListFacts}
use Rattle.laws_facts.specs.Numbers.{EffectFacts, NumberFacts, is_doubt_past, is_doubt_its_own}
use Rattle.laws_facts.specs.TaskFacts.{TaskFacts}
use Rattle.bosh_history.specs.Moments.{Moment, beginning, nothing}

abbrev start : Moment
start = beginning nothing

start_lists : ListFacts start
start_lists = record {
  instances_in_order = refl;
  own_row = λ i. refl;
  bare = λ i other. refl;
  machines_in_order = refl;
  machine_listed = λ t s. refl;
  orphans_in_order = refl;
  orphan_listed = λ d. refl;
  deployments_apart = refl;
  deployment_listed = λ dep. refl;
  key_listed = λ key. refl;
  stopped_past = refl;
  loss_noted = λ t v. refl;
}

no_doubt_past : (owner : Owner) → is_doubt_past start.known owner ≡ true
no_doubt_past (Instance i) = refl
no_doubt_past (Compile t s) = refl
no_doubt_past (Disk d) = refl

no_doubt_own : (owner : Owner) → is_doubt_its_own start owner ≡ true
no_doubt_own (Instance i) = refl
no_doubt_own (Compile t s) = refl
no_doubt_own (Disk d) = refl

start_numbers : NumberFacts start
start_numbers = record {
  past = λ n. grind (arith);
  doubts_past = no_doubt_past;
  rows_past = λ dep. refl;
  of_tasks = λ t s. refl;
  none_opened = refl;
}

start_effects : EffectFacts start
start_effects = record { done_as_told = λ n. refl; doubts_own = no_doubt_own }

start_slot : (t s : ℕ) → SlotFacts [] (named t s) (start.known.slot t s)
start_slot t s = record { shape = refl; created = refl; tied = refl }

start_slot_work : (t s : ℕ) → SlotWorkFacts start t s
start_slot_work t s = record {
  of_goal = grind (arith);
  doubt_open = grind (arith);
  alone = λ other. grind (arith);
  compiled = grind (arith);
}

start_disk : (d : ℕ) → DiskFacts [] start.known d
start_disk d = record { once = refl; orphan = refl }

start_task : (t : ℕ) → TaskFacts start t
start_task t = record {
  another_lock = λ other. grind (arith);
  within_limits = λ i. grind (arith);
  working = λ works. absurd (grind (arith));
}

no_address : (x : Holder) (a : ℕ) → holds_address start x a ≡ false
no_address (Recorded i) a = refl
no_address (Machine t s) a = refl
no_address (Wanted i) a = refl
no_address (Free t s) a = grind (arith)

no_make : (x : Holder) → has_each_once start x ≡ true
no_make (Recorded i) = refl
no_make (Machine t s) = refl
no_make (Wanted i) = refl
no_make (Free t s) = grind (arith)

start_addresses : AddressFacts start
start_addresses = record {
  each_once = no_make;
  one_deployment = λ a x y held also. absurd (grind (arith, no_address x a));
  one_recorded = λ a x y held also. absurd (grind (arith, no_address x a));
  one_wanted = λ a x y held also. absurd (grind (arith, no_address x a));
  take_over = λ a x y held also. absurd (grind (arith, no_address x a));
}

-- what is known where nothing was there
pub nothing_known_holds : KnownFacts (beginning nothing)
nothing_known_holds = record {
  lists = start_lists;
  numbers = start_numbers;
  makers = λ v. refl;
  machines = λ i. refl;
  shapes = λ t s. refl;
  slots_work = start_slot_work;
  calls = λ n call is. absurd cc;
  tasks = start_task;
  goals = λ dep goal is. absurd cc;
  addresses = start_addresses;
}

pub nothing_holds : Holds (beginning nothing)
nothing_holds = record {
  known = nothing_known_holds;
  cloud = start_cloud;
  effects = start_effects;
  rows = start_row;
  slots = start_slot;
  disks = start_disk;
  performed = λ n call is. absurd cc;
  outcomes = λ t works. absurd (grind (arith, works));
}
