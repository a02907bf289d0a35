-- No fact speaks of halting: all of them hold at a moment that is halted or not just as they held before.
use Rattle.std.proofs.Common.{◌≡◌, ◌∙◌, ℕ, Bool, true, Option, Some, None, refl, sym}
use Rattle.bosh_base.specs.declared.call.Call.{Call}
use Rattle.bosh_base.specs.declared.call.Call.TheVariants.{MigrateDisk}
use Rattle.bosh_base.specs.declared.entry.Begin.{Begin}
use Rattle.bosh_base.specs.declared.moves.Did.{Did}
use Rattle.bosh_base.specs.declared.owner.Owner.{Owner}
use Rattle.bosh_base.specs.declared.owner.Owner.TheVariants.{Instance, Compile, Disk}
use Rattle.bosh_history.specs.Moments.{Moment, OpenCall}
use Rattle.bosh_history.specs.Sound.{addrs, has_addr}
use Rattle.bosh_rows.specs.SoundSnapshot.{are_distinct}
use Rattle.laws_facts.specs.Addresses.{AddressFacts, Free, Holder, Machine, Recorded, Wanted}
use Rattle.laws_facts.specs.Addresses.{holds_address, make_held, may_take_over}
use Rattle.laws_facts.specs.CallFacts.{IsOwnerKept, PerformedFacts, is_answer_heard_of}
use Rattle.laws_facts.specs.Facts.{Holds}
use Rattle.laws_facts.specs.KnownFacts.{KnownFacts}
use Rattle.laws_facts.specs.OpenCalls.{has_migrated}
use Rattle.laws_row_facts.specs.Words.{where_any}
use Rattle.std.specs.Prelude.{eqb}

module _ (m : Moment) (is_halted : Bool) where
  -- the moment, halted or not
  abbrev now : Moment
  now = record m { halted = is_halted }

  -- ---- addresses

  make_same : (x : Holder) → make_held now x ≡ make_held m x
  make_same (Recorded i) = refl
  make_same (Machine t s) = refl
  make_same (Wanted i) = refl
  make_same (Free t s) = refl

  held_before : (x : Holder) (a : ℕ) → holds_address now x a ≡ true → holds_address m x a ≡ true
  held_before x a held = sym (λ j. has_addr a (make_same x j)) ∙ held

  take_over_same : (x y : Holder) → may_take_over now x y ≡ may_take_over m x y
  take_over_same (Recorded i) (Wanted j) = refl
  take_over_same (Recorded i) (Free t s) = refl
  take_over_same (Machine t s) (Free other slot) = refl
  take_over_same (Machine t s) (Wanted j) = refl
  take_over_same (Recorded i) (Recorded j) = refl
  take_over_same (Recorded i) (Machine t s) = refl
  take_over_same (Machine t s) (Recorded j) = refl
  take_over_same (Machine t s) (Machine other slot) = refl
  take_over_same (Wanted i) y = refl
  take_over_same (Free t s) y = refl

  addresses_same : AddressFacts m → AddressFacts now
  addresses_same h = record {
    each_once = λ x. (λ j. where_any (λ make. are_distinct eqb (addrs make)) (make_same x j)) ∙ h.each_once x;
    one_deployment =
        λ a x y here there. h.one_deployment a x y (held_before x a here) (held_before y a there);
    one_recorded = λ a x y here there. h.one_recorded a x y (held_before x a here) (held_before y a there);
    one_wanted = λ a x y here there. h.one_wanted a x y (held_before x a here) (held_before y a there);
    take_over =
        λ a x y here there. take_over_same x y ∙ h.take_over a x y (held_before x a here) (held_before y a there);
  }

  -- ---- what is known

  pub known_halted : KnownFacts m → KnownFacts now
  known_halted h = record {
    lists = record {
      instances_in_order = h.lists.instances_in_order;
      own_row = h.lists.own_row;
      bare = h.lists.bare;
      machines_in_order = h.lists.machines_in_order;
      machine_listed = h.lists.machine_listed;
      orphans_in_order = h.lists.orphans_in_order;
      orphan_listed = h.lists.orphan_listed;
      deployments_apart = h.lists.deployments_apart;
      deployment_listed = h.lists.deployment_listed;
      key_listed = h.lists.key_listed;
      stopped_past = h.lists.stopped_past;
      loss_noted = h.lists.loss_noted;
    };
    numbers = record {
      past = h.numbers.past;
      doubts_past = h.numbers.doubts_past;
      rows_past = h.numbers.rows_past;
      of_tasks = h.numbers.of_tasks;
      none_opened = h.numbers.none_opened;
    };
    makers = h.makers;
    machines = h.machines;
    shapes = h.shapes;
    slots_work = λ t s. record {
      of_goal = (h.slots_work t s).of_goal;
      doubt_open = (h.slots_work t s).doubt_open;
      alone = (h.slots_work t s).alone;
      compiled = (h.slots_work t s).compiled;
    };
    calls = λ n call is. record {
      number = (h.calls n call is).number;
      begun = (h.calls n call is).begun;
      works = (h.calls n call is).works;
      one_call = (h.calls n call is).one_call;
      fits = (h.calls n call is).fits;
      of_item = (h.calls n call is).of_item;
      in_kind = (h.calls n call is).in_kind;
      compiles_new = (h.calls n call is).compiles_new;
      compiles_alone = (h.calls n call is).compiles_alone;
      has_begun = (h.calls n call is).has_begun;
    };
    tasks = λ t. record {
      another_lock = (h.tasks t).another_lock;
      within_limits = (h.tasks t).within_limits;
      working = λ working. record {
        current = ((h.tasks t).working working).current;
        lists_well = ((h.tasks t).working working).lists_well;
        has_place = ((h.tasks t).working working).has_place;
        update_listed = ((h.tasks t).working working).update_listed;
        in_turn = ((h.tasks t).working working).in_turn;
        can_be_asked = ((h.tasks t).working working).can_be_asked;
        is_addressed = ((h.tasks t).working working).is_addressed;
      };
    };
    goals = h.goals;
    addresses = addresses_same h.addresses;
  }

  -- ---- open calls and the cloud

  owner_same : (b : Begin) (did : Option Did) (owner : Owner) → IsOwnerKept m b did owner → IsOwnerKept now b did owner
  owner_same b None (Instance i) kept = kept
  owner_same b None (Compile t s) kept = kept
  owner_same b None (Disk d) kept = kept
  owner_same b (Some did) (Instance i) kept = kept
  owner_same b (Some did) (Compile t s) kept = kept
  owner_same b (Some did) (Disk d) kept = kept

  heard_same : (b : Begin) (d : Did) (owner : Owner) → is_answer_heard_of now b d owner ≡ is_answer_heard_of m b d owner
  heard_same b d (Instance i) = refl
  heard_same b d (Compile t s) = refl
  heard_same b d (Disk disk) = refl

  migrated_same : (b : Begin) (it : Call) (did : Option Did)
      → has_migrated now (record { begin = record b { call = it }; did = did })
      ≡ has_migrated m (record { begin = record b { call = it }; did = did })
  migrated_same b (MigrateDisk vm from to) did = refl
  migrated_same b it None = refl
  migrated_same b it (Some d) = refl

  performed_same : (call : OpenCall) → PerformedFacts m call → PerformedFacts now call
  performed_same call h = record {
    fits_owner = h.fits_owner;
    owner_kept = owner_same call.begin call.did call.begin.owner h.owner_kept;
    disks_kept = h.disks_kept;
    migrated = migrated_same call.begin call.begin.call call.did ∙ h.migrated;
    heard_of = (λ j. where_any (λ d. heard_same call.begin d call.begin.owner j) call.did) ∙ h.heard_of;
  }

  -- ---- all

  pub all_halted : Holds m → Holds now
  all_halted h = record {
    known = known_halted h.known;
    cloud = h.cloud;
    effects = record { done_as_told = h.effects.done_as_told; doubts_own = h.effects.doubts_own };
    rows = h.rows;
    slots = h.slots;
    disks = h.disks;
    performed = λ n call is. performed_same call (h.performed n call is);
    outcomes = λ t working. record {
      stands = (h.outcomes t working).stands;
      to_delete = (h.outcomes t working).to_delete;
      is_heard_of = (h.outcomes t working).is_heard_of;
    };
  }
