-- The facts on what is known at a moment at which nothing is under way are those of each opening pair that tells the
-- same of all that outlasts a session.
use Rattle.std.proofs.Common.{◌≡◌, ◌∙◌, ℕ, Bool, true, false, ◌&&◌, ◌||◌, not, Option, Some, None, List, [], ◌∷◌}
use Rattle.std.proofs.Common.{ap, refl, sym, arith}
use Rattle.std.specs.Prelude.{◌==◌, eqb, if◌then◌else◌, is_some, nat_le, nat_lt}
use Rattle.std.specs.List.{list_all, list_any}
use Rattle.std.specs.Option.{option_and_then, option_eq, option_map}
use Rattle.std.specs.Str.{bytes_eq}
use Rattle.std.proofs.lemmas.Bool.{and_from, and_parts, false≢true, le-leb}
use Rattle.bosh_base.specs.declared.entry.Effect.{Effect}
use Rattle.bosh_base.specs.declared.entry.Entry.{Entry}
use Rattle.bosh_base.specs.declared.goal.Goal.{Goal}
use Rattle.bosh_base.specs.declared.inst.Inst.{Inst}
use Rattle.bosh_base.specs.declared.key.Key.{Key}
use Rattle.bosh_base.specs.declared.link.Tie.{Tie}
use Rattle.bosh_base.specs.declared.owner.Owner.{Owner}
use Rattle.bosh_base.specs.declared.owner.Owner.TheVariants.{Instance, Compile, Disk}
use Rattle.bosh_base.specs.declared.snapshot.Orphan.{Orphan}
use Rattle.bosh_base.specs.Cloud.{vm_creation}
use Rattle.bosh_history.specs.Goals.{is_in}
use Rattle.bosh_history.specs.Held.{is_offered, is_open}
use Rattle.bosh_history.specs.Items.{slots_of}
use Rattle.bosh_history.specs.Keys.{stand_after_needs}
use Rattle.bosh_history.specs.Known.{Known, Slot, dep_named, offers_in, want_in}
use Rattle.bosh_history.specs.Links.{is_kept}
use Rattle.bosh_history.specs.Moments.{Moment}
use Rattle.bosh_history.specs.Slots.{is_compiled}
use Rattle.bosh_history.specs.Steps.{nth}
use Rattle.bosh_rows.specs.CallOf.{has_its_machine}
use Rattle.bosh_rows.specs.Same.{same_inst}
use Rattle.bosh_rows.specs.Standing.{same_truth}
use Rattle.laws_effects.specs.Orderly.{is_taken}
use Rattle.laws_facts.specs.Addresses.{AddressFacts, Free, Holder, Machine, Recorded, Wanted, dep_of_holder, dep_of_slot}
use Rattle.laws_facts.specs.Addresses.{has_each_once, holds_address, make_held, may_take_over}
use Rattle.bosh_history.specs.Sound.{addrs, has_addr}
use Rattle.laws_facts.specs.Goals.{GoalFacts, is_offered_now}
use Rattle.laws_facts.specs.KnownFacts.{KnownFacts}
use Rattle.laws_facts.specs.CallFacts.{named}
use Rattle.laws_facts.specs.Lists.{ListFacts, is_built_for}
use Rattle.laws_facts.specs.Makers.{is_in_deployment_of, is_made_in_its_deployment}
use Rattle.laws_facts.specs.Numbers.{NumberFacts, is_of_its_task}
use Rattle.laws_facts.specs.Owners.{doubt_of, works}
use Rattle.laws_facts.specs.Tasks.{has_another_lock, is_open_task, is_within_limits}
use Rattle.bosh_rows.specs.Tied.{is_named_lost}
use Rattle.bosh_rows.specs.SoundSnapshot.{are_distinct}
use Rattle.bosh_history.specs.Recovered.{is_recovering}
use Rattle.bosh_history.specs.Goals.{rows_of}
use Rattle.bosh_history.specs.Orders.{same_slot, slot_cmp}
use Rattle.bosh_history.specs.Words.{is_among}
use Rattle.bosh_base.specs.Inst.{inst_cmp}
use Rattle.std.specs.Ordering.{nat_cmp}
use Rattle.laws_row_facts.specs.Words.{are_ascending, implies, where_any}
use Rattle.laws_slots.specs.Slots.{has_shape}

-- ---- what outlasts a session

-- a compile machine, whatever it is to compile
abbrev pub keyless : Slot → Slot
keyless it = record it { key = None }

-- the second has all of the first that outlasts a session
pub record Outlasts (k new : Known) : Type 0 where
  pub instances : new.instances ≡ k.instances
  pub row : (i : Inst) → new.row i ≡ k.row i
  pub machines : new.machines ≡ k.machines
  pub slot : (t s : ℕ) → option_map keyless (new.slot t s) ≡ option_map keyless (k.slot t s)
  pub orphans : new.orphans ≡ k.orphans
  pub orphan : (d : ℕ) → new.orphan d ≡ k.orphan d
  pub deployments : new.deployments ≡ k.deployments
  pub goal : (dep : List ℕ) → new.goal dep ≡ k.goal dep
  pub shared : (dep : List ℕ) → is_some (k.goal dep) ≡ true → new.shared dep ≡ k.shared dep
  pub built : new.built ≡ k.built
  pub compiled : (key : Key) → is_compiled new key ≡ is_compiled k key
  pub tasks : new.tasks ≡ k.tasks
  pub dep : (t : ℕ) → nat_le 1 t ≡ true → nat_le t k.tasks ≡ true → (new.task t).dep ≡ (k.task t).dep
  pub end : (t : ℕ) → nat_le 1 t ≡ true → nat_le t k.tasks ≡ true → (new.task t).end ≡ (k.task t).end
  pub within_limits : (t : ℕ) (i : Inst) → is_within_limits k t i ≡ true → is_within_limits new t i ≡ true
  pub last_call : new.last_call ≡ k.last_call

-- nothing is under way: no call is open, and a stop came after each task
pub record Rests (m : Moment) : Type 0 where
  pub no_call : (n : ℕ) → m.calls n ≡ None
  pub stopped : m.stopped ≡ m.known.tasks

-- the moment at which a session begins on it
abbrev pub reopened : Known → List Entry → Moment
reopened k effects = record {
  known = k;
  effects = effects;
  calls = λ n. None;
  stopped = k.tasks;
  halted = false;
  heard = λ t v. false;
  early = λ t v. is_named_lost effects v;
}

-- ---- nothing works

and_none : (a : Bool) → (a && false) ≡ false
and_none true = refl
and_none false = refl

none_after : (tasks t : ℕ) (open_now : Bool) → (nat_lt tasks t && (nat_le t tasks && open_now)) ≡ false
none_after tasks t open_now = by (nat_lt tasks t) refl (nat_le t tasks) refl
  where
    by : (after : Bool) → nat_lt tasks t ≡ after → (within : Bool) → nat_le t tasks ≡ within
        → (nat_lt tasks t && (nat_le t tasks && open_now)) ≡ false
    by false after within is = λ j. after j && (nat_le t tasks && open_now)
    by true after false is = (λ j. after j && (is j && open_now))
    by true after true is = absurd (grind (arith, after, is))

pub none_works : (k : Known) (effects : List Entry) (t : ℕ) → works (reopened k effects) t ≡ false
none_works k effects t = none_after k.tasks t (is_open k t)

pub never_so : (b : Bool) → b ≡ false → b ≡ true → ⊥
never_so b none is = false≢true (sym none ∙ is)

implied_never : (a b : Bool) → a ≡ false → implies a b ≡ true
implied_never a b none = λ j. implies (none j) b

-- ---- all but the key of a compile machine

-- what is asked of a compile machine without its key
module _ (k new : Known) (same : Outlasts k new) (t s : ℕ) where
  -- a test that does not look at the key
  pub slot_test : (test : Slot → Bool) → ((it : Slot) → test it ≡ test (keyless it))
      → where_any test (k.slot t s) ≡ true → where_any test (new.slot t s) ≡ true
  slot_test test blind was =
      by (new.slot t s) ∙ (λ j. where_any test (same.slot t s j)) ∙ sym (by (k.slot t s)) ∙ was
    where
      by : (slot : Option Slot) → where_any test slot ≡ where_any test (option_map keyless slot)
      by (Some it) = blind it
      by None = refl

  -- a part that is not the key
  pub slot_part : {X : Type 0} (part : Option Slot → X)
      → ((slot : Option Slot) → part slot ≡ part (option_map keyless slot)) → part (new.slot t s) ≡ part (k.slot t s)
  slot_part part blind = blind (new.slot t s) ∙ (λ j. part (same.slot t s j)) ∙ sym (blind (k.slot t s))

some_keyless : (slot : Option Slot) → is_some slot ≡ is_some (option_map keyless slot)
some_keyless (Some it) = refl
some_keyless None = refl

doubt_keyless : (slot : Option Slot)
    → option_and_then (λ (it : Slot). it.doubt) slot ≡ option_and_then (λ (it : Slot). it.doubt) (option_map keyless slot)
doubt_keyless (Some it) = refl
doubt_keyless None = refl

make_keyless : (slot : Option Slot)
    → option_map (λ (it : Slot). it.make) slot ≡ option_map (λ (it : Slot). it.make) (option_map keyless slot)
make_keyless (Some it) = refl
make_keyless None = refl

dep_keyless : (slot : Option Slot) → dep_of_slot slot ≡ dep_of_slot (option_map keyless slot)
dep_keyless (Some it) = refl
dep_keyless None = refl

-- ---- links

-- where its current goal has the link, what a deployment shares is the same
kept_again : (k new : Known) (same : Outlasts k new) (dep : List ℕ) (ties : List Tie)
    → list_all (is_kept k dep) ties ≡ true → list_all (is_offered_now k dep) ties ≡ true
    → list_all (is_kept new dep) ties ≡ true
kept_again k new same dep [] done offered = refl
kept_again k new same dep (tie ∷ ties) done offered =
    and_from (is_kept new dep tie) _
    (by (bytes_eq tie.provider.dep dep) refl (k.goal tie.provider.dep) refl
    (and_parts (is_kept k dep tie) _ done).0 (and_parts (is_offered_now k dep tie) _ offered).0)
    (kept_again k new same dep ties (and_parts (is_kept k dep tie) _ done).1
    (and_parts (is_offered_now k dep tie) _ offered).1)
  where
    by : (own : Bool) → bytes_eq tie.provider.dep dep ≡ own → (goal : Option Goal) → k.goal tie.provider.dep ≡ goal
        → (own || is_offered tie.provider tie.kind (k.shared tie.provider.dep)) ≡ true
        → (own || is_offered tie.provider tie.kind (offers_in goal)) ≡ true
        → is_kept new dep tie ≡ true
    by true own goal is done offered =
        λ j. own j || is_offered tie.provider tie.kind (new.shared tie.provider.dep)
    by false own (Some goal) is done offered =
        (λ j. own j || is_offered tie.provider tie.kind
        (same.shared tie.provider.dep (λ l. is_some (is l)) j))
        ∙ done
    by false own None is done offered = absurd (false≢true offered)

-- ---- each part of the facts

module _ (m : Moment) (rests : Rests m) (h : KnownFacts m) (new : Known) (same : Outlasts m.known new) where
  abbrev now : Moment
  now = reopened new m.effects

  lists_rest : ListFacts now
  lists_rest = record {
    instances_in_order = (λ j. are_ascending inst_cmp (same.instances j)) ∙ h.lists.instances_in_order;
    own_row = λ i. (λ j. (same.row i j).inst) ∙ h.lists.own_row i;
    bare = λ i none. same.row i ∙ h.lists.bare i (sym (λ j. is_among same_inst i (same.instances j)) ∙ none);
    machines_in_order = (λ j. are_ascending slot_cmp (same.machines j)) ∙ h.lists.machines_in_order;
    machine_listed =
        λ t s. (λ j. same_truth (is_among same_slot (named t s) (same.machines j))
        (slot_part m.known new same t s is_some some_keyless j))
        ∙ h.lists.machine_listed t s;
    orphans_in_order = (λ j. are_ascending nat_cmp (same.orphans j)) ∙ h.lists.orphans_in_order;
    orphan_listed =
        λ d. (λ j. same_truth (is_among eqb d (same.orphans j)) (is_some (same.orphan d j))
        && where_any (λ it. it.disk == d) (same.orphan d j))
        ∙ h.lists.orphan_listed d;
    deployments_apart = (λ j. are_distinct bytes_eq (same.deployments j)) ∙ h.lists.deployments_apart;
    deployment_listed =
        λ dep. (λ j. same_truth (is_among bytes_eq dep (same.deployments j)) (is_some (same.goal dep j)))
        ∙ h.lists.deployment_listed dep;
    key_listed =
        λ key. (λ j. same_truth (list_any (is_built_for key) (same.built j)) (same.compiled key j))
        ∙ h.lists.key_listed key;
    stopped_past = le-leb new.tasks new.tasks (omega arith);
    loss_noted = λ t v. noted (is_named_lost m.effects v);
  }
    where
      noted : (lost : Bool) → implies lost (false || lost) ≡ true
      noted true = refl
      noted false = refl

  pub doubt_rest : (owner : Owner) → doubt_of new owner ≡ doubt_of m.known owner
  doubt_rest (Instance i) = λ j. (same.row i j).doubt
  doubt_rest (Compile t s) =
      slot_part m.known new same t s (λ slot. option_and_then (λ (it : Slot). it.doubt) slot) doubt_keyless
  doubt_rest (Disk d) = λ j. option_and_then (λ (it : Orphan). it.doubt) (same.orphan d j)

  -- a compile machine is of its task
  of_task : (t s : ℕ) → is_of_its_task new t s ≡ true
  of_task t s = by (m.known.slot t s) (new.slot t s) (same.slot t s) (h.numbers.of_tasks t s)
    where
      of : (dep : List ℕ) → (nat_le 1 t && (nat_le t m.known.tasks && option_eq bytes_eq (Some dep) (m.known.task t).dep))
          ≡ true
          → (nat_le 1 t && (nat_le t new.tasks && option_eq bytes_eq (Some dep) (new.task t).dep)) ≡ true
      of dep was =
          let (first, rest) = and_parts (nat_le 1 t) _ was in
          let (within, own) = and_parts (nat_le t m.known.tasks) _ rest in
          (λ j. nat_le 1 t && (nat_le t (same.tasks j)
          && option_eq bytes_eq (Some dep) (same.dep t first within j)))
          ∙ was

      by : (old it : Option Slot) → option_map keyless it ≡ option_map keyless old
          → where_any
          (λ (it : Slot). nat_le 1 t && (nat_le t m.known.tasks && option_eq bytes_eq (Some it.dep) (m.known.task t).dep))
          old ≡ true
          → where_any
          (λ (it : Slot). nat_le 1 t && (nat_le t new.tasks && option_eq bytes_eq (Some it.dep) (new.task t).dep)) it
          ≡ true
      by (Some old) (Some it) equal was =
          let deps : it.dep ≡ old.dep = ap (λ (slot : Option Slot). dep_of_slot slot) equal in
          of it.dep
          ((λ j. nat_le 1 t && (nat_le t m.known.tasks && option_eq bytes_eq (Some (deps j)) (m.known.task t).dep)) ∙ was)
      by None (Some it) equal was = absurd cc
      by old None equal was = refl

  numbers_rest : NumberFacts now
  numbers_rest = record {
    past =
        λ n. (λ j. (nat_le 1 n && nat_le n (same.last_call j))
        || (not (is_some (sym (rests.no_call n) j)) && not (is_taken m.effects n)))
        ∙ h.numbers.past n;
    doubts_past =
        λ owner. (λ j. where_any (λ d. nat_le d.n (same.last_call j)) (doubt_rest owner j)) ∙ h.numbers.doubts_past owner;
    rows_past =
        λ dep. (λ j. list_all (λ want. nat_le want.fresh_after (same.last_call j)) (rows_of (same.goal dep j)))
        ∙ h.numbers.rows_past dep;
    of_tasks = of_task;
    none_opened = implied_by (is_recovering now) _ (le-leb new.tasks new.tasks (omega arith));
  }
    where
      implied_by : (a b : Bool) → b ≡ true → implies a b ≡ true
      implied_by true b is = is
      implied_by false b is = refl

  -- whom machines were made for
  maker : (e : Option Effect) → is_made_in_its_deployment m.known e ≡ true → is_made_in_its_deployment new e ≡ true
  maker None was = refl
  maker (Some e) was = by e.owner was
    where
      by : (owner : Owner) → is_in_deployment_of m.known e.dep owner ≡ true → is_in_deployment_of new e.dep owner ≡ true
      by (Instance i) was = was
      by (Compile t s) was =
          let (first, rest) = and_parts (nat_le 1 t) _ was in
          let (within, own) = and_parts (nat_le t m.known.tasks) _ rest in
          (λ j. nat_le 1 t && (nat_le t (same.tasks j) && bytes_eq e.dep (dep_named (same.dep t first within j))))
          ∙ was
      by (Disk d) was = was

  -- no two open tasks have one lock
  locks : (t other : ℕ) → has_another_lock new t other ≡ true
  locks t other =
      by (nat_le 1 t) refl (nat_le t m.known.tasks) refl (nat_le 1 other) refl (nat_le other m.known.tasks) refl
    where
      gone : (n : ℕ) → (nat_le 1 n && nat_le n m.known.tasks) ≡ false → is_open_task new n ≡ false
      gone n none =
          (λ j. nat_le 1 n && (nat_le n (same.tasks j) && is_open new n))
          ∙ three (nat_le 1 n) (nat_le n m.known.tasks) (is_open new n) none
        where
          three : (a b c : Bool) → (a && b) ≡ false → (a && (b && c)) ≡ false
          three true true c none = absurd (false≢true (sym none))
          three true false c none = refl
          three false b c none = refl

      here : (n : ℕ) → nat_le 1 n ≡ true → nat_le n m.known.tasks ≡ true → is_open_task new n ≡ is_open_task m.known n
      here n first within =
          λ j. nat_le 1 n && (nat_le n (same.tasks j) && not (is_some (same.end n first within j)))

      by : (a : Bool) → nat_le 1 t ≡ a → (b : Bool) → nat_le t m.known.tasks ≡ b → (c : Bool) → nat_le 1 other ≡ c
          → (d : Bool) → nat_le other m.known.tasks ≡ d → has_another_lock new t other ≡ true
      by true a true b true c true d =
          (λ j. implies (here t a b j && (here other c d j
          && option_eq bytes_eq (same.dep t a b j) (same.dep other c d j))) (t == other))
          ∙ (h.tasks t).another_lock other
      by false a b b_is c c_is d d_is =
          λ j. implies (gone t (λ l. a l && nat_le t m.known.tasks) j
          && (is_open_task new other && option_eq bytes_eq (new.task t).dep (new.task other).dep)) (t == other)
      by true a false b c c_is d d_is =
          λ j. implies (gone t (λ l. a l && b l) j
          && (is_open_task new other && option_eq bytes_eq (new.task t).dep (new.task other).dep)) (t == other)
      by true a true b false c d d_is =
          (λ j. implies (is_open_task new t
          && (gone other (λ l. c l && nat_le other m.known.tasks) j
          && option_eq bytes_eq (new.task t).dep (new.task other).dep)) (t == other))
          ∙ (λ j. implies (and_none (is_open_task new t) j) (t == other))
      by true a true b true c false d =
          (λ j. implies (is_open_task new t
          && (gone other (λ l. c l && d l) j && option_eq bytes_eq (new.task t).dep (new.task other).dep)) (t == other))
          ∙ (λ j. implies (and_none (is_open_task new t) j) (t == other))

  goal_rest : (dep : List ℕ) (goal : Goal) → new.goal dep ≡ Some goal → GoalFacts new dep goal
  goal_rest dep goal is = record {
    of_dep = was.of_dep;
    sound_rows = was.sound_rows;
    can_be_compiled = (λ j. stand_after_needs (λ key. same.compiled key j) [] goal.keys) ∙ was.can_be_compiled;
    has_slots = was.has_slots;
    own_offers = was.own_offers;
    offered_when_done = kept_again m.known new same dep goal.ties was.offered_when_done was.offered_now;
    offered_now =
        (λ j. list_all
        (λ tie. bytes_eq tie.provider.dep dep
        || is_offered tie.provider tie.kind (offers_in (same.goal tie.provider.dep j))) goal.ties)
        ∙ was.offered_now;
  }
    where
      was : GoalFacts m.known dep goal
      was = h.goals dep goal (sym (same.goal dep) ∙ is)

  -- ---- addresses

  make_rest : (x : Holder) (a : ℕ) → holds_address now x a ≡ true → make_held now x ≡ make_held m x
  make_rest (Recorded i) a held = λ j. (same.row i j).make
  make_rest (Machine t s) a held =
      slot_part m.known new same t s (λ slot. option_map (λ (it : Slot). it.make) slot) make_keyless
  make_rest (Wanted i) a held = λ j. option_map (λ want. want.make) (want_in (same.goal i.dep j) i)
  make_rest (Free t s) a held =
      absurd (false≢true (sym (λ j. has_addr a (if none_works new m.effects t j then nth s (slots_of (new.task t).goal)
      else None)) ∙ held))

  held_rest : (x : Holder) (a : ℕ) → holds_address now x a ≡ true → holds_address m x a ≡ true
  held_rest x a held = sym (λ j. has_addr a (make_rest x a held j)) ∙ held

  deps_rest : (x : Holder) (a : ℕ) → holds_address now x a ≡ true → dep_of_holder new x ≡ dep_of_holder m.known x
  deps_rest (Recorded i) a held = refl
  deps_rest (Machine t s) a held = slot_part m.known new same t s dep_of_slot dep_keyless
  deps_rest (Wanted i) a held = refl
  deps_rest (Free t s) a held =
      absurd (false≢true (sym (λ j. has_addr a (if none_works new m.effects t j then nth s (slots_of (new.task t).goal)
      else None)) ∙ held))

  each_once_rest : (x : Holder) → has_each_once now x ≡ true
  each_once_rest (Recorded i) =
      (λ j. where_any (λ make. are_distinct eqb (addrs make)) (same.row i j).make) ∙ h.addresses.each_once (Recorded i)
  each_once_rest (Machine t s) =
      (λ j. where_any (λ make. are_distinct eqb (addrs make))
      (slot_part m.known new same t s (λ slot. option_map (λ (it : Slot). it.make) slot) make_keyless j))
      ∙ h.addresses.each_once (Machine t s)
  each_once_rest (Wanted i) =
      (λ j. where_any (λ make. are_distinct eqb (addrs make))
      (option_map (λ want. want.make) (want_in (same.goal i.dep j) i)))
      ∙ h.addresses.each_once (Wanted i)
  each_once_rest (Free t s) =
      λ j. where_any (λ make. are_distinct eqb (addrs make))
      (if none_works new m.effects t j then nth s (slots_of (new.task t).goal) else None)

  take_over_rest : (a : ℕ) (x y : Holder) → holds_address now x a ≡ true → holds_address now y a ≡ true
      → may_take_over now x y ≡ true
  take_over_rest a (Recorded i) (Wanted j) here there =
      (λ l. same_inst i j || not (is_in (same.goal i.dep l) i))
      ∙ h.addresses.take_over a (Recorded i) (Wanted j) (held_rest (Recorded i) a here) (held_rest (Wanted j) a there)
  take_over_rest a (Recorded i) (Free t s) here there =
      absurd (false≢true (sym (λ j. has_addr a (if none_works new m.effects t j then nth s (slots_of (new.task t).goal)
      else None)) ∙ there))
  take_over_rest a (Machine t s) (Free other slot) here there =
      absurd (false≢true (sym (λ j. has_addr a
      (if none_works new m.effects other j then nth slot (slots_of (new.task other).goal) else None)) ∙ there))
  take_over_rest a (Machine t s) (Wanted j) here there = λ l. not (none_works new m.effects t l)
  take_over_rest a (Recorded i) (Recorded j) here there = refl
  take_over_rest a (Recorded i) (Machine t s) here there = refl
  take_over_rest a (Machine t s) (Recorded i) here there = refl
  take_over_rest a (Machine t s) (Machine other slot) here there = refl
  take_over_rest a (Wanted i) y here there = refl
  take_over_rest a (Free t s) y here there = refl

  addresses_rest : AddressFacts now
  addresses_rest = record {
    each_once = each_once_rest;
    one_deployment =
        λ a x y here there. (λ j. bytes_eq (deps_rest x a here j) (deps_rest y a there j))
        ∙ h.addresses.one_deployment a x y (held_rest x a here) (held_rest y a there);
    one_recorded = λ a x y here there. h.addresses.one_recorded a x y (held_rest x a here) (held_rest y a there);
    one_wanted = λ a x y here there. h.addresses.one_wanted a x y (held_rest x a here) (held_rest y a there);
    take_over = take_over_rest;
  }

  -- ---- all

  pub facts_rest : KnownFacts now
  facts_rest = record {
    lists = lists_rest;
    numbers = numbers_rest;
    makers = λ v. maker (vm_creation m.effects v) (h.makers v);
    machines = λ i. (λ j. has_its_machine (same.row i j)) ∙ h.machines i;
    shapes = λ t s. slot_test m.known new same t s has_shape (λ it. refl) (h.shapes t s);
    slots_work = λ t s. record {
      of_goal = implied_never (works now t) _ (none_works new m.effects t);
      doubt_open =
          implied_never (works now t && not (is_some (new.task t).failed)) _
          (λ j. none_works new m.effects t j && not (is_some (new.task t).failed));
      alone =
          λ other. implied_never (works now t && not (s == other)) _
          (λ j. none_works new m.effects t j && not (s == other));
      compiled = implied_never (works now t) _ (none_works new m.effects t);
    };
    calls = λ n call is. absurd cc;
    tasks = λ t. record {
      another_lock = locks t;
      within_limits = λ i. same.within_limits t i ((h.tasks t).within_limits i);
      working = λ working. absurd (never_so (works now t) (none_works new m.effects t) working);
    };
    goals = goal_rest;
    addresses = addresses_rest;
  }
