-- Who holds the addresses of what is held, and that those of the rows of a current goal are free.
use Rattle.std.proofs.Common.{◌≡◌, ◌∙◌, ℕ, suc, zero, ◌+◌, ◌≤◌, Bool, true, false, ◌&&◌, ◌==◌, not, List, [], ◌∷◌, ◌++◌}
use Rattle.std.proofs.Common.{Option, Some, None, ap, arith, filter, map, refl, subst, sym}
use Rattle.std.specs.Prelude.{find, nat_lt, if◌then◌else◌}
use Rattle.std.specs.List.{AllByRecursion, list_all, list_any}
use Rattle.std.specs.Option.{option_map}
use Rattle.std.specs.Str.{bytes_eq}
use Rattle.std.proofs.lemmas.Bool.{and_parts, eqb-true, not-true, true≢false}
use Rattle.std.proofs.lemmas.Bool.Decides.{nat_tests}
use Rattle.bosh_base.specs.Cloud.{numbers_to}
use Rattle.bosh_base.specs.declared.addr.NetAddr.{NetAddr}
use Rattle.bosh_base.specs.declared.goal.Goal.{Goal}
use Rattle.bosh_base.specs.declared.goal.GoalRow.{GoalRow}
use Rattle.bosh_base.specs.declared.inst.Inst.{Inst}
use Rattle.bosh_base.specs.declared.make.Make.{Make}
use Rattle.bosh_base.specs.declared.owner.Owner.{Owner}
use Rattle.bosh_base.specs.declared.owner.Owner.TheVariants.{Compile, Instance}
use Rattle.bosh_base.specs.declared.view.Held.{Held}
use Rattle.bosh_history.specs.Goals.{inst_of}
use Rattle.bosh_history.specs.Held as held
use Rattle.bosh_history.specs.Held.{addresses_of, is_open, numbered, of_make, view}
use Rattle.bosh_history.specs.Items.{slots_of}
use Rattle.bosh_history.specs.Known.{Known, Slot, SlotName, dep_named, dep_of_task, want_in}
use Rattle.bosh_history.specs.Moments.{Moment, dep_of}
use Rattle.bosh_history.specs.Recovered.{is_recovering}
use Rattle.bosh_history.specs.Sound.{has_addr, has_plan, is_held}
use Rattle.bosh_history.specs.Steps.{nth}
use Rattle.bosh_rows.specs.Same.{same_inst}
use Rattle.bosh_rows.specs.SoundSnapshot.{are_distinct}
use Rattle.laws_addresses.proofs.HeldLemmas.{dep_as, machine_dep}
use Rattle.laws_facts.proofs.WorkLemmas.{none_to}
use Rattle.laws_facts.specs.Addresses.{Holder, dep_of_holder, dep_of_slot, holds_address, make_held}
use Rattle.laws_facts.specs.Addresses.Holder.{Free, Machine, Recorded, Wanted}
use Rattle.laws_facts.specs.Goals.{GoalFacts}
use Rattle.laws_facts.specs.KnownFacts.{KnownFacts}
use Rattle.laws_facts.specs.Owners.{works}
use Rattle.laws_goals.proofs.ListLemmas.{all_append, all_everywhere, all_flat, all_map, all_mapped, all_unmapped}
use Rattle.laws_goals.proofs.ListLemmas.{none_pass, none_passes, passes}
use Rattle.bosh_pool.proofs.ListLemmas.{Pairs, recursion_with}
use Rattle.laws_stands.proofs.DeploymentLemmas.{bytes_is}
use Rattle.laws_stands_on.proofs.CallLemmas.{inst_flip}
use Rattle.laws_views.proofs.OrderlyLemmas.{each_addr}
use Rattle.laws_views.specs.Viewed.{CanBeViewed}
use Rattle.bosh_rows.proofs.SameLemmas.{itself}

-- ---- lists

-- what is true of each that passes
pub all_passing : {A : Type 0} (P : A → Type 0) (p : A → Bool) (xs : List A) → ((x : A) → p x ≡ true → P x)
    → AllByRecursion P (filter p xs)
all_passing P p [] each = tt
all_passing {A} P p (x ∷ xs) each = by (p x) refl (all_passing P p xs each)
  where
    by : (b : Bool) → p x ≡ b → AllByRecursion P (filter p xs) → AllByRecursion P (if b then x ∷ filter p xs else filter p xs)
    by true is more = (each x is, more)
    by false is more = more

none_passing : {A : Type 0} (p q : A → Bool) (xs : List A) → AllByRecursion (λ x. q x ≡ true → p x ≡ false) xs
    → AllByRecursion (λ x. p x ≡ false) (filter q xs)
none_passing p q [] each = tt
none_passing {A} p q (x ∷ xs) (here, rest) = by (q x) refl (none_passing p q xs rest)
  where
    by : (b : Bool) → q x ≡ b → AllByRecursion (λ x. p x ≡ false) (filter q xs)
        → AllByRecursion (λ x. p x ≡ false) (if b then x ∷ filter q xs else filter q xs)
    by true is more = (here is, more)
    by false is more = more

-- pairs of items of each of which something is true
pub pairs_both : {A : Type 0} (W : A → Type 0) (R : A → A → Type 0) (xs : List A) → AllByRecursion W xs → Pairs R xs
    → Pairs (λ x y. W x × W y × R x y) xs
pairs_both W R [] all pairs = tt
pairs_both W R (x ∷ xs) (here, all) (first, pairs) =
    (recursion_with W (R x) (λ y. W x × W y × R x y) xs (λ y w r. (here, w, r)) all first, pairs_both W R xs all pairs)

-- each row of distinct instances is found by its instance
found_self : (rows : List GoalRow) → are_distinct same_inst (map inst_of rows) ≡ true
    → AllByRecursion (λ (want : GoalRow). find (λ (it : GoalRow). same_inst want.inst it.inst) rows ≡ Some want) rows
found_self [] distinct = tt
found_self (want ∷ rows) distinct =
    let (apart, rest) = and_parts (not (list_any (same_inst want.inst) (map inst_of rows)))
    (are_distinct same_inst (map inst_of rows)) distinct in (
      (λ i. if itself want.inst i then Some want else find (λ (it : GoalRow). same_inst want.inst it.inst) rows),
      recursion_with (λ (other : GoalRow). same_inst want.inst other.inst ≡ false)
          (λ (other : GoalRow). find (λ (it : GoalRow). same_inst other.inst it.inst) rows ≡ Some other)
          (λ (other : GoalRow). find (λ (it : GoalRow). same_inst other.inst it.inst) (want ∷ rows) ≡ Some other) rows
          (λ other differ there. (λ i. if (inst_flip want.inst other.inst ∙ differ) i then Some want
          else find (λ (it : GoalRow). same_inst other.inst it.inst) rows) ∙ there)
          (all_unmapped (λ i. same_inst want.inst i ≡ false) inst_of rows
          (none_passes (same_inst want.inst) (map inst_of rows) (not-true (list_any (same_inst want.inst) (map inst_of rows)) apart)))
          (found_self rows rest),
    )

-- ---- at a moment at which no interrupted task is left

module _ (m : Moment) (facts : KnownFacts m) where
  abbrev k : Known
  k = m.known

  -- an address is held by someone of the deployment of its owner
  pub record IsHeldBy (it : Held) : Type 0 where
    pub holder : Holder
    pub holds : holds_address m holder it.addr.0 ≡ true
    pub dep_is : dep_of_holder m.known holder ≡ dep_of m.known it.owner

  -- those of a make
  of_holder : (owner : Owner) (holder : Holder) (make : Make) → make_held m holder ≡ Some make
      → dep_of_holder k holder ≡ dep_of k owner → AllByRecursion IsHeldBy (addresses_of owner make)
  of_holder owner holder make is dep =
      all_mapped IsHeldBy (λ (it : NetAddr). record { owner = owner; net = it.net; addr = it.addr }) make.nets
      (each_kept make.nets (λ a there. ap (has_addr a) is ∙ there))
    where
      each_kept : (nets : List NetAddr)
          → ((a : ℕ) → list_any (λ b. b == a) (map (λ (it : NetAddr). it.addr.0) nets) ≡ true → holds_address m holder a ≡ true)
          → AllByRecursion (λ (it : NetAddr). IsHeldBy (record { owner = owner; net = it.net; addr = it.addr })) nets
      each_kept nets each =
          all_map (λ (it : NetAddr). holds_address m holder it.addr.0 ≡ true)
          (λ (it : NetAddr). IsHeldBy (record { owner = owner; net = it.net; addr = it.addr })) nets
          (λ net has. record { holder = holder; holds = has; dep_is = dep })
          (each_addr (λ a. holds_address m holder a ≡ true) nets each)

  rows_held_by : AllByRecursion IsHeldBy (held.held_by_rows k)
  rows_held_by = all_flat IsHeldBy (λ i. of_make (Instance i) (k.row i).make) k.instances
      (all_everywhere (λ i. AllByRecursion IsHeldBy (of_make (Instance i) (k.row i).make)) k.instances
      (λ i. by i (k.row i).make refl))
    where
      by : (i : Inst) (make : Option Make) → (k.row i).make ≡ make → AllByRecursion IsHeldBy (of_make (Instance i) make)
      by i (Some make) is = of_holder (Instance i) (Recorded i) make is refl
      by i None is = tt

  -- ---- rows of current goals

  -- a row of a current goal is what is wanted of its instance
  pub rows_wanted : (d : List ℕ) (goal : Goal) → k.goal d ≡ Some goal
      → AllByRecursion (λ (want : GoalRow). make_held m (Wanted want.inst) ≡ Some want.make) goal.rows
  rows_wanted d goal is =
      let of_goal : GoalFacts k d goal = facts.goals d goal is in
      let (distinct, planned) = and_parts (are_distinct same_inst (map inst_of goal.rows))
      (list_all (λ (want : GoalRow). bytes_eq want.inst.dep goal.dep && has_plan goal want) goal.rows) of_goal.sound_rows in
      recursion_with (λ (want : GoalRow). (bytes_eq want.inst.dep goal.dep && has_plan goal want) ≡ true)
      (λ (want : GoalRow). find (λ (it : GoalRow). same_inst want.inst it.inst) goal.rows ≡ Some want)
      (λ (want : GoalRow). make_held m (Wanted want.inst) ≡ Some want.make) goal.rows
      (λ want own found. ap (λ goal. option_map (λ (want : GoalRow). want.make) (want_in goal want.inst))
      (ap k.goal (bytes_is want.inst.dep goal.dep (and_parts (bytes_eq want.inst.dep goal.dep) (has_plan goal want) own).0
      ∙ of_goal.of_dep) ∙ is)
      ∙ ap (option_map (λ (want : GoalRow). want.make)) found)
      (passes (λ (want : GoalRow). bytes_eq want.inst.dep goal.dep && has_plan goal want) goal.rows planned)
      (found_self goal.rows distinct)

  goals_held_by : AllByRecursion IsHeldBy (held.held_by_goals k)
  goals_held_by = all_flat IsHeldBy (λ d. held.held_by_goal (k.goal d)) k.deployments
      (all_everywhere (λ d. AllByRecursion IsHeldBy (held.held_by_goal (k.goal d))) k.deployments (λ d. by d (k.goal d) refl))
    where
      by : (d : List ℕ) (goal : Option Goal) → k.goal d ≡ goal → AllByRecursion IsHeldBy (held.held_by_goal goal)
      by d (Some goal) is =
          all_flat IsHeldBy (λ (want : GoalRow). addresses_of (Instance want.inst) want.make) goal.rows
          (all_map (λ (want : GoalRow). make_held m (Wanted want.inst) ≡ Some want.make)
          (λ (want : GoalRow). AllByRecursion IsHeldBy (addresses_of (Instance want.inst) want.make)) goal.rows
          (λ want wanted. of_holder (Instance want.inst) (Wanted want.inst) want.make wanted refl) (rows_wanted d goal is))
      by d None is = tt

  -- ---- compile machines

  machines_held_by : AllByRecursion IsHeldBy (held.held_by_machines k)
  machines_held_by = all_flat IsHeldBy (λ (name : SlotName). held.held_by_slot name (k.slot name.task name.slot)) k.machines
      (all_everywhere (λ (name : SlotName). AllByRecursion IsHeldBy (held.held_by_slot name (k.slot name.task name.slot)))
      k.machines (λ name. by name (k.slot name.task name.slot) refl))
    where
      by : (name : SlotName) (slot : Option Slot) → k.slot name.task name.slot ≡ slot
          → AllByRecursion IsHeldBy (held.held_by_slot name slot)
      by name (Some it) is =
          of_holder (Compile name.task name.slot) (Machine name.task name.slot) it.make
          (ap (option_map (λ (it : Slot). it.make)) is)
          (ap dep_of_slot is ∙ sym (dep_as k name.task it.dep (machine_dep m name.task name.slot it facts is)))
      by name None is = tt

  -- ---- slots of open tasks

  module _ (viewed : CanBeViewed m.known) (recovered : is_recovering m ≡ false) where
    -- an open task works
    open_works : (t : ℕ) → 1 ≤ t → t ≤ k.tasks → is_open k t ≡ true → works m t ≡ true
    open_works t low high is = by (nat_lt m.stopped t) refl
      where
        by : (b : Bool) → nat_lt m.stopped t ≡ b → works m t ≡ true
        by true after = grind (arith, nat_tests, after, high, is)
        by false before =
            absurd (true≢false (sym is ∙ none_to (is_open k) m.stopped t recovered low (grind (arith, nat_tests, before))))

    slots_held_by : AllByRecursion IsHeldBy (held.held_by_slots k)
    slots_held_by = all_flat IsHeldBy (held.held_by_task k) (filter (is_open k) (numbers_to k.tasks))
        (up_to (numbers_to k.tasks) (within k.tasks k.tasks (omega arith)))
      where
        within : (n last : ℕ) → n ≤ last → AllByRecursion (λ t. (1 ≤ t) × (t ≤ last)) (numbers_to n)
        within zero last low = tt
        within (suc n) last low =
            all_append (λ t. (1 ≤ t) × (t ≤ last)) (numbers_to n) (suc n ∷ []) (within n last (omega arith))
            ((omega arith, low), tt)

        of_slots : (t : ℕ) → (own : List Make) → ((s : ℕ) (make : Make) → nth s own ≡ Some make
            → make_held m (Free t s) ≡ Some make) → (n : ℕ) (rest : List Make)
            → ((s : ℕ) → nth (n + s) own ≡ nth s rest)
            → AllByRecursion IsHeldBy (numbered n (λ s make. addresses_of (Compile t s) make) rest)
        of_slots t own made n [] there = tt
        of_slots t own made n (make ∷ rest) there =
            all_append IsHeldBy (addresses_of (Compile t n) make)
            (numbered (n + 1) (λ s make. addresses_of (Compile t s) make) rest)
            (of_holder (Compile t n) (Free t n) make
            (made n make (ap (λ s. nth s own) (sym (let e : n + 0 ≡ n = omega arith in e)) ∙ there 0)) refl)
            (of_slots t own made (n + 1) rest
            (λ s. ap (λ s. nth s own) (let e : (n + 1) + s ≡ n + suc s = omega arith in e) ∙ there (suc s)))

        of_task : (t : ℕ) → (1 ≤ t) × (t ≤ k.tasks) → is_open k t ≡ true → AllByRecursion IsHeldBy (held.held_by_task k t)
        of_task t (low, high) is = by (k.task t).dep refl
          where
            working : works m t ≡ true
            working = open_works t low high is

            by : (dep : Option (List ℕ)) → (k.task t).dep ≡ dep → AllByRecursion IsHeldBy (held.held_by_task k t)
            by (Some dep) dep_is =
                of_slots t (slots_of (k.goal (dep_of_task k t)))
                (λ s make there. (λ i. if working i then nth s (slots_of (k.task t).goal) else None)
                ∙ ap (λ goal. nth s (slots_of goal)) (sym (ap k.goal (dep_as k t dep dep_is)
                ∙ ((facts.tasks t).working working).current dep dep_is)) ∙ there)
                0 (slots_of (k.goal (dep_of_task k t))) (λ s. ap (λ s. nth s (slots_of (k.goal (dep_of_task k t))))
                (let e : 0 + s ≡ s = omega arith in e))
            by None dep_is =
                subst (λ goal. AllByRecursion IsHeldBy (numbered 0 (λ s make. addresses_of (Compile t s) make) (slots_of goal)))
                (sym (ap (λ dep. k.goal (dep_named dep)) dep_is ∙ viewed.named)) tt

        up_to : (ts : List ℕ) → AllByRecursion (λ t. (1 ≤ t) × (t ≤ k.tasks)) ts
            → AllByRecursion (λ t. AllByRecursion IsHeldBy (held.held_by_task k t)) (filter (is_open k) ts)
        up_to [] all = tt
        up_to (t ∷ ts) (here, rest) = by (is_open k t) refl (up_to ts rest)
          where
            by : (b : Bool) → is_open k t ≡ b
                → AllByRecursion (λ t. AllByRecursion IsHeldBy (held.held_by_task k t)) (filter (is_open k) ts)
                → AllByRecursion (λ t. AllByRecursion IsHeldBy (held.held_by_task k t))
                (if b then t ∷ filter (is_open k) ts else filter (is_open k) ts)
            by true is more = (of_task t here is, more)
            by false is more = more

    -- ---- all

    pub all_held_by : AllByRecursion IsHeldBy (held.held k)
    all_held_by =
        all_append IsHeldBy (held.held_by_rows k ++ held.held_by_goals k ++ held.held_by_machines k) (held.held_by_slots k)
        (all_append IsHeldBy (held.held_by_rows k ++ held.held_by_goals k) (held.held_by_machines k)
        (all_append IsHeldBy (held.held_by_rows k) (held.held_by_goals k) rows_held_by goals_held_by) machines_held_by)
        slots_held_by

    -- nobody of another deployment holds an address that a row of the current goal of this one has
    pub none_elsewhere : (dep : List ℕ) (i : Inst) (a : ℕ) → i.dep ≡ dep → holds_address m (Wanted i) a ≡ true
        → is_held (held.held_elsewhere k dep) a ≡ false
    none_elsewhere dep i a own wanted =
        none_pass (λ (it : Held). it.addr.0 == a) (held.held_elsewhere k dep)
        (none_passing (λ (it : Held). it.addr.0 == a) (λ (it : Held). not (bytes_eq (dep_of k it.owner) dep)) (held.held k)
        (all_map IsHeldBy (λ (it : Held). not (bytes_eq (dep_of k it.owner) dep) ≡ true → (it.addr.0 == a) ≡ false) (held.held k)
        differs all_held_by))
      where
        differs : (it : Held) → IsHeldBy it → not (bytes_eq (dep_of k it.owner) dep) ≡ true → (it.addr.0 == a) ≡ false
        differs it by_it other = of (it.addr.0 == a) refl
          where
            of : (b : Bool) → (it.addr.0 == a) ≡ b → (it.addr.0 == a) ≡ false
            of false is = is
            of true is =
                let same : bytes_eq (dep_of_holder k by_it.holder) i.dep ≡ true =
                facts.addresses.one_deployment a by_it.holder (Wanted i)
                (ap (holds_address m by_it.holder) (sym (eqb-true it.addr.0 a is)) ∙ by_it.holds) wanted in
                absurd (true≢false (sym other
                ∙ ap not ((λ j. bytes_eq (sym by_it.dep_is j) (sym own j)) ∙ same)))
