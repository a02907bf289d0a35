-- The addresses of machines that compile: nobody has them, and no two have one.
use Rattle.std.proofs.Common.{◌≡◌, ◌∙◌, ℕ, zero, suc, ◌≤◌, Bool, false, ◌||◌, ◌==◌, not, eqb, List, [], ◌∷◌, ◌++◌, Option, Some, None, Ok, length, map, min, ap, refl, sym, subst, arith}
use Rattle.std.specs.List.{AllByRecursion, flat_map, list_any}
use Rattle.std.proofs.lemmas.Bool.{and_parts, not-true, or_parts}
use Rattle.bosh_bands.specs.Least.{least}
use Rattle.bosh_bands.proofs.LeastLemmas.{least-is}
use Rattle.bosh_base.specs.Plan.{is_dynamic}
use Rattle.bosh_base.specs.declared.addr.Addr.{Addr}
use Rattle.bosh_base.specs.declared.addr.NetAddr.{NetAddr}
use Rattle.bosh_base.specs.declared.goal.Goal.{Goal}
use Rattle.bosh_base.specs.declared.goal.GoalRow.{GoalRow}
use Rattle.bosh_base.specs.declared.make.Make.{Make}
use Rattle.bosh_base.specs.declared.plan.NetPlan.{NetPlan}
use Rattle.bosh_base.specs.declared.row.Row.{Row}
use Rattle.bosh_base.specs.declared.view.Held.{Held}
use Rattle.bosh_base.specs.declared.view.View.{View}
use Rattle.bosh_cloudcfg.specs.declared.config.Config.{Config}
use Rattle.bosh_goal.proofs.InstanceLemmas.{never, same-value}
use Rattle.bosh_history.specs.Sound.{addrs, has_addr, is_held}
use Rattle.bosh_history.specs.Sound as sound
use Rattle.bosh_history.specs.Words.{holds, is_among}
use Rattle.bosh_pool.proofs.ListLemmas.{Pairs}
use Rattle.bosh_pool.specs.Fixed.{same_addr}
use Rattle.bosh_pool.specs.Spare.{is_spare, spares, with_others}
use Rattle.bosh_pool.specs.declared.fault.PoolFault.TheVariants.{Empty}
use Rattle.bosh_slots.specs.Slots.{addrs_for, goal_addrs, goal_row_addrs, held_addr, held_addrs, net_addr, row_addrs, slot, slots, with_addrs}
use Rattle.bosh_manifest_names.specs.declared.fault.GoalFault.TheVariants.{Pool}
use Rattle.laws_goals.specs.Free.{is_used}
use Rattle.laws_goals.proofs.ListLemmas.{all_map, any_append, any_flat, any_map, eqb_flip}

abbrev pub number : Addr → ℕ
number a = a.0

-- ---- spare addresses

module _ (plan : NetPlan) (net az : List ℕ) where
  abbrev next : ℕ → (Addr → Bool) → Option Addr → List Addr
  next most used found = with_others (λ addr. spares plan net az most (λ other. used other || same_addr other addr)) found

  found-unused : (used : Addr → Bool) (addr : Addr) → least (is_spare plan net az used) ≡ Some addr → used addr ≡ false
  found-unused used addr h = not-true (used addr) (and_parts (is_dynamic plan net az addr) (not (used addr)) (least-is (is_spare plan net az used) addr h).passes).1

  pub spares-unused : (most : ℕ) (used : Addr → Bool) → AllByRecursion (λ addr. used addr ≡ false) (spares plan net az most used)
  spares-unused zero used = tt
  spares-unused (suc most) used = by (least (is_spare plan net az used)) refl (λ addr. spares-unused most (λ other. used other || same_addr other addr))
    where
      by : (found : Option Addr) → least (is_spare plan net az used) ≡ found
          → ((addr : Addr) → AllByRecursion (λ other. (used other || same_addr other addr) ≡ false) (spares plan net az most (λ other. used other || same_addr other addr)))
          → AllByRecursion (λ addr. used addr ≡ false) (next most used found)
      by None e later = tt
      by (Some addr) e later = (
        found-unused used addr e,
        all_map (λ other. (used other || same_addr other addr) ≡ false) (λ other. used other ≡ false) (spares plan net az most (λ other. used other || same_addr other addr))
            (λ other h. (or_parts (used other) (same_addr other addr) h).0) (later addr),
      )

  pub spares-differ : (most : ℕ) (used : Addr → Bool) → Pairs (λ one other. same_addr one other ≡ false) (spares plan net az most used)
  spares-differ zero used = tt
  spares-differ (suc most) used = by (least (is_spare plan net az used)) (λ addr. spares-differ most (λ other. used other || same_addr other addr))
    where
      by : (found : Option Addr) → ((addr : Addr) → Pairs (λ one other. same_addr one other ≡ false) (spares plan net az most (λ other. used other || same_addr other addr)))
          → Pairs (λ one other. same_addr one other ≡ false) (next most used found)
      by None later = tt
      by (Some addr) later = (
        all_map (λ other. (used other || same_addr other addr) ≡ false) (λ other. same_addr addr other ≡ false) (spares plan net az most (λ other. used other || same_addr other addr))
            (λ other h. eqb_flip addr.0 other.0 ∙ (or_parts (used other) (same_addr other addr) h).1) (spares-unused most (λ other. used other || same_addr other addr)),
        later addr,
      )

-- ---- what is held

-- an address is that of a net address, by its number
any-net : (a : Addr) (nets : List NetAddr) → list_any (same_addr a) (map net_addr nets) ≡ list_any (λ b. b == a.0) (map (λ it. it.addr.0) nets)
any-net a nets = any_map (same_addr a) net_addr nets ∙ (ap (λ (test : NetAddr → Bool). list_any test nets) (λ i it. eqb_flip a.0 it.addr.0 i) ∙ sym (any_map (λ b. b == a.0) (λ it. it.addr.0) nets))

any-held : (a : Addr) (helds : List Held) → list_any (same_addr a) (map held_addr helds) ≡ is_held helds a.0
any-held a helds = any_map (same_addr a) held_addr helds ∙ ap (λ (test : Held → Bool). list_any test helds) (λ i it. eqb_flip a.0 it.addr.0 i)

pub any-make : (a : Addr) (row : Row) (make : Option Make) → row.make ≡ make → list_any (same_addr a) (row_addrs row) ≡ has_addr a.0 row.make
any-make a row None e = ap (λ (m : Option Make). list_any (same_addr a) (row_addrs (record row { make = m }))) e ∙ ap (has_addr a.0) (sym e)
any-make a row (Some make) e = ap (λ (m : Option Make). list_any (same_addr a) (row_addrs (record row { make = m }))) e ∙ (any-net a make.nets ∙ ap (has_addr a.0) (sym e))

any-rows : (a : Addr) (rows : List Row) → list_any (same_addr a) (flat_map row_addrs rows) ≡ list_any (λ row. has_addr a.0 row.make) rows
any-rows a rows = any_flat (same_addr a) row_addrs rows ∙ ap (λ (test : Row → Bool). list_any test rows) (λ i row. any-make a row row.make refl i)

any-wants : (a : Addr) (rows : List GoalRow) → list_any (same_addr a) (flat_map goal_row_addrs rows) ≡ is_among eqb a.0 (flat_map (λ want. addrs want.make) rows)
any-wants a rows =
    any_flat (same_addr a) goal_row_addrs rows
    ∙ (ap (λ (test : GoalRow → Bool). list_any test rows) (λ i want. each want i)
    ∙ sym (any_flat (eqb a.0) (λ want. addrs want.make) rows))
  where
    each : (want : GoalRow) → list_any (same_addr a) (goal_row_addrs want) ≡ list_any (eqb a.0) (addrs want.make)
    each want = any_map (same_addr a) net_addr want.make.nets ∙ sym (any_map (eqb a.0) (λ it. it.addr.0) want.make.nets)

any-goal : (a : Addr) (goal : Option Goal) → list_any (same_addr a) (goal_addrs goal) ≡ holds (λ current. is_among eqb a.0 (sound.row_addrs current)) goal
any-goal a None = refl
any-goal a (Some goal) = any-wants a goal.rows

-- an address is held, as the slots are told
pub any-view : (a : Addr) (view : View) → list_any (same_addr a) (held_addrs view) ≡ is_used view a.0
any-view a view =
    any_append (same_addr a) (map held_addr view.taken) (map held_addr view.leftover ++ (flat_map row_addrs view.rows ++ goal_addrs view.goal))
    ∙ (λ i. any-held a view.taken i || (any_append (same_addr a) (map held_addr view.leftover) (flat_map row_addrs view.rows ++ goal_addrs view.goal)
    ∙ (λ j. any-held a view.leftover j || (any_append (same_addr a) (flat_map row_addrs view.rows) (goal_addrs view.goal)
    ∙ (λ k. any-rows a view.rows k || any-goal a view.goal k)) j)) i)

-- ---- slots

-- what is known of the slots of a goal that has the given addresses
pub record AreSpare (view : View) (own : List Addr) (makes : List Make) : Type 0 where
  pub spare : List Addr
  pub numbers : flat_map addrs makes ≡ map number spare
  pub differ : Pairs (λ one other. same_addr one other ≡ false) spare
  pub unused : AllByRecursion (λ a. is_used view a.0 ≡ false) spare
  pub others : AllByRecursion (λ a. list_any (same_addr a) own ≡ false) spare

slot-numbers : (config : Config) (spare : List Addr) → flat_map addrs (map (slot config) spare) ≡ map number spare
slot-numbers config [] = refl
slot-numbers config (a ∷ spare) = ap (λ more. a.0 ∷ more) (slot-numbers config spare)

with-spare : (config : Config) (spare : List Addr) (makes : List Make) → with_addrs config spare ≡ Ok makes → (map (slot config) spare ≡ makes) × (1 ≤ length makes)
with-spare config [] makes e = never ((map (slot config) [] ≡ makes) × (1 ≤ length makes)) (Pool (Empty config.compilation.network)) makes e
with-spare config (a ∷ spare) makes e =
    let same : map (slot config) (a ∷ spare) ≡ makes = same-value _ makes e in
    (same, subst (λ (ms : List Make). 1 ≤ length ms) same (omega arith))

pub are-spare : (config : Config) (keys : ℕ) (own : List Addr) (view : View) (makes : List Make) → slots config keys own view ≡ Ok makes → AreSpare view own makes
are-spare config zero own view makes e =
    subst (AreSpare view own) (same-value [] makes e) (record { spare = []; numbers = refl; differ = tt; unused = tt; others = tt })
are-spare config (suc keys) own view makes e =
    let held : Addr → Bool = λ addr. list_any (same_addr addr) (held_addrs view ++ own) in
    let found : List Addr = addrs_for config (suc keys) (held_addrs view ++ own) in
    let c = config.compilation in
    let most : ℕ = min c.workers (suc keys) in
    let free : AllByRecursion (λ a. held a ≡ false) found = spares-unused config.plan c.network c.az most held in
    let two : (a : Addr) → held a ≡ false → (is_used view a.0 ≡ false) × (list_any (same_addr a) own ≡ false) =
    λ a h. let (one, other) = or_parts (list_any (same_addr a) (held_addrs view)) (list_any (same_addr a) own) (sym (any_append (same_addr a) (held_addrs view) own) ∙ h) in (sym (any-view a view) ∙ one, other) in
    subst (AreSpare view own) (with-spare config found makes e).0 (record {
      spare = found;
      numbers = slot-numbers config found;
      differ = spares-differ config.plan c.network c.az most held;
      unused = all_map (λ a. held a ≡ false) (λ a. is_used view a.0 ≡ false) found (λ a h. (two a h).0) free;
      others = all_map (λ a. held a ≡ false) (λ a. list_any (same_addr a) own ≡ false) found (λ a h. (two a h).1) free;
    })

-- where there are keys there is a slot
pub some-slot : (config : Config) (keys : ℕ) (own : List Addr) (view : View) (makes : List Make) → slots config keys own view ≡ Ok makes → 1 ≤ keys → 1 ≤ length makes
some-slot config zero own view makes e h = absurd (omega arith)
some-slot config (suc keys) own view makes e h = (with-spare config (addrs_for config (suc keys) (held_addrs view ++ own)) makes e).1
