-- The items of a task whose groups are updated.
use Rattle.std.proofs.Common.{◌≡◌, ◌∙◌, ℕ, ◌+◌, ◌<◌, ◌≤◌, suc, Bool, true, false, ◌&&◌, ◌||◌, not, List, []}
use Rattle.std.proofs.Common.{◌∷◌, ◌++◌, length, map, filter, Option, Some, None, ap, append-nil, refl, sym}
use Rattle.std.proofs.Common.{arith}
use Rattle.std.specs.Prelude.{◌==◌, eqb, is_some, slice_get, if◌then◌else◌}
use Rattle.std.specs.List.{list_all}
use Rattle.std.proofs.lemmas.Bool.{and_from, and_parts, eqb-true, false≢true, le-ltb, lt-ltb, not-true, true≢false}
use Rattle.std.proofs.lemmas.Bool.Decides.{nat_tests}
use Rattle.std.proofs.lemmas.List.Elements.{filter-append}
use Rattle.std.proofs.lemmas.List.Folds.{list_all-append}
use Rattle.bosh_base.specs.declared.inst.Inst.{Inst}
use Rattle.bosh_base.specs.declared.owner.Owner.{Owner}
use Rattle.bosh_base.specs.declared.owner.Owner.TheVariants.{Instance, Compile, Disk}
use Rattle.bosh_history.specs.Items.{candidates, is_before, is_finished, is_item, is_leftover, is_slot_left}
use Rattle.bosh_history.specs.Items.{is_to_change, is_to_go, is_to_ping, items, none_left_before, phase_of}
use Rattle.bosh_history.specs.Items.{slots_of, stage_of}
use Rattle.bosh_history.specs.Known.{Known, Task, plan_in}
use Rattle.bosh_history.specs.Words.{holds, is_among, numbers_below}
use Rattle.bosh_rows.specs.Same.{same_inst}
use Rattle.bosh_rows.proofs.SameLemmas.{same_inst_decides}
use Rattle.laws_stands.proofs.MemberLemmas.{all_at, among_from}
use Rattle.laws_stands.proofs.StageLemmas.{HasLeft, is_left_in}

-- ---- the items

pub among_at : (i : Inst) (xs : List Inst) → is_among same_inst i xs ≡ true → (q : ℕ) × (slice_get xs q ≡ Some i)
among_at i [] is = absurd (false≢true is)
among_at i (x ∷ xs) is = by (same_inst i x) refl is (λ is. among_at i xs is)
  where
    by : (b : Bool) → same_inst i x ≡ b → (b || is_among same_inst i xs) ≡ true
        → (is_among same_inst i xs ≡ true → (q : ℕ) × (slice_get xs q ≡ Some i)) → (q : ℕ)
        × (slice_get (x ∷ xs) q ≡ Some i)
    by true same is more = (0, ap Some (sym ((same_inst_decides i x).0 same)))
    by false other is more = let r : (q : ℕ) × (slice_get xs q ≡ Some i) = more is in (suc r.0, r.1)

abbrev slot_case : Bool → Bool → Bool → Option ℕ
slot_case own left over = if own then (if left then Some 2 else None) else (if over then Some 1 else None)

abbrev disk_case : Bool → Option ℕ
disk_case b = if b then Some 0 else None

module _ (k : Known) (n : ℕ) where
  abbrev t : Task
  t = k.task n

  -- nothing is left of the phases before the updates
  abbrev pub not_before : ℕ → Owner → Bool
  not_before phase owner = not (is_before phase (phase_of k n owner))

  calm : (i : Inst) → not_before 4 (Instance i) ≡ true → (is_to_ping t i ≡ false) × (is_to_go t i ≡ false)
  calm i is = by (is_to_ping t i) (is_to_go t i) (is_to_change t i) refl refl is
    where
      by : (p g c : Bool) → is_to_ping t i ≡ p → is_to_go t i ≡ g
          → not (is_before 4
          (if p then Some 0
          else (if g then Some 3 else (if c then Some (4 + stage_of (plan_in t.goal i)) else None)))) ≡ true
          → (is_to_ping t i ≡ false) × (is_to_go t i ≡ false)
      by true g c ping go is = absurd (false≢true is)
      by false true c ping go is = absurd (false≢true is)
      by false false c ping go is = (ping, go)

  phase_after : (i : Inst) → not_before 4 (Instance i) ≡ true → phase_of k n (Instance i)
      ≡ (if is_to_change t i then Some (4 + stage_of (plan_in t.goal i)) else None)
  phase_after i is =
      let c : (is_to_ping t i ≡ false) × (is_to_go t i ≡ false) = calm i is in
      λ j. if c.0 j then Some 0
      else (if c.1 j then Some 3 else (if is_to_change t i then Some (4 + stage_of (plan_in t.goal i))
      else None))

  none_of_slots : (task slot : ℕ) → not_before 4 (Compile task slot) ≡ true → phase_of k n (Compile task slot)
      ≡ None
  none_of_slots task slot is = by (task == n) (is_slot_left k n slot)
      (is_leftover k n (record { task = task; slot = slot })) is
    where
      by : (own left over : Bool) → not (is_before 4 (slot_case own left over)) ≡ true → slot_case own left over
          ≡ None
      by true true over is = absurd (false≢true is)
      by true false over is = refl
      by false left true is = absurd (false≢true is)
      by false left false is = refl

  none_of_disks : (d : ℕ) → not_before 4 (Disk d) ≡ true → phase_of k n (Disk d) ≡ None
  none_of_disks d is = by (is_among eqb d t.disks && is_some (k.orphan d)) is
    where
      by : (b : Bool) → not (is_before 4 (disk_case b)) ≡ true → disk_case b ≡ None
      by true is = absurd (false≢true is)
      by false is = refl

  pub no_items : {X : Type 0} (f : X → Owner) (xs : List X)
      → ((x : X) → not_before 4 (f x) ≡ true → phase_of k n (f x) ≡ None)
      → list_all (not_before 4) (map f xs) ≡ true → filter (is_item k n) (map f xs) ≡ []
  no_items f [] none all = refl
  no_items f (x ∷ xs) none all =
      let parts : (not_before 4 (f x) ≡ true) × (list_all (not_before 4) (map f xs) ≡ true) =
      and_parts (not_before 4 (f x)) (list_all (not_before 4) (map f xs)) all in
      (λ i. if holds (none_left_before k n) (none x parts.0 i) then f x ∷ filter (is_item k n) (map f xs)
      else filter (is_item k n) (map f xs)) ∙ no_items f xs none parts.1

  pub none_left : (p : Inst → Bool) (xs : List Inst) → ((i : Inst) → not_before 4 (Instance i) ≡ true → p i ≡ false)
      → list_all (not_before 4) (map Instance (filter p xs)) ≡ true → filter p xs ≡ []
  none_left p [] none all = refl
  none_left p (x ∷ xs) none all = by (p x) refl all (λ all. none_left p xs none all)
    where
      by : (b : Bool) → p x ≡ b
          → list_all (not_before 4) (map Instance (if b then x ∷ filter p xs else filter p xs)) ≡ true
          → (list_all (not_before 4) (map Instance (filter p xs)) ≡ true → filter p xs ≡ [])
          → (if b then x ∷ filter p xs else filter p xs) ≡ []
      by true is all more =
          let parts : (not_before 4 (Instance x) ≡ true) × (list_all (not_before 4) (map Instance (filter p xs))
          ≡ true)
          = and_parts (not_before 4 (Instance x)) (list_all (not_before 4) (map Instance (filter p xs))) all in
          absurd (true≢false (sym is ∙ none x parts.0))
      by false is all more = more all

  -- ---- one stage

  abbrev asked : List Owner
  asked = map Instance (filter (is_to_ping t) t.to_ping)

  abbrev swept : List Owner
  swept = map (λ name. Compile name.task name.slot) (filter (is_leftover k n) k.machines)

  abbrev slotted : List Owner
  slotted = map (Compile n) (numbers_below (length (slots_of t.goal)))

  abbrev leaving : List Owner
  leaving = map Instance (filter (is_to_go t) t.obsolete)

  abbrev changing : List Owner
  changing = map Instance t.changed

  abbrev deleting : List Owner
  deleting = map Disk t.disks

  two : (p : Owner → Bool) (xs ys : List Owner) → list_all p (xs ++ ys) ≡ true → (list_all p xs ≡ true)
      × (list_all p ys ≡ true)
  two p xs ys all = and_parts (list_all p xs) (list_all p ys) (sym (list_all-append p xs ys) ∙ all)

  record Parts (p : Owner → Bool) : Type 0 where
    pings : list_all p asked ≡ true
    sweep : list_all p swept ≡ true
    slots : list_all p slotted ≡ true
    obsolete : list_all p leaving ≡ true
    changed : list_all p changing ≡ true
    disks : list_all p deleting ≡ true

  parts_of : (p : Owner → Bool) → list_all p (candidates k n) ≡ true → Parts p
  parts_of p all =
      let a : (list_all p (asked ++ swept ++ slotted ++ leaving ++ changing) ≡ true)
      × (list_all p deleting ≡ true) = two p (asked ++ swept ++ slotted ++ leaving ++ changing) deleting all in
      let b : (list_all p (asked ++ swept ++ slotted ++ leaving) ≡ true) × (list_all p changing ≡ true) =
      two p (asked ++ swept ++ slotted ++ leaving) changing a.0 in
      let c : (list_all p (asked ++ swept ++ slotted) ≡ true) × (list_all p leaving ≡ true) =
      two p (asked ++ swept ++ slotted) leaving b.0 in
      let d : (list_all p (asked ++ swept) ≡ true) × (list_all p slotted ≡ true) =
      two p (asked ++ swept) slotted c.0 in
      let e : (list_all p asked ≡ true) × (list_all p swept ≡ true) = two p asked swept d.0 in
      record { pings = e.0; sweep = e.1; slots = d.1; obsolete = c.1; changed = b.1; disks = a.1 }

  -- nothing is left of any phase
  pub none_are : list_all (not_before 4) (candidates k n) ≡ true → ((s : ℕ) → HasLeft t s → ⊥) → items k n ≡ []
  none_are early none =
      (λ j. filter (is_item k n)
      (map Instance (none_left (is_to_ping t) t.to_ping (λ i is. (calm i is).0) all.pings j) ++ swept ++ slotted
      ++ map Instance (none_left (is_to_go t) t.obsolete (λ i is. (calm i is).1) all.obsolete j) ++ changing ++
      deleting))
      ∙ filter-append (is_item k n) ([] ++ swept ++ slotted ++ [] ++ changing) deleting
      ∙ (λ j. filter-append (is_item k n) ([] ++ swept ++ slotted ++ []) changing j ++ no_items Disk t.disks
      (λ d is. none_of_disks d is) all.disks j)
      ∙ (λ j. (filter-append (is_item k n) ([] ++ swept ++ slotted) [] j ++ no_items Instance t.changed done
      all.changed j) ++ [])
      ∙ (λ j. ((filter-append (is_item k n) ([] ++ swept) slotted j ++ []) ++ []) ++ [])
      ∙ (λ j. (((no_items (λ name. Compile name.task name.slot) (filter (is_leftover k n) k.machines)
      (λ name is. none_of_slots name.task name.slot is) all.sweep j
      ++ no_items (Compile n) (numbers_below (length (slots_of t.goal))) (λ slot is. none_of_slots n slot is)
      all.slots j) ++ []) ++ []) ++ [])
    where
      all : Parts (not_before 4)
      all = parts_of (not_before 4) early

      done : (i : Inst) → not_before 4 (Instance i) ≡ true → phase_of k n (Instance i) ≡ None
      done i is = phase_after i is ∙ by (is_to_change t i) refl
        where
          by : (b : Bool) → is_to_change t i ≡ b → (if b then Some (4 + stage_of (plan_in t.goal i)) else None)
              ≡ None
          by true change =
              let both : (is_among same_inst i t.changed ≡ true) × (not (is_finished (t.upd i)) ≡ true) =
              and_parts (is_among same_inst i t.changed) (not (is_finished (t.upd i))) change in
              let at : (q : ℕ) × (slice_get t.changed q ≡ Some i) = among_at i t.changed both.0 in
              absurd (none (stage_of (plan_in t.goal i)) (record {
                q = at.0;
                i = i;
                among_changed = at.1;
                left =
                    not-true (is_finished (t.upd i)) both.1;
                stage_is = refl;
              }))
          by false change = refl

  module _ (stage : ℕ) (early : list_all (not_before 4) (candidates k n) ≡ true) (least : (s : ℕ) → HasLeft t s
      → stage ≤ s) (some : HasLeft t stage) where
    parts : Parts (not_before 4)
    parts = parts_of (not_before 4) early

    all_of : (xs : List Inst) (q : ℕ) (i : Inst) → list_all (not_before 4) (map Instance xs) ≡ true → slice_get xs q
        ≡ Some i → not_before 4 (Instance i) ≡ true
    all_of xs q i all is = all_at (λ i. not_before 4 (Instance i)) xs q i (mapped xs all) is
      where
        mapped : (xs : List Inst) → list_all (not_before 4) (map Instance xs) ≡ true
            → list_all (λ i. not_before 4 (Instance i)) xs ≡ true
        mapped [] all = refl
        mapped (x ∷ xs) all =
            let p : (not_before 4 (Instance x) ≡ true) × (list_all (not_before 4) (map Instance xs) ≡ true) =
            and_parts (not_before 4 (Instance x)) (list_all (not_before 4) (map Instance xs)) all in
            and_from (not_before 4 (Instance x)) (list_all (λ i. not_before 4 (Instance i)) xs) p.0 (mapped xs p.1)

    pub calm_at : (q : ℕ) (i : Inst) → slice_get t.changed q ≡ Some i → (is_to_ping t i ≡ false)
        × (is_to_go t i ≡ false)
    calm_at q i is = calm i (all_of t.changed q i parts.changed is)

    -- what is left of an instance that changes
    phase_at : (q : ℕ) (i : Inst) → slice_get t.changed q ≡ Some i → phase_of k n (Instance i)
        ≡ (if not (is_finished (t.upd i)) then Some (4 + stage_of (plan_in t.goal i)) else None)
    phase_at q i is =
        phase_after i (all_of t.changed q i parts.changed is)
        ∙ ap (λ b. if b && not (is_finished (t.upd i)) then Some (4 + stage_of (plan_in t.goal i)) else None)
        (among_from i t.changed q is)

    -- nothing is left of an earlier stage
    on_time : (owner : Owner) → not_before 4 owner ≡ true → not_before (4 + stage) owner ≡ true
    on_time (Instance i) is = ap (λ p. not (is_before (4 + stage) p)) (phase_after i is)
        ∙ by (is_to_change t i) refl
      where
        by : (b : Bool) → is_to_change t i ≡ b
            → not (is_before (4 + stage) (if b then Some (4 + stage_of (plan_in t.goal i)) else None)) ≡ true
        by true change =
            let both : (is_among same_inst i t.changed ≡ true) × (not (is_finished (t.upd i)) ≡ true) =
            and_parts (is_among same_inst i t.changed) (not (is_finished (t.upd i))) change in
            let at : (q : ℕ) × (slice_get t.changed q ≡ Some i) = among_at i t.changed both.0 in
            let l : stage ≤ stage_of (plan_in t.goal i) =
            least (stage_of (plan_in t.goal i)) (record {
              q = at.0;
              i = i;
              among_changed = at.1;
              left =
                  not-true (is_finished (t.upd i)) both.1;
              stage_is = refl;
            }) in
            ap not (le-ltb (4 + stage_of (plan_in t.goal i)) (4 + stage) (omega arith))
        by false change = refl
    on_time (Compile task slot) is = ap (λ p. not (is_before (4 + stage) p)) (none_of_slots task slot is)
    on_time (Disk d) is = ap (λ p. not (is_before (4 + stage) p)) (none_of_disks d is)

    all_on_time : (owners : List Owner) → list_all (not_before 4) owners ≡ true
        → list_all (not_before (4 + stage)) owners ≡ true
    all_on_time [] all = refl
    all_on_time (owner ∷ owners) all =
        let p : (not_before 4 owner ≡ true) × (list_all (not_before 4) owners ≡ true) =
        and_parts (not_before 4 owner) (list_all (not_before 4) owners) all in
        and_from (not_before (4 + stage) owner) (list_all (not_before (4 + stage)) owners) (on_time owner p.0)
        (all_on_time owners p.1)

    -- a later stage is not present
    later_waits : (s : ℕ) → stage < s → none_left_before k n (4 + s) ≡ false
    later_waits s later = by (none_left_before k n (4 + s)) refl
      where
        before : not_before (4 + s) (Instance some.i) ≡ false
        before =
            ap (λ p. not (is_before (4 + s) p)) (phase_at some.q some.i some.among_changed)
            ∙ (λ j. not (is_before (4 + s) (if not (some.left j) then Some (4 + some.stage_is j) else None)))
            ∙ ap not (lt-ltb (4 + stage) (4 + s) (omega arith))

        by : (b : Bool) → none_left_before k n (4 + s) ≡ b → none_left_before k n (4 + s) ≡ false
        by true present = absurd (false≢true (sym before ∙ at_changed (not_before (4 + s)) present))
          where
            at_changed : (p : Owner → Bool) → list_all p (candidates k n) ≡ true → p (Instance some.i) ≡ true
            at_changed p all = all_at (λ i. p (Instance i)) t.changed some.q some.i
                (mapped t.changed (parts_of p all).changed) some.among_changed
              where
                mapped : (xs : List Inst) → list_all p (map Instance xs) ≡ true → list_all (λ i. p (Instance i)) xs
                    ≡ true
                mapped [] all = refl
                mapped (x ∷ xs) all =
                    let both : (p (Instance x) ≡ true) × (list_all p (map Instance xs) ≡ true) =
                    and_parts (p (Instance x)) (list_all p (map Instance xs)) all in
                    and_from (p (Instance x)) (list_all (λ i. p (Instance i)) xs) both.0 (mapped xs both.1)
        by false absent = absent

    -- which of the changed instances are items
    item_as : (q : ℕ) (i : Inst) → slice_get t.changed q ≡ Some i → is_item k n (Instance i) ≡ is_left_in t stage i
    item_as q i is = ap (holds (none_left_before k n)) (phase_at q i is) ∙ by (is_finished (t.upd i)) refl
      where
        at_stage : is_finished (t.upd i) ≡ false → none_left_before k n (4 + stage_of (plan_in t.goal i))
            ≡ (stage_of (plan_in t.goal i) == stage)
        at_stage left =
            let low : stage ≤ stage_of (plan_in t.goal i) = least (stage_of (plan_in t.goal i))
            (record { q = q; i = i; among_changed = is; left = left; stage_is = refl }) in
            of (stage_of (plan_in t.goal i) == stage) refl low
          where
            of : (b : Bool) → (stage_of (plan_in t.goal i) == stage) ≡ b → stage ≤ stage_of (plan_in t.goal i)
                → none_left_before k n (4 + stage_of (plan_in t.goal i)) ≡ (stage_of (plan_in t.goal i) == stage)
            of true same low =
                ap (λ s. none_left_before k n (4 + s)) (eqb-true (stage_of (plan_in t.goal i)) stage same)
                ∙ all_on_time (candidates k n) early ∙ sym same
            of false differs low =
                later_waits (stage_of (plan_in t.goal i)) (strict (stage_of (plan_in t.goal i)) differs low)
                ∙ sym differs
              where
                strict : (s : ℕ) → (s == stage) ≡ false → stage ≤ s → stage < s
                strict s differs low = grind (arith, nat_tests)

        by : (b : Bool) → is_finished (t.upd i) ≡ b
            → holds (none_left_before k n) (if not b then Some (4 + stage_of (plan_in t.goal i)) else None)
            ≡ (not (is_finished (t.upd i)) && stage_of (plan_in t.goal i) == stage)
        by true done = ap (λ b. not b && stage_of (plan_in t.goal i) == stage) (sym done)
        by false left = at_stage left ∙ ap (λ b. not b && stage_of (plan_in t.goal i) == stage) (sym left)

    filter_as : (xs : List Inst) → ((q : ℕ) (i : Inst) → slice_get xs q ≡ Some i → is_item k n (Instance i)
        ≡ is_left_in t stage i)
        → filter (is_item k n) (map Instance xs) ≡ map Instance (filter (is_left_in t stage) xs)
    filter_as [] same = refl
    filter_as (x ∷ xs) same = (λ j. if same 0 x refl j then Instance x ∷ filter (is_item k n) (map Instance xs)
        else filter (is_item k n) (map Instance xs))
        ∙ by (is_left_in t stage x) (filter_as xs (λ q i is. same (suc q) i is))
      where
        by : (b : Bool) → filter (is_item k n) (map Instance xs) ≡ map Instance (filter (is_left_in t stage) xs)
            → (if b then Instance x ∷ filter (is_item k n) (map Instance xs) else filter (is_item k n)
            (map Instance xs))
            ≡ map Instance (if b then x ∷ filter (is_left_in t stage) xs else filter (is_left_in t stage) xs)
        by true more = ap (λ rest. Instance x ∷ rest) more
        by false more = more

    -- the items are the changed instances of the stage that are left, in order
    pub items_are : items k n ≡ map Instance (filter (is_left_in t stage) t.changed)
    items_are =
        (λ j. filter (is_item k n)
        (map Instance (none_left (is_to_ping t) t.to_ping (λ i is. (calm i is).0) parts.pings j) ++ swept ++
        slotted
        ++ map Instance (none_left (is_to_go t) t.obsolete (λ i is. (calm i is).1) parts.obsolete j) ++ changing ++
        deleting))
        ∙ filter-append (is_item k n) ([] ++ swept ++ slotted ++ [] ++ changing) deleting
        ∙ (λ j. filter-append (is_item k n) ([] ++ swept ++ slotted ++ []) changing j ++ no_items Disk t.disks
        (λ d is. none_of_disks d is) parts.disks j)
        ∙ (λ j. (filter-append (is_item k n) ([] ++ swept ++ slotted) [] j ++ filter_as t.changed item_as j) ++ [])
        ∙ (λ j. ((filter-append (is_item k n) ([] ++ swept) slotted j ++ []) ++ map Instance
        (filter (is_left_in t stage) t.changed)) ++ [])
        ∙ (λ j. (((no_items (λ name. Compile name.task name.slot) (filter (is_leftover k n) k.machines)
        (λ name is. none_of_slots name.task name.slot is) parts.sweep j
        ++ no_items (Compile n) (numbers_below (length (slots_of t.goal))) (λ slot is. none_of_slots n slot is)
        parts.slots j) ++ []) ++ map Instance (filter (is_left_in t stage) t.changed)) ++ [])
        ∙ append-nil (map Instance (filter (is_left_in t stage) t.changed))
