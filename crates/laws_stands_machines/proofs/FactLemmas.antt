-- What the facts at a moment say of a compile machine of which a task that works makes calls.
use Rattle.std.proofs.Common.{◌≡◌, ◌∙◌, ℕ, ◌+◌, Bool, true, false, ◌&&◌, ◌||◌, ◌==◌, List, [], ◌∷◌, map, not, Option, Some, None, ap, arith, refl, sym}
use Rattle.std.specs.Prelude.{cond, count_by, eqb, is_some, if◌then◌else◌}
use Rattle.std.specs.List.{list_all, list_any}
use Rattle.std.specs.Option.{option_eq}
use Rattle.std.specs.Str.{bytes_eq}
use Rattle.std.proofs.lemmas.Bool.{and_from, and_parts, eq-eqb, eqb-true, false≢true, or_parts, true≢false}
use Rattle.std.proofs.lemmas.List.Sums.{sum_by-cons}
use Rattle.std.proofs.lemmas.Slice.Eq.{bytes_eq-Decides}
use Rattle.bosh_base.specs.declared.key.Key.{Key}
use Rattle.bosh_base.specs.declared.key.KeyWork.{KeyWork}
use Rattle.bosh_base.specs.declared.owner.Owner.TheVariants.{Compile}
use Rattle.bosh_compile.proofs.KeyLemmas.{same_key_decides}
use Rattle.bosh_compile.specs.Readiness as readiness
use Rattle.bosh_compile.specs.Readiness.{same_key}
use Rattle.bosh_history.specs.Items.{is_item, is_leftover, is_slot_left}
use Rattle.bosh_history.specs.Keys.{stand_after_needs}
use Rattle.bosh_history.specs.Known.{Known, Slot, SlotName}
use Rattle.bosh_history.specs.Moments.{Moment}
use Rattle.bosh_history.specs.Orders.{same_slot, slot_cmp}
use Rattle.bosh_history.specs.Slots.{is_compiled, is_taken, takes, works_for}
use Rattle.bosh_history.specs.Words.{holds, inserted, is_among}
use Rattle.bosh_rows.specs.SoundSnapshot.{are_distinct}
use Rattle.bosh_rows.specs.Standing.{same_truth}
use Rattle.laws_choices.proofs.SameCallLemmas.{told_at}
use Rattle.laws_claims.proofs.FactLemmas.{calls_own}
use Rattle.laws_facts.proofs.MachineLemmas.{slot_tells}
use Rattle.laws_facts.proofs.OrderLemmas.{among_inserted, ascending_inserted, distinct_ascending}
use Rattle.laws_facts.specs.CompileMachines.{is_for}
use Rattle.laws_facts.specs.KnownFacts.{KnownFacts}
use Rattle.laws_facts.specs.Owners.{works}
use Rattle.laws_items.proofs.ListedLemmas.{Lists, at_some, disks, goal_facts, implied, instances, lists}
use Rattle.laws_items.proofs.PhaseLemmas.{IsLeft, of_item}
use Rattle.laws_stands.specs.Told.{is_going}
use Rattle.laws_stands.specs.WorkStands.{keys_in}
use Rattle.laws_stands_ends.specs.Dropping.{AllowsGoing}
use Rattle.laws_stands_noted.proofs.TaskLemmas.{other_dep, works_too}
use Rattle.laws_stands_slots.specs.Slots.{AllowsSlot, AreKeysApart, named}
use Rattle.laws_stands_works.proofs.InOrderLemmas.{same_in_order}
use Rattle.laws_stands_works.proofs.SweptLemmas.{slot_equal, slot_is, slot_own, slot_total}

-- ---- keys of a goal

abbrev stands_before : Key → List Key → Bool
stands_before = readiness.is_among

-- a key that stood before stands not again
fresh : (built : Key → Bool) (before : List Key) (items : List KeyWork) → stand_after_needs built before items ≡ true
    → (key : Key) → stands_before key before ≡ true → is_among same_key key (map (λ work. work.key) items) ≡ false
fresh built before [] stand key there = refl
fresh built before (work ∷ items) stand key there =
    let (new, rest) = and_parts (not (stands_before work.key before))
    (list_all (λ key. built key || stands_before key before) work.deps
    && stand_after_needs built (work.key ∷ before) items) stand in
    let (needs, more) = and_parts (list_all (λ key. built key || stands_before key before) work.deps)
    (stand_after_needs built (work.key ∷ before) items) rest in
    by (same_key key work.key) refl new
    (fresh built (work.key ∷ before) items more key (or_so (same_key work.key key)))
  where
    or_so : (b : Bool) → (b || stands_before key before) ≡ true
    or_so true = refl
    or_so false = there

    by : (b : Bool) → same_key key work.key ≡ b → not (stands_before work.key before) ≡ true
        → is_among same_key key (map (λ work. work.key) items) ≡ false
        → (b || is_among same_key key (map (λ work. work.key) items)) ≡ false
    by false other new more = more
    by true same new more =
        absurd (false≢true
        (sym (ap (λ k. not (stands_before k before)) (sym ((same_key_decides key work.key).0 same))
        ∙ ap not there) ∙ new))

keys_distinct : (built : Key → Bool) (before : List Key) (items : List KeyWork)
    → stand_after_needs built before items ≡ true → are_distinct same_key (map (λ work. work.key) items) ≡ true
keys_distinct built before [] stand = refl
keys_distinct built before (work ∷ items) stand =
    let (new, rest) = and_parts (not (stands_before work.key before))
    (list_all (λ key. built key || stands_before key before) work.deps
    && stand_after_needs built (work.key ∷ before) items) stand in
    let (needs, more) = and_parts (list_all (λ key. built key || stands_before key before) work.deps)
    (stand_after_needs built (work.key ∷ before) items) rest in
    and_from (not (is_among same_key work.key (map (λ work. work.key) items))) _
    (ap not (fresh built (work.key ∷ before) items more work.key
    (λ j. (same_key_decides work.key work.key).1 refl j || stands_before work.key before)))
    (keys_distinct built (work.key ∷ before) items more)

-- ---- how often an item of a list stands in it

pub count_none : {A : Type 0} (same : A → A → Bool) (x : A) (xs : List A) → is_among same x xs ≡ false
    → count_by (same x) xs ≡ 0
count_none same x [] none = refl
count_none same x (y ∷ ys) none =
    let parts : (same x y ≡ false) × (is_among same x ys ≡ false) = or_parts (same x y) (is_among same x ys) none in
    sum_by-cons (λ y. cond (same x y) 1 0) y ys ∙ (λ j. cond (parts.0 j) 1 0 + count_none same x ys parts.1 j)

count_once : {A : Type 0} (same : A → A → Bool) → ((a b : A) → same a b ≡ true → a ≡ b) → (x : A) (xs : List A)
    → are_distinct same xs ≡ true → is_among same x xs ≡ true → count_by (same x) xs ≡ 1
count_once same decides x [] apart there = absurd (false≢true there)
count_once same decides x (y ∷ ys) apart there =
    let (away, rest) = and_parts (not (is_among same y ys)) (are_distinct same ys) apart in
    sum_by-cons (λ y. cond (same x y) 1 0) y ys
    ∙ by (same x y) refl away there (λ there. count_once same decides x ys rest there)
  where
    not_false : (b : Bool) → not b ≡ true → b ≡ false
    not_false false is = refl
    not_false true is = absurd (false≢true is)

    by : (b : Bool) → same x y ≡ b → not (is_among same y ys) ≡ true → (b || is_among same x ys) ≡ true
        → (is_among same x ys ≡ true → count_by (same x) ys ≡ 1)
        → cond b 1 0 + count_by (same x) ys ≡ 1
    by true one away there more =
        let none : count_by (same x) ys ≡ 0 =
        count_none same x ys (ap (λ z. is_among same z ys) (decides x y one) ∙ not_false (is_among same y ys) away) in
        omega arith
    by false other away there more = let one : count_by (same x) ys ≡ 1 = more there in omega arith

-- ---- the machine

module _ (m : Moment) (facts : KnownFacts m) where
  abbrev k : Known
  k = m.known

  -- it is of the deployment of its task
  pub machine_dep : (u s : ℕ) (row : Slot) → k.slot u s ≡ Some row → (k.task u).dep ≡ Some row.dep
  machine_dep u s row there = (calls_own m facts).machines_are_own u s row there

  same_dep : (dep : List ℕ) (other : Option (List ℕ)) → option_eq bytes_eq (Some dep) other ≡ true → other ≡ Some dep
  same_dep dep (Some other) same = ap Some (sym ((bytes_eq-Decides dep other).0 same))
  same_dep dep None same = absurd (false≢true same)

  pub leftover_dep : (n u s : ℕ) (row : Slot) → k.slot u s ≡ Some row → is_leftover k n (named u s) ≡ true
      → (k.task n).dep ≡ Some row.dep
  leftover_dep n u s row there left =
      same_dep row.dep (k.task n).dep
      (ap (holds (λ (slot : Slot). option_eq bytes_eq (Some slot.dep) (k.task n).dep)) (sym there)
      ∙ (and_parts (not (u == n))
      (holds (λ (slot : Slot). option_eq bytes_eq (Some slot.dep) (k.task n).dep) (k.slot u s)) left).1)

  -- .. and of that of a task of which it is an item
  pub item_dep : (n u s : ℕ) (row : Slot) → k.slot u s ≡ Some row → is_item k n (Compile u s) ≡ true
      → (k.task n).dep ≡ Some row.dep
  item_dep n u s row there item =
      let left : (p : ℕ) × IsLeft k n (Compile u s) p = of_item k n (Compile u s) item in
      by (u == n) refl (is_leftover k n (named u s)) refl left.0 left.1.phase
    where
      by : (own : Bool) → (u == n) ≡ own → (over : Bool) → is_leftover k n (named u s) ≡ over → (p : ℕ)
          → (if own then (if is_slot_left k n s then Some 2 else None) else (if over then Some 1 else None)) ≡ Some p
          → (k.task n).dep ≡ Some row.dep
      by true own over left p at = ap (λ t. (k.task t).dep) (sym (eqb-true u n own)) ∙ machine_dep u s row there
      by false own true left p at = leftover_dep n u s row there left
      by false own false left p at = absurd cc

  -- a machine that is not recorded is one of the task's own
  pub own_item : (n u s : ℕ) → k.slot u s ≡ None → is_item k n (Compile u s) ≡ true → u ≡ n
  own_item n u s none item =
      let left : (p : ℕ) × IsLeft k n (Compile u s) p = of_item k n (Compile u s) item in
      by (u == n) refl (is_leftover k n (named u s)) refl left.0 left.1.phase
    where
      never : (b : Bool) → (b && holds (λ (slot : Slot). option_eq bytes_eq (Some slot.dep) (k.task n).dep) None) ≡ false
      never true = refl
      never false = refl

      by : (own : Bool) → (u == n) ≡ own → (over : Bool) → is_leftover k n (named u s) ≡ over → (p : ℕ)
          → (if own then (if is_slot_left k n s then Some 2 else None) else (if over then Some 1 else None)) ≡ Some p
          → u ≡ n
      by true own over left p at = eqb-true u n own
      by false own true left p at =
          absurd (true≢false (sym left
          ∙ (λ j. not (u == n) && holds (λ (slot : Slot). option_eq bytes_eq (Some slot.dep) (k.task n).dep) (none j))
          ∙ never (not (u == n))))
      by false own false left p at = absurd cc

  -- ---- the list of machines

  truth : (a b : Bool) → same_truth a b ≡ true → b ≡ a
  truth true true same = refl
  truth false false same = refl
  truth true false same = absurd (false≢true same)
  truth false true same = absurd (false≢true same)

  pub listed_as : (u s : ℕ) → is_among same_slot (named u s) k.machines ≡ is_some (k.slot u s)
  listed_as u s = sym (truth (is_among same_slot (named u s) k.machines) (is_some (k.slot u s))
      (facts.lists.machine_listed u s))

  pub machine_once : (u s : ℕ) (row : Slot) → k.slot u s ≡ Some row → count_by (same_slot (named u s)) k.machines ≡ 1
  machine_once u s row there =
      count_once same_slot slot_is (named u s) k.machines
      (distinct_ascending slot_cmp slot_total same_slot slot_tells slot_equal k.machines facts.lists.machines_in_order)
      (listed_as u s ∙ ap is_some there)

  pub stays_listed : (u s : ℕ) (row : Slot) → k.slot u s ≡ Some row
      → inserted slot_cmp (named u s) k.machines ≡ k.machines
  stays_listed u s row there =
      same_in_order slot_cmp slot_total same_slot slot_tells slot_equal slot_is slot_own
      (inserted slot_cmp (named u s) k.machines) k.machines
      (ascending_inserted slot_cmp slot_total same_slot slot_tells slot_equal (named u s) k.machines
      facts.lists.machines_in_order)
      facts.lists.machines_in_order
      (λ a. among_inserted slot_cmp slot_total same_slot slot_tells slot_equal a (named u s) k.machines
      ∙ by a (same_slot a (named u s)) refl (is_among same_slot a k.machines) refl)
    where
      by : (a : SlotName) (b : Bool) → same_slot a (named u s) ≡ b → (c : Bool) → is_among same_slot a k.machines ≡ c
          → (c || b) ≡ c
      by a true same true among = refl
      by a false other true among = refl
      by a false other false among = refl
      by a true same false none =
          absurd (false≢true (sym none ∙ ap (λ x. is_among same_slot x k.machines) (slot_is a (named u s) same)
          ∙ listed_as u s ∙ ap is_some there))

  -- ---- while a task works, all open ones do

  module _ (n : ℕ) (working : works m n ≡ true) where
    pub keys_apart : (snapped : ℕ) → AreKeysApart (told_at m snapped)
    keys_apart snapped u open_ = by (lists m u facts (works_too m n facts working u open_))
      where
        by : Lists (k.task u) → are_distinct same_key (keys_in (k.task u).goal) ≡ true
        by (disks it) = ap (λ goal. are_distinct same_key (keys_in goal)) it.goal_is
        by (instances it) =
            ap (λ goal. are_distinct same_key (keys_in goal)) it.goal_is
            ∙ keys_distinct (is_compiled k) [] (it.goal).keys
            (goal_facts m u facts (works_too m n facts working u open_) it).can_be_compiled

    -- another open task has it not left over
    pub not_left : (u s : ℕ) (row : Slot) → k.slot u s ≡ Some row → (k.task n).dep ≡ Some row.dep → (v : ℕ)
        → eqb n v ≡ false → is_going k v ≡ true → is_leftover k v (named u s) ≡ false
    not_left u s row there dep v other open_ = by (is_leftover k v (named u s)) refl
      where
        by : (b : Bool) → is_leftover k v (named u s) ≡ b → b ≡ false
        by false is = refl
        by true left = absurd (other_dep m n facts working v other open_ (leftover_dep v u s row there left ∙ sym dep))

    pub allows_slot : (snapped u s : ℕ) (row : Slot) → k.slot u s ≡ Some row → is_item k n (Compile u s) ≡ true
        → AllowsSlot (told_at m snapped) n u s
    allows_slot snapped u s row there item = record {
      row = row;
      there = there;
      dep = item_dep n u s row there item;
      once = machine_once u s row there;
      not_left = not_left u s row there (item_dep n u s row there item);
    }

    -- no other machine of its task is for its key
    pub none_takes : (u s : ℕ) (row : Slot) → k.slot u s ≡ Some row → (key : Key) → row.key ≡ Some key
        → is_going k u ≡ true → is_taken k u s key ≡ false
    none_takes u s row there key is open_ = none_in k.machines
      where
        alone : (r : ℕ) → (s == r) ≡ false → holds (is_for (Some key)) (k.slot u r) ≡ false
        alone r other = by (holds (is_for (Some key)) (k.slot u r)) refl
            (at_some (λ (it : Slot). not (holds (is_for it.key) (k.slot u r))) (k.slot u s) row
            (implied (works m u && not (s == r)) _ (((facts.slots_work u s).alone) r)
            (and_from (works m u) (not (s == r)) (works_too m n facts working u open_) (ap not other))) there)
          where
            by : (b : Bool) → holds (is_for (Some key)) (k.slot u r) ≡ b
                → not (holds (is_for row.key) (k.slot u r)) ≡ true → b ≡ false
            by false is_ test = refl
            by true is_ test = absurd (false≢true
                (sym (ap not (ap (λ o. holds (is_for o) (k.slot u r)) is ∙ is_)) ∙ test))

        as_for : (o : Option Slot) → works_for key o ≡ holds (is_for (Some key)) o
        as_for None = refl
        as_for (Some it) = of it.key
          where
            of : (o : Option Key) → holds (same_key key) o ≡ option_eq same_key (Some key) o
            of (Some other) = refl
            of None = refl

        each : (x : SlotName) → takes k u s key x ≡ false
        each x = by (x.task == u) (x.slot == s) refl
          where
            by : (a b : Bool) → (x.slot == s) ≡ b → (a && (not b && works_for key (k.slot u x.slot))) ≡ false
            by false b slot = refl
            by true true slot = refl
            by true false slot = as_for (k.slot u x.slot) ∙ alone x.slot (flip (s == x.slot) refl)
              where
                flip : (c : Bool) → (s == x.slot) ≡ c → c ≡ false
                flip false is_ = refl
                flip true is_ = absurd (true≢false (sym (eq-eqb x.slot s (sym (eqb-true s x.slot is_))) ∙ slot))

        none_in : (xs : List SlotName) → list_any (takes k u s key) xs ≡ false
        none_in [] = refl
        none_in (x ∷ xs) = λ j. each x j || none_in xs j

    pub allows_going : (snapped u s : ℕ) (row : Slot) → k.slot u s ≡ Some row
        → AllowsGoing (told_at m snapped) u s row
    allows_going snapped u s row there = record {
      dep = λ open_. machine_dep u s row there;
      alone = λ key is open_. none_takes u s row there key is open_;
    }

    -- both of a machine of which a call ends
    pub allows_ending : (snapped u s : ℕ) (row : Slot) → k.slot u s ≡ Some row → is_item k n (Compile u s) ≡ true
        → (allows : AllowsSlot (told_at m snapped) n u s) × AllowsGoing (told_at m snapped) u s allows.row
    unfolding allows_slot
    allows_ending snapped u s row there item =
        (allows_slot snapped u s row there item, allows_going snapped u s row there)
