-- How many calls the slots of a task may have had, from one moment to another.
use Rattle.std.proofs.Common.{◌≡◌, ◌∙◌, ℕ, ◌+◌, ◌≤◌, ◌<◌, Bool, true, false, Option, Some, None}
use Rattle.std.proofs.Common.{arith, inl, inr, refl, subst, sym}
use Rattle.std.specs.Prelude.{◌⊎◌, ◌*◌, ◌==◌, count_by, if◌then◌else◌, length, not, sum_by}
use Rattle.std.proofs.lemmas.Bool.{and_from, and_parts, false≢true, le-leb, leb-true, or_cases}
use Rattle.std.proofs.lemmas.Bool.{or_left, or_right}
use Rattle.bosh_base.specs.Cloud.{numbers_to}
use Rattle.bosh_base.specs.declared.key.Key.{Key}
use Rattle.bosh_base.specs.declared.key.KeyWork.{KeyWork}
use Rattle.bosh_base.specs.declared.owner.Owner.{Owner}
use Rattle.bosh_base.specs.declared.owner.Owner.TheVariants.{Compile}
use Rattle.bosh_history.specs.Items.{slots_of}
use Rattle.bosh_history.specs.Known.{Known, Slot, Task}
use Rattle.bosh_history.specs.Moments.{Moment, OpenCall}
use Rattle.bosh_history.specs.Slots.{is_compiled, keys_of}
use Rattle.bosh_history.specs.Words.{holds, numbers_below}
use Rattle.laws_counted.proofs.CallFrames.{IsOpenAs, number_of}
use Rattle.laws_counted.proofs.SumLemmas.{below_low, below_step, count_low, sum_mapped}
use Rattle.laws_counts.specs.Counts.{are_slots_few, compiles_now, is_compilation_of, is_compiled_for, is_key_held}
use Rattle.laws_counts.specs.Counts.{is_past, most_of_slot, own_slots}
use Rattle.laws_counts.specs.Courses.{Account}
use Rattle.laws_facts.specs.CompileMachines.{is_being_deleted, is_for}
use Rattle.laws_facts.specs.KnownFacts.{KnownFacts}
use Rattle.laws_items.proofs.ListLemmas.{Meets, any_in, holds_some, some_meets}
use Rattle.laws_items.proofs.ListedLemmas.{numbered_in}

-- ---- compilations that are open

pub compiles_is : (m : Moment) (owner : Owner) → compiles_now m owner ≡ true
    → (n : ℕ) × (call : OpenCall) × (m.calls n ≡ Some call) × (is_compilation_of owner call ≡ true)
compiles_is m owner is =
    let one : Meets (λ n. holds (is_compilation_of owner) (m.calls n)) (numbers_to m.known.last_call) =
    some_meets (λ n. holds (is_compilation_of owner) (m.calls n)) (numbers_to m.known.last_call) is in
    let held : (call : OpenCall) × (m.calls one.x ≡ Some call) × (is_compilation_of owner call ≡ true) =
    holds_some (is_compilation_of owner) (m.calls one.x) one.meets in
    (one.x, held.0, held.1, held.2)

pub compiles_by : (m : Moment) → KnownFacts m → (owner : Owner) (n : ℕ) (call : OpenCall) → m.calls n ≡ Some call
    → is_compilation_of owner call ≡ true → compiles_now m owner ≡ true
compiles_by m h owner n call is compiles =
    any_in (λ n. holds (is_compilation_of owner) (m.calls n)) n (numbers_to m.known.last_call)
    (numbered_in n m.known.last_call (number_of m h n call is).0 (number_of m h n call is).1)
    ((λ j. holds (is_compilation_of owner) (is j)) ∙ compiles)

-- those that are open stay open
abbrev pub KeepsCompilations : Moment → Moment → Owner → Type 0
KeepsCompilations m n owner =
    (k : ℕ) (call : OpenCall) → m.calls k ≡ Some call → is_compilation_of owner call ≡ true → IsOpenAs n k call

pub compiles_on : (m n : Moment) → KnownFacts n → (owner : Owner) → KeepsCompilations m n owner
    → compiles_now m owner ≡ true → compiles_now n owner ≡ true
compiles_on m n h owner keeps is =
    let (k, call, at, compiles) = compiles_is m owner is in
    let (now, there, begins) = keeps k call at compiles in
    compiles_by n h owner k now there
    ((λ j. is_compilation_of owner (record { begin = begins j; did = now.did })) ∙ compiles)

-- ---- one slot

-- what is compiled stays so
abbrev pub Grows : Known → Known → Type 0
Grows old new = (key : Key) → is_compiled old key ≡ true → is_compiled new key ≡ true

key_grows : (old new : Known) → Grows old new → (key : Option Key) → holds (is_compiled old) key ≡ true
    → holds (is_compiled new) key ≡ true
key_grows old new grows (Some key) is = grows key is
key_grows old new grows None is = is

pub for_grows : (m n : Moment) (t s : ℕ) (a b : Slot) → Grows m.known n.known → b.key ≡ a.key
    → (compiles_now m (Compile t s) ≡ true → compiles_now n (Compile t s) ≡ true)
    → is_compiled_for m t s a ≡ true → is_compiled_for n t s b ≡ true
for_grows m n t s a b grows key goes is =
    by (or_cases (holds (is_compiled m.known) a.key) (compiles_now m (Compile t s)) is)
  where
    by : (holds (is_compiled m.known) a.key ≡ true) ⊎ (compiles_now m (Compile t s) ≡ true)
        → is_compiled_for n t s b ≡ true
    by (inl done) =
        or_left (holds (is_compiled n.known) b.key) (compiles_now n (Compile t s))
        ((λ j. holds (is_compiled n.known) (key j)) ∙ key_grows m.known n.known grows a.key done)
    by (inr busy) = or_right (holds (is_compiled n.known) b.key) (compiles_now n (Compile t s)) (goes busy)

abbrev pub most : Moment → ℕ → ℕ → Option Slot → ℕ
most m t s slot = most_of_slot m t s slot

-- a slot that is being deleted, one that is compiled for, and one that is neither
pub most_deleted : (m : Moment) (t s : ℕ) (it : Slot) → is_being_deleted it ≡ true → most m t s (Some it) ≡ 3
most_deleted m t s it is = λ j. if is j then 3 else (if is_compiled_for m t s it then 2 else 1)

pub most_compiled : (m : Moment) (t s : ℕ) (it : Slot) → is_being_deleted it ≡ false → is_compiled_for m t s it ≡ true
    → most m t s (Some it) ≡ 2
most_compiled m t s it kept is =
    (λ j. if kept j then 3 else (if is_compiled_for m t s it then 2 else 1)) ∙ (λ j. if is j then 2 else 1)

pub most_made : (m : Moment) (t s : ℕ) (it : Slot) → is_being_deleted it ≡ false → is_compiled_for m t s it ≡ false
    → most m t s (Some it) ≡ 1
most_made m t s it kept is =
    (λ j. if kept j then 3 else (if is_compiled_for m t s it then 2 else 1)) ∙ (λ j. if is j then 2 else 1)

pub most_some : (m : Moment) (t s : ℕ) (it : Slot) → 1 ≤ most m t s (Some it)
most_some m t s it = by (is_being_deleted it) (is_compiled_for m t s it)
  where
    by : (deleted compiled : Bool) → 1 ≤ (if deleted then 3 else (if compiled then 2 else 1))
    by true compiled = omega arith
    by false true = omega arith
    by false false = omega arith

-- unless it is being deleted
pub most_kept : (m : Moment) (t s : ℕ) (it : Slot) → is_being_deleted it ≡ false → most m t s (Some it) ≤ 2
most_kept m t s it kept =
    subst (λ (b : Bool). (if b then 3 else (if is_compiled_for m t s it then 2 else 1)) ≤ 2) (sym kept)
    (by (is_compiled_for m t s it))
  where
    by : (compiled : Bool) → (if compiled then 2 else 1) ≤ 2
    by true = omega arith
    by false = omega arith

pub most_any : (m : Moment) (t s : ℕ) (slot : Option Slot) → most m t s slot ≤ 3
most_any m t s (Some it) = by (is_being_deleted it) (is_compiled_for m t s it)
  where
    by : (deleted compiled : Bool) → (if deleted then 3 else (if compiled then 2 else 1)) ≤ 3
    by true compiled = omega arith
    by false true = omega arith
    by false false = omega arith
most_any m t s None = omega arith

-- what is recorded stays, and with it what was had of it
pub most_same : (m n : Moment) (t s : ℕ) (a b : Slot) → Grows m.known n.known → b.key ≡ a.key
    → (compiles_now m (Compile t s) ≡ true → compiles_now n (Compile t s) ≡ true)
    → (is_being_deleted a ≡ true → is_being_deleted b ≡ true) → most m t s (Some a) ≤ most n t s (Some b)
most_same m n t s a b grows key goes deletes =
    by (is_being_deleted a) refl (is_compiled_for m t s a) refl
  where
    by : (deleted : Bool) → is_being_deleted a ≡ deleted → (compiled : Bool) → is_compiled_for m t s a ≡ compiled
        → (if deleted then 3 else (if compiled then 2 else 1)) ≤ most n t s (Some b)
    by true deleted compiled is =
        subst (λ (k : ℕ). 3 ≤ k) (sym (most_deleted n t s b (deletes deleted))) (omega arith)
    by false kept true is = two (is_being_deleted b) refl
      where
        two : (deleted : Bool) → is_being_deleted b ≡ deleted → 2 ≤ most n t s (Some b)
        two true deleted = subst (λ (k : ℕ). 2 ≤ k) (sym (most_deleted n t s b deleted)) (omega arith)
        two false kept =
            subst (λ (k : ℕ). 2 ≤ k) (sym (most_compiled n t s b kept (for_grows m n t s a b grows key goes is)))
            (omega arith)
    by false kept false is = most_some n t s b

pub most_as : (m n : Moment) (t s : ℕ) → Grows m.known n.known → n.known.slot t s ≡ m.known.slot t s
    → (compiles_now m (Compile t s) ≡ true → compiles_now n (Compile t s) ≡ true)
    → most m t s (m.known.slot t s) ≤ most n t s (n.known.slot t s)
most_as m n t s grows same goes =
    subst (λ (slot : Option Slot). most m t s (m.known.slot t s) ≤ most n t s slot) (sym same)
    (by (m.known.slot t s))
  where
    by : (slot : Option Slot) → most m t s slot ≤ most n t s slot
    by (Some it) = most_same m n t s it it grows refl goes (λ is. is)
    by None = omega arith

-- ---- keys

-- a key that is held now was held before, or is not compiled
abbrev pub HeldBefore : Moment → Moment → ℕ → Task → Type 0
HeldBefore m n t task =
    (key : Key) → is_compiled m.known key ≡ true → is_key_held n.known t task key ≡ true
    → is_key_held m.known t task key ≡ true

pub past_grows : (m n : Moment) (t : ℕ) (task : Task) → Grows m.known n.known → HeldBefore m n t task
    → (work : KeyWork) → is_past m.known t task work ≡ true → is_past n.known t task work ≡ true
past_grows m n t task grows held work is = by (is_key_held n.known t task work.key) refl
  where
    parts : (is_compiled m.known work.key ≡ true) × (not (is_key_held m.known t task work.key) ≡ true)
    parts = and_parts (is_compiled m.known work.key) (not (is_key_held m.known t task work.key)) is

    by : (b : Bool) → is_key_held n.known t task work.key ≡ b → is_past n.known t task work ≡ true
    by true now =
        absurd (false≢true (sym (λ j. not (held work.key parts.0 now j)) ∙ parts.1))
    by false free =
        and_from (is_compiled n.known work.key) (not (is_key_held n.known t task work.key)) (grows work.key parts.0)
        (λ j. not (free j))

-- so no fewer are past
pub past_low : (m n : Moment) (t : ℕ) (task : Task) → Grows m.known n.known → HeldBefore m n t task
    → count_by (is_past m.known t task) (keys_of task.goal) ≤ count_by (is_past n.known t task) (keys_of task.goal)
past_low m n t task grows held =
    count_low (is_past m.known t task) (is_past n.known t task) (keys_of task.goal)
    (λ work isin past. past_grows m n t task grows held work past)

-- slot by slot
pub held_by_slots : (m n : Moment) (t : ℕ) (task : Task)
    → ((key : Key) (s : ℕ) → is_compiled m.known key ≡ true → holds (is_for (Some key)) (n.known.slot t s) ≡ true
    → holds (is_for (Some key)) (m.known.slot t s) ≡ true)
    → HeldBefore m n t task
held_by_slots m n t task each key compiled held =
    let one : Meets (λ s. holds (is_for (Some key)) (n.known.slot t s)) (numbers_below (length (slots_of task.goal))) =
    some_meets (λ s. holds (is_for (Some key)) (n.known.slot t s)) (numbers_below (length (slots_of task.goal))) held in
    any_in (λ s. holds (is_for (Some key)) (m.known.slot t s)) one.x (numbers_below (length (slots_of task.goal)))
    one.is_in (each key one.x compiled one.meets)

-- ---- all slots

module _ (m n : Moment) (t : ℕ) (task : Task) (a b : Account) where
  abbrev count : ℕ
  count = length (slots_of task.goal)

  abbrev made : Account → ℕ → ℕ
  made it s = it.made (Compile t s)

  abbrev most_at : Moment → ℕ → ℕ
  most_at m s = most m t s (m.known.slot t s)

  abbrev past : Moment → ℕ
  past m = count_by (is_past m.known t task) (keys_of task.goal)

  was_few : are_slots_few m t task a ≡ true
      → sum_by (made a) (numbers_below count) ≤ 3 * past m + sum_by (most_at m) (numbers_below count)
  was_few is =
      subst (λ (k : ℕ). k ≤ 3 * past m + sum_by (most_at m) (numbers_below count))
      (sum_mapped a.made (Compile t) (numbers_below count))
      (leb-true (sum_by a.made (own_slots t task)) (3 * past m + sum_by (most_at m) (numbers_below count)) is)

  now_few : sum_by (made b) (numbers_below count) ≤ 3 * past n + sum_by (most_at n) (numbers_below count)
      → are_slots_few n t task b ≡ true
  now_few is =
      le-leb (sum_by b.made (own_slots t task)) (3 * past n + sum_by (most_at n) (numbers_below count))
      (subst (λ (k : ℕ). k ≤ 3 * past n + sum_by (most_at n) (numbers_below count))
      (sym (sum_mapped b.made (Compile t) (numbers_below count))) is)

  -- one slot has so many calls more, and may have had so many more, or fewer
  pub slots_step : (s more up down key : ℕ) → s < count → ((k : ℕ) → (s == k) ≡ false → made b k ≤ made a k)
      → made b s ≤ made a s + more → ((k : ℕ) → (s == k) ≡ false → most_at m k ≤ most_at n k)
      → most_at m s + up ≤ most_at n s + down → past m + key ≤ past n → more + down ≤ up + 3 * key
      → are_slots_few m t task a ≡ true → are_slots_few n t task b ≡ true
  slots_step s more up down key low others one grow_others grow keys enough is =
      let made_more : sum_by (made b) (numbers_below count) + 0 ≤ sum_by (made a) (numbers_below count) + more =
      below_step (made b) (made a) s 0 more count others (omega (arith, one)) low in
      let most_more : sum_by (most_at m) (numbers_below count) + up ≤ sum_by (most_at n) (numbers_below count) + down =
      below_step (most_at m) (most_at n) s up down count grow_others grow low in
      let few : sum_by (made a) (numbers_below count) ≤ 3 * past m + sum_by (most_at m) (numbers_below count) =
      was_few is in
      now_few (omega (arith, made_more, most_more, few, keys, enough))

  -- none has more, or may have had fewer
  pub slots_still : ((k : ℕ) → made b k ≤ made a k) → ((k : ℕ) → most_at m k ≤ most_at n k) → past m ≤ past n
      → are_slots_few m t task a ≡ true → are_slots_few n t task b ≡ true
  slots_still fewer grow keys is =
      let made_less : sum_by (made b) (numbers_below count) ≤ sum_by (made a) (numbers_below count) =
      below_low (made b) (made a) count (λ k low. fewer k) in
      let most_more : sum_by (most_at m) (numbers_below count) ≤ sum_by (most_at n) (numbers_below count) =
      below_low (most_at m) (most_at n) count (λ k low. grow k) in
      let few : sum_by (made a) (numbers_below count) ≤ 3 * past m + sum_by (most_at m) (numbers_below count) =
      was_few is in
      now_few (omega (arith, made_less, most_more, few, keys))

-- its slots are as they were
pub slots_left : (m n : Moment) (t : ℕ) (task : Task) (a b : Account) → KnownFacts n → Grows m.known n.known
    → ((k : ℕ) → n.known.slot t k ≡ m.known.slot t k) → ((k : ℕ) → KeepsCompilations m n (Compile t k))
    → ((k : ℕ) → b.made (Compile t k) ≡ a.made (Compile t k)) → are_slots_few m t task a ≡ true
    → are_slots_few n t task b ≡ true
slots_left m n t task a b h grows same keeps made is =
    slots_still m n t task a b (λ k. subst (λ (x : ℕ). x ≤ a.made (Compile t k)) (sym (made k)) (omega arith))
    (λ k. most_as m n t k grows (same k) (compiles_on m n h (Compile t k) (keeps k)))
    (past_low m n t task grows
    (held_by_slots m n t task
    (λ key s compiled held. sym (λ j. holds (is_for (Some key)) (same s j)) ∙ held)))
    is
