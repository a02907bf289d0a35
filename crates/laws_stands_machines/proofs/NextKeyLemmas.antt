-- The key that a machine is recorded to be for is the one that is told.
use Rattle.std.proofs.Common.{◌≡◌, ◌∙◌, ◌+◌, ℕ, suc, zero, Bool, true, false, ◌||◌, List, [], ◌∷◌, map, not, Option, Some, None, ap, arith, refl, sym}
use Rattle.std.specs.Prelude.{if◌then◌else◌, slice_get}
use Rattle.std.specs.Option.{option_and_then, option_map}
use Rattle.std.proofs.lemmas.Bool.{and_parts, false≢true}
use Rattle.bosh_base.specs.declared.goal.Goal.{Goal}
use Rattle.bosh_base.specs.declared.key.Key.{Key}
use Rattle.bosh_base.specs.declared.key.KeyWork.{KeyWork}
use Rattle.bosh_compile.proofs.KeyLemmas.{same_key_decides}
use Rattle.bosh_compile.specs.Readiness.{same_key}
use Rattle.bosh_history.specs.Calls.{key_for}
use Rattle.bosh_history.specs.Known.{Known}
use Rattle.bosh_history.specs.Moments.{Moment}
use Rattle.bosh_history.specs.Slots.{keys_of, next_key}
use Rattle.bosh_history.specs.Words.{is_among}
use Rattle.bosh_progress.specs.Tree.{first_marked}
use Rattle.bosh_records.specs.NextKey as next
use Rattle.bosh_records.specs.declared.records.Records.{Records}
use Rattle.bosh_rows.specs.SoundSnapshot.{are_distinct}
use Rattle.bosh_work.specs.declared.part.MachineName.{MachineName}
use Rattle.bosh_work.specs.declared.work.Work.{Work}
use Rattle.laws_stands.proofs.NextKeyLemmas.{goal_of_work, key_at_is, next_is}
use Rattle.laws_stands.specs.Choosing.{CanChoose}
use Rattle.laws_stands.specs.Stands.{key_place}
use Rattle.laws_stands.specs.WorkStands.{keys_in}

-- ---- places

-- a key of a list is the same as one of it
among_at : (key : Key) (works : List KeyWork) (j : ℕ) (work : KeyWork) → slice_get works j ≡ Some work
    → same_key key work.key ≡ true → is_among same_key key (map (λ work. work.key) works) ≡ true
among_at key [] j work is same = absurd cc
among_at key (x ∷ xs) zero work is same = let e : x ≡ work = cc in
    (λ i. (ap (λ (it : KeyWork). same_key key it.key) e ∙ same) i || is_among same_key key (map (λ work. work.key) xs))
among_at key (x ∷ xs) (suc j) work is same = by (same_key key x.key) (among_at key xs j work is same)
  where
    by : (b : Bool) → is_among same_key key (map (λ work. work.key) xs) ≡ true
        → (b || is_among same_key key (map (λ work. work.key) xs)) ≡ true
    by true more = refl
    by false more = more

-- where no key stands twice, the place of a key is the one at which it stands
place_there : (works : List KeyWork) → are_distinct same_key (map (λ work. work.key) works) ≡ true → (j : ℕ)
    (work : KeyWork) → slice_get works j ≡ Some work
    → first_marked (map (λ it. same_key it.key work.key) works) ≡ Some j
place_there [] apart j work is = absurd cc
place_there (x ∷ xs) apart zero work is = let e : x ≡ work = cc in
    λ i. first_marked ((ap (λ (it : KeyWork). same_key it.key work.key) e ∙ (same_key_decides work.key work.key).1 refl) i
    ∷ map (λ it. same_key it.key work.key) xs)
place_there (x ∷ xs) apart (suc j) work is =
    let (away, rest) = and_parts (not (is_among same_key x.key (map (λ work. work.key) xs)))
    (are_distinct same_key (map (λ work. work.key) xs)) apart in
    by (same_key x.key work.key) refl away (place_there xs rest j work is)
  where
    by : (b : Bool) → same_key x.key work.key ≡ b
        → not (is_among same_key x.key (map (λ work. work.key) xs)) ≡ true
        → first_marked (map (λ it. same_key it.key work.key) xs) ≡ Some j
        → first_marked (b ∷ map (λ it. same_key it.key work.key) xs) ≡ Some (suc j)
    by false other away more = ap (option_map suc) more
    by true same away more =
        absurd (false≢true (sym (ap not (among_at x.key xs j work is same)) ∙ away))

-- ---- the first key that may be compiled is one of the goal's

record StandsAt (from place : ℕ) (keys : List KeyWork) : Type 0 where
  at : ℕ
  is : place ≡ from + at
  key : KeyWork
  there : slice_get keys at ≡ Some key

first_there : (records : Records) (work : Work) (from place : ℕ) (keys : List KeyWork)
    → next.first_key records work from keys ≡ Some place → StandsAt from place keys
first_there records work from place [] is = absurd cc
first_there records work from place (key ∷ keys) is =
    by (next.may_compile records work from key) is (λ is. first_there records work (from + 1) place keys is)
  where
    by : (b : Bool) → (if b then Some from else next.first_key records work (from + 1) keys) ≡ Some place
        → (next.first_key records work (from + 1) keys ≡ Some place → StandsAt (from + 1) place keys)
        → StandsAt from place (key ∷ keys)
    by true is more = let e : from ≡ place = cc in
        record { at = 0; is = (let same : from ≡ place = e in omega arith); key = key; there = refl }
    by false is more = let behind : StandsAt (from + 1) place keys = more is in record {
      at = suc behind.at;
      is = (let same : place ≡ (from + 1) + behind.at = behind.is in omega arith);
      key = behind.key;
      there = behind.there;
    }

module _ (m : Moment) (n worker : ℕ) (records : Records) (swept : List MachineName) (work : Work)
    (can : CanChoose m n records swept work) (apart : are_distinct same_key (keys_in (m.known.task n).goal) ≡ true) where
  abbrev k : Known
  k = m.known

  abbrev keys : List KeyWork
  keys = keys_of (k.task n).goal

  -- the place of the next key is told, where there is one
  pub next_placed : (s : ℕ) → k.slot n s ≡ None → next.next_key records work ≡ key_place k n (key_for k n s)
  next_placed s none = by (next.next_key records work) refl
    where
      found_is : option_and_then (λ j. slice_get keys j) (next.next_key records work) ≡ next_key k n s
      found_is =
          sym (key_at_is m n worker records swept work can (next.next_key records work))
          ∙ next_is m n worker records swept work can s none

      goal_there : (goal : Option Goal) → next.goal_for records work.task ≡ goal → (j : ℕ)
          → option_and_then (λ (goal : Goal). next.first_key records work 0 goal.keys) goal ≡ Some j
          → StandsAt 0 j (keys_of goal)
      goal_there (Some goal) is j found = first_there records work 0 j goal.keys found
      goal_there None is j found = absurd cc

      by : (o : Option ℕ) → next.next_key records work ≡ o → o ≡ key_place k n (key_for k n s)
      by None is =
          ap (λ it. key_place k n (option_map (λ (work : KeyWork). work.key) it))
          (ap (option_and_then (λ j. slice_get keys j)) (sym is) ∙ found_is)
      by (Some j) is =
          let at : StandsAt 0 j keys =
          goal_there (k.task n).goal (goal_of_work m n worker records swept work can) j
          (ap (option_and_then (λ (goal : Goal). next.first_key records work 0 goal.keys))
          (sym (goal_of_work m n worker records swept work can)) ∙ is) in
          let place_is : j ≡ 0 + at.at = at.is in
          let here : at.at ≡ j = omega arith in
          let key_there : slice_get keys j ≡ Some at.key = ap (slice_get keys) (sym here) ∙ at.there in
          sym (place_there keys apart j at.key key_there)
          ∙ ap (λ it. key_place k n (option_map (λ (work : KeyWork). work.key) it))
          (sym key_there ∙ ap (option_and_then (λ j. slice_get keys j)) (sym is) ∙ found_is)
