-- Which owners are items, by their phases.
use Rattle.std.proofs.Common.{◌≡◌, ◌∙◌, ℕ, ◌+◌, ◌<◌, ◌≤◌, zero, suc, Bool, true, false, not, List, []}
use Rattle.std.proofs.Common.{length, Option, Some, None, ap, refl, sym, subst, arith}
use Rattle.std.specs.Prelude.{◌==◌, nat_lt, if◌then◌else◌}
use Rattle.std.specs.List.{list_all}
use Rattle.std.proofs.lemmas.Bool.{and_parts, false≢true, lt-ltb, ltb-true, not-true}
use Rattle.bosh_base.specs.declared.inst.Inst.{Inst}
use Rattle.bosh_base.specs.declared.owner.Owner.{Owner}
use Rattle.bosh_base.specs.declared.owner.Owner.TheVariants.{Instance, Compile}
use Rattle.bosh_history.specs.Items.{candidates, is_before, is_item, is_leftover, none_left_before, is_slot_left}
use Rattle.bosh_history.specs.Items.{is_to_change}
use Rattle.bosh_history.specs.Items.{is_to_go, is_to_ping, items, phase_of, slots_of, stage_of}
use Rattle.bosh_history.specs.Known.{Known, plan_in}
use Rattle.bosh_history.specs.Words.{holds}
use Rattle.laws_items.specs.Lists.{IsIn}
use Rattle.laws_items.proofs.PhaseLemmas.{IsLeft, of_item, tried_change}
use Rattle.laws_items.proofs.ListLemmas.{Meets, all_in, in_filtered}
use Rattle.laws_items.proofs.ListLemmas.{not_false}
use Rattle.laws_items.proofs.ListLemmas.{some_fails}

-- ---- the earliest phase

earlier : (phase : ℕ) (other : Option ℕ) → is_before phase other ≡ true → (q : ℕ) × (other ≡ Some q) × (q < phase)
earlier phase (Some q) is = (q, refl, ltb-true q phase is)
earlier phase None is = absurd (false≢true is)

-- where one of a list has a phase, one has a phase before which no other has one
least_within : {X : Type 0} (phase : X → Option ℕ) (xs : List X) (bound : ℕ) (x : X) (p : ℕ) → p < bound → IsIn x xs
    → phase x ≡ Some p → Meets (λ x. holds (λ p. list_all (λ y. not (is_before p (phase y))) xs) (phase x)) xs
least_within phase xs zero x p below is at = absurd (omega arith)
least_within {X = X} phase xs (suc bound) x p below is at = by (present p) refl (λ y q. least_within phase xs bound y q)
  where
    present : ℕ → Bool
    present p = list_all (λ y. not (is_before p (phase y))) xs

    by : (b : Bool) → present p ≡ b
        → ((y : X) (q : ℕ) → q < bound → IsIn y xs → phase y ≡ Some q → Meets (λ x. holds present (phase x)) xs)
        → Meets (λ x. holds present (phase x)) xs
    by true none more = record { x = x; is_in = is; meets = ap (holds present) at ∙ none }
    by false some more =
        let early : Meets (λ y. not (not (is_before p (phase y)))) xs = some_fails _ xs some in
        let first : (q : ℕ) × (phase early.x ≡ Some q) × (q < p) =
        earlier p (phase early.x) (not_false _ (not-true _ early.meets)) in
        let less : first.0 < p = first.2 in more early.x first.0 (omega arith) early.is_in first.1

-- ---- the owners of a task

module _ (k : Known) (t : ℕ) where
  -- a compile machine of the task that is an item is of a slot of its goal
  pub slot_is_wanted : (task s : ℕ) → (task == t) ≡ true → is_item k t (Compile task s) ≡ true
      → s < length (slots_of (k.task t).goal)
  slot_is_wanted task s own item = by (is_slot_left k t s) refl
    where
      by : (b : Bool) → is_slot_left k t s ≡ b → s < length (slots_of (k.task t).goal)
      by true left =
          ltb-true s (length (slots_of (k.task t).goal))
          (and_parts (nat_lt s (length (slots_of (k.task t).goal))) _ left).0
      by false left =
          let it : (p : ℕ) × IsLeft k t (Compile task s) p = of_item k t (Compile task s) item in
          absurd
          (let none : phase_of k t (Compile task s) ≡ None =
          (λ j. if own j then (if left j then Some 2 else None)
          else (if is_leftover k t (record { task = task; slot = s }) then Some 1 else None)) in
          let some : phase_of k t (Compile task s) ≡ Some it.0 = it.1.phase in cc)

  -- where there are no items nothing is left of those that are tried
  pub none_left : items k t ≡ [] → (o : Owner) → IsIn o (candidates k t) → phase_of k t o ≡ None
  none_left none o is = by (phase_of k t o) refl
    where
      by : (p : Option ℕ) → phase_of k t o ≡ p → p ≡ None
      by None at = refl
      by (Some p) at =
          let first : Meets (is_item k t) (candidates k t) =
          least_within (phase_of k t) (candidates k t) (suc p) o p (omega arith) is at in
          absurd
          (subst (λ (xs : List Owner). IsIn first.x xs) none
          (in_filtered (is_item k t) first.x (candidates k t) first.is_in first.meets))

  -- while groups are updated, no changed instance is asked or leaves
  pub calm : (p : ℕ) (i : Inst) → 4 ≤ p → none_left_before k t p ≡ true → IsIn i (k.task t).changed
      → (is_to_ping (k.task t) i ≡ false) × (is_to_go (k.task t) i ≡ false)
  calm p i late present is =
      by (is_to_ping (k.task t) i) (is_to_go (k.task t) i) refl refl
      (all_in (λ o. not (is_before p (phase_of k t o))) (Instance i) (candidates k t) present (tried_change k t i is))
    where
      by : (ping go : Bool) → is_to_ping (k.task t) i ≡ ping → is_to_go (k.task t) i ≡ go
          → not (is_before p (if ping then Some 0 else (if go then Some 3
          else (if is_to_change (k.task t) i then Some (4 + stage_of (plan_in (k.task t).goal i)) else None)))) ≡ true
          → (is_to_ping (k.task t) i ≡ false) × (is_to_go (k.task t) i ≡ false)
      by true go asked leaves other = absurd (false≢true (sym (ap not (lt-ltb 0 p (omega arith))) ∙ other))
      by false true asked leaves other = absurd (false≢true (sym (ap not (lt-ltb 3 p (omega arith))) ∙ other))
      by false false asked leaves other = (asked, leaves)
