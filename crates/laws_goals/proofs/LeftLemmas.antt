-- The keys of a goal that is made anew are those of the current one that are not compiled, and can be compiled in their
-- order.
use Rattle.std.proofs.Common.{◌≡◌, ◌∙◌, Bool, true, false, true≢false, ◌||◌, not, cond, List, [], ◌∷◌, Some, Ok, filter, length, map, ap, refl, sym, subst, inl, inr, ◌⊎◌}
use Rattle.std.specs.List.{list_all}
use Rattle.std.proofs.lemmas.Bool.{and_from, and_parts, or_cases, or_left, or_parts, or_right, not-true}
use Rattle.bosh_base.specs.declared.goal.Goal.{Goal}
use Rattle.bosh_base.specs.declared.inst.Inst.{Inst}
use Rattle.bosh_base.specs.declared.key.Key.{Key}
use Rattle.bosh_base.specs.declared.key.KeyWork.{KeyWork}
use Rattle.bosh_base.specs.declared.view.View.{View}
use Rattle.bosh_cloudcfg.specs.declared.config.Config.{Config}
use Rattle.bosh_compile.specs.Readiness.{is_among, same_key}
use Rattle.bosh_compile.proofs.KeyLemmas.{same_key_decides}
use Rattle.bosh_goal.specs.Anew.{anew, is_left}
use Rattle.bosh_goal.specs.declared.change.Change.{Change}
use Rattle.bosh_history.specs.Keys.{Leveled, are_after, are_in_order, comes_after, is_listed, leveled_work, stand_after_needs}
use Rattle.laws_goals.specs.Keys.{CanBeCompiled}
use Rattle.laws_goals.specs.Renewed.{HasKeysLeft}
use Rattle.laws_goals.proofs.AnewLemmas.{IsAnew, is-anew}
use Rattle.laws_goals.proofs.KeyLemmas.{slotted}
use Rattle.laws_goals.proofs.ListLemmas.{all_map, all_pass, passes}
use Rattle.laws_goals.proofs.OrderLemmas.{key-flip}

module _ (compiled : List Key) where
  abbrev is_compiled : Key → Bool
  is_compiled key = is_among key compiled

  -- of the keys before, those that are left are those that are not compiled
  record AreLeftOf (before left : List Key) : Type 0 where
    fewer : (key : Key) → is_among key before ≡ false → is_among key left ≡ false
    others : (key : Key) → is_among key before ≡ true → (is_compiled key ≡ true) ⊎ (is_among key left ≡ true)

  had : (before left : List Key) → AreLeftOf before left → (key : Key) → (is_compiled key || is_among key before) ≡ true → (is_compiled key || is_among key left) ≡ true
  had before left of key h =
      elim (or_cases (is_compiled key) (is_among key before) h) [
        | inl done ↦ or_left (is_compiled key) (is_among key left) done
        | inr there ↦ elim (of.others key there) [ inl done ↦ or_left (is_compiled key) (is_among key left) done | inr more ↦ or_right (is_compiled key) (is_among key left) more ]
      ]

  skipped : (before left : List Key) (new : Key) → is_compiled new ≡ true → AreLeftOf before left → AreLeftOf (new ∷ before) left
  skipped before left new done of = record {
    fewer = λ key none. of.fewer key (or_parts (same_key new key) (is_among key before) none).1;
    others = λ key h. elim (or_cases (same_key new key) (is_among key before) h) [
      | inl same ↦ inl (ap is_compiled (sym ((same_key_decides new key).0 same)) ∙ done)
      | inr there ↦ of.others key there
    ];
  }

  one-more : (before left : List Key) (new : Key) → AreLeftOf before left → AreLeftOf (new ∷ before) (new ∷ left)
  one-more before left new of = record {
    fewer = λ key none.
        let (first, rest) = or_parts (same_key new key) (is_among key before) none in
        ap (λ b. b || is_among key left) first ∙ of.fewer key rest;
    others = λ key h. elim (or_cases (same_key new key) (is_among key before) h) [
      | inl same ↦ inr (or_left (same_key new key) (is_among key left) same)
      | inr there ↦ elim (of.others key there) [ inl done ↦ inl done | inr more ↦ inr (or_right (same_key new key) (is_among key left) more) ]
    ];
  }

  left-stand : (works : List KeyWork) (before left : List Key) → AreLeftOf before left → stand_after_needs is_compiled before works ≡ true
      → stand_after_needs is_compiled left (filter (is_left compiled) works) ≡ true
  left-stand [] before left of h = refl
  left-stand (work ∷ works) before left of h = by (is_compiled work.key) refl
      (λ done. left-stand works (work.key ∷ before) left (skipped before left work.key done of) parts.1.1)
      (left-stand works (work.key ∷ before) (work.key ∷ left) (one-more before left work.key of) parts.1.1)
    where
      parts : (not (is_among work.key before) ≡ true) × ((list_all (λ key. is_compiled key || is_among key before) work.deps ≡ true) × (stand_after_needs is_compiled (work.key ∷ before) works ≡ true))
      parts =
          let (first, rest) = and_parts (not (is_among work.key before)) _ h in
          (first, and_parts (list_all (λ key. is_compiled key || is_among key before) work.deps) (stand_after_needs is_compiled (work.key ∷ before) works) rest)

      by : (b : Bool) → is_compiled work.key ≡ b
          → (is_compiled work.key ≡ true → stand_after_needs is_compiled left (filter (is_left compiled) works) ≡ true)
          → stand_after_needs is_compiled (work.key ∷ left) (filter (is_left compiled) works) ≡ true
          → stand_after_needs is_compiled left (cond (not b) (work ∷ filter (is_left compiled) works) (filter (is_left compiled) works)) ≡ true
      by true e without with_it = without e
      by false e without with_it =
          and_from (not (is_among work.key left)) _ (ap not (of.fewer work.key (not-true (is_among work.key before) parts.0)))
          (and_from (list_all (λ key. is_compiled key || is_among key left) work.deps) (stand_after_needs is_compiled (work.key ∷ left) (filter (is_left compiled) works))
          (all_pass (λ key. is_compiled key || is_among key left) work.deps
          (all_map (λ key. (is_compiled key || is_among key before) ≡ true) (λ key. (is_compiled key || is_among key left) ≡ true) work.deps (had before left of)
          (passes (λ key. is_compiled key || is_among key before) work.deps parts.1.0)))
          with_it)

  none-compiled : (works : List KeyWork) → list_all (λ work. not (is_among work.key compiled)) (filter (is_left compiled) works) ≡ true
  none-compiled [] = refl
  none-compiled (work ∷ works) = by (is_left compiled work) refl (none-compiled works)
    where
      by : (b : Bool) → is_left compiled work ≡ b → list_all (λ w. not (is_among w.key compiled)) (filter (is_left compiled) works) ≡ true
          → list_all (λ w. not (is_among w.key compiled)) (cond b (work ∷ filter (is_left compiled) works) (filter (is_left compiled) works)) ≡ true
      by true e rest = and_from (is_left compiled work) (list_all (λ w. not (is_among w.key compiled)) (filter (is_left compiled) works)) e rest
      by false e rest = rest

-- ---- keys in order

key-same : (a b : Key) → same_key a b ≡ same_key b a
key-same a b = by (same_key a b) (same_key b a) refl refl
  where
    by : (c d : Bool) → same_key a b ≡ c → same_key b a ≡ d → same_key a b ≡ same_key b a
    by true d e f = e ∙ sym (key-flip a b e)
    by false true e f = key-flip b a f ∙ sym f
    by false false e f = e ∙ sym f

abbrev keys-before : List Leveled → List Key
keys-before before = map (λ it. it.work.key) before

listed-among : (before : List Leveled) (key : Key) → is_listed before key ≡ is_among key (keys-before before)
listed-among [] key = refl
listed-among (it ∷ before) key = λ i. key-same key it.work.key i || listed-among before key i

after-needs : (is_compiled : Key → Bool) (works : List KeyWork) (before : List Leveled) → are_after is_compiled before works ≡ true → stand_after_needs is_compiled (keys-before before) works ≡ true
after-needs is_compiled [] before h = refl
after-needs is_compiled (work ∷ works) before h =
    let (new, rest) = and_parts (not (is_compiled work.key || is_listed before work.key)) _ h in
    let (needs, rest') = and_parts (list_all (λ key. is_compiled key || is_listed before key) work.deps) _ rest in
    let (order, later) = and_parts (comes_after before (leveled_work before work)) _ rest' in
    let unlisted : is_listed before work.key ≡ false = (or_parts (is_compiled work.key) (is_listed before work.key) (not-true (is_compiled work.key || is_listed before work.key) new)).1 in
    and_from (not (is_among work.key (keys-before before))) _ (ap not (sym (listed-among before work.key) ∙ unlisted))
    (and_from (list_all (λ key. is_compiled key || is_among key (keys-before before)) work.deps) _
    (sym (λ i. list_all (λ (key : Key). is_compiled key || listed-among before key i) work.deps) ∙ needs)
    (after-needs is_compiled works (leveled_work before work ∷ before) later))

pub can-be-compiled : (compiled : List Key) (works : List KeyWork) → are_in_order (λ key. is_among key compiled) works ≡ true → CanBeCompiled compiled works
can-be-compiled compiled works h = after-needs (λ key. is_among key compiled) works [] h

-- ---- a goal that is made anew

pub has-keys-left :
    (inst : Inst) (change : Change) (config : Config) (view : View) (goal it : Goal) → CanBeCompiled view.compiled goal.keys
    → anew inst change (Some config) view goal ≡ Ok it → HasKeysLeft view.compiled it
has-keys-left inst change config view goal it can told =
    let made : IsAnew inst change config view goal it = is-anew inst change config view goal it told in
    subst (HasKeysLeft view.compiled) (sym made.is) (record {
      uncompiled = none-compiled view.compiled goal.keys;
      can_be_compiled = left-stand view.compiled goal.keys [] [] (record { fewer = λ key none. refl; others = λ key h. absurd (true≢false (sym h)) }) can;
      slotted = slotted config (length (filter (is_left view.compiled) goal.keys)) [] view made.makes made.slots_are;
    })
