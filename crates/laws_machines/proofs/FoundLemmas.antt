-- The work of a key among keys that differ.
use Rattle.std.proofs.Common.{◌≡◌, ◌∙◌, Bool, true, false, ◌&&◌, ◌||◌, not, Some, List, [], ◌∷◌}
use Rattle.std.proofs.Common.{ap, refl, sym, inl, inr}
use Rattle.std.specs.Prelude.{◌⊎◌, find, if◌then◌else◌}
use Rattle.std.specs.List.{list_all}
use Rattle.std.proofs.lemmas.Bool.{and_parts, false≢true, or_left}
use Rattle.bosh_base.specs.declared.key.Key.{Key}
use Rattle.bosh_base.specs.declared.key.KeyWork.{KeyWork}
use Rattle.bosh_compile.proofs.KeyLemmas.{same_key_decides}
use Rattle.bosh_compile.specs.Readiness.{is_among, same_key}
use Rattle.bosh_history.specs.Keys.{stand_after_needs}
use Rattle.laws_items.specs.Lists.{IsIn}
use Rattle.laws_tasks.proofs.CountLemmas.{neither, not_so}

-- a key that stands after others is none of them
not_before : (is_compiled : Key → Bool) (work : KeyWork) (before : List Key) (works : List KeyWork)
    → stand_after_needs is_compiled before works ≡ true → IsIn work works → is_among work.key before ≡ false
not_before is_compiled work before [] stand is = absurd is
not_before is_compiled work before (first ∷ works) stand is =
    by (not_before is_compiled work (first.key ∷ before) works rest) is
  where
    parts : (not (is_among first.key before) ≡ true)
        × ((list_all (λ key. is_compiled key || is_among key before) first.deps
        && stand_after_needs is_compiled (first.key ∷ before) works) ≡ true)
    parts = and_parts (not (is_among first.key before)) _ stand

    rest : stand_after_needs is_compiled (first.key ∷ before) works ≡ true
    rest = (and_parts (list_all (λ key. is_compiled key || is_among key before) first.deps) _ parts.1).1

    by : (IsIn work works → is_among work.key (first.key ∷ before) ≡ false) → (first ≡ work) ⊎ IsIn work works
        → is_among work.key before ≡ false
    by more (inl same) =
        (λ j. is_among (sym same j).key before) ∙ not_so (is_among first.key before) parts.0
    by more (inr is) = (neither (same_key first.key work.key) (is_among work.key before) (more is)).1

-- so it is found by its key
pub find_self : (is_compiled : Key → Bool) (work : KeyWork) (before : List Key) (works : List KeyWork)
    → stand_after_needs is_compiled before works ≡ true → IsIn work works
    → find (λ it. same_key it.key work.key) works ≡ Some work
find_self is_compiled work before [] stand is = absurd is
find_self is_compiled work before (first ∷ works) stand is =
    by (find_self is_compiled work (first.key ∷ before) works rest) is
  where
    parts : (not (is_among first.key before) ≡ true)
        × ((list_all (λ key. is_compiled key || is_among key before) first.deps
        && stand_after_needs is_compiled (first.key ∷ before) works) ≡ true)
    parts = and_parts (not (is_among first.key before)) _ stand

    rest : stand_after_needs is_compiled (first.key ∷ before) works ≡ true
    rest = (and_parts (list_all (λ key. is_compiled key || is_among key before) first.deps) _ parts.1).1

    later : (IsIn work works → find (λ it. same_key it.key work.key) works ≡ Some work) → IsIn work works → (b : Bool)
        → same_key first.key work.key ≡ b
        → (if b then Some first else find (λ it. same_key it.key work.key) works) ≡ Some work
    later more is true same =
        absurd
        (false≢true
        (sym (not_before is_compiled work (first.key ∷ before) works rest is)
        ∙ or_left (same_key first.key work.key) (is_among work.key before) same))
    later more is false other = more is

    by : (IsIn work works → find (λ it. same_key it.key work.key) works ≡ Some work) → (first ≡ work) ⊎ IsIn work works
        → (if same_key first.key work.key then Some first else find (λ it. same_key it.key work.key) works) ≡ Some work
    by more (inl same) =
        (λ j. if (same_key_decides first.key work.key).1 (ap (λ (it : KeyWork). it.key) same) j then Some first
        else find (λ it. same_key it.key work.key) works)
        ∙ ap Some same
    by more (inr is) = later more is (same_key first.key work.key) refl
