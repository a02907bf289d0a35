-- Keys that stand after what they need: where one is left, one is left that can be compiled.
use Rattle.std.proofs.Common.{◌≡◌, ◌∙◌, Bool, true, false, ◌&&◌, ◌||◌, not, List, [], ◌∷◌, ap, refl, sym, inl, inr}
use Rattle.std.specs.List.{list_all}
use Rattle.std.proofs.lemmas.Bool.{and_from, and_parts, false≢true, or_cases}
use Rattle.bosh_base.specs.declared.key.Key.{Key}
use Rattle.bosh_base.specs.declared.key.KeyWork.{KeyWork}
use Rattle.bosh_compile.proofs.KeyLemmas.{same_key_decides}
use Rattle.bosh_compile.specs.Readiness.{is_among, same_key}
use Rattle.bosh_history.specs.Keys.{stand_after_needs}
use Rattle.laws_items.proofs.ListLemmas.{Meets, all_from, all_in}

-- the work is not done, and all that it needs is
abbrev pub is_next : (Key → Bool) → KeyWork → Bool
is_next is_compiled work = list_all is_compiled work.deps && not (is_compiled work.key)

pub one_is_next : (is_compiled : Key → Bool) (before : List Key) (works : List KeyWork)
    → ((key : Key) → is_among key before ≡ true → is_compiled key ≡ true)
    → stand_after_needs is_compiled before works ≡ true → list_all (λ work. is_compiled work.key) works ≡ false
    → Meets (is_next is_compiled) works
one_is_next is_compiled before [] done stand left = absurd (false≢true (sym left))
one_is_next is_compiled before (work ∷ works) done stand left =
    by (is_compiled work.key) refl left (one_is_next is_compiled (work.key ∷ before) works)
  where
    parts : (not (is_among work.key before) ≡ true)
        × ((list_all (λ key. is_compiled key || is_among key before) work.deps
        && stand_after_needs is_compiled (work.key ∷ before) works) ≡ true)
    parts = and_parts (not (is_among work.key before)) _ stand

    needs : (list_all (λ key. is_compiled key || is_among key before) work.deps ≡ true)
        × (stand_after_needs is_compiled (work.key ∷ before) works ≡ true)
    needs = and_parts (list_all (λ key. is_compiled key || is_among key before) work.deps) _ parts.1

    need : (key : Key) → (is_compiled key || is_among key before) ≡ true → is_compiled key ≡ true
    need key is = elim (or_cases (is_compiled key) (is_among key before) is) [
      | inl here ↦ here
      | inr there ↦ done key there
    ]

    more_done : is_compiled work.key ≡ true → (key : Key) → is_among key (work.key ∷ before) ≡ true
        → is_compiled key ≡ true
    more_done here key is = elim (or_cases (same_key work.key key) (is_among key before) is) [
      | inl same ↦ ap is_compiled (sym ((same_key_decides work.key key).0 same)) ∙ here
      | inr there ↦ done key there
    ]

    by : (b : Bool) → is_compiled work.key ≡ b → (b && list_all (λ work. is_compiled work.key) works) ≡ false
        → (((key : Key) → is_among key (work.key ∷ before) ≡ true → is_compiled key ≡ true)
        → stand_after_needs is_compiled (work.key ∷ before) works ≡ true
        → list_all (λ work. is_compiled work.key) works ≡ false → Meets (is_next is_compiled) works)
        → Meets (is_next is_compiled) (work ∷ works)
    by true here left more =
        let it : Meets (is_next is_compiled) works = more (more_done here) needs.1 left in
        record { x = it.x; is_in = inr it.is_in; meets = it.meets }
    by false not_yet left more = record {
      x = work;
      is_in = inl refl;
      meets =
          and_from (list_all is_compiled work.deps) (not (is_compiled work.key))
          (all_from is_compiled work.deps
          (λ key is. need key (all_in (λ key. is_compiled key || is_among key before) key work.deps needs.0 is)))
          (ap not not_yet);
    }
