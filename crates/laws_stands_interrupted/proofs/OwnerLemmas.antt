-- Which calls are told as open of an owner, once those of a task are open no more.
use Rattle.std.proofs.Common.{◌≡◌, ◌∙◌, ℕ, Bool, true, false, ◌&&◌, not, ◌==◌, List, [], ◌∷◌, Option, Some, None, ap}
use Rattle.std.proofs.Common.{refl, sym}
use Rattle.std.specs.Prelude.{find, if◌then◌else◌}
use Rattle.std.specs.List.{list_all, list_any}
use Rattle.std.proofs.lemmas.Bool.{true≢false}
use Rattle.bosh_base.specs.Cloud.{numbers_to}
use Rattle.bosh_base.specs.declared.entry.Begin.{Begin}
use Rattle.bosh_base.specs.declared.owner.Owner.{Owner}
use Rattle.bosh_history.specs.Words.{holds}
use Rattle.bosh_rows.specs.Same.{same_owner}
use Rattle.laws_stands.specs.Told.{TellsWell, Told, of_others}
use Rattle.laws_stands_interrupted.specs.Interrupts.{told_without}
use Rattle.laws_stands_on.proofs.CallLemmas.{same_owner_is}
use Rattle.laws_stands_on.proofs.FindLemmas.{any_within, find_within}

module _ (t : ℕ) (told : Told) where
  -- what is told once no call of the task is open
  abbrev new : Told
  new = told_without t told

  -- ---- a test of calls that none of the task passes

  module _ (p : Begin → Bool) (none : (n : ℕ) (b : Begin) → told.calls n ≡ Some b → (b.task == t) ≡ true → p b ≡ false)
    where
      pub same_test : (n : ℕ) → holds p (new.calls n) ≡ holds p (told.calls n)
      same_test n = by (told.calls n) refl
        where
          by : (o : Option Begin) → told.calls n ≡ o → holds p (of_others t o) ≡ holds p o
          by None is = refl
          by (Some b) is = own (b.task == t) refl
            where
              own : (c : Bool) → (b.task == t) ≡ c → holds p (if c then None else Some b) ≡ p b
              own true one = sym (none n b is one)
              own false other = refl

      pub same_found : find (λ n. holds p (new.calls n)) (numbers_to told.known.last_call)
          ≡ find (λ n. holds p (told.calls n)) (numbers_to told.known.last_call)
      same_found = find_within (λ n. holds p (new.calls n)) (λ n. holds p (told.calls n)) told.known.last_call
          (λ n low. same_test n)

      pub same_any : list_any (λ n. holds p (new.calls n)) (numbers_to told.known.last_call)
          ≡ list_any (λ n. holds p (told.calls n)) (numbers_to told.known.last_call)
      same_any = any_within (λ n. holds p (new.calls n)) (λ n. holds p (told.calls n)) told.known.last_call
          (λ n low. same_test n)

      all_same : (xs : List ℕ) → list_all (λ n. not (holds p (new.calls n))) xs
          ≡ list_all (λ n. not (holds p (told.calls n))) xs
      all_same [] = refl
      all_same (n ∷ xs) = λ j. not (same_test n j) && all_same xs j

      pub same_none : list_all (λ n. not (holds p (new.calls n))) (numbers_to told.known.last_call)
          ≡ list_all (λ n. not (holds p (told.calls n))) (numbers_to told.known.last_call)
      same_none = all_same (numbers_to told.known.last_call)

  -- ---- a test that none but one of the task's passes

  module _ (p : Begin → Bool) (only : (n : ℕ) (b : Begin) → told.calls n ≡ Some b → p b ≡ true
      → (b.task == t) ≡ true) where
    no_test : (n : ℕ) → holds p (new.calls n) ≡ false
    no_test n = by (told.calls n) refl
      where
        by : (o : Option Begin) → told.calls n ≡ o → holds p (of_others t o) ≡ false
        by None is = refl
        by (Some b) is = own (b.task == t) refl (p b) refl
          where
            own : (c : Bool) → (b.task == t) ≡ c → (d : Bool) → p b ≡ d
                → holds p (if c then None else Some b) ≡ false
            own true one d passes = refl
            own false other true passes = absurd (true≢false (sym (only n b is passes) ∙ other))
            own false other false fails = fails

    none_among : (xs : List ℕ) → find (λ n. false) xs ≡ None
    none_among [] = refl
    none_among (x ∷ xs) = none_among xs

    never_among : (xs : List ℕ) → list_any (λ n. false) xs ≡ false
    never_among [] = refl
    never_among (x ∷ xs) = never_among xs

    pub none_found : find (λ n. holds p (new.calls n)) (numbers_to told.known.last_call) ≡ None
    none_found = find_within (λ n. holds p (new.calls n)) (λ n. false) told.known.last_call (λ n low. no_test n)
        ∙ none_among (numbers_to told.known.last_call)

    pub never_found : list_any (λ n. holds p (new.calls n)) (numbers_to told.known.last_call) ≡ false
    never_found = any_within (λ n. holds p (new.calls n)) (λ n. false) told.known.last_call (λ n low. no_test n)
        ∙ never_among (numbers_to told.known.last_call)

  -- where a call of the task is of an owner, no other one is
  pub only_one : (well : TellsWell told) (owner : Owner) (n : ℕ) (b : Begin) → told.calls n ≡ Some b
      → (b.task == t) ≡ true → same_owner owner b.owner ≡ true → (c : ℕ) (e : Begin) → told.calls c ≡ Some e
      → same_owner owner e.owner ≡ true → (e.task == t) ≡ true
  only_one well owner n b is own of_b c e there of_e =
      let same : c ≡ n = well.one_owner c n e b there is
      (ap (λ o. same_owner o b.owner) (sym (same_owner_is owner e.owner of_e)) ∙ of_b) in
      let both : Some e ≡ Some b = sym there ∙ ap told.calls same ∙ is in
      let one : e ≡ b = cc in
      ap (λ (b : Begin). b.task == t) one ∙ own
