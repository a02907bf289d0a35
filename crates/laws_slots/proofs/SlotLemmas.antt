-- The machines of a compile machine's owner, once one is created or deleted for it.
use Rattle.std.proofs.Common.{◌≡◌, ℕ, ◌+◌, ◌≤◌, Bool, true, false, Some, None, List, [], ◌∷◌, ◌++◌, refl, sym, ◌∙◌, ap, arith}
use Rattle.std.specs.Prelude.{◌&&◌, ◌||◌, ◌==◌, nat_eq, nat_le, if◌then◌else◌, filter, find}
use Rattle.std.specs.List.{list_all, list_any}
use Rattle.std.specs.Cmp.Lexicographic.{pointwise}
use Rattle.std.proofs.lemmas.Bool.{and_from, and_parts, eq-eqb, eqb-true, leb-true, ne_eqb}
use Rattle.bosh_base.specs.CallStep.{found_vm, has_number}
use Rattle.bosh_base.specs.Cloud.{is_vm_there, numbers_to, vm_creation, vms_created, when}
use Rattle.bosh_base.specs.History.{chosen}
use Rattle.bosh_base.specs.declared.call.Call.{Call}
use Rattle.bosh_base.specs.declared.call.Call.TheVariants.{CreateVm, DeleteVm}
use Rattle.bosh_base.specs.declared.entry.Effect as effect
use Rattle.bosh_base.specs.declared.entry.Entry.{Entry}
use Rattle.bosh_base.specs.declared.entry.Entry.TheVariants.{Effect}
use Rattle.bosh_base.specs.declared.make.Make.{Make}
use Rattle.bosh_base.specs.declared.owner.Owner.{Owner}
use Rattle.laws_effects.proofs.CreationLemmas.{is_vm_there-grown, vm_creation-grown, vm_creation_next, vm_creation_stays, vms-grown}
use Rattle.laws_effects.proofs.FollowLemmas.{IsWithin, made}
use Rattle.laws_effects.specs.Orderly.{is_taken}
use Rattle.laws_rows.proofs.FilterLemmas.{filter_more, filter_within, numbers-more, numbers_within}
use Rattle.laws_rows.proofs.FoundLemmas.{unnumbered, vm-among}
use Rattle.laws_rows.proofs.MakeTieLemmas.{filter_none}
use Rattle.laws_rows.proofs.NumberLemmas.{any_passes, kept_number}
use Rattle.bosh_rows.specs.Same.{same_owner}
use Rattle.bosh_rows.specs.Tied.{is_made_for, vms_of}

-- a call that is done for an owner
abbrev pub of_owner : Owner → ℕ → List ℕ → Call → effect.Effect
of_owner owner n dep call = record { n = n; owner = owner; dep = dep; call = call }

-- a machine that is there and was made for the owner
abbrev pub ours : List Entry → Owner → ℕ → Bool
ours xs owner v = is_vm_there xs v && is_made_for owner (vm_creation xs v)

pub one_listed : (ks : List ℕ) (v : ℕ) → ks ≡ v ∷ [] → pointwise nat_eq ks (v ∷ []) ≡ true
one_listed ks v is = ap (λ js. pointwise nat_eq js (v ∷ [])) is ∙ and_from (nat_eq v v) true (eq-eqb v v refl) refl

-- one that is there is among those of its owner
pub listed : (xs : List Entry) (owner : Owner) (v : ℕ) → ours xs owner v ≡ true →
    list_any (λ k. k == v) (vms_of xs owner) ≡ true
listed xs owner v is =
    let within : IsWithin (vms_created xs) v = (made xs).vms v (and_parts (is_vm_there xs v) _ is).0 in
    kept_number (ours xs owner) (vms_created xs) v within.first within.last is

-- .. and the only one that is listed is there
pub only_there : (xs : List Entry) (owner : Owner) (v : ℕ) → vms_of xs owner ≡ v ∷ [] → ours xs owner v ≡ true
only_there xs owner v is =
    any_passes (ours xs owner) v (numbers_to (vms_created xs))
    (ap (list_any (λ j. j == v)) is ∙ (λ i. eq-eqb v v refl i || false))

-- ---- a machine is created

module _ (xs : List Entry) (owner : Owner) (n : ℕ) (dep : List ℕ) (make : Make) (hint : List ℕ)
    (itself : same_owner owner owner ≡ true) where
  abbrev creation : effect.Effect
  creation = of_owner owner n dep (CreateVm make hint)

  there_before : (v : ℕ) → v ≤ vms_created xs → is_vm_there (xs ++ Effect creation ∷ []) v ≡ is_vm_there xs v
  there_before v low =
      is_vm_there-grown xs (Effect creation) v
      ∙ ap (λ b. chosen (when b true) (is_vm_there xs v))
      (ne_eqb (vms_created xs + 1) v (λ same. absurd (omega arith)))

  there_next : is_vm_there (xs ++ Effect creation ∷ []) (vms_created xs + 1) ≡ true
  there_next =
      is_vm_there-grown xs (Effect creation) (vms_created xs + 1)
      ∙ ap (λ b. chosen (when b true) (is_vm_there xs (vms_created xs + 1)))
      (eq-eqb (vms_created xs + 1) (vms_created xs + 1) refl)

  pub vms_made : vms_of (xs ++ Effect creation ∷ []) owner ≡ vms_of xs owner ++ (vms_created xs + 1) ∷ []
  vms_made =
      ap (λ m. filter (ours (xs ++ Effect creation ∷ []) owner) (numbers_to m)) (vms-grown xs (Effect creation))
      ∙ (ap (filter (ours (xs ++ Effect creation ∷ []) owner)) (numbers-more (vms_created xs))
      ∙ (filter_more (ours (xs ++ Effect creation ∷ []) owner) (numbers_to (vms_created xs)) (vms_created xs + 1)
      ∙ (λ i. filter_within (ours xs owner) (ours (xs ++ Effect creation ∷ []) owner) (vms_created xs)
      (numbers_to (vms_created xs)) (numbers_within (vms_created xs) (vms_created xs) (omega arith))
      (λ v low j. there_before v low j
      && is_made_for owner (vm_creation_stays xs (Effect creation) v low j)) i
      ++ (if last i then (vms_created xs + 1) ∷ [] else []))))
    where
      last : ours (xs ++ Effect creation ∷ []) owner (vms_created xs + 1) ≡ true
      last =
          and_from (is_vm_there (xs ++ Effect creation ∷ []) (vms_created xs + 1)) _ there_next
          (ap (is_made_for owner) (vm_creation_next xs creation refl) ∙ itself)

  find_last : (p : ℕ → Bool) (ks : List ℕ) (k : ℕ) → list_all (λ j. nat_le j (vms_created xs)) ks ≡ true →
      ((j : ℕ) → j ≤ vms_created xs → p j ≡ false) → p k ≡ true → find p (ks ++ k ∷ []) ≡ Some k
  find_last p [] k low none is = ap (λ (b : Bool). if b then Some k else None) is
  find_last p (j ∷ ks) k low none is =
      let parts : (nat_le j (vms_created xs) ≡ true) × (list_all (λ j. nat_le j (vms_created xs)) ks ≡ true) =
      and_parts (nat_le j (vms_created xs)) _ low in
      ap (λ (b : Bool). if b then Some j else find p (ks ++ k ∷ []))
      (none j (leb-true j (vms_created xs) parts.0))
      ∙ find_last p ks k parts.1 none is

  pub found_made : is_taken xs n ≡ false → found_vm (xs ++ Effect creation ∷ []) n ≡ Some (vms_created xs + 1)
  found_made fresh =
      ap (λ m. find (λ v. is_vm_there (xs ++ Effect creation ∷ []) v
      && has_number n (vm_creation (xs ++ Effect creation ∷ []) v)) (numbers_to m)) (vms-grown xs (Effect creation))
      ∙ (ap (find (λ v. is_vm_there (xs ++ Effect creation ∷ []) v
      && has_number n (vm_creation (xs ++ Effect creation ∷ []) v))) (numbers-more (vms_created xs))
      ∙ find_last (λ v. is_vm_there (xs ++ Effect creation ∷ []) v
      && has_number n (vm_creation (xs ++ Effect creation ∷ []) v)) (numbers_to (vms_created xs)) (vms_created xs + 1)
      (numbers_within (vms_created xs) (vms_created xs) (omega arith))
      (λ v low.
      ap (λ o. is_vm_there (xs ++ Effect creation ∷ []) v && has_number n o)
      (vm_creation_stays xs (Effect creation) v low)
      ∙ (ap (λ b. is_vm_there (xs ++ Effect creation ∷ []) v && b)
      (unnumbered xs n (vm_creation xs v) (λ e is. vm-among xs v e is) fresh)
      ∙ dull (is_vm_there (xs ++ Effect creation ∷ []) v)))
      (and_from (is_vm_there (xs ++ Effect creation ∷ []) (vms_created xs + 1)) _ there_next
      (ap (has_number n) (vm_creation_next xs creation refl) ∙ eq-eqb n n refl)))
    where
      dull : (b : Bool) → (b && false) ≡ false
      dull true = refl
      dull false = refl

-- ---- a machine is deleted

module _ (xs : List Entry) (owner : Owner) (n : ℕ) (dep : List ℕ) (v : ℕ) (alone : vms_of xs owner ≡ v ∷ []) where
  abbrev deletion : effect.Effect
  deletion = of_owner owner n dep (DeleteVm v)

  pub made_still : (k : ℕ) → vm_creation (xs ++ Effect deletion ∷ []) k ≡ vm_creation xs k
  made_still k = vm_creation-grown xs (Effect deletion) k

  none_ours : (k : ℕ) → ours (xs ++ Effect deletion ∷ []) owner k ≡ false
  none_ours k = by_ours (ours (xs ++ Effect deletion ∷ []) owner k) refl
    where
      by_number : (b : Bool) → (v == k) ≡ b → chosen (when b false) (is_vm_there xs k) ≡ true →
          is_made_for owner (vm_creation xs k) ≡ true → ⊥
      by_number true same there of = cc
      by_number false other there of = no (v == k) other (by_or (v == k)
          (sym (ap (list_any (λ j. j == k)) alone) ∙ listed xs owner k (and_from (is_vm_there xs k) _ there of)))
        where
          by_or : (b : Bool) → (b || false) ≡ true → b ≡ true
          by_or true is = refl
          by_or false is = is

          no : (b : Bool) → b ≡ false → b ≡ true → ⊥
          no true off on = cc
          no false off on = cc

      by_ours : (b : Bool) → ours (xs ++ Effect deletion ∷ []) owner k ≡ b → b ≡ false
      by_ours false is = refl
      by_ours true is =
          let parts : (is_vm_there (xs ++ Effect deletion ∷ []) k ≡ true)
          × (is_made_for owner (vm_creation (xs ++ Effect deletion ∷ []) k) ≡ true) =
          and_parts (is_vm_there (xs ++ Effect deletion ∷ []) k) _ is in
          absurd (by_number (v == k) refl (sym (is_vm_there-grown xs (Effect deletion) k) ∙ parts.0)
          (ap (is_made_for owner) (sym (made_still k)) ∙ parts.1))

  pub vms_gone : vms_of (xs ++ Effect deletion ∷ []) owner ≡ []
  vms_gone =
      filter_none (ours (xs ++ Effect deletion ∷ []) owner) (numbers_to (vms_created (xs ++ Effect deletion ∷ [])))
      none_ours
