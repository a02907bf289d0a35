-- Lists are read as they were spelled, and a loop reads them item by item.
use Rattle.std.proofs.Common.{◌≡◌, ℕ, zero, suc, ◌-◌, ◌+◌, ◌≤◌, ◌<◌, Bool, true, ◌&&◌, List, [], ◌∷◌, ◌++◌, length, Option, Some, None, Err, refl, sym, ap, subst, ◌∙◌, append_assoc, arith}
use Rattle.std.specs.List.{flat_map, list_all}
use Rattle.std.proofs.lemmas.Bool.{and_parts, and_from}
use Rattle.std.proofs.lemmas.List.{append-nil}
use Rattle.std.proofs.lemmas.List.Concat.{flat_map-cons}
use Rattle.bosh_entry.specs.declared.fault.EntryFault.{EntryFault}
use Rattle.bosh_entry.specs.declared.fault.EntryFault.TheVariants.{NotAnEntry, Memory}
use Rattle.bosh_entry.specs.Reading.{IsBytes, ◌>>=◌, Reader, Gives}
use Rattle.bosh_entry.specs.Number.{number, is_number, number_at}
use Rattle.bosh_entry.specs.List.{list, is_list, list_at, items_at, text, is_text, text_at}
use Rattle.bosh_entry.proofs.CodingLemmas.{Takes, Takes-then, IsCoding, bind_some, some_is, byte_law}
use Rattle.bosh_entry.proofs.NumberLemmas.{number_law}

-- what was read before, and what is still read
abbrev pub with_front : {A : Type 0} → List A → Option (List A × List ℕ) → Option (List A × List ℕ)
with_front front read = read >>= λ x. Some (front ++ x.0, x.1)

regroup : {A : Type 0} (front : List A) (a : A) (read : Option (List A × List ℕ)) → with_front front (read >>= λ x. Some (a ∷ x.0, x.1)) ≡ with_front (front ++ a ∷ []) read
regroup {A} front a (Some x) = ap (λ (items : List A). Some (items, x.1)) (simp append_assoc)
regroup front a None = refl

pub goes_on : {A : Type 0} (r : Reader A) (front : List A) (count i : ℕ) (bytes : List ℕ) (a : A) (after : List ℕ) (total : Option (List A × List ℕ)) → i < count → r bytes ≡ Some (a, after)
    → with_front front (items_at r (count - i) bytes) ≡ total → with_front (front ++ a ∷ []) (items_at r (count - (i + 1)) after) ≡ total
unfolding items_at
goes_on r front count i bytes a after total lt h so_far =
    let k : count - i ≡ suc (count - (i + 1)) = omega arith in
    let one : with_front front (items_at r (count - i) bytes) ≡ with_front (front ++ a ∷ []) (items_at r (count - (i + 1)) after) = rw (k, h) (regroup front a (items_at r (count - (i + 1)) after)) in
    sym one ∙ so_far

pub ends : {A : Type 0} (r : Reader A) (e : EntryFault) (front : List A) (count i : ℕ) (bytes left rest : List ℕ) (total : Option (List A × List ℕ)) → i < count → Gives {A = A} (Err e) left (r bytes)
    → with_front front (items_at r (count - i) bytes) ≡ total → Gives {A = List A} (Err e) rest total
unfolding items_at
ends r Memory front count i bytes left rest total lt h so_far = tt
ends r NotAnEntry front count i bytes left rest total lt h so_far =
    let k : count - i ≡ suc (count - (i + 1)) = omega arith in
    let one : with_front front (items_at r (count - i) bytes) ≡ None = rw (k, h) refl in
    sym so_far ∙ one

pub is_done : {A : Type 0} (r : Reader A) (front : List A) (count i : ℕ) (bytes : List ℕ) (total : Option (List A × List ℕ)) → count ≤ i → with_front front (items_at r (count - i) bytes) ≡ total → total ≡ Some (front, bytes)
unfolding items_at
is_done {A} r front count i bytes total le so_far =
    let k : count - i ≡ 0 = omega arith in
    let one : with_front front (items_at r (count - i) bytes) ≡ Some (front, bytes) = rw k (ap (λ (items : List A). Some (items, bytes)) (append-nil front)) in
    sym so_far ∙ one

-- ---- the laws of lists

items_take : {A : Type 0} {s : A → List ℕ} {f : A → Bool} {r : Reader A} → IsCoding s f r → (n : ℕ) (bytes : List ℕ) (x : List A × List ℕ) → IsBytes bytes → items_at r n bytes ≡ Some x
    → Takes bytes (flat_map s x.0) x.1 × (length x.0 ≡ n) × (list_all f x.0 ≡ true)
unfolding items_at
items_take {A} {s} {f} {r} law zero bytes x fits e =
    subst (λ (y : List A × List ℕ). Takes bytes (flat_map s y.0) y.1 × (length y.0 ≡ 0) × (list_all f y.0 ≡ true)) (some_is ([], bytes) x e) (record { parts = refl; rest_fits = fits }, refl, refl)
items_take {A} {s} {f} {r} law (suc n) bytes x fits e =
    let a = bind_some (r bytes) (λ (first : A × List ℕ). items_at r n first.1 >>= λ others. Some (first.0 ∷ others.0, others.1)) x e in
    let b = bind_some (items_at r n a.0.1) (λ (others : List A × List ℕ). Some (a.0.0 ∷ others.0, others.1)) x a.2 in
    let first = law.takes bytes a.0 fits a.1 in
    let others = items_take law n a.0.1 b.0 first.0.rest_fits b.1 in
    let both = Takes-then bytes (s a.0.0) a.0.1 (flat_map s b.0.0) b.0.1 first.0 others.0 in
    let made : List A × List ℕ = (a.0.0 ∷ b.0.0, b.0.1) in
    subst (λ (y : List A × List ℕ). Takes bytes (flat_map s y.0) y.1 × (length y.0 ≡ suc n) × (list_all f y.0 ≡ true)) (some_is made x b.2)
    (rw flat_map-cons both, ap suc others.1, and_from (f a.0.0) (list_all f b.0.0) first.1 others.2)

items_again : {A : Type 0} {s : A → List ℕ} {f : A → Bool} {r : Reader A} → IsCoding s f r → (items : List A) (rest : List ℕ) → list_all f items ≡ true → items_at r (length items) (flat_map s items ++ rest) ≡ Some (items, rest)
unfolding items_at
items_again law [] rest h = refl
items_again {A} {s} {f} {r} law (a ∷ items) rest h =
    let fits = and_parts (f a) (list_all f items) h in
    let regrouped : flat_map s (a ∷ items) ++ rest ≡ s a ++ (flat_map s items ++ rest) = ap (λ (t : List ℕ). t ++ rest) (flat_map-cons s a items) ∙ append_assoc (s a) (flat_map s items) rest in
    ap (items_at r (suc (length items))) regrouped ∙ rw (law.again a (flat_map s items ++ rest) fits.0, items_again law items rest fits.1) refl

pub list_law : {A : Type 0} {s : A → List ℕ} {f : A → Bool} {r : Reader A} → IsCoding s f r → IsCoding (list s) (is_list f) (list_at r)
unfolding list_at
list_law {A} {s} {f} {r} law = record {
  takes = λ bytes x fits e.
      let n = bind_some (number_at bytes) (λ (n : ℕ × List ℕ). items_at r n.0 n.1) x e in
      let count = number_law.takes bytes n.0 fits n.1 in
      let items = items_take law n.0.0 n.0.1 x count.0.rest_fits n.2 in
      let both = Takes-then bytes (number n.0.0) n.0.1 (flat_map s x.0) x.1 count.0 items.0 in
      subst (λ (k : ℕ). Takes bytes (number k ++ flat_map s x.0) x.1 × ((is_number k && list_all f x.0) ≡ true)) (sym items.1)
      (both, and_from (is_number n.0.0) (list_all f x.0) count.1 items.2);
  again = λ items rest h.
      let fits = and_parts (is_number (length items)) (list_all f items) h in
      ap (list_at r) (append_assoc (number (length items)) (flat_map s items) rest)
      ∙ rw (number_law.again (length items) (flat_map s items ++ rest) fits.0) (items_again law items rest fits.1);
}

pub text_law : IsCoding text is_text text_at
text_law = list_law byte_law
