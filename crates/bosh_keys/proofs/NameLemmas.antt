-- Names in order, each once: they have what the names have, and are told by it.
use Rattle.std.proofs.Common.{◌≡◌, ◌⊎◌, ◌∙◌, ℕ, List, [], ◌∷◌, fold, refl, sym, subst, ap, inl, inr}
use Rattle.std.specs.Prelude.{Contains}
use Rattle.std.specs.BTreeSet.{insert_key}
use Rattle.std.specs.Cmp.Lexicographic.{slice_cmp}
use Rattle.std.specs.Ordering.{match_ordering, nat_cmp, ordering_reverse}
use Rattle.std.specs.declared.cmp.Ordering.{Ordering}
use Rattle.std.specs.declared.cmp.Ordering.TheVariants.{Less, Equal, Greater}
use Rattle.std.proofs.lemmas.Cmp.{nat_list_cmp_total}
use Rattle.std.proofs.lemmas.List.Elements.{All-cons, All-contains, All-nil, All-weaker}
use Rattle.std.proofs.lemmas.Map.Lookups.{exact_bytes}
use Rattle.std.proofs.lemmas.Map.Views.{All-insert_key}
use Rattle.bosh_alike.proofs.ElementLemmas.{first_or_other, here, none_in, there}
use Rattle.bosh_release_files.specs.Files.{in_order}
use Rattle.bosh_release_files.specs.Sources.{IsInOrder}
use Rattle.bosh_keys.proofs.ListLemmas.{is_first}

abbrev compare : List ℕ → List ℕ → Ordering
compare = slice_cmp nat_cmp

abbrev Follows : List ℕ → List ℕ → Type 0
Follows text later = compare text later ≡ Less

abbrev inserted : List (List ℕ) → List ℕ → List (List ℕ)
inserted names name = insert_key compare names name

-- ---- the order

key_in_order : (ks : List (List ℕ)) (k : List ℕ) → IsInOrder ks → IsInOrder (inserted ks k)
key_in_order [] k h = (All-nil (Follows k), tt)
key_in_order (x ∷ xs) k h = at (key_in_order xs k h.1) (compare k x) refl
  where
    at : IsInOrder (inserted xs k) → (o : Ordering) → compare k x ≡ o → IsInOrder (match_ordering o (k ∷ x ∷ xs) (x ∷ xs) (x ∷ inserted xs k))
    at below Less is = (
      All-cons (Follows k) x xs is
          (All-weaker (Follows x) (Follows k) (λ later more. nat_list_cmp_total.trans k x later is more) xs h.0),
      h,
    )
    at below Equal is = h
    at below Greater is =
        (All-insert_key compare k (Follows x) xs h.0 (nat_list_cmp_total.antisymm x k ∙ ap ordering_reverse is), below)

all_in_order : (ks names : List (List ℕ)) → IsInOrder ks → IsInOrder (fold (insert_key compare) ks names)
all_in_order ks [] h = h
all_in_order ks (name ∷ names) h = all_in_order (inserted ks name) names (key_in_order ks name h)

never_itself : (x : List ℕ) → Follows x x → ⊥
never_itself x h =
    let turned : Less ≡ Greater = sym h ∙ nat_list_cmp_total.antisymm x x ∙ ap ordering_reverse h in
    cc

-- ---- the names

other_or_more :
    (x k n : List ℕ) (xs ks : List (List ℕ)) → (Contains ks n → (k ≡ n) ⊎ Contains xs n) → (x ≡ n) ⊎ Contains ks n
    → (k ≡ n) ⊎ Contains (x ∷ xs) n
other_or_more x k n xs ks more (inl e) = inr (is_first x n xs e)
other_or_more x k n xs ks more (inr c) = behind (more c)
  where
    behind : (k ≡ n) ⊎ Contains xs n → (k ≡ n) ⊎ Contains (x ∷ xs) n
    behind (inl e) = inl e
    behind (inr c) = inr (there x n xs c)

inserted_from : (ks : List (List ℕ)) (k n : List ℕ) → Contains (inserted ks k) n → (k ≡ n) ⊎ Contains ks n
inserted_from [] k n c = first_or_other k n [] c
inserted_from (x ∷ xs) k n c = at (inserted_from xs k n) (compare k x) c
  where
    at :
        (Contains (inserted xs k) n → (k ≡ n) ⊎ Contains xs n) → (o : Ordering)
        → Contains (match_ordering o (k ∷ x ∷ xs) (x ∷ xs) (x ∷ inserted xs k)) n → (k ≡ n) ⊎ Contains (x ∷ xs) n
    at more Less c = first_or_other k n (x ∷ xs) c
    at more Equal c = inr c
    at more Greater c = other_or_more x k n xs (inserted xs k) more (first_or_other x n (inserted xs k) c)

inserted_new : (ks : List (List ℕ)) (k : List ℕ) → Contains (inserted ks k) k
inserted_new [] k = here k []
inserted_new (x ∷ xs) k = at (inserted_new xs k) (compare k x) refl
  where
    at : Contains (inserted xs k) k → (o : Ordering) → compare k x ≡ o → Contains (match_ordering o (k ∷ x ∷ xs) (x ∷ xs) (x ∷ inserted xs k)) k
    at more Less is = here k (x ∷ xs)
    at more Equal is = is_first x k xs (sym (exact_bytes k x is))
    at more Greater is = there x k (inserted xs k) more

inserted_kept : (ks : List (List ℕ)) (k n : List ℕ) → Contains ks n → Contains (inserted ks k) n
inserted_kept [] k n c = absurd (none_in n c)
inserted_kept (x ∷ xs) k n c = at (inserted_kept xs k n) (compare k x) (first_or_other x n xs c)
  where
    at :
        (Contains xs n → Contains (inserted xs k) n) → (o : Ordering) → (x ≡ n) ⊎ Contains xs n
        → Contains (match_ordering o (k ∷ x ∷ xs) (x ∷ xs) (x ∷ inserted xs k)) n
    at more Less c' = there k n (x ∷ xs) c
    at more Equal c' = c
    at more Greater (inl e) = is_first x n (inserted xs k) e
    at more Greater (inr d) = there x n (inserted xs k) (more d)

folded_from : (ks names : List (List ℕ)) (n : List ℕ) → Contains (fold (insert_key compare) ks names) n → Contains ks n ⊎ Contains names n
folded_from ks [] n c = inl c
folded_from ks (name ∷ names) n c = at (folded_from (inserted ks name) names n c)
  where
    first : (name ≡ n) ⊎ Contains ks n → Contains ks n ⊎ Contains (name ∷ names) n
    first (inl e) = inr (is_first name n names e)
    first (inr c) = inl c

    at : Contains (inserted ks name) n ⊎ Contains names n → Contains ks n ⊎ Contains (name ∷ names) n
    at (inl c) = first (inserted_from ks name n c)
    at (inr c) = inr (there name n names c)

folded_kept : (ks names : List (List ℕ)) (n : List ℕ) → Contains ks n → Contains (fold (insert_key compare) ks names) n
folded_kept ks [] n c = c
folded_kept ks (name ∷ names) n c = folded_kept (inserted ks name) names n (inserted_kept ks name n c)

folded_into : (ks names : List (List ℕ)) (n : List ℕ) → Contains names n → Contains (fold (insert_key compare) ks names) n
folded_into ks [] n c = absurd (none_in n c)
folded_into ks (name ∷ names) n c = at (folded_into (inserted ks name) names n) (first_or_other name n names c)
  where
    at :
        (Contains names n → Contains (fold (insert_key compare) (inserted ks name) names) n) → (name ≡ n) ⊎ Contains names n
        → Contains (fold (insert_key compare) (inserted ks name) names) n
    at more (inl e) = folded_kept (inserted ks name) names n (subst (λ m. Contains (inserted ks name) m) e (inserted_new ks name))
    at more (inr c) = more c

pub in_order_from : (names : List (List ℕ)) (n : List ℕ) → Contains (in_order names) n → Contains names n
in_order_from names n c = at (folded_from [] names n c)
  where
    at : Contains [] n ⊎ Contains names n → Contains names n
    at (inl c) = absurd (none_in n c)
    at (inr c) = c

pub in_order_into : (names : List (List ℕ)) (n : List ℕ) → Contains names n → Contains (in_order names) n
in_order_into names n c = folded_into [] names n c

-- ---- names in order are told by what they have

abbrev Within : List (List ℕ) → List (List ℕ) → Type 0
Within xs ys = (n : List ℕ) → Contains xs n → Contains ys n

never_both : (x y : List ℕ) → Follows x y → Follows y x → ⊥
never_both x y up down = never_itself x (nat_list_cmp_total.trans x y x up down)

one_list : (xs ys : List (List ℕ)) → IsInOrder xs → IsInOrder ys → Within xs ys → Within ys xs → xs ≡ ys
one_list [] [] h k to from = refl
one_list [] (y ∷ ys) h k to from = absurd (none_in y (from y (here y ys)))
one_list (x ∷ xs) [] h k to from = absurd (none_in x (to x (here x xs)))
one_list (x ∷ xs) (y ∷ ys) h k to from =
    let first : x ≡ y = heads (first_or_other y x ys (to x (here x xs))) (first_or_other x y xs (from y (here y ys))) in
    let rest : xs ≡ ys = one_list xs ys h.1 k.1
    (λ n c. onward first n c (first_or_other y n ys (to n (there x n xs c))))
    (λ n c. back first n c (first_or_other x n xs (from n (there y n ys c)))) in
    λ i. first i ∷ rest i
  where
    heads : (y ≡ x) ⊎ Contains ys x → (x ≡ y) ⊎ Contains xs y → x ≡ y
    heads (inl e) d = sym e
    heads (inr c) (inl e) = e
    heads (inr c) (inr d) = absurd (never_both x y (All-contains (Follows x) xs y h.0 d) (All-contains (Follows y) ys x k.0 c))

    onward : x ≡ y → (n : List ℕ) → Contains xs n → (y ≡ n) ⊎ Contains ys n → Contains ys n
    onward first n c (inl e) = absurd (never_itself x (subst (Follows x) (sym (first ∙ e)) (All-contains (Follows x) xs n h.0 c)))
    onward first n c (inr d) = d

    back : x ≡ y → (n : List ℕ) → Contains ys n → (x ≡ n) ⊎ Contains xs n → Contains xs n
    back first n c (inl e) = absurd (never_itself y (subst (Follows y) (sym (sym first ∙ e)) (All-contains (Follows y) ys n k.0 c)))
    back first n c (inr d) = d

pub same_in_order : (xs ys : List (List ℕ)) → Within xs ys → Within ys xs → in_order xs ≡ in_order ys
same_in_order xs ys to from =
    one_list (in_order xs) (in_order ys) (all_in_order [] xs tt) (all_in_order [] ys tt)
    (λ n c. in_order_into ys n (to n (in_order_from xs n c)))
    (λ n c. in_order_into xs n (from n (in_order_from ys n c)))
