-- How many instances of a list meet a test, where it changes for one of them.
use Rattle.std.proofs.Common.{◌≡◌, ◌∙◌, ℕ, ◌+◌, ◌≤◌, Bool, true, false, cond, List, [], ◌∷◌, refl, ap, sym, arith}
use Rattle.std.specs.Prelude.{◌||◌, count_by, filter, not}
use Rattle.std.specs.List.{list_all, list_any}
use Rattle.std.proofs.lemmas.Bool.{and_from, and_parts, false≢true}
use Rattle.std.proofs.lemmas.List.Sums.{sum_by-cons}
use Rattle.bosh_base.specs.declared.inst.Inst.{Inst}
use Rattle.bosh_history.specs.Words.{is_among}
use Rattle.bosh_rows.proofs.SameLemmas.{same_inst_decides}
use Rattle.bosh_rows.specs.Same.{same_inst}
use Rattle.bosh_rows.specs.SoundSnapshot.{are_distinct}

count-cons : (p : Inst → Bool) (x : Inst) (xs : List Inst)
    → count_by p (x ∷ xs) ≡ cond {A = ℕ} (p x) 1 0 + count_by p xs
count-cons p x xs = sum_by-cons (λ (y : Inst). cond {A = ℕ} (p y) 1 0) x xs

at_most : (b : Bool) → cond {A = ℕ} b 1 0 ≤ 1
at_most true = omega arith
at_most false = omega arith

pub neither : (a b : Bool) → (a || b) ≡ false → (a ≡ false) × (b ≡ false)
neither true b is = absurd (false≢true (sym is))
neither false b is = (refl, is)

pub not_so : (b : Bool) → not b ≡ true → b ≡ false
not_so true is = absurd (false≢true is)
not_so false is = refl

-- no instance meets a test that none meets
pub count_none : (xs : List Inst) → count_by (λ x. false) xs ≡ 0
count_none [] = refl
count_none (x ∷ xs) =
    let rest : count_by (λ (x : Inst). false) xs ≡ 0 = count_none xs in
    count-cons (λ x. false) x xs ∙ omega (arith, rest)

-- where each that meets the second test meets the first, no more meet it
pub count_fewer : (p q : Inst → Bool) → ((x : Inst) → q x ≡ true → p x ≡ true) → (xs : List Inst)
    → count_by q xs ≤ count_by p xs
count_fewer p q goes [] = omega arith
count_fewer p q goes (x ∷ xs) =
    let one : count_by q (x ∷ xs) ≡ cond {A = ℕ} (q x) 1 0 + count_by q xs = count-cons q x xs in
    let two : count_by p (x ∷ xs) ≡ cond {A = ℕ} (p x) 1 0 + count_by p xs = count-cons p x xs in
    let rest : count_by q xs ≤ count_by p xs = count_fewer p q goes xs in
    let first : cond {A = ℕ} (q x) 1 0 ≤ cond {A = ℕ} (p x) 1 0 = by (q x) (p x) (goes x) in omega arith
  where
    by : (a b : Bool) → (a ≡ true → b ≡ true) → cond {A = ℕ} a 1 0 ≤ cond {A = ℕ} b 1 0
    by true true goes = omega arith
    by true false goes = absurd (false≢true (goes refl))
    by false true goes = omega arith
    by false false goes = omega arith

module _ (p q : Inst → Bool) (i : Inst) (others : (x : Inst) → same_inst i x ≡ false → q x ≡ p x) where
  -- as many meet it, where the one for which it changes is not among them
  pub count_others : (xs : List Inst) → is_among same_inst i xs ≡ false → count_by q xs ≡ count_by p xs
  count_others [] none = refl
  count_others (x ∷ xs) none =
      let parts : (same_inst i x ≡ false) × (is_among same_inst i xs ≡ false) =
      neither (same_inst i x) (is_among same_inst i xs) none in
      let one : count_by q (x ∷ xs) ≡ cond {A = ℕ} (q x) 1 0 + count_by q xs = count-cons q x xs in
      let two : count_by p (x ∷ xs) ≡ cond {A = ℕ} (p x) 1 0 + count_by p xs = count-cons p x xs in
      let first : cond {A = ℕ} (q x) 1 0 ≡ cond {A = ℕ} (p x) 1 0 =
      ap (λ (b : Bool). cond {A = ℕ} b 1 0) (others x parts.0) in
      let rest : count_by q xs ≡ count_by p xs = count_others xs parts.1 in omega arith

  -- .. and one more at most, where no instance stands twice
  pub count_one_more : (xs : List Inst) → are_distinct same_inst xs ≡ true → count_by q xs ≤ count_by p xs + 1
  count_one_more [] apart = omega arith
  count_one_more (x ∷ xs) apart =
      let parts : (not (list_any (same_inst x) xs) ≡ true) × (are_distinct same_inst xs ≡ true) =
      and_parts (not (list_any (same_inst x) xs)) (are_distinct same_inst xs) apart in
      let one : count_by q (x ∷ xs) ≡ cond {A = ℕ} (q x) 1 0 + count_by q xs = count-cons q x xs in
      let two : count_by p (x ∷ xs) ≡ cond {A = ℕ} (p x) 1 0 + count_by p xs = count-cons p x xs in
      let counted : cond {A = ℕ} (q x) 1 0 + count_by q xs ≤ cond {A = ℕ} (p x) 1 0 + count_by p xs + 1 =
      by (same_inst i x) refl (not_so (list_any (same_inst x) xs) parts.0) (count_one_more xs parts.1) in omega arith
    where
      by : (b : Bool) → same_inst i x ≡ b → list_any (same_inst x) xs ≡ false → count_by q xs ≤ count_by p xs + 1
          → cond {A = ℕ} (q x) 1 0 + count_by q xs ≤ cond {A = ℕ} (p x) 1 0 + count_by p xs + 1
      by true same alone rest =
          let still : count_by q xs ≡ count_by p xs =
          count_others xs (ap (λ (y : Inst). is_among same_inst y xs) ((same_inst_decides i x).0 same) ∙ alone) in
          let first : cond {A = ℕ} (q x) 1 0 ≤ 1 = at_most (q x) in omega arith
      by false other alone rest =
          let first : cond {A = ℕ} (q x) 1 0 ≡ cond {A = ℕ} (p x) 1 0 =
          ap (λ (b : Bool). cond {A = ℕ} b 1 0) (others x other) in omega arith

-- ---- some of a list

-- what none of a list meets none of a part of it meets
none_left : (test keeps : Inst → Bool) (xs : List Inst) → list_any test xs ≡ false
    → list_any test (filter keeps xs) ≡ false
none_left test keeps [] none = refl
none_left test keeps (x ∷ xs) none =
    let parts : (test x ≡ false) × (list_any test xs ≡ false) = neither (test x) (list_any test xs) none in
    by (keeps x) parts.0 (none_left test keeps xs parts.1)
  where
    by : (b : Bool) → test x ≡ false → list_any test (filter keeps xs) ≡ false
        → list_any test (cond b (x ∷ filter keeps xs) (filter keeps xs)) ≡ false
    by true first rest = ap (λ (c : Bool). c || list_any test (filter keeps xs)) first ∙ rest
    by false first rest = rest

-- no instance stands twice in a part of a list in which none does
pub distinct_left : (keeps : Inst → Bool) (xs : List Inst) → are_distinct same_inst xs ≡ true
    → are_distinct same_inst (filter keeps xs) ≡ true
distinct_left keeps [] apart = refl
distinct_left keeps (x ∷ xs) apart =
    let parts : (not (list_any (same_inst x) xs) ≡ true) × (are_distinct same_inst xs ≡ true) =
    and_parts (not (list_any (same_inst x) xs)) (are_distinct same_inst xs) apart in
    by (keeps x) (not_so (list_any (same_inst x) xs) parts.0) (distinct_left keeps xs parts.1)
  where
    by : (b : Bool) → list_any (same_inst x) xs ≡ false → are_distinct same_inst (filter keeps xs) ≡ true
        → are_distinct same_inst (cond b (x ∷ filter keeps xs) (filter keeps xs)) ≡ true
    by true alone rest =
        and_from (not (list_any (same_inst x) (filter keeps xs))) (are_distinct same_inst (filter keeps xs))
        (ap not (none_left (same_inst x) keeps xs alone)) rest
    by false alone rest = rest

-- an instance that is not kept is not left
pub not_left : (keeps : Inst → Bool) (i : Inst) → keeps i ≡ false → (xs : List Inst)
    → is_among same_inst i (filter keeps xs) ≡ false
not_left keeps i goes [] = refl
not_left keeps i goes (x ∷ xs) = by (keeps x) refl (not_left keeps i goes xs)
  where
    by : (b : Bool) → keeps x ≡ b → is_among same_inst i (filter keeps xs) ≡ false
        → is_among same_inst i (cond b (x ∷ filter keeps xs) (filter keeps xs)) ≡ false
    by true stays rest = by_same (same_inst i x) refl
      where
        by_same : (c : Bool) → same_inst i x ≡ c → (c || is_among same_inst i (filter keeps xs)) ≡ false
        by_same true same =
            absurd (false≢true (sym goes ∙ (ap keeps ((same_inst_decides i x).0 same) ∙ stays)))
        by_same false other = rest
    by false stays rest = rest

-- what holds of each that the first test holds of holds of all that it holds of
pub all_where : (p q : Inst → Bool) → ((x : Inst) → p x ≡ true → q x ≡ true) → (xs : List Inst)
    → list_all p xs ≡ true → list_all q xs ≡ true
all_where p q goes [] all = refl
all_where p q goes (x ∷ xs) all =
    let parts : (p x ≡ true) × (list_all p xs ≡ true) = and_parts (p x) (list_all p xs) all in
    and_from (q x) (list_all q xs) (goes x parts.0) (all_where p q goes xs parts.1)

-- each that is kept meets the test by which it is
pub all_left : (keeps : Inst → Bool) (xs : List Inst) → list_all keeps (filter keeps xs) ≡ true
all_left keeps [] = refl
all_left keeps (x ∷ xs) = by (keeps x) refl (all_left keeps xs)
  where
    by : (b : Bool) → keeps x ≡ b → list_all keeps (filter keeps xs) ≡ true
        → list_all keeps (cond b (x ∷ filter keeps xs) (filter keeps xs)) ≡ true
    by true stays rest = and_from (keeps x) (list_all keeps (filter keeps xs)) stays rest
    by false goes rest = rest
