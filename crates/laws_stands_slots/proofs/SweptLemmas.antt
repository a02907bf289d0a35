-- A compile machine that is listed once is among those that a task sweeps at most once.
use Rattle.std.proofs.Common.{◌≡◌, ◌∙◌, ◌≤◌, ◌+◌, ℕ, Bool, true, false, ◌||◌, not, List, [], ◌∷◌}
use Rattle.std.proofs.Common.{ap, arith, filter, map, refl, sym}
use Rattle.std.proofs.lemmas.Bool.{and_parts, eqb-true, false≢true, true≢false}
use Rattle.std.proofs.lemmas.List.Sums.{sum_by-cons}
use Rattle.std.specs.Prelude.{cond, count_by, eqb, is_some, if◌then◌else◌}
use Rattle.std.specs.List.{list_any}
use Rattle.bosh_history.specs.Items.{is_leftover}
use Rattle.bosh_history.specs.Known.{Known, SlotName}
use Rattle.bosh_history.specs.Orders.{same_slot}
use Rattle.bosh_history.specs.Words.{is_among}
use Rattle.bosh_work.specs.declared.part.MachineName.{MachineName}
use Rattle.laws_stands.specs.Linked.{same_machine}
use Rattle.laws_stands.specs.Stands.{AreSwept}
use Rattle.laws_stands.proofs.MarkLemmas.{is_once}

-- ---- how many pass a test

count_first : {A : Type 0} (p : A → Bool) (x : A) (xs : List A)
    → count_by p (x ∷ xs) ≡ cond (p x) 1 0 + count_by p xs
count_first p x xs = sum_by-cons (λ x. cond (p x) 1 0) x xs

module _ {A : Type 0} (p q : A → Bool) where
  -- those that are kept are no more
  count_kept : (xs : List A) → count_by q (filter p xs) ≤ count_by q xs
  count_kept [] = omega arith
  count_kept (x ∷ xs) = by (p x) (count_kept xs)
    where
      by : (b : Bool) → count_by q (filter p xs) ≤ count_by q xs
          → count_by q (if b then x ∷ filter p xs else filter p xs) ≤ count_by q (x ∷ xs)
      by true less =
          let one : count_by q (x ∷ filter p xs) ≡ cond (q x) 1 0 + count_by q (filter p xs) =
          count_first q x (filter p xs) in
          let two : count_by q (x ∷ xs) ≡ cond (q x) 1 0 + count_by q xs = count_first q x xs in omega arith
      by false less = let two : count_by q (x ∷ xs) ≡ cond (q x) 1 0 + count_by q xs = count_first q x xs in omega arith

  -- .. and as many, where each that passes is kept
  count_same : ((x : A) → q x ≡ true → p x ≡ true) → (xs : List A) → count_by q (filter p xs) ≡ count_by q xs
  count_same keeps [] = refl
  count_same keeps (x ∷ xs) = by (p x) (q x) refl refl (count_same keeps xs)
    where
      by : (b c : Bool) → p x ≡ b → q x ≡ c → count_by q (filter p xs) ≡ count_by q xs
          → count_by q (if b then x ∷ filter p xs else filter p xs) ≡ count_by q (x ∷ xs)
      by true c kept is more = count_first q x (filter p xs) ∙ ap (λ n. cond (q x) 1 0 + n) more
          ∙ sym (count_first q x xs)
      by false false kept is more = more ∙ zero_more (count_by q xs) ∙ (λ j. cond (sym is j) 1 0 + count_by q xs)
          ∙ sym (count_first q x xs)
        where
          zero_more : (n : ℕ) → n ≡ 0 + n
          zero_more n = omega arith
      by false true kept is more = absurd (false≢true (sym kept ∙ keeps x is))

-- none passes where none is counted
none_counted : {A : Type 0} (q : A → Bool) (xs : List A) → count_by q xs ≤ 0 → list_any q xs ≡ false
none_counted q [] low = refl
none_counted q (x ∷ xs) low =
    let one : count_by q (x ∷ xs) ≡ cond (q x) 1 0 + count_by q xs = count_first q x xs in
    by (q x) refl one (λ low. none_counted q xs low)
  where
    by : (b : Bool) → q x ≡ b → count_by q (x ∷ xs) ≡ cond b 1 0 + count_by q xs
        → (count_by q xs ≤ 0 → list_any q xs ≡ false) → (b || list_any q xs) ≡ false
    by true is one more = absurd (let e : count_by q (x ∷ xs) ≡ 1 + count_by q xs = one in omega arith)
    by false is one more = more (let e : count_by q (x ∷ xs) ≡ 0 + count_by q xs = one in omega arith)

once_counted : {A : Type 0} (same : A → A → Bool) (x : A) (xs : List A) → count_by (same x) xs ≤ 1
    → is_once same x xs ≡ true
once_counted same x [] low = refl
once_counted same x (y ∷ ys) low = by (same x y) (count_first (same x) y ys) (λ low. once_counted same x ys low)
  where
    by : (b : Bool) → count_by (same x) (y ∷ ys) ≡ cond b 1 0 + count_by (same x) ys
        → (count_by (same x) ys ≤ 1 → is_once same x ys ≡ true)
        → (if b then not (is_among same x ys) else is_once same x ys) ≡ true
    by true one more =
        let e : count_by (same x) (y ∷ ys) ≡ 1 + count_by (same x) ys = one in
        ap not (none_counted (same x) ys (omega arith))
    by false one more = more (let e : count_by (same x) (y ∷ ys) ≡ 0 + count_by (same x) ys = one in omega arith)

-- ---- machines that are swept

abbrev slot_of : MachineName → SlotName
slot_of name = record { task = name.task; slot = name.slot }

count_mapped : (name : MachineName) (xs : List MachineName)
    → count_by (same_slot (slot_of name)) (map slot_of xs) ≡ count_by (same_machine name) xs
count_mapped name [] = refl
count_mapped name (x ∷ xs) =
    count_first (same_slot (slot_of name)) (slot_of x) (map slot_of xs)
    ∙ ap (λ n. cond (same_machine name x) 1 0 + n) (count_mapped name xs)
    ∙ sym (count_first (same_machine name) x xs)

any_mapped : (name : MachineName) (xs : List MachineName)
    → list_any (same_slot (slot_of name)) (map slot_of xs) ≡ list_any (same_machine name) xs
any_mapped name [] = refl
any_mapped name (x ∷ xs) = ap (λ b. same_machine name x || b) (any_mapped name xs)

module _ (k : Known) (u : ℕ) (swept : List MachineName) (are : AreSwept k u swept) (name : MachineName)
    (there : is_some (k.slot name.task name.slot) ≡ true) where
  is_there : (x : MachineName) → same_machine name x ≡ true → is_some (k.slot x.task x.slot) ≡ true
  is_there x same =
      let both : (eqb name.task x.task ≡ true) × (eqb name.slot x.slot ≡ true) =
      and_parts (eqb name.task x.task) (eqb name.slot x.slot) same in
      (λ j. is_some (k.slot (sym (eqb-true name.task x.task both.0) j) (sym (eqb-true name.slot x.slot both.1) j)))
      ∙ there

  counted : count_by (same_machine name) swept
      ≡ count_by (same_slot (slot_of name)) (filter (is_leftover k u) k.machines)
  counted =
      sym (count_same (λ (x : MachineName). is_some (k.slot x.task x.slot)) (same_machine name) is_there swept)
      ∙ sym (count_mapped name (filter (λ (x : MachineName). is_some (k.slot x.task x.slot)) swept))
      ∙ ap (count_by (same_slot (slot_of name))) are

  -- at most once
  pub swept_once : count_by (same_slot (slot_of name)) k.machines ≡ 1 → is_once same_machine name swept ≡ true
  swept_once once =
      let less : count_by (same_slot (slot_of name)) (filter (is_leftover k u) k.machines)
      ≤ count_by (same_slot (slot_of name)) k.machines =
      count_kept (is_leftover k u) (same_slot (slot_of name)) k.machines in
      once_counted same_machine name swept (let e : count_by (same_machine name) swept
      ≡ count_by (same_slot (slot_of name)) (filter (is_leftover k u) k.machines) = counted in omega arith)

  -- .. and never where it is not left over for the task
  pub swept_never : is_leftover k u (slot_of name) ≡ false → is_among same_machine name swept ≡ false
  swept_never not_left =
      none_counted (same_machine name) swept (let e : count_by (same_machine name) swept
      ≡ count_by (same_slot (slot_of name)) (filter (is_leftover k u) k.machines) = counted in
      let none : count_by (same_slot (slot_of name)) (filter (is_leftover k u) k.machines) ≤ 0 =
      none_left k.machines in omega arith)
    where
      other : (x : SlotName) → same_slot (slot_of name) x ≡ true → is_leftover k u x ≡ false
      other x same =
          let both : (eqb name.task x.task ≡ true) × (eqb name.slot x.slot ≡ true) =
          and_parts (eqb name.task x.task) (eqb name.slot x.slot) same in
          (λ j. is_leftover k u (record {
            task = sym (eqb-true name.task x.task both.0) j;
            slot = sym (eqb-true name.slot x.slot both.1) j;
          })) ∙ not_left

      none_left : (xs : List SlotName)
          → count_by (same_slot (slot_of name)) (filter (is_leftover k u) xs) ≤ 0
      none_left [] = omega arith
      none_left (x ∷ xs) = by (is_leftover k u x) (same_slot (slot_of name) x) refl refl (none_left xs)
        where
          by : (b c : Bool) → is_leftover k u x ≡ b → same_slot (slot_of name) x ≡ c
              → count_by (same_slot (slot_of name)) (filter (is_leftover k u) xs) ≤ 0
              → count_by (same_slot (slot_of name))
              (if b then x ∷ filter (is_leftover k u) xs else filter (is_leftover k u) xs) ≤ 0
          by true true left is more = absurd (true≢false (sym left ∙ other x is))
          by true false left is more =
              low (count_by (same_slot (slot_of name)) (x ∷ filter (is_leftover k u) xs))
              (count_by (same_slot (slot_of name)) (filter (is_leftover k u) xs))
              (count_first (same_slot (slot_of name)) x (filter (is_leftover k u) xs)
              ∙ (λ j. cond (is j) 1 0 + count_by (same_slot (slot_of name)) (filter (is_leftover k u) xs))) more
            where
              low : (c d : ℕ) → c ≡ 0 + d → d ≤ 0 → c ≤ 0
              low c d is less = omega arith
          by false c left is more = more
