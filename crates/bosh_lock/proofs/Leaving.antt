-- The steps of `take`, `watch` and `leave`, where a seat is known by equations.
use Rattle.std.proofs.Common.{◌≡◌, ◌≢◌, ℕ, suc, eqb, true, List, [], ◌∷◌, length, Option, Some, None, sym, refl, ap, ◌∙◌, subst, arith}
use prog.Atomic.{either}
use Rattle.atomic_table.specs.Table.{rest, Allows}
use Rattle.atomic_table.proofs.Lists.{exchanged}
use Rattle.bosh_lock.specs.Extends.{Extends}
use Rattle.bosh_lock.specs.Grows.{Grows}
use Rattle.bosh_lock.specs.Steps.{Counts, Enters, Gives, Sat}
use Rattle.bosh_lock.proofs.Taking.{counts_moves, gives_back}

-- a door that was free is not free once it is taken
pub not_free : (n : ℕ) → either (eqb n 0) 1 n ≢ 0
not_free n = exchanged n 0 1 (λ z. z ≢ 0) (λ _ e. omega arith) (λ ne. ne)

-- nor once it is awaited
pub not_zero : (n : ℕ) → suc n ≢ 0
not_zero n e = omega arith

module _ {S I : Type 0} (items_of : S → List I) where
  -- who has entered holds the slot, with a value of the list that it has seen
  pub has_slot : (was now : Sat S I) → Enters items_of was now → (x : Option S) × (now.1 ≡ (0, x) ∷ rest now.1)
  has_slot was now entered =
      let held : now.1 ≡ (0, Some entered.0) ∷ was.1 = ap (λ (m : Sat S I). m.1) entered.1 in
      (Some entered.0, held ∙ ap (λ (c : List (ℕ × Option S)). (0, Some entered.0) ∷ c) (sym (ap rest held)))

  -- the value was put into the slot, and its moves are counted
  pub leaves_counted : (slots id : ℕ) (me now : Sat S I) (value : S) (n : ℕ) → me.0.holds ≡ true → me.1 ≡ (0, None) ∷ []
      → now ≡ (me.0, (0, Some value) ∷ rest me.1) → Extends me.0.seen (items_of value) → n ≡ length (items_of value)
      → Allows (Grows items_of) slots id now 1 (λ _. n) (λ _. Counts items_of now)
  leaves_counted slots id me now value n held empty is longer long =
      subst (λ (m : Sat S I). Allows (Grows items_of) slots id m 1 (λ _. n) (λ _. Counts items_of m)) (sym is)
      (counts_moves items_of slots id (me.0, (0, Some value) ∷ rest me.1) value n held (ap (λ c. (0, Some value) ∷ rest c) empty) longer long)

  -- what the seat then knows
  pub counted_then : (me now then : Sat S I) (value : S) → me.1 ≡ (0, None) ∷ []
      → now ≡ (me.0, (0, Some value) ∷ rest me.1) → Counts items_of now then → then ≡ (record me.0 { seen = items_of value }, (0, Some value) ∷ [])
  counted_then me now then value empty is counts =
      let all : now ≡ (me.0, (0, Some value) ∷ []) = is ∙ ap (λ (c : List (ℕ × Option S)). (me.0, (0, Some value) ∷ rest c)) empty in
      counts value (ap (λ (m : Sat S I). m.1) all) ∙ ap (λ (m : Sat S I). (record m.0 { seen = items_of value }, m.1)) all

  -- the slot is given back
  pub leaves_given : (slots id : ℕ) (me then : Sat S I) (value : S) → me.0.holds ≡ true
      → then ≡ (record me.0 { seen = items_of value }, (0, Some value) ∷ []) → Allows (Grows items_of) slots id then 0 (λ _. 0) (λ _. Gives then)
  leaves_given slots id me then value held is = subst (λ (m : Sat S I). Allows (Grows items_of) slots id m 0 (λ _. 0) (λ _. Gives m)) (sym is)
      (gives_back items_of slots id (record me.0 { seen = items_of value }, (0, Some value) ∷ []) value held refl refl)
