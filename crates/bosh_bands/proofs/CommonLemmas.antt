-- Addresses in two lists of bands, while bands are passed over.
use Rattle.std.proofs.Common.{◌≡◌, ℕ, ◌+◌, ◌<◌, ◌≤◌, Bool, true, false, ◌&&◌, ◌||◌, ◌⊎◌, nat_lt, nat_le, List, [], ◌∷◌, get_or, length, drop, max, arith, refl, sym, subst, ◌∙◌, inl, inr}
use Rattle.std.proofs.lemmas.Bool.{cases_Bool, cases_lt, lt-leb, leb-true, le-leb, ltb-true, ltb-false}
use Rattle.std.proofs.lemmas.List.{drop_all, drop_more}
use Rattle.std.proofs.lemmas.List.Sorted.{IsNonDecreasingBy-drop}
use Rattle.std.proofs.lemmas.List.Elements.{All-from_get_or}
use Rattle.std.proofs.lemmas.List.Folds.{list_any_none}
use Rattle.bosh_base.specs.Plan.{is_in_some, is_within}
use Rattle.bosh_base.specs.declared.addr.Addr.{Addr}
use Rattle.bosh_base.specs.declared.addr.Band.{Band}
use Rattle.bosh_bands.specs.Least.{IsLeast, PassesNowhere}
use Rattle.bosh_bands.specs.Order.{IsInOrder, first_number}

-- an address in bands of both lists
abbrev pub common : List Band → List Band → Addr → Bool
common first second addr = is_in_some addr first && is_in_some addr second

-- an address before a band is not in it
outside_below : (addr : Addr) (band : Band) → addr.0 < band.first.0 → is_within addr band ≡ false
outside_below addr band below = rw (lt-leb band.first.0 addr.0 below) refl

-- an address before the first of bands in order is in none
pub none_before : (addr : Addr) (band : Band) (bands : List Band) → IsInOrder (band ∷ bands) → addr.0 < band.first.0 → is_in_some addr (band ∷ bands) ≡ false
none_before addr band bands order below =
    list_any_none (λ b. is_within addr b) (band ∷ bands)
    (All-from_get_or (λ b. is_within addr b ≡ false) (band ∷ bands) band
    (λ k within. outside_below addr (get_or (band ∷ bands) k band) (omega (arith, order 0 k band (omega arith) within))))

-- both of two tests are true
both : (x y : Bool) → (x && y) ≡ true → (x ≡ true) × (y ≡ true)
both true y h = (refl, h)
both false y h = absurd (cc)

either : (x y : Bool) → (x || y) ≡ true → (x ≡ true) ⊎ (y ≡ true)
either true y h = inl refl
either false y h = inr h

and_false : (x : Bool) → (x && false) ≡ false
and_false true = refl
and_false false = refl

-- a band that ends before another is passed over
pub pass_first : (one other : Band) (firsts seconds : List Band) → IsInOrder (other ∷ seconds) → (nat_lt one.last.0 one.first.0 || nat_lt one.last.0 other.first.0) ≡ true
    → (addr : Addr) → common (one ∷ firsts) (other ∷ seconds) addr ≡ common firsts (other ∷ seconds) addr
pass_first one other firsts seconds order ends addr =
    elim (cases_Bool (is_within addr one)) [
      | inl within ↦
          let (above, below) = both (nat_le one.first.0 addr.0) (nat_le addr.0 one.last.0) within in
          let least : one.first.0 ≤ addr.0 = leb-true _ _ above in
          let most : addr.0 ≤ one.last.0 = leb-true _ _ below in
          let before : addr.0 < other.first.0 =
          elim (either (nat_lt one.last.0 one.first.0) (nat_lt one.last.0 other.first.0) ends) [
            | inl empty ↦ absurd (omega (arith, ltb-true _ _ empty))
            | inr early ↦ omega (arith, ltb-true _ _ early)
          ] in
          let none = none_before addr other seconds order before in
          rw (within, none) (sym (and_false (is_in_some addr firsts)))
      | inr outside ↦ rw outside refl
    ]

and_comm : (x y : Bool) → (x && y) ≡ (y && x)
and_comm true true = refl
and_comm true false = refl
and_comm false true = refl
and_comm false false = refl

pub pass_second : (one other : Band) (firsts seconds : List Band) → IsInOrder (one ∷ firsts) → (nat_lt other.last.0 other.first.0 || nat_lt other.last.0 one.first.0) ≡ true
    → (addr : Addr) → common (one ∷ firsts) (other ∷ seconds) addr ≡ common (one ∷ firsts) seconds addr
pass_second one other firsts seconds order ends addr =
    and_comm (is_in_some addr (one ∷ firsts)) (is_in_some addr (other ∷ seconds)) ∙ pass_first other one seconds firsts order ends addr
    ∙ and_comm (is_in_some addr seconds) (is_in_some addr (one ∷ firsts))

-- the bands of both lists from two places on
abbrev pub rest : List Band → ℕ → Band → List Band
rest bands i d = get_or bands i d ∷ drop (i + 1) bands

-- the first list's band at a place is passed over
pub step_first : (first second : List Band) (i j : ℕ) (d e : Band) → i < length first → j < length second → IsInOrder second
    → (nat_lt (get_or first i d).last.0 (get_or first i d).first.0 || nat_lt (get_or first i d).last.0 (get_or second j e).first.0) ≡ true
    → (addr : Addr) → common (drop i first) (drop j second) addr ≡ common (drop (i + 1) first) (drop j second) addr
step_first first second i j d e within inside order ends addr =
    let here : drop i first ≡ rest first i d = drop_more first i d within in
    let there : drop j second ≡ rest second j e = drop_more second j e inside in
    let ordered : IsInOrder (rest second j e) = subst IsInOrder there (IsNonDecreasingBy-drop first_number j second order) in
    rw (here, there) (pass_first (get_or first i d) (get_or second j e) (drop (i + 1) first) (drop (j + 1) second) ordered ends addr)

-- the second list's band at a place is passed over
pub step_second : (first second : List Band) (i j : ℕ) (d e : Band) → i < length first → j < length second → IsInOrder first
    → (nat_lt (get_or second j e).last.0 (get_or second j e).first.0 || nat_lt (get_or second j e).last.0 (get_or first i d).first.0) ≡ true
    → (addr : Addr) → common (drop i first) (drop j second) addr ≡ common (drop i first) (drop (j + 1) second) addr
step_second first second i j d e within inside order ends addr =
    let here : drop i first ≡ rest first i d = drop_more first i d within in
    let there : drop j second ≡ rest second j e = drop_more second j e inside in
    let ordered : IsInOrder (rest first i d) = subst IsInOrder here (IsNonDecreasingBy-drop first_number i first order) in
    rw (here, there) (pass_second (get_or first i d) (get_or second j e) (drop (i + 1) first) (drop (j + 1) second) ordered ends addr)

neither : (x y : Bool) → (x || y) ≡ false → (x ≡ false) × (y ≡ false)
neither true y h = absurd (cc)
neither false y h = (refl, h)

-- an address in two bands is in both lists
meets : (addr : Addr) (one other : Band) (firsts seconds : List Band) → one.first.0 ≤ addr.0 → addr.0 ≤ one.last.0 → other.first.0 ≤ addr.0 → addr.0 ≤ other.last.0
    → common (one ∷ firsts) (other ∷ seconds) addr ≡ true
meets addr one other firsts seconds a b c d = rw (le-leb _ _ a, le-leb _ _ b, le-leb _ _ c, le-leb _ _ d) refl

-- below the greater of the first addresses of bands in order no address is in both
apart : (addr : Addr) (one other : Band) (firsts seconds : List Band) → IsInOrder (one ∷ firsts) → IsInOrder (other ∷ seconds) → (addr.0 < one.first.0) ⊎ (addr.0 < other.first.0)
    → common (one ∷ firsts) (other ∷ seconds) addr ≡ false
apart addr one other firsts seconds order ordered (inl below) = rw (none_before addr one firsts order below) refl
apart addr one other firsts seconds order ordered (inr below) = rw (none_before addr other seconds ordered below) (and_false (is_in_some addr (one ∷ firsts)))

-- where two bands meet, the greater of their first addresses is the least in both lists
pub meets_least : (first second : List Band) (i j : ℕ) (d e : Band) (addr : Addr) → i < length first → j < length second → IsInOrder first → IsInOrder second
    → (nat_lt (get_or first i d).last.0 (get_or first i d).first.0 || nat_lt (get_or first i d).last.0 (get_or second j e).first.0) ≡ false
    → (nat_lt (get_or second j e).last.0 (get_or second j e).first.0 || nat_lt (get_or second j e).last.0 (get_or first i d).first.0) ≡ false
    → ((a : Addr) → common first second a ≡ common (drop i first) (drop j second) a)
    → addr.0 ≡ max (get_or first i d).first.0 (get_or second j e).first.0 → IsLeast (common first second) addr
meets_least first second i j d e addr within inside order ordered meets_one meets_other same is =
    let one = get_or first i d in
    let other = get_or second j e in
    let here : drop i first ≡ rest first i d = drop_more first i d within in
    let there : drop j second ≡ rest second j e = drop_more second j e inside in
    let order' : IsInOrder (rest first i d) = subst IsInOrder here (IsNonDecreasingBy-drop first_number i first order) in
    let ordered' : IsInOrder (rest second j e) = subst IsInOrder there (IsNonDecreasingBy-drop first_number j second ordered) in
    let whole : (a : Addr) → common first second a ≡ common (rest first i d) (rest second j e) a = λ a. same a ∙ rw (here, there) refl in
    let (full, late) = neither _ _ meets_one in
    let (filled, behind) = neither _ _ meets_other in
    let a : one.first.0 ≤ one.last.0 = ltb-false _ _ full in
    let b : other.first.0 ≤ one.last.0 = ltb-false _ _ late in
    let c : other.first.0 ≤ other.last.0 = ltb-false _ _ filled in
    let d' : one.first.0 ≤ other.last.0 = ltb-false _ _ behind in
    record {
      passes = whole addr ∙ meets addr one other _ _ (omega arith) (omega arith) (omega arith) (omega arith);
      below = λ a lower. whole a ∙ apart a one other _ _ order' ordered'
          (elim (cases_lt a.0 one.first.0) [ inl before ↦ inl before | inr above ↦ inr (omega arith) ]);
    }

-- where the bands of a list were all passed over, no address is in both lists
pub none_left : (first second : List Band) (i j : ℕ) → ((a : Addr) → common first second a ≡ common (drop i first) (drop j second) a) → (length first ≤ i) ⊎ (length second ≤ j)
    → PassesNowhere (common first second)
none_left first second i j same (inl over) addr within =
    let end : drop i first ≡ [] = drop_all i first over in
    same addr ∙ rw end refl
none_left first second i j same (inr over) addr within =
    let end : drop j second ≡ [] = drop_all j second over in
    same addr ∙ rw end (and_false (is_in_some addr (drop i first)))
