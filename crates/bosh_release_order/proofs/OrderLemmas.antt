-- Places by their ranks stand after those that they need.
use Rattle.std.proofs.Common.{◌≡◌, ⊎_elim, ◌∙◌, ap, refl, sym, subst, arith, ℕ, zero, suc, ◌+◌, ◌<◌, ◌≤◌, Bool, true, false, cond, List, [], ◌∷◌, ◌++◌, length, length-append, get_or, take, map}
use Rattle.std.specs.List.{All, Contains, count_by}
use Rattle.std.specs.List.Sorted.{IsPermutation, IsSorted}
use Rattle.std.specs.Ordering.{is_lt, nat_cmp, ordering_then}
use Rattle.std.specs.declared.cmp.Ordering.{Ordering}
use Rattle.std.proofs.Math.ListN.{get_or-map}
use Rattle.std.proofs.lemmas.Bool.{cases_lt}
use Rattle.std.proofs.lemmas.Bool.Decides.{nat_tests}
use Rattle.std.proofs.lemmas.List.{get_or_default, get_or_past, get_or_append_left, get_or-take, length-map, length-take}
use Rattle.std.proofs.Math.Seq.{get_or-append_seam}
use Rattle.std.proofs.lemmas.List.Elements.{All-get_or, All-map, Contains-get_or}
use Rattle.std.proofs.lemmas.List.Sorted.{All-permutation, Contains-permutation, IsNonDecreasingBy-from_all_adjacent}
use Rattle.std.proofs.lemmas.List.Sums.{sum_by-cons}
use Rattle.bosh_release_order.specs.Graph.{Graph, HasNoCycle, IsGraph, IsOrder, Needs, Reaches, at_once, by, needs_of}
use Rattle.bosh_release_order.specs.Numbers.{Ascend}
use Rattle.bosh_release_order.specs.Search.{AreRanks, IsFound, IsRank}
use Rattle.bosh_release_order.specs.declared.order.Ranked.{Ranked}

-- ---- counts

abbrev one : Bool → ℕ
one b = cond b 1 0

count-cons : (b : Bool) (bs : List Bool) → count_by (λ x. x) (b ∷ bs) ≡ cond b 1 0 + count_by (λ x. x) bs
count-cons b bs = sum_by-cons (λ (x : Bool). cond x 1 0) b bs

less_or_same : (a b : Bool) (m n : ℕ) → (a ≡ true → b ≡ true) → m ≤ n → cond a 1 0 + m ≤ cond b 1 0 + n
less_or_same true true m n h le = omega arith
less_or_same true false m n h le = let no = h refl in absurd cc
less_or_same false true m n h le = omega arith
less_or_same false false m n h le = omega arith

count-le :
    (xs ys : List Bool) → length xs ≡ length ys
    → ((k : ℕ) → IsFound xs k → IsFound ys k) → count_by (λ x. x) xs ≤ count_by (λ x. x) ys
count-le [] [] same h = omega arith
count-le [] (y ∷ ys) same h = absurd (omega arith)
count-le (x ∷ xs) [] same h = absurd (omega arith)
count-le (x ∷ xs) (y ∷ ys) same h =
    let rest = count-le xs ys (omega arith) (λ k f. h (suc k) f) in
    let whole = less_or_same x y (count_by (λ b. b) xs) (count_by (λ b. b) ys) (h 0) rest in
    let a = count-cons x xs in
    let b = count-cons y ys in
    omega arith

count-lt :
    (xs ys : List Bool) → length xs ≡ length ys
    → ((k : ℕ) → IsFound xs k → IsFound ys k) → (j : ℕ) → (IsFound xs j → ⊥) → IsFound ys j
    → count_by (λ x. x) xs < count_by (λ x. x) ys
count-lt xs [] same h j out' in' = absurd cc
count-lt [] (y ∷ ys) same h j out' in' = absurd (omega arith)
count-lt (true ∷ xs) (y ∷ ys) same h zero out' in' = absurd (out' refl)
count-lt (false ∷ xs) (y ∷ ys) same h zero out' in' =
    let rest = count-le xs ys (omega arith) (λ k f. h (suc k) f) in
    let a = count-cons false xs in
    let b = count-cons y ys in
    let is : y ≡ true = in' in
    let c : one y ≡ 1 = ap one is in
    omega (arith, c)
count-lt (x ∷ xs) (y ∷ ys) same h (suc j) out' in' =
    let rest = count-lt xs ys (omega arith) (λ k f. h (suc k) f) j out' in' in
    let whole = less_or_same x y (suc (count_by (λ b. b) xs)) (count_by (λ b. b) ys) (h 0) rest in
    let a = count-cons x xs in
    let b = count-cons y ys in
    omega arith

-- ---- ranks

-- what a place needs has a lesser rank
pub rank_falls :
    (graph : Graph) (place other m n : ℕ) → IsRank graph place m → IsRank graph other n → Needs graph place other → n < m
rank_falls graph place other m n p o needed =
    let less = count-lt o.found p.found (o.reach.same_length ∙ sym p.reach.same_length)
    (λ k f. (p.reach.exact k).1 (by place other k needed ((o.reach.exact k).0 f))) other
    (λ f. o.free ((o.reach.exact other).0 f)) ((p.reach.exact other).1 (at_once place other needed)) in
    let a = p.count in
    let b = o.count in
    omega arith

-- ranks that count what is needed fall
pub counted_ranks_fall : (graph : Graph) (ranks : List Ranked) → AreRanks graph ranks (length graph) → Ascend graph ranks
counted_ranks_fall graph ranks are = record {
  same_length = are.same_length;
  places = λ k d lt. (are.each k d lt).0;
  falls = λ k j d k_lt j_lt needed.
      rank_falls graph k j (get_or ranks k d).rank (get_or ranks j d).rank (are.each k d k_lt).1 (are.each j d j_lt).1 needed;
}

not_less : (m n : ℕ) (o : Ordering) → is_lt (ordering_then (nat_cmp m n) o) ≡ false → n ≤ m
not_less m n o h = grind (arith, nat_tests)

module _ (graph : Graph) (ranks sorted : List Ranked) (well : IsGraph graph)
    (are : Ascend graph ranks) (moved : IsPermutation ranks sorted)
    (ascends : IsSorted (λ a b. ordering_then (nat_cmp a.rank b.rank) (nat_cmp a.place b.place)) sorted) where
  all_within : All (λ (it : Ranked). it.place < length graph) ranks
  all_within = λ k d lt.
      let low : k < length graph = (let n = are.same_length in omega arith) in
      subst (λ p. p < length graph) (sym (are.places k d low)) low

  sorted_within : All (λ (it : Ranked). it.place < length graph) sorted
  sorted_within = All-permutation (λ (it : Ranked). it.place < length graph) ranks sorted moved all_within

  -- each stands among the ranks at its place
  abbrev is_rank_there : Ranked → Type 0
  is_rank_there it = get_or ranks it.place it ≡ it

  all_there : All is_rank_there ranks
  all_there = λ k d lt.
      let low : k < length graph = (let n = are.same_length in omega arith) in
      ap (λ p. get_or ranks p (get_or ranks k d)) (are.places k d low) ∙ get_or_default ranks k (get_or ranks k d) d lt

  sorted_there : All is_rank_there sorted
  sorted_there = All-permutation is_rank_there ranks sorted moved all_there

  rise : (i j : ℕ) (d : Ranked) → i ≤ j → j < length sorted → (get_or sorted i d).rank ≤ (get_or sorted j d).rank
  rise = IsNonDecreasingBy-from_all_adjacent (λ (it : Ranked). it.rank) sorted (λ k d lt.
      not_less (get_or sorted (k + 1) d).rank (get_or sorted k d).rank
      (nat_cmp (get_or sorted (k + 1) d).place (get_or sorted k d).place) (ascends k d (omega arith) lt))

  abbrev some_ranked : Ranked
  some_ranked = record { rank = 0; place = 0 }

  abbrev places : List ℕ
  places = map (λ it. it.place) sorted

  at_place : (place : ℕ) → place < length graph → Contains sorted (get_or ranks place some_ranked)
  at_place place low =
      Contains-permutation ranks sorted (get_or ranks place some_ranked) moved
      (Contains-get_or ranks place some_ranked (let n = are.same_length in omega arith))

  place-of : (k d : ℕ) (e : Ranked) → k < length sorted → get_or places k d ≡ (get_or sorted k e).place
  place-of k d e lt =
      get_or_default places k d e.place (let n = length-map sorted (λ (it : Ranked). it.place) in omega arith)
      ∙ get_or-map (λ (it : Ranked). it.place) sorted k e

  -- a need stands before
  stands_before :
      (k d place other : ℕ) → k < length sorted → (get_or sorted k some_ranked).place ≡ place → other < length graph
      → Needs graph place other → Contains (take k places) other
  stands_before k d place other lt is low needed =
      let found = at_place other low in
      let m = found.0 in
      let it = get_or ranks other some_ranked in
      let mine = get_or sorted k some_ranked in
      let here : mine.place < length graph = All-get_or (λ (it : Ranked). it.place < length graph) sorted k some_ranked lt sorted_within in
      let same : get_or ranks mine.place mine ≡ mine = All-get_or is_rank_there sorted k some_ranked lt sorted_there in
      let short' : mine.place < length ranks = (let n = are.same_length in omega arith) in
      let same' : get_or ranks mine.place some_ranked ≡ mine = get_or_default ranks mine.place some_ranked mine short' ∙ same in
      let falls : it.rank < (get_or ranks mine.place some_ranked).rank = are.falls mine.place other some_ranked here low (subst (λ p. Needs graph p other) (sym is) needed) in
      let less : it.rank < mine.rank = subst (λ (r : Ranked). it.rank < r.rank) same' falls in
      let at_m : get_or sorted m some_ranked ≡ it = get_or_default sorted m some_ranked it found.1 ∙ found.2 in
      let m_rank : (get_or sorted m some_ranked).rank ≡ it.rank = ap (λ (r : Ranked). r.rank) at_m in
      let before : m < k = ⊎_elim
      (λ (early : m < k). early)
      (λ (late : k ≤ m). let up = rise k m some_ranked late found.1 in absurd (omega arith))
      (cases_lt m k) in
      let short : m < length (take k places) =
      (let a = length-map sorted (λ (r : Ranked). r.place) in let b = length-take k places in omega arith) in
      (m, short, get_or-take k places m other before ∙ place-of m other some_ranked found.1 ∙ ap (λ (r : Ranked). r.place) at_m ∙ are.places other some_ranked low)

  pub sorted_is_order : IsOrder graph (map (λ it. it.place) sorted)
  sorted_is_order = record {
    all = λ place low.
        let found = at_place place low in (
          found.0,
          (let n = length-map sorted (λ (it : Ranked). it.place) in let lt = found.1 in omega arith),
          place-of found.0 place some_ranked found.1
              ∙ ap (λ (r : Ranked). r.place) (get_or_default sorted found.0 some_ranked (get_or ranks place some_ranked) found.1 ∙ found.2) ∙ are.places place some_ranked low,
        );
    within = All-map (λ place. place < length graph) (λ (it : Ranked). it.place) sorted
        (λ k d lt. All-get_or (λ (it : Ranked). it.place < length graph) sorted k d lt sorted_within);
    after = λ k d lt.
        let short : k < length sorted = (let n = length-map sorted (λ (it : Ranked). it.place) in omega arith) in
        let place = get_or places k d in
        let here : (get_or sorted k some_ranked).place < length graph = All-get_or (λ (it : Ranked). it.place < length graph) sorted k some_ranked short sorted_within in
        let is : get_or places k d ≡ (get_or sorted k some_ranked).place = place-of k d some_ranked short in
        let low : place < length graph = subst (λ p. p < length graph) (sym is) here in
        λ i e below.
        stands_before k d place (get_or (needs_of graph place) i e) short (sym is)
        (All-get_or (λ o. o < length graph) (needs_of graph place) i e below (All-get_or (λ needs. All (λ o. o < length graph) needs) graph place [] low well))
        (Contains-get_or (needs_of graph place) i e below);
  }

-- places that all have ranks have no cycle
reaches_from : {graph : Graph} {place other : ℕ} → Reaches graph place other → (o : ℕ) × Needs graph place o
reaches_from (at_once place other n) = (other, n)
reaches_from (by place next last n r) = (next, n)

pub ranked_has_no_cycle : (graph : Graph) (ranks : List Ranked) → AreRanks graph ranks (length graph) → HasNoCycle graph
ranked_has_no_cycle graph ranks are = λ place round.
    ⊎_elim
    (λ (low : place < length graph). (are.each place (record { rank = 0; place = 0 }) low).1.free round)
    (λ (high : length graph ≤ place).
    let some = reaches_from round in
    let none : needs_of graph place ≡ [] = get_or_past graph place [] high in
    let in' : Contains [] some.0 = subst (λ needs. Contains needs some.0) none some.1 in
    absurd (omega (arith, in'.1)))
    (cases_lt place (length graph))

-- ---- one rank more

pub ranks_more :
    (graph : Graph) (ranks new : List Ranked) (n rank : ℕ) → AreRanks graph ranks n
    → new ≡ ranks ++ record { rank = rank; place = n } ∷ [] → IsRank graph n rank
    → AreRanks graph new (n + 1)
ranks_more graph ranks new n rank are is here = record {
  same_length = ap length is ∙ length-append ranks (record { rank = rank; place = n } ∷ []) ∙ ap (λ m. m + 1) are.same_length;
  each = λ k d lt. at k d lt;
}
  where
    it : Ranked
    it = record { rank = rank; place = n }

    at : (k : ℕ) (d : Ranked) → k < n + 1 → ((get_or new k d).place ≡ k) × IsRank graph k (get_or new k d).rank
    at k d lt =
        subst (λ rs. ((get_or rs k d).place ≡ k) × IsRank graph k (get_or rs k d).rank) (sym is)
        (⊎_elim
        (λ (low : k < n).
        let short : k < length ranks = (let e = are.same_length in omega arith) in
        subst (λ (r : Ranked). (r.place ≡ k) × IsRank graph k r.rank) (sym (get_or_append_left ranks (it ∷ []) d k short)) (are.each k d low))
        (λ (high : n ≤ k).
        let same : k ≡ n = omega arith in
        let seam : get_or (ranks ++ it ∷ []) k d ≡ it =
        ap (λ m. get_or (ranks ++ it ∷ []) m d) (same ∙ sym are.same_length) ∙ get_or-append_seam ranks it [] d in
        subst (λ (r : Ranked). (r.place ≡ k) × IsRank graph k r.rank) (sym seam) (sym same, subst (λ p. IsRank graph p rank) (sym same) here))
        (cases_lt k n))

-- the first that needs itself
pub first_of :
    (graph : Graph) (ranks : List Ranked) (n : ℕ) → AreRanks graph ranks n → (other : ℕ) → other < n → Reaches graph other other → ⊥
first_of graph ranks n are other low round = (are.each other (record { rank = 0; place = 0 }) low).1.free round
