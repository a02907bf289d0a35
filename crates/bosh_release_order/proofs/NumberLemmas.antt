-- What numbers of places show.
use Rattle.std.proofs.Common.{◌≡◌, subst, arith, ℕ, ◌<◌, ◌≤◌, ⊎_elim, List, [], length}
use Rattle.std.specs.List.{Contains}
use Rattle.std.proofs.lemmas.Bool.{cases_lt}
use Rattle.std.proofs.lemmas.List.{get_or_past}
use Rattle.std.proofs.lemmas.List.Elements.{All-contains}
use Rattle.bosh_release_order.specs.Graph.{Graph, HasNoCycle, IsFirstOnCycle, Needs, Reaches, at_once, by, needs_of}
use Rattle.bosh_release_order.specs.Numbers.{AreAbove, Ascend, IsAbove, NeverRise, RanksOf, number_of}
use Rattle.bosh_release_order.specs.declared.order.Ranked.{Ranked}

-- who needs something is a place
is_place : (graph : Graph) (place other : ℕ) → Needs graph place other → place < length graph
is_place graph place other needed =
    ⊎_elim
    (λ (low : place < length graph). low)
    (λ (high : length graph ≤ place).
    let none : needs_of graph place ≡ [] = get_or_past graph place [] high in
    let in' : Contains [] other = subst (λ needs. Contains needs other) none needed in
    absurd (omega (arith, in'.1)))
    (cases_lt place (length graph))

-- what is needed has no greater number
reached : (graph : Graph) (numbers : List ℕ) → NeverRise graph numbers → {place other : ℕ} → Reaches graph place other → number_of numbers other ≤ number_of numbers place
reached graph numbers never (at_once place other needed) =
    All-contains (λ need. number_of numbers need ≤ number_of numbers place) (needs_of graph place) other (never place (is_place graph place other needed)) needed
reached graph numbers never (by place next last needed more) =
    let one = All-contains (λ need. number_of numbers need ≤ number_of numbers place) (needs_of graph place) next (never place (is_place graph place next needed)) needed in
    let rest = reached graph numbers never more in
    omega (arith, one, rest)

-- a place above all that it needs does not need itself
above_is_free : (graph : Graph) (numbers : List ℕ) → NeverRise graph numbers → {place other : ℕ} → IsAbove graph numbers place → Reaches graph place other → number_of numbers other < number_of numbers place
above_is_free graph numbers never above (at_once place other needed) =
    All-contains (λ need. number_of numbers need < number_of numbers place) (needs_of graph place) other above needed
above_is_free graph numbers never above (by place next last needed more) =
    let one = All-contains (λ need. number_of numbers need < number_of numbers place) (needs_of graph place) next above needed in
    let rest = reached graph numbers never more in
    omega (arith, one, rest)

-- where each is above, none needs one of a greater number
above_never_rise : (graph : Graph) (numbers : List ℕ) → AreAbove graph numbers (length graph) → NeverRise graph numbers
above_never_rise graph numbers above = λ place low k d lt. let less = above place low k d lt in omega (arith, less)

pub above_has_no_cycle : (graph : Graph) (numbers : List ℕ) → AreAbove graph numbers (length graph) → HasNoCycle graph
above_has_no_cycle graph numbers above = λ place round.
    let low = reaches_place round in
    let less = above_is_free graph numbers (above_never_rise graph numbers above) (above place low) round in
    absurd (omega (arith, less))
  where
    reaches_place : {place other : ℕ} → Reaches graph place other → place < length graph
    reaches_place (at_once place other needed) = is_place graph place other needed
    reaches_place (by place next last needed more) = is_place graph place next needed

-- the first place that is not above all that it needs is the first that needs itself, where it does
pub first_on_cycle : (graph : Graph) (numbers : List ℕ) (place : ℕ) → AreAbove graph numbers place → NeverRise graph numbers → Reaches graph place place → IsFirstOnCycle graph place
first_on_cycle graph numbers place above never round = record {
  on_cycle = round;
  first = λ other before again. let less = above_is_free graph numbers never (above other before) again in absurd (omega (arith, less));
}

pub ranks_ascend : (graph : Graph) (numbers : List ℕ) (ranks : List Ranked) → AreAbove graph numbers (length graph) → RanksOf graph numbers ranks (length graph) → Ascend graph ranks
ranks_ascend graph numbers ranks above are = record {
  same_length = are.same_length;
  places = λ k d lt. (are.each k d lt).0;
  falls = λ k j d k_lt j_lt needed.
      let less = All-contains (λ need. number_of numbers need < number_of numbers k) (needs_of graph k) j (above k k_lt) needed in
      let mine = (are.each k d k_lt).1 in
      let theirs = (are.each j d j_lt).1 in
      omega (arith, less, mine, theirs);
}
