-- How the places that one needs are searched for.
use Rattle.std.specs.Prelude.{◌≡◌, ◌↔◌, ◌⊎◌, ℕ, ◌+◌, ◌<◌, ◌≤◌, Bool, true, false, List, Option, Some, None, All, Contains, count_by, length, slice_index_or, sum_by, if◌then◌else◌}
use Rattle.bosh_release_order.specs.Graph.{Graph, HasNoCycle, IsFirstOnCycle, IsOrder, Reaches, needs_of}
use Rattle.bosh_release_order.specs.declared.order.Order.{Order}
use Rattle.bosh_release_order.specs.declared.order.Order.TheVariants.{Whole, Cycle}
use Rattle.bosh_release_order.specs.declared.order.Ranked.{Ranked}
use Rattle.bosh_release_order.specs.declared.order.Ranking.{Ranking}
use Rattle.bosh_release_order.specs.declared.order.Ranking.TheVariants as rankings

abbrev pub IsFound : List Bool → ℕ → Type 0
IsFound found place = slice_index_or found place false ≡ true

-- so many turns are left at most
abbrev pub turns_of : Bool → ℕ
turns_of is_found = if is_found then 0 else 2

abbrev pub work_left : List Bool → List ℕ → ℕ
work_left found work = sum_by turns_of found + length work

-- these needs are found, and those that are new are to be looked at
pub record Notes (needs : List ℕ) (old : List Bool) (before : List ℕ) (new : List Bool) (work : List ℕ) : Type 0 where
  pub same_length : length new ≡ length old
  pub all : All (IsFound new) needs
  pub kept : (place : ℕ) → IsFound old place → IsFound new place
  pub only : (place : ℕ) → IsFound new place → IsFound old place ⊎ Contains needs place
  pub pending : (place : ℕ) → IsFound new place → IsFound old place ⊎ Contains work place
  pub work_kept : (place : ℕ) → Contains before place → Contains work place
  pub work_only : (place : ℕ) → Contains work place → Contains before place ⊎ Contains needs place
  pub left : work_left new work ≤ work_left old before

-- what was found is needed, and each that was found is to be looked at, or all that it needs was found
pub record IsSearch (graph : Graph) (place : ℕ) (found : List Bool) (work : List ℕ) : Type 0 where
  pub same_length : length found ≡ length graph
  pub needed : (other : ℕ) → IsFound found other → Reaches graph place other
  pub starts : All (IsFound found) (needs_of graph place)
  pub closed : (other : ℕ) → IsFound found other → Contains work other ⊎ All (IsFound found) (needs_of graph other)
  pub work_found : (other : ℕ) → Contains work other → IsFound found other
  pub work_within : All (λ other. other < length graph) work

-- exactly what the place needs, at once or by others, was found
pub record IsReach (graph : Graph) (place : ℕ) (found : List Bool) : Type 0 where
  pub same_length : length found ≡ length graph
  pub exact : (other : ℕ) → IsFound found other ↔ Reaches graph place other

-- so many places are needed, and the place is none of them
pub record IsRank (graph : Graph) (place rank : ℕ) : Type 0 where
  pub found : List Bool
  pub reach : IsReach graph place found
  pub count : rank ≡ count_by (λ b. b) found
  pub free : ¬ Reaches graph place place

abbrev pub IsRankAt : Graph → ℕ → Option ℕ → Type 0
IsRankAt graph place (Some rank) = IsRank graph place rank
IsRankAt graph place None = Reaches graph place place

-- the ranks of the first places, in their order
pub record AreRanks (graph : Graph) (ranks : List Ranked) (n : ℕ) : Type 0 where
  pub same_length : length ranks ≡ n
  pub each :
      (k : ℕ) (d : Ranked) → k < n
      → ((slice_index_or ranks k d).place ≡ k) × IsRank graph k (slice_index_or ranks k d).rank

abbrev pub IsRanked : Graph → Ranking → Type 0
IsRanked graph (rankings.Whole ranks) = AreRanks graph ranks (length graph)
IsRanked graph (rankings.Cycle place) = IsFirstOnCycle graph place

-- an order of the places, none of which needs itself, or the first that does
abbrev pub IsAnswered : Graph → Order → Type 0
IsAnswered graph (Whole places) = IsOrder graph places × HasNoCycle graph
IsAnswered graph (Cycle place) = IsFirstOnCycle graph place
