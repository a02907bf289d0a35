-- What numbers of places say of their order.
use Rattle.std.specs.Prelude.{◌≡◌, ℕ, ◌<◌, ◌≤◌, List, All, length, slice_index_or}
use Rattle.bosh_release_order.specs.Graph.{Graph, Needs, needs_of}
use Rattle.bosh_release_order.specs.declared.order.Ranked.{Ranked}

abbrev pub number_of : List ℕ → ℕ → ℕ
number_of numbers place = slice_index_or numbers place 0

-- a place has a greater number than those that it needs
abbrev pub IsAbove : Graph → List ℕ → ℕ → Type 0
IsAbove graph numbers place = All (λ need. number_of numbers need < number_of numbers place) (needs_of graph place)

-- so it is for the first places
abbrev pub AreAbove : Graph → List ℕ → ℕ → Type 0
AreAbove graph numbers n = (place : ℕ) → place < n → IsAbove graph numbers place

-- no place needs one of a greater number
abbrev pub NeverRise : Graph → List ℕ → Type 0
NeverRise graph numbers =
    (place : ℕ) → place < length graph
    → All (λ need. number_of numbers need ≤ number_of numbers place) (needs_of graph place)

-- the first places with their numbers, in their order
pub record RanksOf (graph : Graph) (numbers : List ℕ) (ranks : List Ranked) (n : ℕ) : Type 0 where
  pub same_length : length ranks ≡ n
  pub each : (k : ℕ) (d : Ranked) → k < n → ((slice_index_or ranks k d).place ≡ k) × ((slice_index_or ranks k d).rank ≡ number_of numbers k)

-- the places with ranks, in their order: each has a greater rank than those that it needs
pub record Ascend (graph : Graph) (ranks : List Ranked) : Type 0 where
  pub same_length : length ranks ≡ length graph
  pub places : (k : ℕ) (d : Ranked) → k < length graph → (slice_index_or ranks k d).place ≡ k
  pub falls :
      (k j : ℕ) (d : Ranked) → k < length graph → j < length graph → Needs graph k j
      → (slice_index_or ranks j d).rank < (slice_index_or ranks k d).rank
