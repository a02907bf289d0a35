-- Which of several things need which, each thing named by its place.
use Rattle.std.specs.Prelude.{ℕ, ◌<◌, List, [], All, Contains, length, slice_index_or, take}

-- the places that each place needs
abbrev pub Graph : Type 0
Graph = List (List ℕ)

abbrev pub needs_of : Graph → ℕ → List ℕ
needs_of graph place = slice_index_or graph place []

abbrev pub Needs : Graph → ℕ → ℕ → Type 0
Needs graph place other = Contains (needs_of graph place) other

-- each needed place is one of the places
abbrev pub IsGraph : Graph → Type 0
IsGraph graph = All (λ needs. All (λ need. need < length graph) needs) graph

-- a place needs another one, or a place that it needs does so
pub data Reaches (graph : Graph) : ℕ → ℕ → Type 0 where
  at_once : (place other : ℕ) → Needs graph place other → Reaches graph place other
  by : (place next last : ℕ) → Needs graph place next → Reaches graph next last → Reaches graph place last

-- no place needs itself, at once or by others
abbrev pub HasNoCycle : Graph → Type 0
HasNoCycle graph = (place : ℕ) → ¬ Reaches graph place place

-- the first place that needs itself
pub record IsFirstOnCycle (graph : Graph) (place : ℕ) : Type 0 where
  pub on_cycle : Reaches graph place place
  pub first : (other : ℕ) → other < place → ¬ Reaches graph other other

-- the places in an order in which each stands after all that it needs
pub record IsOrder (graph : Graph) (places : List ℕ) : Type 0 where
  pub all : (place : ℕ) → place < length graph → Contains places place
  pub within : All (λ place. place < length graph) places
  pub after :
      (k d : ℕ) → k < length places → All (Contains (take k places)) (needs_of graph (slice_index_or places k d))
