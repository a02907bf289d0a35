-- Which facts are broken at the places of a history, and in states that are made up.
use Rattle.std.specs.Prelude.{◌≡◌, ℕ, ◌+◌, Bool, true, false, Option, Some, None, List, [], ◌∷◌, fold, take}
use Rattle.std.specs.Str.{bytes_eq}
use Rattle.bosh_base.specs.declared.moves.Move.{Move}
use Rattle.laws_counts.specs.Courses.{Course, course_at, course_later}
use Rattle.laws_counts.specs.CourseFacts.{all_broken}
use Rattle.examples_facts.specs.Changes.{Change}
use Rattle.bosh_history.specs.Moments.{Moment}
use Rattle.bosh_history.specs.Words.{is_among}
use Rattle.examples_histories.specs.Scenes.{Builder, History}

-- a place, and the tags of the facts that are broken there
pub record Breach : Type 0 where
  pub place : ℕ
  pub tags : List (List ℕ)

-- a breach at the place, where something is broken
abbrev pub breach_at : ℕ → List (List ℕ) → Option Breach → Option Breach
breach_at place [] later = later
breach_at place (tag ∷ tags) later = Some (record { place = place; tags = tag ∷ tags })

-- the first place at which a fact is broken
abbrev pub first_breach : Builder → ℕ → Course → List Move → Option Breach
first_breach built place c [] = breach_at place (all_broken built c) None
first_breach built place c (move ∷ history) =
    breach_at place (all_broken built c) (first_breach built (place + 1) (course_later c move) history)

-- each fact holds at each place of the history
abbrev pub KeepsFacts : Moment → History → Type 0
KeepsFacts m history = (built : Builder) → first_breach built 0 (course_at m) (history built) ≡ None

-- the course, so many moves on
abbrev pub course_after : Moment → ℕ → List Move → Course
course_after m place history = fold course_later (course_at m) (take place history)

-- the fact of this tag is broken at the place, where one thing is otherwise
abbrev pub Breaks : List ℕ → Moment → ℕ → History → Change → Type 0
Breaks tag m place history change =
    (built : Builder) →
    is_among bytes_eq tag (all_broken built (change (course_after m place (history built)))) ≡ true

-- .. and no other is
abbrev pub are_all : List ℕ → List (List ℕ) → Bool
are_all tag [] = true
are_all tag (other ∷ tags) = if_same (bytes_eq tag other) (are_all tag tags)
  where
    if_same : Bool → Bool → Bool
    if_same true rest = rest
    if_same false rest = false

-- this fact is broken, and no other
abbrev pub is_just : List ℕ → List (List ℕ) → Bool
is_just tag [] = false
is_just tag tags = are_all tag tags

-- the fact of this tag is broken at the place, where one thing is otherwise, and no other is
abbrev pub BreaksAlone : List ℕ → Moment → ℕ → History → Change → Type 0
BreaksAlone tag m place history change =
    (built : Builder) → is_just tag (all_broken built (change (course_after m place (history built)))) ≡ true

-- as the history has it
abbrev pub nothing_else : Change
nothing_else c = c
