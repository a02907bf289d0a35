-- What holds of a lock between any two steps: its words, its slot, and what each pass and turn knows.
-- Word 0 is 0 where the slot may be taken, 1 where it is out, and 2 where it is out and awaited. Word 1 is the length
-- of the list. Word 2 counts who waits for a longer one.
use Rattle.std.specs.Prelude.{◌≡◌, ◌≢◌, ◌⊎◌, ℕ, ◌+◌, ◌^◌, ◌≤◌, true, false}
use Rattle.std.specs.Prelude.{List, [], ◌∷◌, length, slice_index, Option, Some}
use mathlib.Core.Option.{none, some}
use lib.ListN.{get_elem?}
use Rattle.atomic_table.specs.Table.{State}
use Rattle.bosh_lock.specs.Extends.{Extends}
use Rattle.bosh_lock.specs.declared.rule.View.{View}

module _ {I : Type 0} where
  -- all shares, added up
  abbrev pub shares : List (View I) → ℕ
  shares [] = 0
  shares (v ∷ vs) = v.share + shares vs

  -- the view of the first pass: it has all, and has seen the list
  abbrev pub first_view : List I → View I
  first_view items = record { share = 2 ^ 32; seen = items; joined = []; holds = false }

  -- what was seen is a beginning of the list
  abbrev pub Knows : List I → View I → Type 0
  Knows items v = Extends v.seen items × Extends v.joined items

module _ {S I : Type 0} where
  -- the slot is at home, and has a value of that list
  pub record IsHome (items_of : S → List I) (items : List I) (s : State (Option S) (View I)) : Type 0 where
    pub value : S
    pub lists : items_of value ≡ items
    pub free : slice_index s.words 0 ≡ 0
    pub home : s.homes ≡ some (Some value) ∷ []
    pub unheld : (id : ℕ) (v : View I) → get_elem? s.views id ≡ some v → v.holds ≡ false

  -- the slot is out with one alone, who has seen all of that list
  pub record IsOut (items : List I) (s : State (Option S) (View I)) : Type 0 where
    pub holder : ℕ
    pub view : View I
    pub taken : slice_index s.words 0 ≢ 0
    pub out : s.homes ≡ none ∷ []
    pub seated : get_elem? s.views holder ≡ some view
    pub held : view.holds ≡ true
    pub shared : 1 ≤ view.share
    pub newest : view.seen ≡ items
    pub alone : (id : ℕ) (v : View I) → get_elem? s.views id ≡ some v → v.holds ≡ true → id ≡ holder

  -- there is one list, of which all have seen beginnings; the shares are 2^32 in all
  pub record Grows (items_of : S → List I) (s : State (Option S) (View I)) : Type 0 where
    pub items : List I
    pub wide : length s.words ≡ 3
    pub counted : slice_index s.words 1 ≡ length items
    pub whole : shares s.views ≡ 2 ^ 32
    pub known : (id : ℕ) (v : View I) → get_elem? s.views id ≡ some v → Knows items v
    pub placed : IsHome items_of items s ⊎ IsOut items s
