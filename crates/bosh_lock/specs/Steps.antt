-- What the steps on the table of a lock tell.
use Rattle.std.specs.Prelude.{◌≡◌, ◌≢◌, ℕ, ◌+◌, ◌-◌, ◌/◌, ◌^◌, ◌≤◌, true, false}
use Rattle.std.specs.Prelude.{List, [], ◌∷◌, length, Option, Some}
use Rattle.atomic_table.specs.Table.{Me, rest}
use Rattle.bosh_lock.specs.Extends.{Extends, longer, shorter}
use Rattle.bosh_lock.specs.declared.rule.View.{View}

-- what a seat knows, and the slots that it holds
abbrev pub Sat : Type 0 → Type 0 → Type 0
Sat S I = Me (Option S) (View I)

module _ {S I : Type 0} (items_of : S → List I) where
  -- the seat with the slot, once it has seen the list of the value there
  abbrev pub holding : Sat S I → S → Sat S I
  holding was value = (record was.0 { seen = items_of value; holds = true }, (0, Some value) ∷ was.1)

  -- the slot is out with the seat, which has seen the list of its value
  abbrev pub Enters : Sat S I → Sat S I → Type 0
  Enters was now = (value : S) × (now ≡ holding was value) × Extends was.0.seen (items_of value)

  -- the slot was free, and the seat enters; else nothing changed
  abbrev pub Takes : Sat S I → ℕ → Sat S I → Type 0
  Takes was found now = (found ≡ 0 → Enters was now) × (found ≢ 0 → now ≡ was)

  -- the seat has seen the list of the value that it holds
  abbrev pub Counts : Sat S I → Sat S I → Type 0
  Counts was now =
      (value : S) → was.1 ≡ (0, Some value) ∷ [] → now ≡ (record was.0 { seen = items_of value }, was.1)

module _ {S I : Type 0} where
  -- the slot went home
  abbrev pub Gives : Sat S I → Sat S I → Type 0
  Gives was now = now ≡ (record was.0 { holds = false }, rest was.1)

  -- the seat has seen a list that extends what it had seen, and knows nothing else anew
  abbrev pub Sees : Sat S I → Sat S I → Type 0
  Sees was now = (items : List I) × (now ≡ (record was.0 { seen = items }, was.1)) × Extends was.0.seen items

  -- the same, and what was found is the length of that list
  abbrev pub Looks : Sat S I → ℕ → Sat S I → Type 0
  Looks was found now = Sees was now × (found ≡ length now.0.seen)

  -- the seat knows what it knew
  abbrev pub Stays : Sat S I → Sat S I → Type 0
  Stays was now = now ≡ was

  -- the seat has no more than there is, and what it has seen extends what it was joined with, if it is no shorter
  abbrev pub Weighs : Sat S I → Sat S I → Type 0
  Weighs was now = (now ≡ was) × (was.0.share ≤ 2 ^ 32)
      × (length was.0.joined ≤ length was.0.seen → Extends was.0.joined was.0.seen)

module _ {I : Type 0} where
  -- what is left of a view that is cut in two, and what is cut off
  abbrev pub kept_half : View I → View I
  kept_half v = record v { share = v.share - v.share / 2 }

  abbrev pub given_half : View I → View I
  given_half v = record v { share = v.share / 2 }

  -- two views made one, and what is left of the second
  abbrev pub both_views : View I → View I → View I
  both_views v w = record v {
    share = v.share + w.share;
    seen = longer v.seen w.seen;
    joined = shorter v.seen w.seen;
  }

  abbrev pub spent_view : View I
  spent_view = record { share = 0; seen = []; joined = []; holds = false }
