-- Which entries the bodies of a director's store spell (this project's profile).
use Rattle.std.specs.Prelude.{◌≡◌, ℕ, ◌==◌, if◌then◌else◌, List, [], ◌∷◌, map, take, slice_get, Option, Some, None}
use Rattle.std.specs.Option.{option_and_then}
use Rattle.bosh_base.specs.declared.entry.Entry.{Entry}
use Rattle.bosh_entry.specs.Body.{entry_of, older_entry_of, spelling}
use Rattle.bosh_journal.specs.Director.{is_directors}
use Rattle.bosh_journal.specs.declared.format.Format.{Format}
use Rattle.bosh_journal.specs.declared.format.Format.TheVariants.{Older, Present}

-- an entry, where it is one of the director's
abbrev pub directors : Entry → Option Entry
directors entry = if is_directors entry then Some entry else None

-- the entry of the director that a body spells in a format
abbrev pub entry_in : Format → List ℕ → Option Entry
entry_in Older body = option_and_then directors (older_entry_of body)
entry_in Present body = option_and_then directors (entry_of body)

-- the format that a body begins with: 1 is the older one
abbrev pub format_with : List ℕ → Format
format_with [] = Present
format_with (first ∷ fields) = if first == 1 then Older else Present

-- the format of a list is that of its first body
abbrev pub format_of : List (List ℕ) → Format
format_of [] = Present
format_of (body ∷ bodies) = format_with body

-- the bodies spell these entries in a format, each its own, in their order
abbrev pub SpellIn : Format → List (List ℕ) → List Entry → Type 0
SpellIn format bodies entries = map (entry_in format) bodies ≡ map Some entries

-- The first body that spells none in a format stands at this place, counted from 0. Those before it spell entries.
pub record IsDamagedIn (format : Format) (bodies : List (List ℕ)) (place : ℕ) : Type 0 where
  pub before : List Entry
  pub spelled : SpellIn format (take place bodies) before
  pub body : List ℕ
  pub there : slice_get bodies place ≡ Some body
  pub none : entry_in format body ≡ None

-- the same in the format of the list
abbrev pub Spell : List (List ℕ) → List Entry → Type 0
Spell bodies entries = SpellIn (format_of bodies) bodies entries

abbrev pub IsDamagedAt : List (List ℕ) → ℕ → Type 0
IsDamagedAt bodies place = IsDamagedIn (format_of bodies) bodies place

-- what stands in the store once it was read: the entries of an older list are written in the present format
abbrev pub written_in : Format → List (List ℕ) → List Entry → List (List ℕ)
written_in Older bodies entries = map spelling entries
written_in Present bodies entries = bodies

abbrev pub written : List (List ℕ) → List Entry → List (List ℕ)
written bodies entries = written_in (format_of bodies) bodies entries
