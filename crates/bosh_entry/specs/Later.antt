-- What the older format has not: fields at the end of a struct, which have one value there, and variants at the end of an enum.
use Rattle.std.specs.Prelude.{ℕ, Bool, true, false, List, [], ◌∷◌, Some, None}
use Rattle.bosh_entry.specs.declared.format.Format.{Format}
use Rattle.bosh_entry.specs.declared.format.Format.TheVariants.{Older, Present}
use Rattle.bosh_entry.specs.Reading.{Reader}

-- whether it is the present format
abbrev pub is_present : Format → Bool
is_present Older = false
is_present Present = true

-- a later field
abbrev pub later : {A : Type 0} → (A → List ℕ) → Format → A → List ℕ
later spelling Older a = []
later spelling Present a = spelling a

-- in the older format, that it is the absent value
abbrev pub is_later : {A : Type 0} → (A → Bool) → (A → Bool) → Format → A → Bool
is_later is_absent test Older a = is_absent a
is_later is_absent test Present a = test a

-- the absent value, and no byte of it, or what is read
unfoldable pub later_at : {A : Type 0} → A → Reader A → Format → Reader A
later_at absent reader Older bytes = Some (absent, bytes)
later_at absent reader Present bytes = reader bytes

-- a later variant
unfoldable pub present_at : {A : Type 0} → Format → Reader A → Reader A
present_at Older reader bytes = None
present_at Present reader bytes = reader bytes

-- whether a list is empty
abbrev pub is_nil : {A : Type 0} → List A → Bool
is_nil [] = true
is_nil (a ∷ others) = false
