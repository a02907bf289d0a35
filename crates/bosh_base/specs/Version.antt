-- Versions of releases and stemcells, and their order (this project's profile).
use Rattle.std.specs.Prelude.{ℕ, Bool, true, ◌&&◌, ◌==◌, ◌+◌, ◌-◌, nat_le, nat_eq, cond, List, ◌++◌, map, length, take, drop, replicate, codes, position, Option, Some, None, option_map, IsTrue}
use Rattle.std.specs.declared.cmp.Ordering.{Ordering}
use Rattle.std.specs.Ordering.{nat_cmp, on, then_cmp}
use Rattle.std.specs.Char.{is_ascii_digit}
use Rattle.std.specs.List.{list_all, slice_split, before_first}
use Rattle.std.specs.Cmp.Lexicographic.{slice_cmp, pointwise}
use Rattle.std.specs.Str.Parse.{digits_value}

-- 1 to 18 decimal digits; zeros may lead
abbrev pub is_number : List ℕ → Bool
is_number text = nat_le 1 (length text) && (nat_le (length text) 18 && list_all is_ascii_digit text)

-- the parts between the dots
abbrev pub parts : List ℕ → List (List ℕ)
parts text = slice_split (λ byte. byte == 46) text

-- 1 to 8 numbers joined by dots (a text has one part at least)
abbrev pub is_dotted : List ℕ → Bool
is_dotted text = nat_le (length (parts text)) 8 && list_all is_number (parts text)

-- what stands before the first plus, or the whole text
abbrev pub front_of : List ℕ → List ℕ
front_of text = before_first (λ byte. byte == 43) text

-- what stands after the first such byte, where there is one
abbrev pub after : ℕ → List ℕ → Option (List ℕ)
after byte text = option_map (λ place. drop (place + 1) text) (position (λ b. b == byte) text)

-- what may stand after the plus: nothing, or `dev.N`
abbrev pub is_suffix : Option (List ℕ) → Bool
is_suffix None = true
is_suffix (Some text) = pointwise nat_eq (take 4 text) (codes "dev.") && is_number (drop 4 text)

-- numbers joined by dots, with an optional `+dev.N`
abbrev pub is_version : List ℕ → Bool
is_version text = is_dotted (front_of text) && is_suffix (after 43 text)

abbrev pub IsVersion : List ℕ → Type 0
IsVersion text = IsTrue (is_version text)

-- a missing number counts as 0
abbrev pub padded : List ℕ → List ℕ
padded numbers = numbers ++ replicate (8 - length numbers) 0

-- the eight numbers of a version
abbrev pub numbers_of : List ℕ → List ℕ
numbers_of text = padded (map (digits_value 10) (parts (front_of text)))

abbrev pub suffix_number : Option (List ℕ) → ℕ
suffix_number None = 0
suffix_number (Some text) = digits_value 10 (drop 4 text)

-- the N of its `+dev.N`; a missing one counts as 0
abbrev pub dev_of : List ℕ → ℕ
dev_of text = suffix_number (after 43 text)

-- by the numbers, the first that differ, and then by N
abbrev pub version_cmp : List ℕ → List ℕ → Ordering
version_cmp = then_cmp (on numbers_of (slice_cmp nat_cmp)) (on dev_of nat_cmp)

-- the order of two versions, and none where one of the texts is no version
abbrev pub version_order : List ℕ → List ℕ → Option Ordering
version_order a b = cond (is_version a && is_version b) (Some (version_cmp a b)) None
