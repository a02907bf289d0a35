-- What a plain scalar stands for (this project's profile of the YAML 1.2 core schema): null where it is empty, `~` or `null`; a truth value where it is `true` or `false`; an integer where it is `0`, or an optional `-` and digits that begin with 1 to 9, within 64 bits; else text.
use Rattle.std.specs.Prelude.{ℕ, ◌+◌, ◌^◌, ℤ, pos, neg_ℤ, Bool as Truth, true, false, ◌&&◌, ◌||◌, List, [], ◌∷◌, Option, Some, None, codes, drop, nat_lt, nat_le, if◌then◌else◌}
use Rattle.std.specs.Str.{bytes_eq, all_ascii_digits}
use Rattle.std.specs.Str.Parse.{digits_value, starts_with_minus}
use Rattle.bosh_yaml.specs.declared.plain.Leaf.{Leaf}
use Rattle.bosh_yaml.specs.declared.plain.Leaf.TheVariants.{Null, Bool, Int, Text}
use Rattle.bosh_yaml.specs.Tree.{Tree, null, boolean, integer, text}

-- digits that begin with 1 to 9
abbrev pub is_counting : List ℕ → Truth
is_counting [] = false
is_counting (b ∷ bs) = (nat_le 49 b && nat_le b 57) && all_ascii_digits bs

-- the number that digits write, where it is below a bound
abbrev pub number_below : ℕ → List ℕ → Option ℕ
number_below bound digits = if is_counting digits && nat_lt (digits_value 10 digits) bound then Some (digits_value 10 digits) else None

abbrev pub negated : Option ℕ → Option ℤ
negated None = None
negated (Some n) = Some (neg_ℤ (pos n))

abbrev pub unsigned : Option ℕ → Option ℤ
unsigned None = None
unsigned (Some n) = Some (pos n)

-- a text without its minus sign
abbrev pub digits_of : List ℕ → List ℕ
digits_of s = if starts_with_minus s then drop 1 s else s

-- the integer that a plain scalar writes, within -2^63 and 2^63 - 1
abbrev pub integer_of : List ℕ → Option ℤ
integer_of s =
    if bytes_eq s (codes "0") then Some (pos 0)
    else if starts_with_minus s then negated (number_below (2 ^ 63 + 1) (drop 1 s))
    else unsigned (number_below (2 ^ 63) s)

abbrev pub integer_or_text : Option ℤ → List ℕ → Leaf
integer_or_text None s = Text s
integer_or_text (Some n) s = Int n

-- what a plain scalar is
abbrev pub scalar_of : List ℕ → Leaf
scalar_of s =
    if bytes_eq s [] || (bytes_eq s (codes "~") || bytes_eq s (codes "null")) then Null
    else if bytes_eq s (codes "true") then Bool true
    else if bytes_eq s (codes "false") then Bool false
    else integer_or_text (integer_of s) s

-- a scalar as a tree
abbrev pub leaf_tree : Leaf → Tree
leaf_tree Null = null
leaf_tree (Bool b) = boolean b
leaf_tree (Int n) = integer n
leaf_tree (Text s) = text s
