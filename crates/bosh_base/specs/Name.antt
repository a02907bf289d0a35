-- What a name is (this project's profile of the names of deployments, groups, jobs and the like).
use Rattle.std.specs.Prelude.{ℕ, Bool, false, ◌&&◌, ◌||◌, ◌==◌, nat_lt, List, [], ◌∷◌, length, IsTrue}
use Rattle.std.specs.List.{list_all}
use Rattle.std.specs.Char.{is_ascii_alphanumeric}

-- a letter, a digit, `_`, `-` or `.`
abbrev pub is_name_byte : ℕ → Bool
is_name_byte c = is_ascii_alphanumeric c || (c == 95 || (c == 45 || c == 46))

-- 1 to 64 such bytes, the first a letter or digit
abbrev pub is_name : List ℕ → Bool
is_name [] = false
is_name (c ∷ cs) = nat_lt (length cs) 64 && (is_ascii_alphanumeric c && list_all is_name_byte cs)

abbrev pub IsName : List ℕ → Type 0
IsName bytes = IsTrue (is_name bytes)
