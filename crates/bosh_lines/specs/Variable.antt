-- The variables of a deploy, as `-v NAME=VALUE` (this project's profile).
use Rattle.std.specs.Prelude.{ℕ, ◌+◌, ◌==◌, ◌&&◌, List, [], ◌∷◌, ◌++◌, Option, Some, None, drop, option_and_then, position, take, if◌then◌else◌}
use Rattle.std.specs.Option.{option_to_list}
use Rattle.std.specs.Str.{is_utf8}
use Rattle.bosh_vars.specs.Spelling.{is_name}
use Rattle.bosh_line_words.specs.Words.{Word}
use Rattle.bosh_lines.specs.declared.variable.Variable.{Variable}

-- the variable of this name and this value
abbrev pub variable : List ℕ → List ℕ → Variable
variable name value = record { name = name; value = value }

-- the variable, where the name is that of a placeholder and the value is UTF-8
abbrev pub variable_if : List ℕ → List ℕ → Option Variable
variable_if name value = if is_name name && is_utf8 value then Some (variable name value) else None

-- the variable that a word `NAME=VALUE` is; the name ends before the first `=`
abbrev pub variable_of : List ℕ → Option Variable
variable_of word =
    option_and_then (λ end. variable_if (take end word) (drop (end + 1) word)) (position (λ byte. byte == 61) word)

-- the variables among words, in order
abbrev pub variables_in : List Word → List Variable
variables_in [] = []
variables_in (word ∷ words) = option_to_list (variable_of word.text) ++ variables_in words
