-- The words of the command line (this project's profile; the rules are those of `clap` for a simple command).
use Rattle.std.specs.Prelude.{◌≡◌, ◌⊎◌, ◌<◌, ◌^◌, ℕ, true, List, [], ◌∷◌, map, codes, pos, Option, None, Some, Vec}
use Rattle.std.specs.List.{All}
use Rattle.std.specs.Str.{IsUtf8}
use Rattle.std.specs.Str.Parse.{IsNumeral, digits_value, without_leading_plus}
use Rattle.std.specs.declared.alloc.Global.{Global}
use denote.Ref.{Bor}
use Rattle.clap.specs.Words.{App, Rule, fault_of, matches_of, new_app, new_rule, one_of, with_rule}
use Rattle.clap.specs.Simple.{on_top}
use Rattle.clap.specs.declared.builder.action.ArgAction.TheVariants.{Set}
use Rattle.clap.specs.declared.builder.value_parser.ValueParser.TheVariants as parsers

-- the option `--threads`, a number from 1 to 8
abbrev pub option : Rule
option = record (new_rule (codes "threads")) {
  long = Some (codes "threads");
  action = Some Set;
  parser = Some (parsers.Signed (pos 1) (pos 8));
}

-- a command with this one option, and no help flag
unfoldable pub program : App
program = with_rule (on_top (λ shape. record shape { disable_help_flag = true }) (new_app (codes "boshd"))) option

-- a text spells a number below 256
abbrev pub SpellsByte : List ℕ → Type 0
SpellsByte text = IsNumeral 10 (without_leading_plus text) × (digits_value 10 (without_leading_plus text) < 2 ^ 8)

-- the number of threads that a value says, and 1 where none is given
abbrev pub IsCount : Option (List ℕ) → ℕ → Type 0
IsCount None count = count ≡ 1
IsCount (Some text) count =
    (SpellsByte text × (count ≡ digits_value 10 (without_leading_plus text))) ⊎ ((SpellsByte text → ⊥) × (count ≡ 1))

-- texts, of which the first is the program's name, are words of the command: they ask for so many threads
abbrev pub TellsOf : List (List ℕ) → Option ℕ → Type 0
TellsOf words None = fault_of program words ≡ [] → ⊥
TellsOf words (Some count) = (fault_of program words ≡ []) × IsCount (one_of (codes "threads") (matches_of program words)) count

-- words that are read as texts stand after the program's name
abbrev pub Reads : List (List ℕ) → Option (Vec (Bor (List ℕ)) Global) → Type 0
Reads words None = All IsUtf8 words → ⊥
Reads words (Some texts) = All IsUtf8 words × (map (λ text. text.now) texts.items ≡ codes "boshd" ∷ words)

-- the words after the program's name ask for so many threads, or are none of the command
abbrev pub Tells : List (List ℕ) → Option ℕ → Type 0
Tells words None = All IsUtf8 words → fault_of program (codes "boshd" ∷ words) ≡ [] → ⊥
Tells words (Some count) = All IsUtf8 words × TellsOf (codes "boshd" ∷ words) (Some count)
