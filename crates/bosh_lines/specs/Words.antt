-- Words that stand for one of two things, or for themselves (this project's profile).
use Rattle.std.specs.Prelude.{ℕ, Bool, List, codes, Option, Some, None, if◌then◌else◌}
use Rattle.std.specs.Str.{bytes_eq}
use Rattle.bosh_fates.specs.declared.fate.Fate.{Fate}
use Rattle.bosh_fates.specs.declared.fate.Fate.TheVariants.{Lose, Late}
use Rattle.bosh_lines.specs.declared.word.Lost.{Lost}
use Rattle.bosh_lines.specs.declared.word.Lost.TheVariants.{Vm, Agent}
use Rattle.bosh_lines.specs.declared.word.Others.{Others}
use Rattle.bosh_lines.specs.declared.word.Others.TheVariants.{Undone, Done}
use Rattle.bosh_lines.specs.declared.word.When.{When}
use Rattle.bosh_lines.specs.declared.word.When.TheVariants.{Before, After}

-- one of two words, and what each stands for
abbrev pub either : {V : Type 0} → List ℕ → V → List ℕ → V → List ℕ → Option V
either one a two b text = if bytes_eq text one then Some a else (if bytes_eq text two then Some b else None)

abbrev pub fate_of : List ℕ → Option Fate
fate_of text = either (codes "lose") Lose (codes "late") Late text

abbrev pub when_of : List ℕ → Option When
when_of text = either (codes "before") Before (codes "after") After text

abbrev pub others_of : List ℕ → Option Others
others_of text = either (codes "none") Undone (codes "all") Done text

abbrev pub lost_of : List ℕ → Option Lost
lost_of text = either (codes "vm") Vm (codes "agent") Agent text

abbrev pub is_store : List ℕ → Bool
is_store text = bytes_eq text (codes "store")

abbrev pub is_orphaned : List ℕ → Bool
is_orphaned text = bytes_eq text (codes "--orphaned")

abbrev pub is_all : List ℕ → Bool
is_all text = bytes_eq text (codes "--all")
