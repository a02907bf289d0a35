-- Paths before a front, and those that begin with it.
use Rattle.std.specs.Prelude.{ℕ, ◌||◌, Bool, List, is_some}
use Rattle.std.specs.Cmp.Lexicographic.{slice_cmp}
use Rattle.std.specs.Ordering.{is_lt, nat_cmp}
use Rattle.bosh_release_files.specs.Files.{after}

abbrev pub comes_before : List ℕ → List ℕ → Bool
comes_before front path = is_lt (slice_cmp nat_cmp path front)

-- before the front, or beginning with it
abbrev pub comes_up_to : List ℕ → List ℕ → Bool
comes_up_to front path = comes_before front path || is_some (after front path)
