-- Calls of a row, one after another.
use Rattle.std.specs.Prelude.{List, [], ◌∷◌}
use Rattle.bosh_base.specs.declared.row.Row.{Row}
use Rattle.laws_rows.specs.Answered.{Answered, row_after}

-- the row, once all calls began and were answered
abbrev pub row_after_all : List Answered → Row → Row
row_after_all [] row = row
row_after_all (it ∷ others) row = row_after_all others (row_after it row)
