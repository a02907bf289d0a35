-- Which tasks may tell a source.
use Rattle.std.specs.Prelude.{◌≡◌, ◌||◌, is_none, true}
use Rattle.bosh_base.specs.declared.entry.Entry.{Entry}
use Rattle.bosh_base.specs.declared.entry.Entry.TheVariants as entries
use Rattle.bosh_history.specs.Openings.{deploys}

-- no other task than a deploy tells a source; a deploy that is stored in the older format tells none
abbrev pub MayTellSource : Entry → Type 0
MayTellSource (entries.TaskOpen o) = (deploys o.kind || is_none o.source) ≡ true
MayTellSource entry = Unit {0}
