-- How many entries were noted since a site started.
use Rattle.std.specs.Prelude.{◌≡◌, ◌+◌, Bool, true, false, fold, length}
use Rattle.bosh_base.specs.declared.moves.Move.{Move}
use Rattle.bosh_base.specs.declared.moves.Move.TheVariants as moves
use Rattle.bosh_due.specs.Before.{noted_by}
use Rattle.bosh_ports.specs.declared.keeper.Keeper as keeper
use Rattle.bosh_world.specs.Told.{story_of}
use Rattle.bosh_world.specs.declared.site.Site.{Site}

-- as many as its history tells stand in its book behind those that were read
abbrev pub CountsNoted : {K L : Type 0} {k : keeper.Ghosts K} {l : keeper.Ghosts L} → Site K L k l → Type 0
CountsNoted site = fold noted_by 0 (story_of site) + site.book.read ≡ length site.book.journal.entries

-- it is no stop, behind which a director starts anew
abbrev pub goes_on : Move → Bool
goes_on (moves.Stop stop) = false
goes_on move = true
