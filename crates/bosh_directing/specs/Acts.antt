-- What a call adds to the history of a site.
use Rattle.bosh_ports.specs.declared.keeper.Keeper as keeper
use Rattle.bosh_transcript.specs.Past.{Past, Proceeds}
use Rattle.bosh_world.specs.Told.{story_of}
use Rattle.bosh_world.specs.declared.site.Site.{Site}

-- what has happened on a site, and what was told of it
abbrev pub past_of : {K L : Type 0} {k : keeper.Ghosts K} {l : keeper.Ghosts L} → Site K L k l → Past
past_of site = record { opening = site.opening; story = story_of site; moves = site.history.moves }

-- moves have come, and no reply
abbrev pub Acts : {K L : Type 0} {k : keeper.Ghosts K} {l : keeper.Ghosts L} → Site K L k l → Site K L k l → Type 0
Acts was now = Proceeds (past_of was) (past_of now)
