-- That no command is answered in a call of a site.
use Rattle.std.specs.Prelude.{◌≡◌, List}
use Rattle.bosh_base.specs.declared.moves.Move.{Move}
use Rattle.bosh_moves.specs.Replies.{replies_in}
use Rattle.bosh_ports.specs.declared.keeper.Keeper as keeper
use Rattle.bosh_world.specs.declared.site.Site.{Site}

-- the moves that were told
abbrev pub moves_of : {K L : Type 0} {k : keeper.Ghosts K} {l : keeper.Ghosts L} → Site K L k l → List Move
moves_of site = site.history.moves

-- no reply has come
abbrev pub IsSilent : {K L : Type 0} {k : keeper.Ghosts K} {l : keeper.Ghosts L} → Site K L k l → Site K L k l → Type 0
IsSilent was now = replies_in (moves_of now) ≡ replies_in (moves_of was)
