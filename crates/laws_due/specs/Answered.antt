-- What a call on a site came to: the moves that it added, by one of the outcomes that may come of it, and what it leaves
-- under way.
use Rattle.std.specs.Prelude.{◌≡◌, ◌++◌, List, Option, Some, None}
use Rattle.bosh_base.specs.declared.moves.Move.{Move}
use Rattle.bosh_base.specs.declared.reply.Reply.{Reply}
use Rattle.bosh_due.specs.Before.{Before, before_of}
use Rattle.bosh_due.specs.Ends.{Makes, Meets}
use Rattle.bosh_due.specs.Outcomes.{Outcome}
use Rattle.bosh_due.specs.UnderWay.{UnderWay}
use Rattle.bosh_history.specs.Moments.{Opening}
use Rattle.bosh_ports.specs.declared.keeper.Keeper as keeper
use Rattle.bosh_world.specs.Told.{story_of}
use Rattle.bosh_world.specs.declared.site.Site.{Site}

-- with a reply it ends as an outcome is to that may come; for want of memory there is none, and it made what it may
abbrev pub ComesTo : (Outcome → Type 0) → Before → Option Reply → List Move → UnderWay → Type 0
ComesTo Comes b (Some reply) more left = Meets Comes b more reply left
ComesTo Comes b None more left = Makes Comes b more left

-- a site between two commands, whose history goes on from an opening pair
abbrev pub before_on : {K L : Type 0} {k : keeper.Ghosts K} {l : keeper.Ghosts L} → Opening → UnderWay → Site K L k l → Before
before_on o under site = before_of o (story_of site) under

-- The call added moves, and that is told as is due. `under` is what was under way before it.
pub record IsAnswered {K L : Type 0} {k : keeper.Ghosts K} {l : keeper.Ghosts L} (Comes : Before → Outcome → Type 0)
    (o : Opening) (under : UnderWay) (was : Site K L k l) (told : Option Reply) (now : Site K L k l) : Type 0 where
  pub more : List Move
  pub left : UnderWay
  pub comes : story_of now ≡ story_of was ++ more
  pub due : ComesTo (Comes (before_on o under was)) (before_on o under was) told more left
