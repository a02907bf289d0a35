-- What each call on a site keeps: that all that has happened is permitted.
use Rattle.std.specs.Prelude.{ℕ, List, Option}
use Rattle.bosh_history.specs.Fit.{IsFit}
use Rattle.bosh_history.specs.Moments.{Opening}
use Rattle.bosh_ports.specs.declared.keeper.Keeper as keeper
use Rattle.bosh_world.specs.declared.site.Site.{Site}
use Rattle.laws_outside.specs.Shipped.{shipped}
use Rattle.laws_sites.specs.Good.{IsGood}

-- its history begins on a fit pair, all that has happened since is permitted, and what it holds is as that tells
abbrev pub GoesWell : {K L : Type 0} {k : keeper.Ghosts K} {l : keeper.Ghosts L} → (K → Option (List (List ℕ))) →
    (L → Option (List (List ℕ))) → Site K L k l → Type 0
GoesWell bodies cloud_bodies site = (o : Opening) × IsFit shipped o × IsGood shipped bodies cloud_bodies o site

abbrev pub Keeps : {K L : Type 0} {k : keeper.Ghosts K} {l : keeper.Ghosts L} → (K → Option (List (List ℕ))) →
    (L → Option (List (List ℕ))) → Site K L k l → Site K L k l → Type 0
Keeps bodies cloud_bodies was now = GoesWell bodies cloud_bodies was → GoesWell bodies cloud_bodies now
