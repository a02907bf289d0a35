-- What is promised of a session: its history is lawful, and what it leaves is such a pair of stores as it may be loaded on again.
use Rattle.std.specs.Prelude.{◌≡◌, ℕ, true, is_some, length, List, Option, Some}
use Rattle.bosh_base.specs.declared.entry.Entry.{Entry}
use Rattle.bosh_history.specs.Fit.{IsFit}
use Rattle.bosh_history.specs.Moments.{Opening}
use Rattle.bosh_journal.specs.Spelled.{Spell}
use Rattle.bosh_lawful.specs.Lawful.{IsLawful}
use Rattle.bosh_ports.specs.declared.keeper.Keeper as keeper
use Rattle.bosh_world.specs.Told.{story_of}
use Rattle.bosh_world.specs.declared.site.Site.{Site}
use Rattle.laws_outside.specs.Shipped.{shipped}
use Rattle.laws_sites.specs.Good.{SayDone}

-- the entries that the bodies of the director's store spell, and the effects that those of the cloud's store say were done,
-- are a fit pair, as two empty stores are
abbrev pub HoldFitPair : {K L : Type 0} → (K → Option (List (List ℕ))) → (L → Option (List (List ℕ))) → K → L → Type 0
HoldFitPair bodies cloud_bodies store cloud =
    (list cloud_list : List (List ℕ)) (entries effects : List Entry) → bodies store ≡ Some list →
    cloud_bodies cloud ≡ Some cloud_list → Spell list entries → SayDone cloud_list effects →
    IsFit shipped (record { entries = entries; effects = effects })

-- The history of the site began on a fit pair and is lawful: each move is permitted, through every fault, stop and restart, so
-- that it is safe, tied, exact at each task that is reported done, keeps its links, is recovered, and its clean tasks keep
-- within their budgets. What its two stores hold is a fit pair again.
pub record IsHeadline {K L : Type 0} {k : keeper.Ghosts K} {l : keeper.Ghosts L} (bodies : K → Option (List (List ℕ)))
    (cloud_bodies : L → Option (List (List ℕ))) (site : Site K L k l) : Type 0 where
  pub opening : Opening
  pub fit : IsFit shipped opening
  pub counted : site.opening ≡ (length opening.entries, length opening.effects)
  pub lawful : IsLawful shipped opening (story_of site)
  pub leaves : HoldFitPair bodies cloud_bodies site.book.journal.store.inner site.cloud.store

-- .. wherever the keepers tell their bodies, and what these hold is a fit pair
abbrev pub Promises : {K L : Type 0} {k : keeper.Ghosts K} {l : keeper.Ghosts L} → (K → Option (List (List ℕ))) →
    (L → Option (List (List ℕ))) → K → L → Site K L k l → Type 0
Promises bodies cloud_bodies store cloud site =
    is_some (bodies store) ≡ true → is_some (cloud_bodies cloud) ≡ true → HoldFitPair bodies cloud_bodies store cloud →
    IsHeadline bodies cloud_bodies site
