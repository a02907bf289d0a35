-- What has happened on a site, and which calls can be performed.
use Rattle.std.specs.Prelude.{◌≡◌, true, List}
use Rattle.bosh_base.specs.declared.moves.Move.{Move}
use Rattle.bosh_book.specs.Current.{IsCurrent}
use Rattle.bosh_book.specs.declared.book.Book.{Book}
use Rattle.bosh_book.specs.declared.claim.Claim.{Claim}
use Rattle.bosh_book.specs.declared.claim.Claim.TheVariants.{Work}
use Rattle.bosh_book.specs.declared.granted.Granted.{Granted}
use Rattle.bosh_moves.specs.Story.{story}
use Rattle.bosh_calls.specs.Calls.{is_performable}
use Rattle.bosh_calls.specs.declared.calls.OpenCall.{OpenCall}
use Rattle.bosh_ports.specs.declared.keeper.Keeper as keeper
use Rattle.bosh_world.specs.declared.site.Site.{Site}

-- all that has happened
abbrev pub story_of : {K L : Type 0} {k : keeper.Ghosts K} {l : keeper.Ghosts L} → Site K L k l → List Move
story_of site = story site.history site.book.journal.entries site.cloud.effects

-- a permit whose call can be performed: it is open, and was not performed yet
abbrev pub IsPerformable : {K L : Type 0} {k : keeper.Ghosts K} {l : keeper.Ghosts L} → Site K L k l → Granted → Type 0
IsPerformable site permit = IsCurrent site.book permit × (is_performable site.calls.unsettled permit.n ≡ true)

-- the call that a claim gave can be performed: it is open by the book, and not performed
abbrev pub IsGivenBy : {K : Type 0} → Book K → List OpenCall → Claim → Type 0
IsGivenBy book unsettled (Work permit) = IsCurrent book permit × (is_performable unsettled permit.n ≡ true)
IsGivenBy book unsettled claim = Unit {0}

abbrev pub IsGiven : {K L : Type 0} {k : keeper.Ghosts K} {l : keeper.Ghosts L} → Site K L k l → Claim → Type 0
IsGiven site = IsGivenBy site.book site.calls.unsettled
