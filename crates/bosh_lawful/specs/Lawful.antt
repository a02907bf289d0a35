-- What each history of a director is like (this project's profile).
use Rattle.std.specs.Prelude.{List}
use Rattle.bosh_base.specs.declared.moves.Move.{Move}
use Rattle.bosh_lawful.specs.Clean.{AreCleanTasksBounded}
use Rattle.bosh_history.specs.Done.{AreDoneExactly}
use Rattle.bosh_history.specs.Links.{AreLinksKept}
use Rattle.bosh_history.specs.Moments.{Opening}
use Rattle.bosh_history.specs.Notes.{Outside}
use Rattle.bosh_history.specs.Permitted.{IsRun}
use Rattle.bosh_history.specs.Recovered.{IsRecovered}
use Rattle.bosh_history.specs.Safe.{IsSafe}
use Rattle.bosh_history.specs.Ties.{IsTied}

-- each move is permitted, nothing forbidden is done, what is recorded is what the cloud has, tasks that are done left
-- what they were to leave, links are kept, and clean deploys are bounded
pub record IsLawful (outside : Outside) (o : Opening) (moves : List Move) : Type 0 where
  pub permitted : IsRun outside o moves
  pub safe : IsSafe o moves
  pub recovered : IsRecovered o moves
  pub tied : IsTied o moves
  pub exact : AreDoneExactly o moves
  pub links : AreLinksKept o moves
  pub bounded : AreCleanTasksBounded o moves
