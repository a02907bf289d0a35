use Rattle.std.proofs.Common.{subst, sym}
use Rattle.bosh_alike.specs.Alike.{AreAlike}
use Rattle.cases_views.proofs.uploads.Uploads.as_slice.Goals as goal

pub returns-clause-alike : goal.returns-clause-alike
returns-clause-alike c = subst AreAlike (sym c.as_slice.ensures.value) c.self.invariant.alike
