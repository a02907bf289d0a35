use Rattle.std.proofs.Common.{refl, subst}
use Rattle.bosh_base.specs.Version.{IsVersion}
use Rattle.bosh_book.proofs.uploads.new_or_differs.Goals as goal

pub returns-clause-told : goal.returns-clause-told
returns-clause-told c = (
  refl,
  subst IsVersion c.as_slice.ensures (c.is_version.ensures.0 c.if-not-is_version.false),
  c.in_ok-goes_with.ensures.yes c.if-not-branch.false,
)
