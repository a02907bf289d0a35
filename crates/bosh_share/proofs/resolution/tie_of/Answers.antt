use Rattle.std.proofs.Common.{◌≡◌, ◌∙◌, Some, ap, sym, subst}
use Rattle.bosh_share.specs.Directory.{AreThose, candidates_at}
use Rattle.bosh_share.specs.Shared.{of_name}
use Rattle.bosh_share.proofs.SharedLemmas.{among-those}
use Rattle.bosh_share.proofs.resolution.tie_of.Goals as goal

pub returns-in-Some : goal.returns-in-Some
returns-in-Some c = λ known h.
    let dep = c.args.across.now.dep in
    let found : candidates_at c.args.directory.now dep ≡ Some c.in-Some.candidates.now =
    ap (candidates_at c.args.directory.now) (sym c.as_bytes.ensures.bytes) ∙ sym c.in-Some.ensures.value in
    among-those (of_name dep known) c.in-Some.candidates.now c.args.across.now c.tie_among.result (subst (AreThose (of_name dep known)) found (h dep)) c.tie_among.ensures
