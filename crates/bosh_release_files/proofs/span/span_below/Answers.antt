use Rattle.bosh_release_files.proofs.SpanLemmas.{spanned}
use Rattle.bosh_release_files.proofs.span.span_below.Goals as goal

pub returns : goal.returns
returns c = spanned c.args.files.now c.args.front.now _ c.first_behind-end.ensures.within c.first_not_before-start.ensures.point c.first_behind-end.ensures.point
