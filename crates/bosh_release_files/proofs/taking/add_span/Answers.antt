use Rattle.std.proofs.Common.{◌∙◌, ap, max, rules, set, subst, sym}
use Rattle.bosh_release_files.specs.Sources.{AddsSpan}
use Rattle.bosh_release_files.proofs.TakingLemmas.{span_added}
use Rattle.bosh_release_files.proofs.taking.add_span.Goals as goal

pub returns-then-span-len : goal.returns-then-span-len
returns-then-span-len c =
    let span = c.args.span in
    let old = c.args.reach.now.items in
    subst (λ end. AddsSpan span old (set old span.start end))
    (sym (c.max.ensures ∙ ap (λ end. max end span.end) c.index.ensures))
    (span_added span old c.index.result.now (search rules))
