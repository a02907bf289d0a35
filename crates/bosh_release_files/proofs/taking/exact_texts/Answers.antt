-- The text of one pattern more.
use Rattle.bosh_release_files.specs.Sources.{exact_text}
use Rattle.bosh_release_files.proofs.TakingLemmas.{texts_step}
use Rattle.bosh_release_files.proofs.taking.exact_texts.Goals as goal

pub loop-pattern-preserved : goal.loop-pattern-preserved
loop-pattern-preserved c =
    texts_step exact_text c.args.patterns.now c.loop-pattern.pattern-index c.pattern-item.result c.loop-pattern.texts
    c.add_text.new.texts _ c.loop-pattern-test.true c.pattern-item.is c.in_ok-add_text.ensures.added
    c.exact_text.ensures c.loop-pattern.invariant
