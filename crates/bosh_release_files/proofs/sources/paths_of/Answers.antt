-- One path more.
use Rattle.bosh_release_files.proofs.IndexLemmas.{paths_step}
use Rattle.bosh_release_files.proofs.sources.paths_of.Goals as goal

pub loop-file-preserved : goal.loop-file-preserved
loop-file-preserved c =
    paths_step c.args.files.now c.loop-file.file-index _ c.loop-file.paths c.insert.new.self c.loop-file-test.true
    c.in_ok-insert.ensures.updates c.loop-file.invariant
