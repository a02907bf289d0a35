-- The folder of one file more.
use Rattle.bosh_release_files.proofs.IndexLemmas.{folders_step}
use Rattle.bosh_release_files.proofs.sources.folders_of.Goals as goal

pub loop-file-preserved : goal.loop-file-preserved
loop-file-preserved c =
    folders_step c.args.files.now c.loop-file.file-index _ c.loop-file.folders c.add_text.new.texts _
    c.loop-file-test.true c.in_ok-add_text.ensures.added c.folder_of.ensures c.loop-file.invariant
