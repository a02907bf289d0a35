-- The name of one file more.
use Rattle.std.proofs.Common.{◌∙◌, ap, sym, take}
use Rattle.std.specs.Option.{option_map}
use Rattle.bosh_release_files.specs.Files.{folder_after, folders_below}
use Rattle.bosh_release_files.specs.Sources.{with_name}
use Rattle.bosh_release_files.proofs.FolderLemmas.{folders_more}
use Rattle.bosh_release_files.proofs.folder.names_below.Goals as goal

pub loop-file-preserved : goal.loop-file-preserved
loop-file-preserved c =
    let front = c.args.front.now in
    let i = c.loop-file.file-index in
    let file = c.file-item.result in
    let before = folders_below front (take i c.args.files.now) in
    c.in_ok-add_name.ensures.added
    ∙ ap (λ names. with_name names (option_map (λ name. name.now) c.folder_after.result)) c.loop-file.invariant
    ∙ ap (with_name before) (c.folder_after.ensures ∙ ap (folder_after front) c.file-item.is)
    ∙ sym (folders_more front c.args.files.now i file c.loop-file-test.true)
