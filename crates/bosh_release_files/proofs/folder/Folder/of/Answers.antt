-- One file more is put into the map.
use Rattle.std.proofs.Common.{◌≡◌, ◌∙◌, ap, sym, List, ℕ, get_or, map}
use Rattle.std.specs.BTreeMap.{insert_entry}
use Rattle.std.specs.Cmp.Lexicographic.{slice_cmp}
use Rattle.std.specs.Ordering.{nat_cmp}
use Rattle.bosh_release_files.specs.Files.{Entry}
use Rattle.bosh_release_files.specs.Sources.{entry_seen}
use Rattle.bosh_release_files.proofs.FolderLemmas.{folder_more, seen-insert}
use Rattle.bosh_release_files.proofs.folder.Folder.of.Goals as goal

pub loop-file-preserved : goal.loop-file-preserved
loop-file-preserved c =
    let files = c.args.files.now in
    let i = c.loop-file.file-index in
    let file = c.file-item.result in
    let path = c.as_slice.result in
    let bytes = c.as_slice-in-loop-file.result in
    let table = c.loop-file.table.entries in
    let put : List Entry → List ℕ → List ℕ → List Entry = insert_entry (slice_cmp nat_cmp) in
    let path_is : path.now ≡ (get_or files i file).path = c.as_slice.ensures ∙ ap (λ f. f.path) c.file-item.is in
    let bytes_are : bytes.now ≡ (get_or files i file).bytes = c.as_slice-in-loop-file.ensures ∙ ap (λ f. f.bytes) c.file-item.is in
    ap (map entry_seen) c.in_ok-insert.ensures.entries
    ∙ seen-insert (λ it. it.now) table path bytes
    ∙ ap (λ es. put es path.now bytes.now) c.loop-file.invariant
    ∙ ap (λ p. put (Rattle.bosh_release_files.specs.Files.folder_of_files (Rattle.std.proofs.Common.take i files)) p bytes.now) path_is
    ∙ ap (λ b. put (Rattle.bosh_release_files.specs.Files.folder_of_files (Rattle.std.proofs.Common.take i files)) (get_or files i file).path b) bytes_are
    ∙ sym (folder_more files i file c.loop-file-test.true)
