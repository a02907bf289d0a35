-- One file more.
use Rattle.std.proofs.Common.{◌∙◌, ap, sym, take}
use Rattle.bosh_release_files.specs.Files.{digest_after, digests_below}
use Rattle.bosh_release_files.specs.Sources.{with_file}
use Rattle.bosh_release_files.proofs.IndexLemmas.{digests_more}
use Rattle.bosh_release_files.proofs.sources.digests_below.Goals as goal

pub loop-file-preserved : goal.loop-file-preserved
loop-file-preserved c =
    let front = c.args.front.now in
    let i = c.loop-file.file-index in
    let file = c.file-item.result in
    c.in_ok-add_file.ensures.added
    ∙ ap (λ table. with_file table (digest_after front file)) c.loop-file.invariant
    ∙ ap (λ it. with_file (digests_below front (take i c.args.files.now)) (digest_after front it)) c.file-item.is
    ∙ sym (digests_more front c.args.files.now i file c.loop-file-test.true)
