use Rattle.std.proofs.Common.{◌∙◌, ap, ◌++◌, ℕ, List, [], codes, map}
use Rattle.sha2.specs.Sha256.{sha256}
use Rattle.bosh_base.specs.declared.digest.Digest.{Digest}
use Rattle.bosh_release_listing.specs.Listing.{dep_line, digest_line, file_line, name_line}
use Rattle.bosh_release_listing.specs.Parts.{stamp_view}
use Rattle.bosh_release_listing.proofs.ListLemmas.{text_three}
use Rattle.bosh_release_listing.proofs.listing.package_fingerprint.Goals as goal

abbrev digest_with : List ℕ → Digest
digest_with bytes = record { 0 = bytes }

-- the lines are fed one after another
pub returns : goal.returns
returns c =
    let first = c.add_line.ensures [] c.new-hasher.ensures in
    let second = c.add_name.ensures _ first in
    let third = c.add_digest.ensures _ second in
    let all = c.add_files_and_deps.ensures _ third in
    let lines =
    text_three (codes "bosh-package 1") (name_line c.args.name.now)
    (digest_line (codes "script ") c.args.script.now)
    (map (file_line (codes "file ")) (map stamp_view c.args.files.now)
    ++ map dep_line (map stamp_view c.args.deps.now)) in
    ap digest_with (c.finalize.ensures _ all ∙ ap sha256 lines)
