-- The file is put among the others.
use Rattle.std.proofs.Common.{◌≡◌, ◌∙◌, ap, sym, List, ℕ, map, Some}
use Rattle.std.specs.BTreeMap.{insert_entry}
use Rattle.std.specs.Cmp.Lexicographic.{slice_cmp}
use Rattle.std.specs.Option.{option_map}
use Rattle.std.specs.Ordering.{nat_cmp}
use Rattle.bosh_base.specs.declared.digest.Digest.{Digest}
use Rattle.bosh_release_listing.specs.Listing.{digest_of}
use Rattle.bosh_release_files.specs.Files.{after}
use Rattle.bosh_release_files.specs.Sources.{digest_seen, with_file}
use Rattle.bosh_release_files.proofs.FolderLemmas.{seen-insert}
use Rattle.bosh_release_files.proofs.sources.add_file.Goals as goal

pub returns-in_ok-insert-in-Some-clause-added : goal.returns-in_ok-insert-in-Some-clause-added
returns-in_ok-insert-in-Some-clause-added c =
    let front = c.args.front.now in
    let file = c.args.file.now in
    let before : List (List ℕ × Digest) = map digest_seen c.args.table.now.entries in
    let path = c.in-Some.path in
    let lies : Some path.now ≡ after front file.path =
    ap (option_map (λ rest. rest.now)) (sym c.in-Some.is) ∙ c.after.ensures ∙ ap (after front) c.as_slice.ensures in
    let digest : c.fingerprint.result ≡ digest_of file.bytes =
    c.fingerprint.ensures ∙ ap digest_of c.as_slice-in-Some.ensures in
    ap (map digest_seen) c.in_ok-insert-in-Some.ensures.entries
    ∙ seen-insert (λ it. it) c.args.table.now.entries path c.fingerprint.result
    ∙ ap (λ it. insert_entry (slice_cmp nat_cmp) before path.now it) digest
    ∙ ap (λ o. with_file before (option_map (λ rest. (rest, digest_of file.bytes)) o)) lies
