use Rattle.std.proofs.Common.{ℕ, List, ◌++◌, map, take}
use Rattle.sha2.specs.Hashers.{Holds256}
use Rattle.bosh_release_listing.specs.Lines.{text_of}
use Rattle.bosh_release_listing.specs.Listing.{file_line}
use Rattle.bosh_release_listing.specs.Parts.{stamp_view}
use Rattle.bosh_release_listing.proofs.listing.add_files.Given as goal

-- the lines so far are fed
abbrev pub invariant-loop-file : goal.invariant-loop-file
invariant-loop-file l =
    (fed : List ℕ) → Holds256 l.initial.hasher fed
    → Holds256 l.hasher (fed ++ text_of (map (file_line l.word) (map stamp_view (take l.file-index l.files))))
