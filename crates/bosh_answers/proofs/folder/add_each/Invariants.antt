use Rattle.std.proofs.Common.{◌≡◌, ℕ, List, ◌++◌, Some, Ok}
use Rattle.std.specs.Slice.Iter.{iter_rest}
use Rattle.bosh_answers.specs.Folder.{shelved_among}
use Rattle.bosh_answers.specs.Shelved.{KeepsShelf}
use Rattle.bosh_answers.specs.Step.{◌>>=◌}
use Rattle.bosh_ports.specs.Contents.{contents}
use Rattle.bosh_answers.proofs.folder.add_each.Given as goal

-- the shelf is as it was, and the paths that are left give what all gave
abbrev pub invariant-loop-path : goal.invariant-loop-path
invariant-loop-path g l = record {
  shelf : KeepsShelf g.F.Shelf.files g.F.Shelf.faults l.fn.shelf l.shelf;
  rest : (there : List (List ℕ × List ℕ)) → g.F.Shelf.files l.fn.shelf ≡ Some there
      → (shelved_among l.folder l.files there (contents (iter_rest l.path-iterator)) >>= λ more. Ok (l.found.items ++ more))
      ≡ (shelved_among l.folder l.files there l.paths >>= λ more. Ok (l.fn.found.items ++ more));
}
