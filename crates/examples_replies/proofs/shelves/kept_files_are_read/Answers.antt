use Rattle.std.proofs.Common.{◌∷◌, [], arith, refl}
use Rattle.std.specs.Prelude.{codes}
use Rattle.examples_replies.proofs.Behind.{ends_with, none_ordered, not_twice, one_ordered}
use Rattle.examples_replies.specs.Shelves.{folder_file}
use Rattle.examples_replies.proofs.shelves.kept_files_are_read.Goals as goal

pub returns-clause-alone : goal.returns-clause-alone
returns-clause-alone c = record { shelved = []; is = refl; unkept = refl; one_line = refl; ordered = none_ordered; sizes = refl; few = refl }

pub returns-clause-behind : goal.returns-clause-behind
returns-clause-behind c = record {
  shelved = folder_file (codes "b") (codes "2") ∷ [];
  is = refl;
  unkept = refl;
  one_line = refl;
  ordered = one_ordered _;
  sizes = refl;
  few = refl;
}

pub returns-clause-left_out : goal.returns-clause-left_out
returns-clause-left_out c found =
    ends_with (folder_file (codes "b") (codes "2")) (folder_file (codes "a") (codes "1")) (λ same. grind (arith, same))
    found.shelved found.is

pub returns-clause-from_the_shelf : goal.returns-clause-from_the_shelf
returns-clause-from_the_shelf c found =
    ends_with (folder_file (codes "a") (codes "2")) (folder_file (codes "a") (codes "1")) (λ same. grind (arith, same))
    found.shelved found.is

pub returns-clause-twice : goal.returns-clause-twice
returns-clause-twice c found = not_twice _ found.shelved found.is found.ordered
