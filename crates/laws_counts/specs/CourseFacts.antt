-- All facts at a place of a course: those at its moment, and those on what is kept of each clean task.
use Rattle.std.specs.Prelude.{ℕ, List, ◌++◌}
use Rattle.bosh_base.specs.Cloud.{numbers_to}
use Rattle.bosh_base.specs.declared.digest.Digest.{Digest}
use Rattle.bosh_base.specs.declared.key.KeyWork.{KeyWork}
use Rattle.laws_counts.specs.Counts.{clean_broken_at}
use Rattle.laws_counts.specs.Courses.{Course}
use Rattle.laws_facts.specs.Facts.{broken}
use Rattle.laws_facts.specs.Words.{broken_of}

-- the tags of the facts that do not hold
abbrev pub all_broken : (KeyWork → List Digest → Digest) → Course → List (List ℕ)
all_broken built c =
    broken c.moment ++ broken_of (clean_broken_at built c) (numbers_to c.moment.known.tasks)
