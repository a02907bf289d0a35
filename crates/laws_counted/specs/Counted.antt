-- What holds of the calls of each clean task that works, by what is kept of it since it opened.
use Rattle.std.specs.Prelude.{◌≡◌, ℕ, true, List}
use Rattle.bosh_base.specs.declared.digest.Digest.{Digest}
use Rattle.bosh_base.specs.declared.key.KeyWork.{KeyWork}
use Rattle.laws_counts.specs.Counts.{CleanFacts}
use Rattle.laws_counts.specs.Courses.{Course}
use Rattle.laws_facts.specs.Owners.{works}

-- the facts by which its calls are counted hold of each clean task that works
abbrev pub AreCounted : (KeyWork → List Digest → Digest) → Course → Type 0
AreCounted built c =
    (t : ℕ) → works c.moment t ≡ true → (c.account t).is_clean ≡ true → CleanFacts built c.moment t (c.account t)
