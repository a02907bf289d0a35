use Rattle.std.proofs.Common.{◌≡◌, drop}
use Rattle.bosh_release_files.proofs.EachLemmas.{following}
use Rattle.bosh_release_files.specs.Answer.{each}
use Rattle.bosh_release.specs.Draft.{template_in}
use Rattle.bosh_release.proofs.job.templates_in.Given as goal

-- the templates so far, and those of the other places, are those of all places
abbrev pub invariant-loop-place : goal.invariant-loop-place
invariant-loop-place l =
    each (template_in l.folder l.name) l.places
    ≡ following l.templates.items (each (template_in l.folder l.name) (drop l.place-index l.places))
