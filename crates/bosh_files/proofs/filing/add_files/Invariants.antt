use Rattle.bosh_files.specs.Files.{bytes_of, file}
use Rattle.bosh_files.proofs.TakenLemmas.{AreGathered}
use Rattle.bosh_files.proofs.filing.add_files.Given as goal

abbrev pub invariant-loop-template : goal.invariant-loop-template
invariant-loop-template l =
    AreGathered (file l.job l.env) bytes_of l.templates l.template-index l.initial.budget l.budget l.initial.placed.items l.placed.items
