use Rattle.std.proofs.Common.{◌≡◌, ◌∙◌, subst, ℕ, List, ◌++◌}
use Rattle.std.specs.Prelude.{IfOk, codes, decimal}
use Rattle.bosh_generator.specs.Release.{file, spec_file}
use Rattle.bosh_generator.proofs.files.spec_file.Goals as goal

pub returns : goal.returns
unfolding spec_file
returns c =
    subst (λ (text : List ℕ). IfOk c.file_of.result
    (λ it. it ≡ file (codes "packages/p" ++ decimal c.args.pack ++ codes "/spec") text))
    (c.as_slice.ensures.value ∙ c.in_ok-spec.ensures) c.file_of.ensures
