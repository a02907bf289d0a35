use Rattle.std.proofs.Common.{◌≡◌, ◌∙◌, IfOk, List, ap, map, subst}
use denote.Ref.{Bor}
use Rattle.bosh_base.specs.declared.release.PackageSpec.{PackageSpec}
use Rattle.bosh_instances.specs.Applied.{all_packages, distinct, package_mark}
use Rattle.bosh_instances.proofs.applied.package_marks.Goals as goal

pub returns : goal.returns
returns c =
    let now : List (Bor PackageSpec) → List PackageSpec = λ packs. map (λ pack. pack.now) packs in
    let same : now c.as_slice-2.result.now ≡ distinct (all_packages c.args.jobs.now) =
    ap now c.as_slice-2.ensures.value ∙ (c.in_ok-packages.ensures
    ∙ (ap (λ (packs : List (Bor PackageSpec)). distinct (now packs)) c.as_slice.ensures.value ∙ ap distinct c.in_ok-all_packages.ensures)) in
    subst (λ (packs : List PackageSpec). IfOk c.marks_of.result (λ marks. marks ≡ map package_mark packs)) same c.marks_of.ensures
