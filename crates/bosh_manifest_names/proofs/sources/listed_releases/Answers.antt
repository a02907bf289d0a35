use Rattle.std.proofs.Common.{◌≡◌, ◌∙◌, ◌⊎◌, [], ◌∷◌, ◌++◌, Err, ap, sym, subst, inl, inr, rules}
use Rattle.bosh_manifest_names.specs.Answer.{each}
use Rattle.bosh_manifest_names.specs.Sources.{AreReleases}
use Rattle.bosh_manifest_names.specs.Uses.{used_release}
use Rattle.bosh_manifest_names.specs.declared.fault.GoalFault.TheVariants.{Memory}
use Rattle.bosh_manifest_names.proofs.EachLemmas.{stands-more, stands-refused}
use Rattle.bosh_manifest_names.proofs.TableLemmas.{AreReleases-add}
use Rattle.bosh_manifest_names.proofs.sources.listed_releases.Goals as goal

pub returns-in_err-release : goal.returns-in_err-release
returns-in_err-release c =
    let fault = c.in_err-release.field-0.0 in
    let step = used_release c.args.releases.now in
    let refused = stands-refused AreReleases step c.args.asked.now c.loop-asked.asked-index c.asked-item.result c.loop-asked.table fault c.loop-asked-test.true c.asked-item.is c.loop-asked.invariant in
    let told : (fault ≡ Memory) ⊎ (each step c.args.asked.now ≡ Err fault) =
    elim c.in_err-release.ensures [ inl m ↦ inl m | inr t ↦ inr (refused t) ] in
    search (rules, told)

pub loop-asked-preserved : goal.loop-asked-preserved
loop-asked-preserved c =
    let release = c.in_ok-release.release.now in
    stands-more AreReleases (used_release c.args.releases.now) c.args.asked.now c.loop-asked.asked-index c.asked-item.result release
    c.loop-asked.table c.add.new.table c.loop-asked-test.true c.asked-item.is c.loop-asked.invariant c.in_ok-release.ensures
    (λ done h. subst (λ r. AreReleases (done ++ r ∷ []) c.add.new.table) c.in_ok-of.ensures
    (AreReleases-add done c.in_ok-of.field-0 c.as_bytes.result.now c.loop-asked.table c.add.new.table (c.as_bytes.ensures.bytes ∙ sym (ap (λ r. r.name) c.in_ok-of.ensures)) h c.in_ok-add.ensures))
