use Rattle.std.proofs.Common.{◌≡◌, ◌⊎◌, ℕ, List, Ok, Err, ap, inl, inr, rules, subst}
use Rattle.bosh_lookup.specs.Table.{IsAdded}
use Rattle.bosh_manifest_names.specs.Answer.{◌>>=◌, each}
use Rattle.bosh_manifest_names.specs.Sources.{AreStemcells}
use Rattle.bosh_manifest_names.specs.Uses.{used_stemcell}
use Rattle.bosh_manifest_names.specs.declared.fault.GoalFault.TheVariants.{Memory}
use Rattle.bosh_manifest_names.proofs.EachLemmas.{stands-more, stands-refused}
use Rattle.bosh_manifest_names.proofs.TableLemmas.{AreStemcells-add}
use Rattle.bosh_manifest_names.proofs.sources.listed_stemcells.Goals as goal

pub returns-in_err-stemcell : goal.returns-in_err-stemcell
returns-in_err-stemcell c =
    let fault = c.in_err-stemcell.field-0.0 in
    let alias = c.asked-item.result.alias in
    let step = used_stemcell c.args.stemcells.now in
    let refused = stands-refused AreStemcells step c.args.asked.now c.loop-asked.asked-index c.asked-item.result c.loop-asked.table fault c.loop-asked-test.true c.asked-item.is c.loop-asked.invariant in
    let told : (fault ≡ Memory) ⊎ (each step c.args.asked.now ≡ Err fault) =
    elim c.in_err-stemcell.ensures [ inl m ↦ inl m | inr t ↦ inr (refused (ap (λ answer. answer >>= λ stemcell. Ok (alias, stemcell)) t)) ] in
    search (rules, told)

pub loop-asked-preserved : goal.loop-asked-preserved
loop-asked-preserved c =
    let alias = c.asked-item.result.alias in
    let stemcell = c.in_ok-stemcell.stemcell in
    stands-more AreStemcells (used_stemcell c.args.stemcells.now) c.args.asked.now c.loop-asked.asked-index c.asked-item.result (alias, stemcell.now)
    c.loop-asked.table c.add.new.table c.loop-asked-test.true c.asked-item.is c.loop-asked.invariant
    (ap (λ answer. answer >>= λ found. Ok (alias, found)) c.in_ok-stemcell.ensures)
    (λ done h. AreStemcells-add done alias stemcell c.loop-asked.table c.add.new.table h
    (subst (λ (name : List ℕ). IsAdded c.loop-asked.table name stemcell c.add.new.table) c.as_bytes.ensures.bytes c.in_ok-add.ensures))
