-- One more name.
use Rattle.std.proofs.Common.{◌∙◌, ap, map, sym, take, List, ℕ, Bor}
use Rattle.std.specs.BTreeSet.{insert_key}
use Rattle.std.specs.Cmp.Lexicographic.{slice_cmp}
use Rattle.std.specs.Ordering.{nat_cmp}
use Rattle.bosh_release_files.specs.Files.{in_order}
use Rattle.bosh_keys.proofs.GatherLemmas.{in_order-more, inserted_now}
use Rattle.bosh_keys.proofs.packages.in_order.Goals as goal

pub loop-name-preserved : goal.loop-name-preserved
loop-name-preserved c =
    let names = c.args.names.now in
    let i = c.loop-name.name-index in
    let name = c.as_bytes.result in
    ap (map (λ (each : Bor (List ℕ)). each.now)) c.in_ok-insert.ensures.keys
    ∙ (inserted_now c.loop-name.ordered.keys name
    ∙ (ap (λ (ks : List (List ℕ)). insert_key (slice_cmp nat_cmp) ks name.now) c.loop-name.invariant
    ∙ (ap (insert_key (slice_cmp nat_cmp) (in_order (take i names))) c.as_bytes.ensures.bytes
    ∙ sym (in_order-more names i c.name-item.result c.loop-name-test.true c.name-item.is))))
