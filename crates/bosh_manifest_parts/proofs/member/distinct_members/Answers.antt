-- One more item is read.
use Rattle.std.proofs.Common.{◌≡◌, ◌+◌, ◌⊎◌, [], ◌∷◌, Err, codes, drop, ap, sym, ◌∙◌, inl, inr}
use Rattle.std.proofs.lemmas.Result.{err_from_is_err_and}
use Rattle.bosh_yaml.specs.View.{tree_of}
use Rattle.bosh_fields.specs.Distinct.{distinct, name_in}
use Rattle.bosh_fields.specs.declared.fault.FieldFault.TheVariants.{Memory}
use Rattle.bosh_fields.proofs.DistinctLemmas.{distinct-more, next_item-name}
use Rattle.bosh_fields.proofs.ListLemmas.{trees, after, after-more}
use Rattle.bosh_manifest_parts.proofs.MemberLemmas.{distinct-fault}
use Rattle.bosh_manifest_parts.proofs.member.distinct_members.Goals as goal

pub loop-node-preserved : goal.loop-node-preserved
loop-node-preserved g c =
    let naming = name_in (codes "name") c.args.key.now in
    let item = g.T.Member.item c.args.given.now in
    let i = c.loop-node.node-index in
    let node = c.node-item.result in
    let before = c.loop-node.invariant.before in
    let first = c.in_ok-next_member.field-0 in
    let (name, fresh, read) = next_item-name naming item before (tree_of node) first (c.in_ok-next_member.ensures.item before c.loop-node.invariant.seen) in
    let others = distinct naming item (name ∷ before) (trees (drop (i + 1) c.args.nodes.now)) in
    let more = distinct-more naming item before c.args.nodes.now i node name first c.loop-node-test.true c.node-item.is fresh read in
    record {
      before = name ∷ before;
      seen = c.in_ok-next_member.ensures.noted before c.loop-node.invariant.seen name fresh;
      same = c.loop-node.invariant.same ∙ ap (after c.loop-node.items.items) more ∙ after-more c.loop-node.items.items first others
          ∙ ap (λ items. after items others) (sym c.in_ok-push.ensures.items);
    }

pub returns-in_err-next_member : goal.returns-in_err-next_member
returns-in_err-next_member g c =
    let naming = name_in (codes "name") c.args.key.now in
    let item = g.T.Member.item c.args.given.now in
    let nodes = c.args.nodes.now in
    let i = c.loop-node.node-index in
    let node = c.node-item.result in
    let before = c.loop-node.invariant.before in
    let fault = c.in_err-next_member.field-0.0 in
    let so_far = c.loop-node.items.items in
    let answer : (fault ≡ Memory) ⊎ (distinct naming item [] (trees nodes) ≡ Err fault) =
    elim (c.in_err-next_member.ensures.item before c.loop-node.invariant.seen) [
      | inl memory ↦ inl memory
      | inr refused ↦ inr (c.loop-node.invariant.same ∙ ap (after so_far) (distinct-fault naming item before nodes i node fault c.loop-node-test.true c.node-item.is refused))
    ] in
    let told = err_from_is_err_and c.from_residual.result c.from_residual.ensures.1 in
    rw (told.1, told.2) answer
