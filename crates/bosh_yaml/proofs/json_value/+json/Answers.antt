use Rattle.std.proofs.Common.{◌++◌, ◌∷◌, []}
use Rattle.serde_json.specs.View.{members_view}
use Rattle.serde_json.proofs.Views.{Entry}
use Rattle.bosh_yaml.specs.Json.{members_have_integers}
use Rattle.bosh_yaml.specs.View.{tree_of}
use Rattle.bosh_yaml.proofs.JsonLemmas.{new_member, one_done, pairs_more}
use Rattle.bosh_yaml.proofs.json_value.+json.Goals as goal

pub pairs_of-push_member-requires : goal.pairs_of-push_member-requires
pairs_of-push_member-requires t c =
    let l = c.loop-key in
    let e : Entry = (c.in-Some.key, c.in-Some.member) in
    rw l.invariant.2 (new_member c.args.members.entries l.invariant.0 l.key-iterator c.next.new.self e c.into_iter-key-iterator.ensures.into_iter_gives.5 l.invariant.1 c.in-Some.ensures.steps)

pub pairs_of-loop-key-preserved : goal.pairs_of-loop-key-preserved
pairs_of-loop-key-preserved t c =
    let l = c.loop-key in
    let kept = l.invariant in
    let e : Entry = (c.in-Some.key, c.in-Some.member) in
    let next = c.in-Some.ensures.steps in
    let more = pairs_more (members_have_integers (members_view c.args.members.entries)) l.pairs c.push_member.new.pairs (tree_of c.in_ok-node.node) kept.0 l.key-iterator c.next.new.self e next c.in_ok-node.ensures kept.2 c.in_ok-push_member.ensures kept.3 in (
      kept.0 ++ e ∷ [],
      one_done c.args.members.entries kept.0 l.key-iterator e c.next.new.self kept.1 next,
      more.0,
      more.1,
    )
