use native.Mathlib.Numerals.{unary_clauses}
use Rattle.std.proofs.Common.{◌∙◌, ap, ◌++◌}
use Rattle.bosh_generator.proofs.GrowthLemmas.{grown}
use Rattle.bosh_generator.specs.Manifest.{group_text, groups_text, header, members}
use Rattle.bosh_generator.proofs.texts.manifest.Goals as goal

pub loop-group-preserved : goal.loop-group-preserved
loop-group-preserved c =
    let n = c.args.instances in
    let group = c.loop-group.group in
    simp unary_clauses (grown header c.loop-group.text.items c.add_group.new.out.items (groups_text n group)
    (group_text group (members n group)) c.loop-group.invariant
    (c.in_ok-add_group.ensures
    ∙ ap (λ count. c.loop-group.text.items ++ group_text group count) c.members.ensures))
