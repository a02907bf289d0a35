-- One more key of the path.
use Rattle.std.proofs.Common.{◌∙◌, ap, sym, refl, Some}
use Rattle.bosh_yaml.specs.View.{tree_of}
use Rattle.bosh_template.specs.Setting.{at_path, path_of}
use Rattle.bosh_template.proofs.PathLemmas.{at_path-more, at_path-last, at_path-none}
use Rattle.bosh_template.proofs.value.at_path.Goals as goal

pub returns-in_err-node : goal.returns-in_err-node
returns-in_err-node c =
    let t = tree_of c.loop-key.node.now in
    let rest = path_of c.in-Some.after.now in
    let more = at_path-more c.loop-key.rest.now (c.in-Some.key.now, c.in-Some.after.now) (Some t) t refl (sym c.in-Some.ensures.read) in
    rw c.from_residual.ensures (sym (sym c.loop-key.invariant ∙ more ∙ ap (at_path rest) (sym c.in_err-node.ensures) ∙ at_path-none rest))

pub loop-key-preserved : goal.loop-key-preserved
loop-key-preserved c =
    let t = tree_of c.loop-key.node.now in
    let rest = path_of c.in-Some.after.now in
    let more = at_path-more c.loop-key.rest.now (c.in-Some.key.now, c.in-Some.after.now) (Some t) t refl (sym c.in-Some.ensures.read) in
    ap (at_path rest) c.in_ok-node.ensures ∙ sym more ∙ c.loop-key.invariant

pub returns : goal.returns
returns c = c.find-2.ensures ∙ sym (at_path-last c.loop-key.rest.now (tree_of c.loop-key.node.now) (sym c.in_default.ensures.read)) ∙ c.loop-key.invariant
