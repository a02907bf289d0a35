use Rattle.std.proofs.Common.{◌∙◌, ap, length, min, sym}
use Rattle.bosh_yaml.specs.View.{tree_of}
use Rattle.bosh_yaml.proofs.PlaceLemmas.{none_of_few, one_of_few}
use Rattle.bosh_yaml.proofs.node.Pairs.find.Goals as goal

pub find_placed-requires : goal.find_placed-requires
find_placed-requires c =
    none_of_few 8 c.min-few.result c.args.key.now c.self.inside.entries.items c.as_slice.result.now c.args.self.now c.as_slice.ensures.value c.self.view_is (c.min-few.ensures ∙ ap (λ n. min n 8) (c.len.ensures ∙ sym c.as_slice.ensures.len ∙ ap length c.as_slice.ensures.value)) c.in-None.ensures

pub returns-in-Some : goal.returns-in-Some
returns-in-Some c =
    one_of_few 8 c.min-few.result c.args.key.now c.self.inside.entries.items c.as_slice.result.now c.args.self.now (tree_of c.in-Some.value.now) c.as_slice.ensures.value c.self.view_is (c.min-few.ensures ∙ ap (λ n. min n 8) (c.len.ensures ∙ sym c.as_slice.ensures.len ∙ ap length c.as_slice.ensures.value)) c.in-Some.ensures
