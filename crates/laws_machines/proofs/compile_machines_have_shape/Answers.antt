use Rattle.laws_machines.proofs.ShapeLemmas.{shape_kept}
use Rattle.laws_machines.proofs.compile_machines_have_shape.Goals as goal

pub returns : goal.returns
returns c = shape_kept
