use Rattle.laws_stands.proofs.LineLemmas.{first_is, over_is}
use Rattle.laws_stands.proofs.lines.a_line_has_its_first_item.Goals as goal

pub returns : goal.returns
returns c = record {
  first = λ items left idle line stands. first_is items left idle line stands;
  finished = λ items left idle line stands. over_is items left idle line stands;
}
