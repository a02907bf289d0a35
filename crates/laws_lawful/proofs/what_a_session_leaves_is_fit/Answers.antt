use Rattle.bosh_history.specs.Fit.IsFit.{left}
use Rattle.laws_lawful.proofs.what_a_session_leaves_is_fit.Goals as goal

pub returns : goal.returns
returns c = λ outside before next session fit leaves. left before next session fit leaves
