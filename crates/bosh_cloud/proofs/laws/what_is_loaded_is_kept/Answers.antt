use Rattle.std.proofs.Common.{[], map, sym, ◌∙◌, ap, subst}
use Rattle.bosh_cloud.proofs.LawLemmas.{found-follows}
use Rattle.bosh_entry.specs.Body.{spelling}
use Rattle.bosh_inventory.specs.Happens.{AllFollow}
use Rattle.bosh_cloud.proofs.laws.what_is_loaded_is_kept.Goals as goal

pub returns-clause-bodies : goal.returns-clause-bodies
returns-clause-bodies c = λ bodies effects bytes is.
    (found-follows [] bodies effects bytes is).bodies_are
    ∙ ap (map spelling) (sym (found-follows [] bodies effects bytes is).effects_are)

pub returns-clause-follows : goal.returns-clause-follows
returns-clause-follows c = λ bodies effects bytes is.
    subst AllFollow (sym (found-follows [] bodies effects bytes is).effects_are)
    (found-follows [] bodies effects bytes is).follows
