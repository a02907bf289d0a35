use Rattle.std.proofs.Common.{sym, subst}
use Rattle.std.specs.Str.{IsUtf8}
use Rattle.std.proofs.lemmas.Str.{IsUtf8-append}
use Rattle.bosh_vars.proofs.insertion.push_text.Goals as goal

pub returns-clause-utf8 : goal.returns-clause-utf8
returns-clause-utf8 c =
    λ utf8. subst IsUtf8 (sym c.in_ok-extend_from_slice.ensures.items) (IsUtf8-append c.args.filled.now.items c.args.text.now utf8 c.requires)
