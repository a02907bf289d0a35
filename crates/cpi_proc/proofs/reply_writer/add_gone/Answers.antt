use Rattle.std.proofs.Common.{◌++◌, ◌∷◌, [], List, ℕ, ap, ◌∙◌, codes}
use Rattle.std.proofs.lemmas.Result.{on_ok_weaker}
use Rattle.json.specs.Print.{quoted}
use Rattle.cpi_proc.specs.Request.{opened}
use Rattle.cpi_proc.proofs.TextLemmas.{gone_is, three_pieces}
use Rattle.cpi_proc.proofs.reply_writer.add_gone.Goals as goal

pub returns-clause-ok : goal.returns-clause-ok
returns-clause-ok c =
    on_ok_weaker c.add.result
    (λ e. three_pieces c.args.out.now.items (opened (codes "{") (codes "type")) (quoted (codes "Gone")) (codes "}") c.open_member.new.out.items c.write_quoted.new.out.items c.add.new.out.items c.in_ok-open_member.ensures.ok c.in_ok-write_quoted.ensures.ok e
    ∙ ap (λ (s : List ℕ). c.args.out.now.items ++ s) gone_is)
    c.add.ensures.ok
