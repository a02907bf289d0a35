use Rattle.std.proofs.Common.{◌++◌, List, ℕ, ap, ◌∙◌}
use Rattle.std.proofs.lemmas.Result.{on_ok_weaker}
use Rattle.cpi_proc.specs.Request.{context_back, context_front}
use Rattle.cpi_proc.proofs.TextLemmas.{context_is, two_pieces}
use Rattle.cpi_proc.proofs.context.write_context.Goals as goal

pub returns-clause-ok : goal.returns-clause-ok
returns-clause-ok c =
    let front = context_front c.args.dep.now in
    let back = context_back c.args.owner.now c.args.n in
    on_ok_weaker c.close_context.result
    (λ e. two_pieces c.args.out.now.items front back c.open_context.new.out.items c.close_context.new.out.items c.in_ok-open_context.ensures.ok e
    ∙ ap (λ (s : List ℕ). c.args.out.now.items ++ s) (context_is c.args.dep.now c.args.owner.now c.args.n))
    c.close_context.ensures.ok
