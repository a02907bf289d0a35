use Rattle.std.proofs.Common.{◌++◌, List, ℕ, ap, ◌∙◌, codes}
use Rattle.std.proofs.lemmas.Result.{on_ok_weaker}
use Rattle.bosh_base.specs.Call.{method_of}
use Rattle.serde_json.specs.Written.{compact_text}
use Rattle.cpi_proc.specs.Request.{context, opened, request_back, request_front}
use Rattle.cpi_proc.proofs.TextLemmas.{four_pieces, request_is}
use Rattle.cpi_proc.proofs.request_writer.add_request.Goals as goal

pub returns-clause-ok : goal.returns-clause-ok
returns-clause-ok c =
    let r = c.args.request.now in
    on_ok_weaker c.close_request.result
    (λ e. four_pieces c.args.out.now.items (request_front r.call) (opened (codes ",") (codes "context")) (compact_text (context r.dep r.owner r.n)) (request_back (method_of r.call)) c.open_request.new.out.items c.open_member.new.out.items c.write_context.new.out.items c.close_request.new.out.items c.in_ok-open_request.ensures.ok c.in_ok-open_member.ensures.ok c.in_ok-write_context.ensures.ok (e ∙ ap (λ m. c.write_context.new.out.items ++ request_back m) c.method.ensures)
    ∙ ap (λ (s : List ℕ). c.args.out.now.items ++ s) (request_is r))
    c.close_request.ensures.ok
