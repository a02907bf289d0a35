use Rattle.std.proofs.Common.{◌++◌, List, ℕ, ap, ◌∙◌, codes}
use Rattle.std.proofs.lemmas.Result.{on_ok_weaker}
use Rattle.serde_json.specs.Written.{compact_text}
use Rattle.cpi_proc.specs.Reply.{reply_front, reply_middle, result_data}
use Rattle.cpi_proc.proofs.TextLemmas.{four_pieces, reply_is}
use Rattle.cpi_proc.proofs.reply_writer.add_reply.Goals as goal

pub returns-clause-ok : goal.returns-clause-ok
returns-clause-ok c =
    let a = c.args.answer.now in
    on_ok_weaker c.add.result
    (λ e. four_pieces c.args.out.now.items (reply_front a) reply_middle (compact_text (result_data a)) (codes "}") c.open_reply.new.out.items c.add_middle.new.out.items c.write_result.new.out.items c.add.new.out.items c.in_ok-open_reply.ensures.ok c.in_ok-add_middle.ensures.ok c.in_ok-write_result.ensures.ok e
    ∙ ap (λ (s : List ℕ). c.args.out.now.items ++ s) (reply_is a))
    c.add.ensures.ok
