use Rattle.std.proofs.lemmas.Result.{on_ok_weaker}
use Rattle.cpi_wire.proofs.EscapeLemmas.{text_quoted}
use Rattle.cpi_wire.proofs.write.write_text.Goals as goal

pub returns-clause-ok : goal.returns-clause-ok
returns-clause-ok c =
    on_ok_weaker c.add-2.result
    (λ e. text_quoted c.args.bytes.now c.args.out.now.items c.add.new.out.items c.add_all_chars.new.out.items c.add-2.new.out.items c.in_ok-add.ensures.ok c.in_ok-add_all_chars.ensures.ok e)
    c.add-2.ensures.ok
