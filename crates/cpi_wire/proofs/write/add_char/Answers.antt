use Rattle.std.proofs.Common.{arith, append_assoc, ◌++◌, ◌+◌, ◌%◌, List, ℕ, ap, sym, ◌∙◌}
use Rattle.std.proofs.lemmas.Result.{on_ok_weaker}
use Rattle.json.specs.Print.{escape_byte}
use Rattle.cpi_wire.proofs.EscapeLemmas.{escape_two}
use Rattle.cpi_wire.proofs.write.add_char.Goals as goal

pub returns-clause-ok : goal.returns-clause-ok
returns-clause-ok c =
    let second : List ℕ = escape_byte (128 + c.args.byte % 64) in
    on_ok_weaker c.add_escaped-3.result
    (λ e. e ∙ ap (λ (s : List ℕ). s ++ second) c.in_ok-add_escaped.ensures.ok ∙ append_assoc c.args.out.now.items _ second
    ∙ ap (λ (s : List ℕ). c.args.out.now.items ++ s) (sym (escape_two c.args.byte (omega (arith, c.if-byte-lt128.false)) (omega (arith, c.ranges.byte.fits)))))
    c.add_escaped-3.ensures.ok
