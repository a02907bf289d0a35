use Rattle.std.proofs.Common.{sym, ap, ap₂, ◌∙◌, cond, Some, None, Option}
use Rattle.std.specs.Str.{bytes_eq}
use Rattle.bosh_base.specs.declared.digest.Digest.{Digest}
use Rattle.cpi_wire.proofs.TextLemmas.{digest_found, digest_refused}
use Rattle.cpi_wire.proofs.text.digest_in.Goals as goal

pub returns-then-is_err : goal.returns-then-is_err
returns-then-is_err c = digest_refused c.args.text.now c.decode_to_slice.new.out c.decode_to_slice.result c.decode_to_slice.ensures.value (sym c.is_err.ensures.value ∙ c.if-is_err.true)

pub returns-then-eq : goal.returns-then-eq
returns-then-eq c =
    let out = c.decode_to_slice.new.out in
    let f = digest_found c.args.text.now out c.decode_to_slice.result c.decode_to_slice.ensures.value (sym c.is_err.ensures.value ∙ c.if-is_err.false) in
    let same = ap₂ bytes_eq (c.as_slice.ensures ∙ c.digits_of.ensures.digits) c.as_bytes.ensures.value in
    sym (f ∙ ap (λ b. cond {A = Option Digest} b (Some (record { 0 = out })) None) (sym same ∙ sym c.if-eq.ensures))

pub returns-else-eq : goal.returns-else-eq
returns-else-eq c =
    let out = c.decode_to_slice.new.out in
    let f = digest_found c.args.text.now out c.decode_to_slice.result c.decode_to_slice.ensures.value (sym c.is_err.ensures.value ∙ c.if-is_err.false) in
    let same = ap₂ bytes_eq (c.as_slice.ensures ∙ c.digits_of.ensures.digits) c.as_bytes.ensures.value in
    sym (f ∙ ap (λ b. cond {A = Option Digest} b (Some (record { 0 = out })) None) (sym same ∙ sym c.if-eq.ensures))
