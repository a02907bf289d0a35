use Rattle.std.proofs.Common.{length, arith}
use Rattle.std.proofs.lemmas.Iterator.{YieldsList-from_chars}
use Rattle.std.proofs.lemmas.Iterator.Consumers.{YieldsList-turn, YieldsList-end}
use Rattle.std.proofs.lemmas.List.{length_push}
use Rattle.std.proofs.lemmas.Str.{is_utf8-from_IsUtf8}
use Rattle.std.specs.Str.{chars}
use Rattle.cpi_wire.proofs.TextLemmas.{all_bytes, no_bytes, one_byte_more}
use Rattle.cpi_wire.proofs.text.bytes_in.Goals as goal

pub returns-then-code-gt255 : goal.returns-then-code-gt255
returns-then-code-gt255 c =
    let t = YieldsList-turn (YieldsList-from_chars c.args.text.now c.utf8.text cc) c.loop-c.yielded _ c.loop-c.yielded_by _ _ c.in-Some.c c.in-Some.is c.next.ensures.steps in
    no_bytes c.args.text.now (length c.loop-c.yielded) c.in-Some.c t c.if-code-gt255.true

pub loop-c-preserved : goal.loop-c-preserved
loop-c-preserved c =
    let t = YieldsList-turn (YieldsList-from_chars c.args.text.now c.utf8.text cc) c.loop-c.yielded _ c.loop-c.yielded_by _ _ c.in-Some.c c.in-Some.is c.next.ensures.steps in
    rw (length_push c.loop-c.yielded c.in-Some.c) (one_byte_more (chars c.args.text.now) c.loop-c.bytes.items c.push.new.self.items (length c.loop-c.yielded) c.in-Some.c t (omega (arith, c.if-code-gt255.false)) c.loop-c.invariant.0 c.loop-c.invariant.1 c.in_ok-push.ensures.items)

pub returns : goal.returns
returns c =
    let t = YieldsList-end (YieldsList-from_chars c.args.text.now c.utf8.text cc) c.loop-c.yielded _ c.loop-c.yielded_by _ _ c.in-None.is c.next.ensures.steps in
    rw c.from.ensures (all_bytes c.args.text.now c.loop-c.bytes.items (length c.loop-c.yielded) t.1 c.loop-c.invariant.0 c.loop-c.invariant.1 (is_utf8-from_IsUtf8 _ c.utf8.text))
