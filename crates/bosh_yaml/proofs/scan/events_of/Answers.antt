use Rattle.std.proofs.Common.{◌+◌, arith, map, refl}
use Rattle.std.proofs.lemmas.Result.{err_from_is_err_and}
use Rattle.bosh_yaml.specs.Lines.{lines_of}
use Rattle.bosh_yaml.specs.Events.{events_of}
use Rattle.bosh_yaml.specs.Scanning.{scan_in}
use Rattle.bosh_yaml.proofs.ScanLemmas.{line_refused, line_more, line_skips}
use Rattle.bosh_yaml.proofs.scan.events_of.Goals as goal

pub returns-in_err-mode : goal.returns-in_err-mode
returns-in_err-mode c =
    let p = err_from_is_err_and c.from_residual-in_err-mode.result c.from_residual-in_err-mode.ensures.1 in
    rw (p.1, p.2) (line_refused c.in_err-mode.field-0.0 (events_of c.args.text.now) c.loop-bytes.events.items c.loop-bytes.line (record { frames = c.loop-bytes.frames.items; mode = c.loop-bytes.mode; body = map (λ b. b.now) c.loop-bytes.body.items }) c.in-Some.bytes.now (lines_of c.in-Some.after.now) (lines_of c.loop-bytes.rest.now) c.in-Some.ensures.some c.loop-bytes.invariant.1 c.in_err-mode.ensures)

pub loop-bytes-preserved : goal.loop-bytes-preserved
loop-bytes-preserved c =
    let scan = scan_in c.in_ok-mode.mode c.take_line_by.new.frames.items (map (λ b. b.now) c.take_line_by.new.body.items) in
    let more = line_more (events_of c.args.text.now) c.loop-bytes.events.items c.take_line_by.new.events.items c.loop-bytes.line (record { frames = c.loop-bytes.frames.items; mode = c.loop-bytes.mode; body = map (λ b. b.now) c.loop-bytes.body.items }) scan c.in-Some.bytes.now (lines_of c.in-Some.after.now) (lines_of c.loop-bytes.rest.now) c.in-Some.ensures.some c.loop-bytes.invariant.1 c.in_ok-mode.ensures in (
      omega (arith, c.loop-bytes.invariant.0, c.in-Some.ensures.shorter, c.skip_empty-rest.ensures.no_longer),
      line_skips (events_of c.args.text.now) c.take_line_by.new.events.items c.loop-bytes.line _ scan c.in-Some.after.now c.skip_empty-rest.result.now refl (c.skip_empty-rest.ensures.skipped (c.loop-bytes.line + 1) c.take_line_by.new.frames.items (map (λ b. b.now) c.take_line_by.new.body.items)) more,
    )
