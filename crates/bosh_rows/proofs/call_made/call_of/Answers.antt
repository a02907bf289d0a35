-- The next step is a call.
use Rattle.std.proofs.Common.{◌≡◌, true, arith}
use Rattle.std.specs.Prelude.{is_some}
use Rattle.std.specs.Option.{option_copied}
use Rattle.bosh_rows.proofs.CallLemmas.{next_is_call}
use Rattle.bosh_rows.specs.CallOf.{call_of}
use Rattle.bosh_rows.proofs.call_made.call_of.Goals as goal

pub unreachable-requires : goal.unreachable-requires
unreachable-requires c =
    let want = option_copied c.args.want in
    let calls : is_some (call_of c.args.step want c.args.row.now) ≡ true =
    next_is_call want c.args.row.now c.args.step c.requires.next c.requires.machine in
    grind (arith, calls, c.in-None.is, c.in_ok-call.ensures)
