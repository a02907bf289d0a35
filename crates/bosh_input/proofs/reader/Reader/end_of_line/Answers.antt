use Rattle.std.proofs.Common.{refl, sym, ap, ◌∙◌, arith, rules}
use Rattle.bosh_input.specs.Reading.{InputView}
use Rattle.bosh_input.proofs.FaultLemmas.{fault_passed}
use Rattle.bosh_input.proofs.FrontLemmas.{stops_where}
use Rattle.bosh_input.proofs.ReadsLemmas.{reads_none, reads_then}
use Rattle.bosh_input.proofs.SeenLemmas.{line_ended, none_seen, open_still, seen_before}
use Rattle.bosh_input.proofs.reader.Reader.end_of_line.Goals as goal

pub loop-end-init : goal.loop-end-init
loop-end-init g c = record {
  reads = reads_none g.S.Source.left g.S.Source.faults c.args.source.now c.args.self.now.front;
  at = refl;
  given = refl;
  ahead = c.requires;
  seen = none_seen c.args.self.now.front c.args.self.now.at c.self.inside.at (ap (λ (v : InputView). v.at) c.self.view_is) c.requires;
}

pub returns-in_err-read_more-clause-reads : goal.returns-in_err-read_more-clause-reads
returns-in_err-read_more-clause-reads g c =
    reads_then _ _ _ _ _ _ _ _ c.loop-end.invariant.reads c.in_err-read_more.ensures.reads

pub returns-in_err-read_more-clause-stopped : goal.returns-in_err-read_more-clause-stopped
returns-in_err-read_more-clause-stopped g c =
    fault_passed _ c.from_residual.result c.in_err-read_more.field-0.0 c.from_residual.ensures.1
    (stops_where c.in_err-read_more.field-0.0 c.read_more.new.self.front
    (open_still c.loop-end.self.front c.read_more.new.self.front c.loop-end.self.at c.args.self.now.at (sym c.loop-end.invariant.at) c.loop-end.invariant.ahead c.in_default.ensures)
    c.in_err-read_more.ensures.stopped)

pub returns-then-not-branch-clause-reads : goal.returns-then-not-branch-clause-reads
returns-then-not-branch-clause-reads g c =
    reads_then _ _ _ _ _ _ _ _ c.loop-end.invariant.reads c.in_ok-read_more.ensures.reads

pub returns-then-not-branch-clause-found : goal.returns-then-not-branch-clause-found
returns-then-not-branch-clause-found g c =
    line_ended c.loop-end.self.front c.read_more.new.self.front c.loop-end.self.at c.args.self.now.at c.len-seen.result (sym c.loop-end.invariant.at) c.loop-end.invariant.ahead c.in_default.ensures
    (rw c.if-not-branch.true at c.in_ok-read_more.ensures.more)
    (search (rules, c))

pub loop-end-preserved : goal.loop-end-preserved
loop-end-preserved g c =
    let reads = c.in_ok-read_more.ensures.reads in
    record {
      reads = reads_then _ _ _ _ _ _ _ _ c.loop-end.invariant.reads c.in_ok-read_more.ensures.reads;
      at = (c.in_ok-read_more.ensures.same).0 ∙ c.loop-end.invariant.at;
      given = (c.in_ok-read_more.ensures.same).1 ∙ c.loop-end.invariant.given;
      ahead = let longer = rw c.if-not-branch.false at c.in_ok-read_more.ensures.more in let at = (c.in_ok-read_more.ensures.same).0 in let ahead = c.loop-end.invariant.ahead in omega arith;
      seen = seen_before c.loop-end.self.front c.read_more.new.self.front reads.more c.loop-end.self.at c.read_more.new.self.at c.len-seen.result (c.in_ok-read_more.ensures.same).0 c.loop-end.invariant.ahead c.in_default.ensures reads.taken (search (rules, c));
    }
