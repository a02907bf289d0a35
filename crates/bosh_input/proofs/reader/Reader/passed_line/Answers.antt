use Rattle.std.proofs.Common.{◌≡◌, ◌≢◌, ℕ, ◌+◌, sym, ap, ◌∙◌, subst, arith}
use Rattle.bosh_input.specs.Reading.{InputView, IsPassed}
use Rattle.bosh_input.proofs.FaultLemmas.{fault_passed}
use Rattle.bosh_input.proofs.FrontLemmas.{stops_not_ended, stops_where}
use Rattle.bosh_input.proofs.PassedLemmas.{begins_with_other, byte_still, feed_passed, hash_open, hash_passed, return_before_end, return_before_feed, return_before_other, return_open}
use Rattle.bosh_input.proofs.ReadsLemmas.{reads_none}
use Rattle.bosh_input.proofs.reader.Reader.passed_line.Goals as goal
use Rattle.bosh_input.proofs.reader.Reader.passed_line.Goals.{in-Some-eq10, in_default-2, in_default-2-2}

pub returns-in_ok-end_of_line-in-35-clause-passed : goal.returns-in_ok-end_of_line-in-35-clause-passed
returns-in_ok-end_of_line-in-35-clause-passed g c =
    let still = byte_still _ _ _ _ _ _ c.args.self.now.at 35 c.in_ok-end_of_line-in-35.ensures.reads c.requires.ahead (c.requires.first ∙ c.in-35.is) in
    hash_passed c.end_of_line.new.self.front c.args.self.now.at c.in_ok-end_of_line-in-35.field-0 still.0 still.1 c.in_ok-end_of_line-in-35.ensures.found

pub returns-in_err-end_of_line-in-35-clause-stopped : goal.returns-in_err-end_of_line-in-35-clause-stopped
returns-in_err-end_of_line-in-35-clause-stopped g c =
    let still = byte_still _ _ _ _ _ _ c.args.self.now.at 35 c.in_err-end_of_line-in-35.ensures.reads c.requires.ahead (c.requires.first ∙ c.in-35.is) in
    fault_passed _ c.from_residual.result c.in_err-end_of_line-in-35.field-0.0 c.from_residual.ensures.1
    (stops_where c.in_err-end_of_line-in-35.field-0.0 c.end_of_line.new.self.front
    (hash_open c.end_of_line.new.self.front c.args.self.now.at still.0 still.1)
    c.in_err-end_of_line-in-35.ensures.stopped)

pub returns-in-10-clause-reads : goal.returns-in-10-clause-reads
returns-in-10-clause-reads g c = reads_none g.S.Source.left g.S.Source.faults c.args.source.now c.args.self.now.front

pub returns-in-10-clause-passed : goal.returns-in-10-clause-passed
returns-in-10-clause-passed g c =
    let at : c.self.inside.at ≡ c.args.self.now.at = ap (λ (v : InputView). v.at) c.self.view_is in
    subst (λ (n : ℕ). IsPassed c.args.self.now.front c.args.self.now.at (n + 1)) (sym at) (feed_passed c.args.self.now.front c.args.self.now.at c.requires.ahead (c.requires.first ∙ c.in-10.is))

pub returns-after-branch-3-clause-passed : goal.returns-after-branch-3-clause-passed
returns-after-branch-3-clause-passed g c =
    let at : c.byte_at.inside.at ≡ c.args.self.now.at = ap (λ (v : InputView). v.at) c.byte_at.view_is in
    let again : c.self-in-13.inside.at ≡ c.args.self.now.at = ap (λ (v : InputView). v.at) c.self-in-13.view_is ∙ (c.in_ok-byte_at-in-13.ensures.same).0 in
    let next : c.byte_at.inside.at + 1 ≡ c.args.self.now.at + 1 = ap (λ (n : ℕ). n + 1) at in
    let past : c.self-in-13.inside.at + 2 ≡ c.args.self.now.at + 2 = ap (λ (n : ℕ). n + 2) again in
    let still = byte_still _ _ _ _ _ _ c.args.self.now.at 13 c.in_ok-byte_at-in-13.ensures.reads c.requires.ahead (c.requires.first ∙ c.in-13.is) in
    elim c.match-branch-3.branch [
      | in-Some-eq10 w ↦ rw w.result-is (return_before_feed c.byte_at-in-13.new.self.front c.args.self.now.at (c.byte_at.inside.at + 1) (c.self-in-13.inside.at + 2) w.in-Some-eq10.field-0 next past still.1 (rw w.in-Some-eq10.is at c.in_ok-byte_at-in-13.ensures.found) w.in-Some-eq10.field-0-test)
      | in_default-2 w ↦ let other : w.in_default-2.field-0 ≢ 10 = λ same. w.in_default-2.field-0-test.1 cc in rw w.result-is (return_before_other c.byte_at-in-13.new.self.front c.args.self.now.at (c.byte_at.inside.at + 1) w.in_default-2.field-0 next still.1 (rw w.in_default-2.is at c.in_ok-byte_at-in-13.ensures.found) other)
      | in_default-2-2 w ↦ rw w.result-is (return_before_end c.byte_at-in-13.new.self.front c.args.self.now.at (c.byte_at.inside.at + 1) next still.1 (rw w.in_default-2.is at c.in_ok-byte_at-in-13.ensures.found))
    ]

pub returns-in_err-byte_at-in-13-clause-stopped : goal.returns-in_err-byte_at-in-13-clause-stopped
returns-in_err-byte_at-in-13-clause-stopped g c =
    let at : c.byte_at.inside.at ≡ c.args.self.now.at = ap (λ (v : InputView). v.at) c.byte_at.view_is in
    let still = byte_still _ _ _ _ _ _ c.args.self.now.at 13 c.in_err-byte_at-in-13.ensures.reads c.requires.ahead (c.requires.first ∙ c.in-13.is) in
    fault_passed _ c.from_residual-in_err-byte_at-in-13.result c.in_err-byte_at-in-13.field-0.0 c.from_residual-in_err-byte_at-in-13.ensures.1
    (stops_not_ended c.in_err-byte_at-in-13.field-0.0 c.byte_at-in-13.new.self.front
    (λ going long. return_open c.byte_at-in-13.new.self.front c.args.self.now.at (long ∙ ap (λ (n : ℕ). n + 1) at) still.1 going)
    c.in_err-byte_at-in-13.ensures.stopped)

pub returns-in_default-clause-reads : goal.returns-in_default-clause-reads
returns-in_default-clause-reads g c = reads_none g.S.Source.left g.S.Source.faults c.args.source.now c.args.self.now.front

pub returns-in_default-clause-passed : goal.returns-in_default-clause-passed
returns-in_default-clause-passed g c =
    let not_hash : c.args.byte ≢ 35 = omega arith in
    let not_feed : c.args.byte ≢ 10 = omega arith in
    let not_return : c.args.byte ≢ 13 = omega arith in
    begins_with_other c.args.self.now.front c.args.self.now.at c.args.byte c.requires.ahead c.requires.first not_hash not_feed not_return
