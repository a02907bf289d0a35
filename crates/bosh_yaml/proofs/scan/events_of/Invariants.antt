use Rattle.std.proofs.Common.{◌≡◌, ◌+◌, ◌≤◌, length, map}
use Rattle.bosh_yaml.specs.Events.{events_from, events_of}
use Rattle.bosh_yaml.specs.Lines.{lines_of}
use Rattle.bosh_yaml.specs.Result.{with_front}
use Rattle.bosh_yaml.proofs.scan.events_of.Given as goal

-- the events so far, before those of the lines that are left
abbrev pub invariant-loop-bytes : goal.invariant-loop-bytes
invariant-loop-bytes l =
    (l.line + length l.rest ≤ 1048577) × (with_front l.events.items (events_from l.line (record { frames = l.frames.items; mode = l.mode; body = map (λ b. b.now) l.body.items }) (lines_of l.rest)) ≡ events_of l.text)

abbrev pub decreases-loop-bytes : goal.decreases-loop-bytes
decreases-loop-bytes l = length l.rest
