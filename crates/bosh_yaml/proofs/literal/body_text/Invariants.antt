use Rattle.std.proofs.Common.{◌≡◌, ◌++◌, ◌≤◌, drop, map}
use Rattle.bosh_yaml.specs.Literal.{body_text}
use Rattle.bosh_yaml.proofs.literal.body_text.Given as goal

abbrev pub invariant-loop-line : goal.invariant-loop-line
invariant-loop-line l =
    (l.ends ≤ l.line-index) × (l.text.items ++ body_text l.indent l.ends (map (λ l. l.now) (drop l.line-index l.lines)) ≡ body_text l.indent 0 (map (λ l. l.now) l.lines))
