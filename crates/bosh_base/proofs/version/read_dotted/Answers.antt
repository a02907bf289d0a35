use Rattle.std.proofs.Common.{◌≡◌, ◌∙◌, sym, ap, rules, Some, None}
use Rattle.std.specs.Option.{option_copied}
use Rattle.bosh_base.proofs.VersionLemmas.{IsReadTo-more, IsReadTo-last, IsReadTo-bad, IsReadTo-many}
use Rattle.bosh_base.proofs.version.read_dotted.Goals as goal

pub returns-in_err-numbers : goal.returns-in_err-numbers
returns-in_err-numbers c =
    let none : c.read_number.result ≡ None = search rules in
    let given : c.from_residual.result ≡ None = search rules in
    given ∙ IsReadTo-bad _ _ c.cut.result.0.now _ _ _ c.loop-k.invariant c.cut.ensures.before (sym c.read_number.ensures ∙ none) (sym c.cut.ensures.after)

pub returns-in-None : goal.returns-in-None
returns-in-None c =
    let some : c.read_number.result ≡ Some c.in_ok-numbers.field-0 = search rules in
    IsReadTo-last _ _ c.cut.result.0.now _ _ _ c.loop-k.invariant c.loop-k-test.true c.cut.ensures.before (sym c.read_number.ensures ∙ some) (sym c.cut.ensures.after ∙ ap option_copied c.in-None.is)

pub loop-k-preserved : goal.loop-k-preserved
loop-k-preserved c =
    let some : c.read_number.result ≡ Some c.in_ok-numbers.field-0 = search rules in
    IsReadTo-more _ _ _ c.cut.result.0.now _ _ _ c.loop-k.invariant c.loop-k-test.true c.cut.ensures.before (sym c.read_number.ensures ∙ some) (sym c.cut.ensures.after ∙ ap option_copied c.in-Some.is)

pub returns : goal.returns
returns c = IsReadTo-many _ _ _ _ c.loop-k.invariant c.loop-k-test.false
