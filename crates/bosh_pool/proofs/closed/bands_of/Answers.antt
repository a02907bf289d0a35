-- The bands in their order are the reserved and the static ones.
use Rattle.std.proofs.Common.{◌≡◌, ◌++◌, ◌||◌, ap, sym, ◌∙◌}
use Rattle.std.proofs.lemmas.List.Sorted.{list_any-IsPermutation}
use Rattle.bosh_base.specs.Plan.{is_in_some, is_within}
use Rattle.std.proofs.lemmas.List.Folds.{list_any-append}
use Rattle.bosh_pool.proofs.closed.bands_of.Goals as goal

pub returns-clause-closed : goal.returns-clause-closed
returns-clause-closed c = λ addr.
    let whole : c.extend_from_slice.new.self.items ≡ c.in_ok-bands.bands.items ++ c.args.subnet.now.fixed = c.in_ok-extend_from_slice.ensures.items ∙ ap (λ xs. c.in_ok-bands.bands.items ++ xs) c.as_slice.ensures in
    ap (is_in_some addr) c.from.ensures
    ∙ sym (list_any-IsPermutation (λ band. is_within addr band) _ _ c.in_ok-in_order.ensures.same)
    ∙ ap (is_in_some addr) whole
    ∙ list_any-append (λ band. is_within addr band) c.in_ok-bands.bands.items c.args.subnet.now.fixed
    ∙ ap (λ b. b || is_in_some addr c.args.subnet.now.fixed) (c.in_ok-bands.ensures addr)
