-- One more consumer is answered.
use Rattle.std.proofs.Common.{◌≡◌, ◌⊎◌, [], ◌++◌, drop, ap, sym, ◌∙◌, Ok, Err, arith, rules, inl, inr, append-nil}
use Rattle.std.specs.Option.{option_to_list}
use Rattle.std.proofs.lemmas.Grind.{common_steps}
use Rattle.bosh_links.proofs.LinksLemmas.{after, all_tied-more, all_tied-refused}
use Rattle.bosh_share.specs.Shared.{across_outcome, across_resolution}
use Rattle.bosh_share.specs.declared.fault.ShareFault.TheVariants.{Memory}
use Rattle.bosh_share.proofs.resolution.resolve_across.Goals as goal
use Rattle.bosh_share.proofs.resolution.resolve_across.Goals.{in-Some+in_ok-push, in_default}

pub returns-in_err-tie : goal.returns-in_err-tie
returns-in_err-tie c =
    let known = c.args.known.now in
    let list = c.args.list.now in
    let fault = c.in_err-tie.field-0.0 in
    let refused = all_tied-refused (across_outcome known) list c.loop-across.across-index c.across-item.result c.loop-across.ties.items fault c.loop-across-test.true c.across-item.is c.loop-across.invariant in
    let told : (fault ≡ Memory) ⊎ (across_resolution known list ≡ Err fault) =
    elim (c.in_err-tie.ensures known c.in_ok-directory.ensures.ok) [ inl m ↦ inl m | inr t ↦ inr (refused t) ] in
    search (rules, told)

pub loop-across-preserved : goal.loop-across-preserved
loop-across-preserved c =
    let known = c.args.known.now in
    let told : across_outcome known c.across-item.result ≡ Ok c.in_ok-tie.field-0 = c.in_ok-tie.ensures known c.in_ok-directory.ensures.ok in
    let grown : c.match-branch-3.ties.items ≡ c.loop-across.ties.items ++ option_to_list c.in_ok-tie.field-0 =
    elim c.match-branch-3.branch [
      | in-Some+in_ok-push w ↦ ap (λ ties. ties.items) w.ties-is ∙ (w.in_ok-push.ensures.items ∙ ap (λ tie. c.loop-across.ties.items ++ option_to_list tie) (sym w.in-Some.is))
      | in_default w ↦ ap (λ ties. ties.items) w.ties-is ∙ (sym (append-nil c.loop-across.ties.items) ∙ ap (λ tie. c.loop-across.ties.items ++ option_to_list tie) (sym w.in_default.is))
    ] in
    all_tied-more (across_outcome known) c.args.list.now c.loop-across.across-index c.across-item.result c.loop-across.ties.items c.match-branch-3.ties.items c.in_ok-tie.field-0 c.loop-across-test.true c.across-item.is c.loop-across.invariant told grown

pub returns : goal.returns
returns c =
    let end : drop c.loop-across.across-index c.args.list.now ≡ [] = grind (arith, common_steps) in
    (c.loop-across.invariant ∙ ap (λ list. after c.loop-across.ties.items (across_resolution c.args.known.now list)) end)
    ∙ ap Ok (append-nil c.loop-across.ties.items ∙ sym c.from.ensures)
