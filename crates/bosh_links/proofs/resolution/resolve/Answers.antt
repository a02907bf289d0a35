-- One more consumer is answered.
use Rattle.std.proofs.Common.{◌≡◌, ◌⊎◌, [], ◌++◌, drop, ap, sym, ◌∙◌, Ok, Err, arith, rules, inl, inr, append-nil}
use Rattle.std.specs.Option.{option_to_list}
use Rattle.std.proofs.lemmas.Grind.{common_steps}
use Rattle.bosh_links.specs.Links.{outcome, resolution}
use Rattle.bosh_links.specs.declared.fault.LinkFault.TheVariants.{Memory}
use Rattle.bosh_links.proofs.LinksLemmas.{after, all_tied-more, all_tied-refused}
use Rattle.bosh_links.proofs.resolution.resolve.Goals as goal
use Rattle.bosh_links.proofs.resolution.resolve.Goals.{in-Some+in_ok-push, in_default}

pub returns-in_err-tie : goal.returns-in_err-tie
returns-in_err-tie c =
    let ps = c.args.providers.now in
    let cs = c.args.consumers.now in
    let fault = c.in_err-tie.field-0.0 in
    let tables = c.in_ok-candidates.ensures.ok in
    let refused = all_tied-refused (outcome ps) cs c.loop-consumer.consumer-index c.consumer-item.result c.loop-consumer.ties.items fault c.loop-consumer-test.true c.consumer-item.is c.loop-consumer.invariant in
    let told : (fault ≡ Memory) ⊎ (resolution ps cs ≡ Err fault) =
    elim (c.in_err-tie.ensures ps tables) [ inl m ↦ inl m | inr t ↦ inr (refused t) ] in
    search (rules, told)

pub loop-consumer-preserved : goal.loop-consumer-preserved
loop-consumer-preserved c =
    let ps = c.args.providers.now in
    let tables = c.in_ok-candidates.ensures.ok in
    let told : outcome ps c.consumer-item.result ≡ Ok c.in_ok-tie.field-0 = c.in_ok-tie.ensures ps tables in
    let grown : c.match-branch-3.ties.items ≡ c.loop-consumer.ties.items ++ option_to_list c.in_ok-tie.field-0 =
    elim c.match-branch-3.branch [
      | in-Some+in_ok-push w ↦ ap (λ ties. ties.items) w.ties-is ∙ (w.in_ok-push.ensures.items ∙ ap (λ tie. c.loop-consumer.ties.items ++ option_to_list tie) (sym w.in-Some.is))
      | in_default w ↦ ap (λ ties. ties.items) w.ties-is ∙ (sym (append-nil c.loop-consumer.ties.items) ∙ ap (λ tie. c.loop-consumer.ties.items ++ option_to_list tie) (sym w.in_default.is))
    ] in
    all_tied-more (outcome ps) c.args.consumers.now c.loop-consumer.consumer-index c.consumer-item.result c.loop-consumer.ties.items c.match-branch-3.ties.items c.in_ok-tie.field-0 c.loop-consumer-test.true c.consumer-item.is c.loop-consumer.invariant told grown

pub returns : goal.returns
returns c =
    let end : drop c.loop-consumer.consumer-index c.args.consumers.now ≡ [] = grind (arith, common_steps) in
    (c.loop-consumer.invariant ∙ ap (λ cs. after c.loop-consumer.ties.items (resolution c.args.providers.now cs)) end)
    ∙ ap Ok (append-nil c.loop-consumer.ties.items ∙ sym c.from.ensures)
