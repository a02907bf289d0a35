-- One place more is looked at, until none is left.
use Rattle.std.proofs.Common.{◌≡◌, ◌∙◌, ap, subst, ℕ, ◌-◌, ◌<◌, List, [], ◌++◌, length, take}
use Rattle.std.proofs.lemmas.List.{get_or_default}
use Rattle.bosh_release_order.specs.Graph.{needs_of}
use Rattle.bosh_release_order.specs.Search.{Notes}
use Rattle.bosh_release_order.proofs.SearchLemmas.{popped_within, search_end, search_start, search_turn}
use Rattle.bosh_release_order.proofs.search.reach.Goals as goal

pub loop-at-init : goal.loop-at-init
loop-at-init c =
    let graph = c.args.graph.now in
    let found0 = c.in_ok-found.found.items in
    let found = c.note.new.found.items in
    let work = c.note.new.work.items in
    let needs : c.as_slice.result.now ≡ needs_of graph c.args.place =
    c.as_slice.ensures ∙ c.index-graph-place.is ∙ get_or_default graph c.args.place c.index-graph-place.result [] c.requires.place in
    search_start graph c.args.place found0 found work
    c.requires.graph c.requires.place (c.in_ok-found.ensures.items_if_clones_equal (λ _ e. e))
    (subst (λ ns. Notes ns found0 [] found work) needs
    (subst (λ ws. Notes c.as_slice.result.now found0 ws found work) c.new-work.ensures.items c.in_ok-note.ensures))

pub loop-at-preserved : goal.loop-at-preserved
loop-at-preserved c =
    let graph = c.args.graph.now in
    let at = c.in-Some.at in
    let work0 = c.loop-at.work.items in
    let work1 = c.pop.new.self.items in
    let found0 = c.loop-at.found.items in
    let found = c.note-in-Some.new.found.items in
    let work = c.note-in-Some.new.work.items in
    let within : at < length graph = popped_within graph c.args.place at found0 work0 work1 c.loop-at.invariant c.in-Some.ensures.items in
    let needs : c.as_slice-in-Some.result.now ≡ needs_of graph at =
    c.as_slice-in-Some.ensures ∙ c.index-graph-at.is ∙ get_or_default graph at c.index-graph-at.result [] within in
    search_turn graph c.args.place at found0 found work0 work1 work c.requires.graph c.loop-at.invariant c.in-Some.ensures.items
    (subst (λ ns. Notes ns found0 work1 found work) needs c.in_ok-note-2.ensures)

pub returns : goal.returns
returns c =
    let work = c.loop-at.work.items in
    search_end c.args.graph.now c.args.place c.loop-at.found.items work c.loop-at.invariant
    (c.in_default.ensures.items
    ∙ ap (λ (ws : List ℕ). ws ++ []) (c.in_default.ensures.rest ∙ ap (λ (n : ℕ). take (n - 1) work) c.in_default.ensures.cases.0))
