use Rattle.std.proofs.Common.{◌≡◌, ◌∙◌, sym, ap, subst, add-one, suc, ◌+◌, length, take, drop, List, [], ◌∷◌, ◌++◌, Bool, false, refl, ℕ, ◌<◌, ◌≤◌, map, arith}
use Rattle.std.specs.List.{All, list_any}
use Rattle.std.proofs.lemmas.Result.{IfOk-weaker}
use Rattle.bosh_compile.specs.declared.level.Progress.{Progress}
use Rattle.bosh_compile.specs.declared.table.Node.{Node}
use Rattle.bosh_compile.specs.Rounds.{IsAfter, IsPending, IsFitting, AllAdvance, last_level}
use Rattle.bosh_compile.proofs.ProgressLemmas.{all_start, at_rest, at_the_end, length_nodes, none_came, keys_fit, fitting, one_round_more}
use Rattle.bosh_compile.proofs.level.levels_of.Goals as goal

take_front : (xs ys : List Progress) → take (length xs) (xs ++ ys) ≡ xs
take_front [] ys = refl
take_front (x ∷ xs) ys = ap (λ (zs : List Progress). x ∷ zs) (take_front xs ys)

pub loop-round-init : goal.loop-round-init
loop-round-init c = (c.in_ok-nodes.ensures, all_start c.args.works.now c.in_ok-nodes.nodes.items c.in_ok-nodes.ensures c.in_ok-progress.progress.items (c.in_ok-progress.ensures.items_if_clones_equal (λ _ e. e)))

pub loop-round-preserved : goal.loop-round-preserved
loop-round-preserved c =
    let works = c.args.works.now in
    let nodes = c.in_ok-nodes.nodes.items in
    let round = c.loop-round.round in
    let before = c.loop-round.progress.items in
    let pending = c.in_ok-pending.pending.items in
    let next = c.advance.new.progress in
    let graph = c.loop-round.invariant.0 in
    let seen : IsPending nodes before round pending =
    subst (λ (ns : List Node). IsPending ns before round pending) c.deref.ensures.value
    (subst (λ (ps : List Progress). IsPending c.deref.result.now ps round pending) c.deref-in-loop-round.ensures.value c.in_ok-pending.ensures) in
    let all : AllAdvance round nodes pending before next =
    subst (λ (ns : List Node). AllAdvance round ns pending before next) c.deref-in-loop-round-2.ensures.value
    (subst (λ (bs : List Bool). AllAdvance round c.deref-in-loop-round-2.result.now bs before next) c.deref-in-loop-round-3.ensures.value
    (subst (λ (ps : List Progress). AllAdvance round c.deref-in-loop-round-2.result.now c.deref-in-loop-round-3.result.now ps next) c.deref_mut.ensures.value c.advance.ensures)) in
    let after : IsAfter works nodes graph.number (suc round) next = one_round_more works nodes graph round before c.loop-round.invariant.1 pending seen next all in
    let count : length next ≡ c.loop-round.progress.len = c.advance.ensures.same_length ∙ c.deref_mut.ensures.len in
    let written : take c.loop-round.progress.len (next ++ drop (length next) before) ≡ next =
    ap (λ (n : ℕ). take n (next ++ drop (length next) before)) (sym count) ∙ take_front next (drop (length next) before) in (
      graph,
      subst (λ (ps : List Progress). IsAfter works nodes graph.number (round + 1) ps) (sym written)
          (subst (λ (n : ℕ). IsAfter works nodes graph.number n next) (sym (add-one round)) after),
    )

pub pending_keys-requires-clause-same_length : goal.pending_keys-requires-clause-same_length
pending_keys-requires-clause-same_length c =
    ap length c.deref.ensures.value ∙ length_nodes c.args.works.now c.in_ok-nodes.nodes.items c.loop-round.invariant.0 ∙ sym c.loop-round.invariant.1.same_length ∙ ap length (sym c.deref-in-loop-round.ensures.value)

pub pending_keys-requires-clause-in_range : goal.pending_keys-requires-clause-in_range
pending_keys-requires-clause-in_range c =
    subst (λ (ns : List Node). All (λ node. node.key < length ns) ns) (sym c.deref.ensures.value) (keys_fit c.args.works.now c.in_ok-nodes.nodes.items c.loop-round.invariant.0)

pub advance-requires-clause-same_length : goal.advance-requires-clause-same_length
advance-requires-clause-same_length c =
    ap length c.deref-in-loop-round-2.ensures.value ∙ length_nodes c.args.works.now c.in_ok-nodes.nodes.items c.loop-round.invariant.0 ∙ sym c.loop-round.invariant.1.same_length ∙ ap length (sym c.deref_mut.ensures.value)

pub advance-requires-clause-fitting : goal.advance-requires-clause-fitting
advance-requires-clause-fitting c =
    let works = c.args.works.now in
    let nodes = c.in_ok-nodes.nodes.items in
    let round = c.loop-round.round in
    let before = c.loop-round.progress.items in
    let pending = c.in_ok-pending.pending.items in
    let graph = c.loop-round.invariant.0 in
    let seen : IsPending nodes before round pending =
    subst (λ (ns : List Node). IsPending ns before round pending) c.deref.ensures.value
    (subst (λ (ps : List Progress). IsPending c.deref.result.now ps round pending) c.deref-in-loop-round.ensures.value c.in_ok-pending.ensures) in
    subst (λ (ns : List Node). IsFitting ns (length c.deref-in-loop-round-3.result.now) c.deref_mut.result.now) (sym c.deref-in-loop-round-2.ensures.value)
    (subst (λ (bs : List Bool). IsFitting nodes (length bs) c.deref_mut.result.now) (sym c.deref-in-loop-round-3.ensures.value)
    (subst (λ (ps : List Progress). IsFitting nodes (length pending) ps) (sym c.deref_mut.ensures.value) (fitting works nodes graph round before c.loop-round.invariant.1 pending seen)))

pub returns : goal.returns
returns c =
    let works = c.args.works.now in
    let all : c.loop-round.round ≡ length works = omega arith in
    let found = at_the_end works c.in_ok-nodes.nodes.items c.loop-round.invariant.0 c.loop-round.round c.loop-round.progress.items c.loop-round.invariant.1 all in
    IfOk-weaker c.levels_in-2.result (λ levels. levels ≡ map (λ (each : Progress). each.level) c.deref-2.result.now) (λ levels. levels ≡ map (last_level works) works)
    (λ levels is. is ∙ ap (map (λ (each : Progress). each.level)) c.deref-2.ensures.value ∙ found) c.levels_in-2.ensures

pub returns-then-not-is_some_pending : goal.returns-then-not-is_some_pending
returns-then-not-is_some_pending c =
    let works = c.args.works.now in
    let nodes = c.in_ok-nodes.nodes.items in
    let graph = c.loop-round.invariant.0 in
    let round = c.loop-round.round in
    let progress = c.loop-round.progress.items in
    let pending = c.in_ok-pending.pending.items in
    let seen : IsPending nodes progress round pending =
    subst (λ (ns : List Node). IsPending ns progress round pending) c.deref.ensures.value
    (subst (λ (ps : List Progress). IsPending c.deref.result.now ps round pending) c.deref-in-loop-round.ensures.value c.in_ok-pending.ensures) in
    let none : list_any (λ is. is) pending ≡ false =
    ap (list_any (λ is. is)) (sym c.as_slice.ensures.value) ∙ (sym c.is_some_pending.ensures ∙ c.if-not-is_some_pending.true) in
    let fits : round ≤ length works = omega arith in
    let found = at_rest works nodes graph round progress c.loop-round.invariant.1 (none_came works nodes graph round progress c.loop-round.invariant.1 pending seen none) fits in
    IfOk-weaker c.levels_in.result (λ levels. levels ≡ map (λ (each : Progress). each.level) c.as_slice-then-not-is_some_pending.result.now) (λ levels. levels ≡ map (last_level works) works)
    (λ levels is. is ∙ ap (map (λ (each : Progress). each.level)) c.as_slice-then-not-is_some_pending.ensures.value ∙ found) c.levels_in.ensures
