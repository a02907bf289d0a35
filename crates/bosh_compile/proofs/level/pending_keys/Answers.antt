use Rattle.std.proofs.Common.{◌+◌, ◌<◌, Bool, true, Vec, Global, length, sym, subst, arith}
use Rattle.std.proofs.lemmas.List.{length-set}
use Rattle.bosh_compile.specs.declared.level.Progress.{Progress}
use Rattle.bosh_compile.specs.declared.table.Node.{Node}
use Rattle.bosh_compile.proofs.PassLemmas.{IsPendingSoFar, one_more_marked, one_more_other}
use Rattle.bosh_compile.proofs.level.pending_keys.Goals as goal
use Rattle.bosh_compile.proofs.level.pending_keys.Goals.{then-progress-place, else-progress-place}

pub loop-place-preserved : goal.loop-place-preserved
loop-place-preserved c =
    let nodes = c.args.nodes.now in
    let progress = c.args.progress.now in
    let place = c.loop-place.place in
    let pending = c.loop-place.pending.items in
    let node = c.index-nodes-place.result in
    let start : Progress = record { level = 0; met = 0 } in
    let before = c.loop-place.invariant in
    let in_progress : place < length progress = omega arith in
    let key : node.key < length nodes = subst (λ (n : Node). n.key < length nodes) (sym c.index-nodes-place.is) (c.requires.in_range place node c.loop-place-test.true) in
    let in_pending : node.key < length pending = omega (arith, before.same_length) in
    elim c.if-progress-place.branch [
      | then-progress-place w ↦ subst (λ (v : Vec Bool Global). IsPendingSoFar nodes progress c.args.round (place + 1) v.items) (sym w.pending-is)
          (one_more_marked nodes progress c.args.round place pending before node c.index-nodes-place.is c.loop-place-test.true in_progress start in_pending w.if-progress-place.true (length-set pending node.key true))
      | else-progress-place w ↦ subst (λ (v : Vec Bool Global). IsPendingSoFar nodes progress c.args.round (place + 1) v.items) (sym w.pending-is)
          (one_more_other nodes progress c.args.round place pending before node c.index-nodes-place.is c.loop-place-test.true in_progress start w.if-progress-place.false)
    ]

pub returns : goal.returns
returns c =
    let seen = c.loop-place.invariant in
    record {
      same_length = seen.same_length;
      marked = λ place d e low is. seen.marked place d e (omega arith) is;
      only = λ key d e is. let found = seen.only key d e is in (found.0, omega (arith, found.1), found.2, found.3);
    }
