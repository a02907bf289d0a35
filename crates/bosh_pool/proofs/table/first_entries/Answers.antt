use Rattle.std.proofs.Common.{◌≡◌, ◌+◌, ◌∷◌, [], ◌++◌, ap, sym, subst, take, ◌∙◌}
use Rattle.std.specs.Prelude.{List}
use Rattle.std.proofs.lemmas.List.{take_more}
use Rattle.bosh_base.specs.declared.view.Held.{Held}
use Rattle.bosh_pool.specs.Table.{FirstEntries}
use Rattle.bosh_pool.proofs.TableLemmas.{FirstEntries-put}
use Rattle.bosh_pool.proofs.table.first_entries.Goals as goal

pub loop-held-preserved : goal.loop-held-preserved
loop-held-preserved c =
    let i = c.loop-held.held-index in
    let helds = c.args.helds.now in
    let held = c.held-item.result in
    let more : take i helds ++ held ∷ [] ≡ take (i + 1) helds = sym (take_more helds i held c.loop-held-test.true ∙ ap (λ h. take i helds ++ h ∷ []) (sym c.held-item.is)) in
    subst (λ (xs : List Held). FirstEntries xs c.note_first.new.table) more
    (FirstEntries-put (take i helds) held c.loop-held.table c.note_first.new.table c.in_ok-note_first.ensures c.loop-held.invariant)
