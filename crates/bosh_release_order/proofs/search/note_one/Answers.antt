use Rattle.std.proofs.Common.{◌∙◌, ◌∷◌, [], sym, subst, false, true, set}
use Rattle.std.proofs.lemmas.List.{get_or_default}
use Rattle.bosh_release_order.specs.Search.{Notes}
use Rattle.bosh_release_order.proofs.SearchLemmas.{notes_known, notes_new}
use Rattle.bosh_release_order.proofs.search.note_one.Goals as goal

pub returns-then-index : goal.returns-then-index
returns-then-index c =
    notes_known c.args.need c.args.found.now.items c.args.work.now.items
    (get_or_default c.args.found.now.items c.args.need false c.index.result.now c.requires ∙ sym c.index.ensures ∙ c.if-index.true)

pub returns : goal.returns
returns c =
    let found = c.args.found.now.items in
    let need = c.args.need in
    let work = c.args.work.now.items in
    subst (λ ws. Notes (need ∷ []) found work (set found need true) ws) (sym c.in_ok-push.ensures.items)
    (notes_new need found work c.requires
    (get_or_default found need false c.index.result.now c.requires ∙ sym c.index.ensures ∙ c.if-index.false))
