-- The first entry that a want may have is the one that it keeps.
use Rattle.std.proofs.Common.{Bool, List, ap, ◌∙◌, find, map}
use denote.Ref.{Bor}
use Rattle.bosh_base.specs.declared.view.Held.{Held}
use Rattle.bosh_pool.specs.Table.{is_open_to}
use Rattle.bosh_pool.proofs.TableLemmas.{kept_found}
use Rattle.bosh_pool.proofs.kept.kept_entry.Goals as goal

pub returns-in-None : goal.returns-in-None
returns-in-None c = λ taken kept are.
    let want = c.args.want.now in
    let test : Held → Bool = is_open_to c.args.plan.now c.args.entries.now.taken want in
    ap (find test) c.in-None.ensures ∙ kept_found c.args.plan.now taken kept c.args.entries.now want are

pub returns-in-Some : goal.returns-in-Some
returns-in-Some c = λ taken kept are.
    let want = c.args.want.now in
    let test : Held → Bool = is_open_to c.args.plan.now c.args.entries.now.taken want in
    c.first_open.ensures ∙ ap (λ (entries : List (Bor Held)). find test (map (λ entry. entry.now) entries)) c.as_slice.ensures.value
    ∙ ap (find test) c.in-Some.ensures ∙ kept_found c.args.plan.now taken kept c.args.entries.now want are
