-- No disk would leave its zone, and then the rows decide.
use Rattle.std.proofs.Common.{◌≡◌, ◌∙◌, Ok, ap, subst, sym, true}
use Rattle.bosh_manifest.specs.declared.manifest.Contents.{Contents}
use Rattle.bosh_instances.specs.Moving.{disks_stay}
use Rattle.bosh_manifest_names.specs.Answer.{IsAnswer}
use Rattle.bosh_goal.specs.Goal.{rows_of}
use Rattle.bosh_goal.proofs.AnswerLemmas.{then-ok}
use Rattle.bosh_goal.proofs.desired.stay_and_rows.Goals as goal

pub returns : goal.returns
returns c =
    let manifest = c.args.manifest.now in
    let setting = c.args.setting in
    let same = c.contents-contents.ensures.contents in
    let groups : c.as_slice-2.result.now ≡ manifest.groups = c.as_slice-2.ensures ∙ ap (λ (m : Contents). m.groups) same in
    let stay : disks_stay manifest.name setting.view.now.rows manifest.groups ≡ Ok true =
    sym (λ i. disks_stay ((same i).name) (c.as_slice.ensures i) (groups i)) ∙ c.in_ok-check_disks.ensures in
    subst (IsAnswer c.rows_of.result)
    (sym (then-ok (disks_stay manifest.name setting.view.now.rows manifest.groups) true
    (λ _. rows_of manifest.name c.args.groups.now c.args.ties.now setting.recreate setting.view.now) stay))
    (subst (λ (m : Contents). IsAnswer c.rows_of.result (rows_of m.name c.args.groups.now c.args.ties.now setting.recreate setting.view.now)) same
    c.rows_of.ensures)
