-- The ties, then the addresses, and then the whole.
use Rattle.std.proofs.Common.{◌≡◌, ◌∙◌, ◌⊎◌, All, List, Result, Err, Ok, inl, inr, rules, subst, sym}
use Rattle.bosh_base.specs.declared.addr.Addr.{Addr}
use Rattle.bosh_base.specs.declared.link.Tie.{Tie}
use Rattle.bosh_manifest.specs.declared.manifest.Contents.{Contents}
use Rattle.bosh_ties.specs.Links as links
use Rattle.bosh_manifest_names.specs.Answer.{◌>>=◌, IsAnswer}
use Rattle.bosh_manifest_names.specs.declared.fault.GoalFault.{GoalFault}
use Rattle.bosh_manifest_names.specs.declared.fault.GoalFault.TheVariants.{Memory}
use Rattle.bosh_goal.specs.Goal.{addresses, of_used, with_addrs}
use Rattle.bosh_goal.proofs.AnswerLemmas.{then-fault, then-ok}
use Rattle.bosh_goal.proofs.UsedLemmas.{used-zones}
use Rattle.bosh_manifest.specs.Sound.{IsSoundGroup}
use Rattle.bosh_goal.proofs.whole.of_used.Goals as goal

pub returns-in_err-ties : goal.returns-in_err-ties
returns-in_err-ties c =
    let manifest = c.args.manifest.now in
    let setting = c.args.setting in
    let used = c.args.used.now in
    let fault = c.in_err-ties.field-0.0 in
    let told : (fault ≡ Memory) ⊎ (of_used c.args.keys manifest setting.config.now setting.view.now setting.recreate used ≡ Err fault) =
    elim c.in_err-ties.ensures [
      | inl memory ↦ inl memory
      | inr refused ↦
          inr (then-fault (links.ties manifest.name used setting.view.now.known) fault
          (λ tied. addresses manifest setting.config.now setting.view.now >>= λ addrs.
          with_addrs c.args.keys manifest setting.config.now setting.view.now setting.recreate used tied addrs)
          (sym (λ i. links.ties ((c.contents.ensures.contents i).name) used (c.as_slice-known.ensures i)) ∙ refused))
    ] in
    search (rules, told)

pub returns-in_err-addrs : goal.returns-in_err-addrs
returns-in_err-addrs c =
    let manifest = c.args.manifest.now in
    let setting = c.args.setting in
    let used = c.args.used.now in
    let fault = c.in_err-addrs.field-0.0 in
    let tied = c.in_ok-ties.ties in
    let then : List Tie → List Addr → Result _ GoalFault = λ ties addrs. with_addrs c.args.keys manifest setting.config.now setting.view.now setting.recreate used ties addrs in
    let first : links.ties manifest.name used setting.view.now.known ≡ Ok tied =
    sym (λ i. links.ties ((c.contents.ensures.contents i).name) used (c.as_slice-known.ensures i)) ∙ c.in_ok-ties.ensures in
    let told : (fault ≡ Memory) ⊎ (of_used c.args.keys manifest setting.config.now setting.view.now setting.recreate used ≡ Err fault) =
    elim c.in_err-addrs.ensures [
      | inl memory ↦ inl memory
      | inr refused ↦
          inr (then-ok (links.ties manifest.name used setting.view.now.known) tied
          (λ ties. addresses manifest setting.config.now setting.view.now >>= λ addrs. then ties addrs) first
          ∙ then-fault (addresses manifest setting.config.now setting.view.now) fault (then tied) refused)
    ] in
    search (rules, told)

pub returns : goal.returns
returns c =
    let manifest = c.args.manifest.now in
    let setting = c.args.setting in
    let used = c.args.used.now in
    let tied = c.in_ok-ties.ties in
    let addrs = c.in_ok-addrs.addrs in
    let then : List Tie → List Addr → Result _ GoalFault = λ ties there. with_addrs c.args.keys manifest setting.config.now setting.view.now setting.recreate used ties there in
    let first : links.ties manifest.name used setting.view.now.known ≡ Ok tied =
    sym (λ i. links.ties ((c.contents.ensures.contents i).name) used (c.as_slice-known.ensures i)) ∙ c.in_ok-ties.ensures in
    let whole : of_used c.args.keys manifest setting.config.now setting.view.now setting.recreate used ≡ then tied addrs =
    then-ok (links.ties manifest.name used setting.view.now.known) tied
    (λ ties. addresses manifest setting.config.now setting.view.now >>= λ there. then ties there) first
    ∙ then-ok (addresses manifest setting.config.now setting.view.now) addrs (then tied) c.in_ok-addrs.ensures in
    subst (IsAnswer c.with_addrs.result) (sym whole)
    (subst (λ (there : List Addr). IsAnswer c.with_addrs.result (then tied there)) c.as_slice.ensures c.with_addrs.ensures)

pub with_addrs-requires : goal.with_addrs-requires
with_addrs-requires c =
    used-zones c.args.manifest.now.groups c.args.used.now c.requires
    (subst (λ (m : Contents). All IsSoundGroup m.groups) c.contents.ensures.contents c.contents.ensures.sound.each_group)
