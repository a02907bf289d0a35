-- A work more, where its key is new.
use Rattle.std.proofs.Common.{◌≡◌, ◌∙◌, ◌++◌, ◌∷◌, [], false, true, ap, refl, subst, sym}
use Rattle.std.specs.BTreeSet.{UpdatesBy, contains}
use Rattle.bosh_base.specs.declared.key.Key.{Key}
use Rattle.bosh_base.specs.declared.key.KeyWork.{KeyWork}
use Rattle.bosh_compile.specs.CompileOrder.{key_cmp}
use Rattle.bosh_keys.specs.Works.{work_of}
use Rattle.bosh_keys.specs.declared.gathered.Gathered.{Gathered}
use Rattle.bosh_keys.proofs.GatherLemmas.{Adds-fresh}
use Rattle.bosh_keys.proofs.gathered.Gathered.add_package.Goals as goal

pub returns : goal.returns
returns c =
    let old = c.args.self.now in
    let work = work_of c.args.packages.now c.args.stemcell.now c.args.pack.now in
    let new : Gathered = record { works = c.push.new.self; seen = c.insert.new.self; asked = old.asked } in
    Adds-fresh work old new
    (subst (λ (key : Key). contains key_cmp old.seen key ≡ false) c.in_ok-key.ensures (sym c.contains.ensures ∙ c.if-contains.false))
    (subst (λ (key : Key). UpdatesBy key_cmp (key_cmp key) old.seen new.seen true) c.in_ok-key.ensures c.in_ok-insert.ensures.updates)
    (c.in_ok-push.ensures.items ∙ ap (λ (more : KeyWork). old.works.items ++ more ∷ []) c.in_ok-work_of.ensures)
    refl
