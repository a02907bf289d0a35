use Rattle.std.proofs.Common.{◌≡◌, ◌∙◌, List, [], ◌∷◌, ◌++◌, ap, map, refl, subst, sym}
use denote.Ref.{Bor}
use Rattle.bosh_base.specs.declared.release.PackageSpec.{PackageSpec}
use Rattle.bosh_instances.specs.Known.{AreKnown}
use Rattle.bosh_instances.proofs.KnownLemmas.{known-more, with_package-known, with_package-new}
use Rattle.bosh_instances.proofs.known.add.Goals as goal

pushed : (packs : List (Bor PackageSpec)) (pack : Bor PackageSpec) → map (λ p. p.now) (packs ++ pack ∷ []) ≡ map (λ p. p.now) packs ++ pack.now ∷ []
pushed [] pack = refl
pushed (one ∷ packs) pack = ap (λ ps. one.now ∷ ps) (pushed packs pack)

pub returns-in_ok-push : goal.returns-in_ok-push
returns-in_ok-push c = λ before are same.
    let pack = c.args.pack.now in
    let id = c.id_of-id.result in
    let new = with_package-new before pack id c.args.known.now c.id_of-id.ensures are (sym c.if-not-contains_key.ensures) in (
      subst (λ (ps : List PackageSpec). AreKnown ps c.insert.new.self) (sym new)
          (known-more before pack id c.args.known.now c.insert.new.self c.id_of-id.ensures c.in_ok-insert.ensures.updates are),
      ap (λ (ps : List (Bor PackageSpec)). map (λ p. p.now) ps) c.in_ok-push.ensures.items
          ∙ (pushed c.args.packages.now.items c.args.pack ∙ (ap (λ (ps : List PackageSpec). ps ++ pack ∷ []) same ∙ sym new)),
    )

pub returns-else-not-contains_key : goal.returns-else-not-contains_key
returns-else-not-contains_key c = λ before are same.
    let known = with_package-known before c.args.pack.now c.id_of-id.result c.args.known.now c.id_of-id.ensures are (sym c.if-not-contains_key.ensures) in
    (subst (λ (ps : List PackageSpec). AreKnown ps c.args.known.now) (sym known) are, same ∙ sym known)
