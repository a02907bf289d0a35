use Rattle.std.proofs.Common.{◌∷◌, [], ◌++◌, refl, subst, sym}
use Rattle.std.proofs.lemmas.List.Elements.{All-push}
use Rattle.bosh_alike.specs.Alike.{AreAlike}
use Rattle.bosh_release.specs.Sound.{IsSound}
use Rattle.cases_views.specs.Fit.{AreFit}
use Rattle.cases_views.proofs.uploads.Uploads.add.Goals as goal

pub stay_alike-requires : goal.stay_alike-requires
stay_alike-requires c = subst AreAlike (sym c.as_slice.ensures.value) c.self.invariant.alike

pub invariant_of-self-2 : goal.invariant_of-self-2
invariant_of-self-2 c = subst AreFit (sym c.in_ok-push.ensures.items) (record {
  sound = All-push IsSound _ _ c.self.invariant.sound c.requires;
  alike = subst (λ xs. AreAlike (xs ++ c.args.release ∷ [])) c.as_slice.ensures.value (c.if-not-stay_alike.ensures.alike refl);
})
