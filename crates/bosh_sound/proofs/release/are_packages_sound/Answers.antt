use Rattle.std.proofs.Common.{subst, sym, ◌∙◌, ap}
use Rattle.bosh_release.specs.Sound.{names_of}
use Rattle.bosh_release_files.specs.Sources.{IsInOrder}
use Rattle.bosh_sound.proofs.EachLemmas.{ok_weaker}
use Rattle.bosh_sound.proofs.NeedLemmas.{jobs_know_at}
use Rattle.bosh_sound.specs.Needs.{AreNeedsSound}
use Rattle.bosh_sound.specs.Places.{texts_of}
use Rattle.bosh_sound.proofs.release.are_packages_sound.Goals as goal

pub returns-then-not-are_jobs_known-clause-no : goal.returns-then-not-are_jobs_known-clause-no
returns-then-not-are_jobs_known-clause-no c = λ no sound.
    c.are_jobs_known.ensures.no c.if-not-are_jobs_known.true
    (jobs_know_at _ _ _ _
    (sym (ap texts_of c.deref-2.ensures.value ∙ c.in_ok-names.ensures ∙ ap names_of c.as_slice-packages.ensures))
    (sym c.as_slice.ensures) sound.jobs)

pub returns-clause-yes : goal.returns-clause-yes
returns-clause-yes c =
    let names = c.in_ok-names.ensures ∙ ap names_of c.as_slice-packages.ensures in
    ok_weaker c.are_needs_sound.result _ _ (λ yes h is. record {
      order =
          subst IsInOrder (ap texts_of c.deref.ensures.value ∙ names)
          (c.are_in_order.ensures.yes c.if-not-are_in_order.false);
      jobs =
          jobs_know_at _ _ _ _ (ap texts_of c.deref-2.ensures.value ∙ names) c.as_slice.ensures
          (c.are_jobs_known.ensures.yes c.if-not-are_jobs_known.false);
      needs = subst AreNeedsSound c.as_slice-packages.ensures (h is);
    })
    c.are_needs_sound.ensures.yes
