use Rattle.std.proofs.Common.{subst, sym}
use Rattle.bosh_release_order.specs.Graph.{HasNoCycle}
use Rattle.bosh_sound.specs.Needs.{KnowAll}
use Rattle.bosh_sound.specs.Places.{IsGraphOf, texts_of}
use Rattle.bosh_sound.proofs.EachLemmas.{none_of, ok_weaker, some_of}
use Rattle.bosh_sound.proofs.NeedLemmas.{free_at, sound_at}
use Rattle.bosh_sound.proofs.needs.are_needs_sound.Goals as goal

pub returns-in-None-clause-no : goal.returns-in-None-clause-no
returns-in-None-clause-no c = λ no sound.
    none_of c.in_ok-graph.field-0 _ _ c.in-None.is c.in_ok-graph.ensures
    (subst (λ names. KnowAll names c.args.packages.now) (sym c.requires.names) sound.known)

pub returns-in-Some-clause-no : goal.returns-in-Some-clause-no
returns-in-Some-clause-no c =
    let of : IsGraphOf (texts_of c.args.names.now) c.args.packages.now c.in-Some.graph =
    some_of c.in_ok-graph.field-0 c.in-Some.graph _ _ c.in-Some.is c.in_ok-graph.ensures in
    ok_weaker c.has_no_cycle.result _ _ (λ yes h no sound. h no
    (subst HasNoCycle (sym c.as_slice.ensures)
    (free_at (texts_of c.args.names.now) c.args.packages.now c.in-Some.graph c.requires.names of sound)))
    c.has_no_cycle.ensures.no

pub returns-in-Some-clause-yes : goal.returns-in-Some-clause-yes
returns-in-Some-clause-yes c =
    let of : IsGraphOf (texts_of c.args.names.now) c.args.packages.now c.in-Some.graph =
    some_of c.in_ok-graph.field-0 c.in-Some.graph _ _ c.in-Some.is c.in_ok-graph.ensures in
    ok_weaker c.has_no_cycle.result _ _ (λ yes h is.
    sound_at (texts_of c.args.names.now) c.args.packages.now c.in-Some.graph c.requires.names c.requires.order of
    (subst HasNoCycle c.as_slice.ensures (h is)))
    c.has_no_cycle.ensures.yes
