use Rattle.std.proofs.Common.{◌∙◌, ap, length, refl}
use Rattle.bosh_base.specs.Call.{method_of}
use Rattle.bosh_base.specs.declared.moves.Move.TheVariants as moves
use Rattle.bosh_calls.specs.Calls.{with_performed}
use Rattle.bosh_traps.specs.Traps.{traps_after}
use Rattle.bosh_world.proofs.PushLemmas.{push_comes, push_silent, push_any}
use Rattle.bosh_world.proofs.site.Site.hold.Goals as goal

pub invariant_of-self : goal.invariant_of-self
invariant_of-self g c = record {
  is_site = push_any c.args.self.now.history c.push_with-place.new.self c.args.self.now.book.journal.entries _
      c.args.self.now.cloud.is_stale (moves.Did c.args.did) c.push_with-place.new.self.free _ c.args.self.now.is_site
      c.requires.told.told.no_restart c.requires.told.told.no_halt
      c.push_with-place.ensures.pushed;
}

pub returns-clause-holds : goal.returns-clause-holds
returns-clause-holds g c = record {
  comes = push_comes c.args.self.now _ (moves.Did c.args.did) c.push_with-place.new.self.free _ c.requires.told
      (λ j. c.args.self.now.book) c.push_with-place.ensures.pushed (ap length c.effects-effects.ensures);
  moves = λ j. (c.push_with-place.ensures.pushed j).moves;
  calls = c.perform.ensures
      ∙ ap (λ m. with_performed m c.push_with-place.result c.args.self.now.calls.unsettled) c.n.ensures
      ∙ ap (λ p. with_performed c.args.permit.now.n p c.args.self.now.calls.unsettled) c.push_with-place.ensures.place;
  halted = λ j. (c.push_with-place.ensures.pushed j).is_halted;
  armed = c.see.ensures
      ∙ ap (λ m. traps_after m c.owner.result.now c.args.self.now.traps.items) (c.method.ensures ∙ ap method_of c.call.ensures)
      ∙ ap (λ o. traps_after (method_of c.args.permit.now.call) o c.args.self.now.traps.items) c.owner.ensures;
  same_book = λ j. c.args.self.now.book;
  same_cloud = λ j. c.args.self.now.cloud;
  same_opening = λ j. c.args.self.now.opening;
}

pub returns-clause-silent : goal.returns-clause-silent
returns-clause-silent g c =
    push_silent c.args.self.now.history.moves c.push_with-place.new.self.moves (moves.Did c.args.did) refl
    (λ j. (c.push_with-place.ensures.pushed j).moves)
