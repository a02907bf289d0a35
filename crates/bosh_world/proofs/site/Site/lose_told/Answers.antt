use Rattle.std.proofs.Common.{◌∙◌, ap, length, refl}
use Rattle.bosh_base.specs.declared.moves.Move.TheVariants as moves
use Rattle.bosh_world.proofs.PushLemmas.{push_comes, push_silent, push_any}
use Rattle.bosh_world.proofs.site.Site.lose_told.Goals as goal

pub invariant_of-self : goal.invariant_of-self
invariant_of-self g c = record {
  is_site = push_any c.args.self.now.history c.push_with.new.self c.args.self.now.book.journal.entries _
      c.lose.new.self.is_stale (moves.Lost c.args.loss) c.push_with.new.self.free _ (record {
        is_of = c.args.self.now.is_site.is_of;
        book_runs = c.args.self.now.is_site.book_runs;
        cloud_runs = λ running. c.in-Ok.ensures.does.notes.1;
      }) c.requires.told.told.no_restart c.requires.told.told.no_halt
      c.push_with.ensures.pushed;
}

pub returns-in-Ok-clause-lost : goal.returns-in-Ok-clause-lost
returns-in-Ok-clause-lost g c = record {
  running = c.requires.running;
  does = c.in-Ok.ensures.does;
  fates = c.lose.ensures.fates;
  comes = push_comes c.args.self.now _ (moves.Lost c.args.loss) c.push_with.new.self.free _ c.requires.told
      (λ j. c.args.self.now.book) c.push_with.ensures.pushed (ap length c.effects-effects.ensures);
  halted = (λ j. (c.push_with.ensures.pushed j).is_halted) ∙ c.requires.running;
  same_book = λ j. c.args.self.now.book;
  same_calls = λ j. c.args.self.now.calls;
  same_armed = λ j. c.args.self.now.traps.items;
  same_opening = λ j. c.args.self.now.opening;
}

pub returns-in-Ok-clause-silent : goal.returns-in-Ok-clause-silent
returns-in-Ok-clause-silent g c =
    push_silent c.args.self.now.history.moves c.push_with.new.self.moves (moves.Lost c.args.loss) refl
    (λ j. (c.push_with.ensures.pushed j).moves)
