use Rattle.std.proofs.Common.{◌∷◌, ◌++◌, [], ◌∙◌, ap, refl}
use Rattle.std.specs.Prelude.{List}
use Rattle.bosh_base.specs.declared.moves.Move.TheVariants as moves
use Rattle.bosh_base.specs.declared.moves.Said as said
use Rattle.bosh_world.proofs.PushLemmas.{comes_then, push_any, push_comes, push_replies}
use Rattle.bosh_world.proofs.site.Site.say.Goals as goal

pub invariant_of-self : goal.invariant_of-self
invariant_of-self g c = record {
  is_site = push_any c.tell.new.self.history c.push.new.self c.tell.new.self.book.journal.entries _
      c.tell.new.self.cloud.is_stale (moves.Said (record { command = c.args.command; reply = c.args.reply }))
      c.push.new.self.free _ c.tell.new.self.is_site c.in-Ok.ensures.told.told.no_restart
      c.in-Ok.ensures.told.told.no_halt c.push.ensures.pushed;
}

pub returns-in-Ok-clause-said : goal.returns-in-Ok-clause-said
returns-in-Ok-clause-said g c = record {
  comes = comes_then c.args.self.now c.tell.new.self _ _ c.tell.ensures.comes
      (push_comes c.tell.new.self _ (moves.Said (record { command = c.args.command; reply = c.args.reply }))
      c.push.new.self.free _ c.in-Ok.ensures.told (λ j. c.tell.new.self.book) c.push.ensures.pushed refl);
  keeps = record {
    same_book = c.tell.ensures.keeps.same_book;
    same_cloud = c.tell.ensures.keeps.same_cloud;
    same_calls = c.tell.ensures.keeps.same_calls;
    same_armed = c.tell.ensures.keeps.same_armed;
    same_opening = c.tell.ensures.keeps.same_opening;
    same_halt = (λ j. (c.push.ensures.pushed j).is_halted) ∙ c.tell.ensures.keeps.same_halt;
  };
}

pub returns-in-Ok-clause-replies : goal.returns-in-Ok-clause-replies
returns-in-Ok-clause-replies g c =
    push_replies c.tell.new.self.history.moves c.push.new.self.moves
    (moves.Said (record { command = c.args.command; reply = c.args.reply })) (λ j. (c.push.ensures.pushed j).moves)
    ∙ ap (λ (before : List said.Said). before ++ record { command = c.args.command; reply = c.args.reply } ∷ [])
    c.tell.ensures.silent
