use Rattle.std.proofs.Common.{◌∙◌, sym}
use Rattle.bosh_book.proofs.GrantLemmas.{begins_refused, granted_dep, granted_for}
use Rattle.bosh_book.specs.Current.{dep_of}
use Rattle.bosh_book.proofs.book.Book.grant.Goals as goal

pub returns-in-Err-clause-begins : goal.returns-in-Err-clause-begins
returns-in-Err-clause-begins g c =
    begins_refused g.K.Keeper.bodies g.K.Keeper.faults c.args.begin.now
    (dep_of c.args.self.now.records c.args.begin.now.owner) c.args.self.now c.in-Err.ensures.some

pub permit-requires-clause-for_begin : goal.permit-requires-clause-for_begin
permit-requires-clause-for_begin g c =
    granted_for c.args.begin.now (dep_of c.args.self.now.records c.args.begin.now.owner) c.in-Ok-Some.granted
    (sym c.in-Ok-Some.field-0-is ∙ c.in-Ok-Some.ensures.granted)

pub permit-requires-clause-of_dep : goal.permit-requires-clause-of_dep
permit-requires-clause-of_dep g c =
    granted_dep c.args.begin.now (dep_of c.args.self.now.records c.args.begin.now.owner) c.in-Ok-Some.granted
    (sym c.in-Ok-Some.field-0-is ∙ c.in-Ok-Some.ensures.granted)
