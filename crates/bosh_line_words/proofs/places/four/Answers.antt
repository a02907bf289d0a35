use Rattle.std.proofs.Common.{◌≡◌, ◌∙◌, ap, List, [], ◌∷◌}
use Rattle.bosh_line_words.specs.Words.{Word, words_in}
use Rattle.bosh_line_words.proofs.GrammarLemmas.{fault_taken, refused_taken, told_refused}
use Rattle.bosh_line_words.proofs.places.four.Goals as goal

pub returns-in_err-b-clause-refused : goal.returns-in_err-b-clause-refused
returns-in_err-b-clause-refused g c =
    let taken = c.in_ok-a.ensures.ok in
    let fault = c.in_err-b.field-0.0 in
    told_refused c.from_residual-in_err-b.result fault (g.A.Place.fits ∷ g.B.Place.fits ∷ g.C.Place.fits ∷ g.D.Place.fits ∷ []) (words_in c.args.rest) c.from_residual-in_err-b.ensures.1
    (refused_taken g.A.Place.fits (g.B.Place.fits ∷ g.C.Place.fits ∷ g.D.Place.fits ∷ []) [] (words_in c.args.rest) taken.word (words_in c.in_ok-a.left) fault taken.first taken.suits c.in_err-b.ensures.refused)

pub returns-clause-ok : goal.returns-clause-ok
returns-clause-ok g c =
    let taken = c.in_ok-a.ensures.ok in
    let after = c.in_ok-b.ensures.ok in
    record {
      one = taken.word;
      two = after.one;
      three = after.two;
      four = after.three;
      all = taken.first ∙ ap (λ (ws : List Word). taken.word ∷ ws) after.all;
      means_one = taken.means;
      means_two = after.means_one;
      means_three = after.means_two;
      means_four = after.means_three;
      well = fault_taken g.A.Place.fits (g.B.Place.fits ∷ g.C.Place.fits ∷ g.D.Place.fits ∷ []) [] (words_in c.args.rest) taken.word (words_in c.in_ok-a.left) taken.first taken.suits ∙ after.well;
    }
