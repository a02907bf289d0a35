-- Each part of a move leaves an instance that is through as its task wants it.
use Rattle.std.proofs.Common.{◌≡◌, ◌∙◌, ℕ, false, sym, arith}
use Rattle.std.proofs.lemmas.Bool.{false≢true}
use Rattle.bosh_history.specs.Moments.{forgetting, Moment}
use Rattle.laws_facts.specs.Owners.{works}
use Rattle.laws_moves.specs.Parts.{Forgotten, IsKeptByParts, Lost, Noted, Performed, Written}
use Rattle.laws_standing.proofs.StandLemmas.{stands_note}
use Rattle.laws_standing.specs.Standing.{StandWhereThrough}

-- once calls are forgotten no task works
pub none_works : (m : Moment) (t : ℕ) → works (forgetting m) t ≡ false
none_works m t = grind (arith)

pub stands_kept : IsKeptByParts StandWhereThrough
stands_kept outside m (Performed d) may h = λ t i working. (h.outcomes t working).stands i
stands_kept outside m (Written w) may h = λ t i working. (h.outcomes t working).stands i
stands_kept outside m (Lost loss) may h = λ t i working. (h.outcomes t working).stands i
stands_kept outside m (Noted e) may h = stands_note outside m e h may.0 may.1
stands_kept outside m Forgotten may h = λ t i working. absurd (false≢true (sym (none_works m t) ∙ working))
