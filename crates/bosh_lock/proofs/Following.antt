-- What follows from the rule of a lock.
use Rattle.std.proofs.Common.{List, length, inl, inr, ⊎_elim, sym, ◌∙◌, arith}
use mathlib.Core.Logic.{dite}
use native.Mathlib.Decide.{dec_le}
use Rattle.bosh_lock.specs.Laws.{HasOneHolder, HasOneList, IsWhole}
use Rattle.bosh_lock.proofs.Extending.{Extends_beside}
use Rattle.bosh_lock.proofs.Places.{not_both}

module _ {S I : Type 0} (items_of : S → List I) where
  pub whole_follows : IsWhole items_of
  whole_follows s r = r.whole

  pub one_holder_follows : HasOneHolder items_of
  one_holder_follows s r i j v w at at' held held' = ⊎_elim
      (λ h. absurd (not_both v.holds held (h.unheld i v at)))
      (λ o. o.alone i v at held ∙ sym (o.alone j w at' held')) r.placed

  pub one_list_follows : HasOneList items_of
  one_list_follows s r i j v w at at' = dite (dec_le (length v.seen) (length w.seen))
      (λ shorter. inl (Extends_beside v.seen w.seen r.items (r.known i v at).0 (r.known j w at').0 shorter))
      (λ longer. inr (Extends_beside w.seen v.seen r.items (r.known j w at').0 (r.known i v at).0 (omega arith)))
