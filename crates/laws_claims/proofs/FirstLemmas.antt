-- The first item that gives an entry.
use Rattle.std.proofs.Common.{◌≡◌, ◌∙◌, ℕ, Bool, true, false, List, [], ◌∷◌, Option, Some, None, ap, refl, sym, inl}
use Rattle.std.proofs.Common.{inr}
use Rattle.std.specs.Prelude.{◌⊎◌, is_some, if◌then◌else◌}
use Rattle.std.proofs.lemmas.Bool.{false≢true}
use Rattle.bosh_base.specs.declared.entry.Entry.{Entry}
use Rattle.bosh_base.specs.declared.owner.Owner.{Owner}
use Rattle.bosh_history.specs.Claim.{Noted, Over, first_item, is_passed, item, or_next}
use Rattle.bosh_history.specs.Moments.{Moment}
use Rattle.bosh_history.specs.Steps.{call_now}
use Rattle.laws_items.specs.Lists.{IsIn}
use Rattle.laws_claims.specs.Quiet.{is_given}

module _ (m : Moment) (t worker : ℕ) where
  -- what an owner gives
  abbrev pub entry_of : Owner → Option Entry
  entry_of owner = item m t worker owner (call_now m t owner)

  -- the owner is not passed over, and gives an entry
  pub record Gives (owner : Owner) : Type 0 where
    pub unpassed : is_passed m t owner ≡ false
    pub entry : is_some (entry_of owner) ≡ true

  -- where one of the owners gives an entry, one is given
  pub first_gives : (owner : Owner) (owners : List Owner) → IsIn owner owners → Gives owner
      → is_given (first_item m t worker owners) ≡ true
  first_gives owner [] is gives = absurd is
  first_gives owner (other ∷ owners) is gives =
      by (is_passed m t other) refl (entry_of other) refl is (λ is. first_gives owner owners is gives)
    where
      by : (b : Bool) → is_passed m t other ≡ b → (entry : Option Entry) → entry_of other ≡ entry
          → (other ≡ owner) ⊎ IsIn owner owners
          → (IsIn owner owners → is_given (first_item m t worker owners) ≡ true)
          → is_given (if b then first_item m t worker owners else or_next (first_item m t worker owners) entry) ≡ true
      by true passed entry is (inl same) more =
          absurd (false≢true (sym (ap (is_passed m t) same ∙ gives.unpassed) ∙ passed))
      by true passed entry is (inr is_in) more = more is_in
      by false passed (Some entry) is is_in more = refl
      by false passed None is (inl same) more =
          absurd (false≢true (sym (ap is_some is) ∙ ap (λ o. is_some (entry_of o)) same ∙ gives.entry))
      by false passed None is (inr is_in) more = more is_in

  -- the owner that gave an entry
  pub record GaveBy (owners : List Owner) (entry : Entry) : Type 0 where
    pub owner : Owner
    pub is_in : IsIn owner owners
    pub unpassed : is_passed m t owner ≡ false
    pub gave : entry_of owner ≡ Some entry

  pub first_gave : (owners : List Owner) (entry : Entry) → first_item m t worker owners ≡ Noted entry
      → GaveBy owners entry
  first_gave [] entry is = absurd cc
  first_gave (other ∷ owners) entry is =
      by (is_passed m t other) refl (entry_of other) refl is (first_gave owners entry)
    where
      later : GaveBy owners entry → GaveBy (other ∷ owners) entry
      later it = record { owner = it.owner; is_in = inr it.is_in; unpassed = it.unpassed; gave = it.gave }

      by : (b : Bool) → is_passed m t other ≡ b → (given : Option Entry) → entry_of other ≡ given
          → (if b then first_item m t worker owners else or_next (first_item m t worker owners) given) ≡ Noted entry
          → (first_item m t worker owners ≡ Noted entry → GaveBy owners entry) → GaveBy (other ∷ owners) entry
      by true passed given is noted more = later (more noted)
      by false unpassed (Some given) is noted more =
          let same : given ≡ entry = cc in
          record { owner = other; is_in = inl refl; unpassed = unpassed; gave = is ∙ ap Some same }
      by false unpassed None is noted more = later (more noted)

  -- while something is left a task is not over
  pub not_over : (owners : List Owner) → first_item m t worker owners ≡ Over → ⊥
  not_over [] is = cc
  not_over (other ∷ owners) is = by (is_passed m t other) (entry_of other) is (not_over owners)
    where
      by : (b : Bool) (given : Option Entry)
          → (if b then first_item m t worker owners else or_next (first_item m t worker owners) given) ≡ Over
          → (first_item m t worker owners ≡ Over → ⊥) → ⊥
      by true given over more = more over
      by false (Some given) over more = cc
      by false None over more = more over
