-- An entry that is noted keeps the facts on the numbers of effects.
use Rattle.std.proofs.Common.{◌≡◌, ◌∙◌, ℕ, Bool, true, false, ◌&&◌, not, Option, Some, None, List, [], ◌∷◌}
use Rattle.std.proofs.Common.{ap, refl, sym, arith, inl, inr}
use Rattle.std.specs.Prelude.{◌⊎◌, ◌+◌, ◌||◌, ◌==◌, eqb, if◌then◌else◌, is_some, nat_le}
use Rattle.std.specs.List.{list_all}
use Rattle.std.specs.Str.{bytes_eq}
use Rattle.std.proofs.lemmas.Bool.{and_from, and_parts, eq-eqb, false≢true}
use Rattle.std.proofs.lemmas.Bool.Decides.{eqb_tells}
use Rattle.bosh_base.specs.declared.call.Call.{Call}
use Rattle.bosh_base.specs.declared.entry.Begin.{Begin}
use Rattle.bosh_base.specs.declared.entry.Entry.{Entry}
use Rattle.bosh_base.specs.declared.entry.Entry.TheVariants as entries
use Rattle.bosh_base.specs.declared.owner.Owner.{Owner}
use Rattle.bosh_base.specs.declared.row.Doubt.{Doubt}
use Rattle.bosh_history.specs.Learn.{learn}
use Rattle.bosh_history.specs.Moments.{Moment, OpenCall, calls_after, dep_of, noting}
use Rattle.bosh_history.specs.Notes.{Begins, MayNote, Outside}
use Rattle.bosh_rows.specs.Same.{same_owner}
use Rattle.bosh_rows.specs.Standing.{same_truth}
use Rattle.laws_cloud.proofs.DoubtFrames.{doubts_begin, doubts_note}
use Rattle.laws_cloud.proofs.OwnerFrames.{dep_begins, dep_doubt, dep_open, where_each, where_some}
use Rattle.laws_cloud.proofs.TellLemmas.{call_self, same_owner_itself}
use Rattle.laws_effects.specs.Orderly.{is_of_call, is_taken}
use Rattle.laws_facts.specs.Facts.{Holds}
use Rattle.laws_facts.specs.Numbers.{EffectFacts, has_effect, is_call_done_as_told, is_done_as_told, is_doubt_its_own}
use Rattle.laws_facts.specs.Numbers.{is_open_for}
use Rattle.laws_facts.specs.Owners.{doubt_of}
use Rattle.laws_items.proofs.ItemLemmas.{LeavesOpen}
use Rattle.laws_items.proofs.RowFrames.{is_beginning}
use Rattle.laws_row_facts.specs.Numbers.{is_effect_of}
use Rattle.laws_row_facts.specs.Words.{implies, same_call, where_any}

-- the next number is not taken
not_past : (n last : ℕ) (is_open taken : Bool)
    → ((nat_le 1 n && nat_le n last) || (not is_open && not taken)) ≡ true → n ≡ last + 1 → taken ≡ false
not_past n last is_open taken past next = grind (arith, past, next)

later_than : (n old last : ℕ) → nat_le old last ≡ true → n ≡ last + 1 → eqb n old ≡ false
later_than n old last past next = grind (arith, past, next, eqb_tells n old)

-- a number that is not taken
untaken_all : (n : ℕ) (owner : Owner) (dep : List ℕ) (call : Call) (xs : List Entry) → is_taken xs n ≡ false
    → list_all (is_effect_of n owner dep call) xs ≡ true
untaken_all n owner dep call [] none = refl
untaken_all n owner dep call (x ∷ xs) none =
    let parts : (is_of_call n x ≡ false) × (is_taken xs n ≡ false) = neither (is_of_call n x) (is_taken xs n) none in
    and_from (is_effect_of n owner dep call x) _ (by x parts.0) (untaken_all n owner dep call xs parts.1)
  where
    neither : (a b : Bool) → (a || b) ≡ false → (a ≡ false) × (b ≡ false)
    neither true b is = absurd (false≢true (sym is))
    neither false b is = (refl, is)

    by : (x : Entry) → is_of_call n x ≡ false → is_effect_of n owner dep call x ≡ true
    by (entries.Effect e) other =
        λ j. implies (other j) (same_owner e.owner owner && (bytes_eq e.dep dep && same_call e.call call))
    by x other = refl

module _ (outside : Outside) (m : Moment) (h : Holds m) where
  -- the call of a number is open as it was, or no more
  fewer : (e : Entry) → is_beginning e ≡ false → (n : ℕ)
      → (calls_after e m.calls n ≡ None) ⊎ ((calls_after e m.calls n ≡ m.calls n) × LeavesOpen e n)
  fewer (entries.Begin b) other n = absurd (false≢true (sym other))
  fewer (entries.End e) other n = by (eqb e.n n) refl
    where
      by : (same : Bool) → eqb e.n n ≡ same
          → ((if eqb e.n n then None else m.calls n) ≡ None)
          ⊎ (((if eqb e.n n then None else m.calls n) ≡ m.calls n) × ((e.n == n) ≡ false))
      by true same = inl (λ j. if same j then None else m.calls n)
      by false apart = inr ((λ j. if apart j then None else m.calls n), apart)
  fewer e other n = inr (refl, tt)

  told_call : (e : Entry) → MayNote outside m e → (n : ℕ) (call : OpenCall) → m.calls n ≡ Some call → LeavesOpen e n
      → is_done_as_told (noting m e) call ≡ true
  told_call e may n call is other =
      (λ j. list_all
      (is_effect_of call.begin.n call.begin.owner (dep_open outside m h e may n call is other j) call.begin.call)
      m.effects
      && same_truth (is_taken m.effects call.begin.n) (has_effect call.did))
      ∙ where_some (is_done_as_told m) (m.calls n) call (h.effects.done_as_told n) is

  told_note : (e : Entry) → MayNote outside m e → is_beginning e ≡ false → (n : ℕ)
      → is_call_done_as_told (noting m e) n ≡ true
  told_note e may none n = by (fewer e none n)
    where
      by : (calls_after e m.calls n ≡ None) ⊎ ((calls_after e m.calls n ≡ m.calls n) × LeavesOpen e n)
          → where_any (is_done_as_told (noting m e)) (calls_after e m.calls n) ≡ true
      by (inl gone) = ap (where_any (is_done_as_told (noting m e))) gone
      by (inr (same, other)) =
          ap (where_any (is_done_as_told (noting m e))) same
          ∙ where_each (is_done_as_told (noting m e)) (m.calls n) (λ call is. told_call e may n call is other)

  -- the parts of what is known of a call in doubt
  pub doubt_parts : (owner : Owner) (dt : Doubt) → doubt_of m.known owner ≡ Some dt
      → (list_all (is_effect_of dt.n owner (dep_of m.known owner) dt.call) m.effects ≡ true)
      × (where_any (is_open_for owner dt.call) (m.calls dt.n) ≡ true)
  doubt_parts owner dt is =
      and_parts (list_all (is_effect_of dt.n owner (dep_of m.known owner) dt.call) m.effects) _
      (where_some
      (λ it. list_all (is_effect_of it.n owner (dep_of m.known owner) it.call) m.effects
      && where_any (is_open_for owner it.call) (m.calls it.n))
      (doubt_of m.known owner) dt (h.effects.doubts_own owner) is)

  -- what is asked of a call in doubt, with the deployments that owners had
  abbrev own_then : Entry → Owner → Option Doubt → Bool
  own_then e owner doubt =
      where_any
      (λ it. list_all (is_effect_of it.n owner (dep_of m.known owner) it.call) m.effects
      && where_any (is_open_for owner it.call) (calls_after e m.calls it.n))
      doubt

  own_note : (e : Entry) → MayNote outside m e → is_beginning e ≡ false → (owner : Owner)
      → is_doubt_its_own (noting m e) owner ≡ true
  own_note e may none owner =
      where_each
      (λ it. list_all (is_effect_of it.n owner (dep_of (learn m.known e) owner) it.call) m.effects
      && where_any (is_open_for owner it.call) (calls_after e m.calls it.n))
      (doubt_of (learn m.known e) owner)
      (λ dt is.
      (λ j. list_all (is_effect_of dt.n owner (dep_doubt outside m h e may none owner dt is j) dt.call) m.effects
      && where_any (is_open_for owner dt.call) (calls_after e m.calls dt.n))
      ∙ where_some _ (doubt_of (learn m.known e) owner) dt
      (doubts_note (own_then e) (λ o. refl) outside m e may none old owner) is)
    where
      open_still : (o : Owner) (dt : Doubt) → where_any (is_open_for o dt.call) (m.calls dt.n) ≡ true
          → where_any (is_open_for o dt.call) (calls_after e m.calls dt.n) ≡ true
      open_still o dt was = by (fewer e none dt.n)
        where
          by : (calls_after e m.calls dt.n ≡ None) ⊎ ((calls_after e m.calls dt.n ≡ m.calls dt.n) × LeavesOpen e dt.n)
              → where_any (is_open_for o dt.call) (calls_after e m.calls dt.n) ≡ true
          by (inl gone) = ap (where_any (is_open_for o dt.call)) gone
          by (inr (same, other)) = ap (where_any (is_open_for o dt.call)) same ∙ was

      old : (o : Owner) → own_then e o (doubt_of m.known o) ≡ true
      old o =
          where_each
          (λ it. list_all (is_effect_of it.n o (dep_of m.known o) it.call) m.effects
          && where_any (is_open_for o it.call) (calls_after e m.calls it.n))
          (doubt_of m.known o)
          (λ dt is.
          and_from (list_all (is_effect_of dt.n o (dep_of m.known o) dt.call) m.effects) _ (doubt_parts o dt is).0
          (open_still o dt (doubt_parts o dt is).1))

  -- a call begins
  module _ (b : Begin) (may : Begins m b) where
    pub new_number : is_taken m.effects b.n ≡ false
    new_number =
        not_past b.n m.known.last_call (is_some (m.calls b.n)) (is_taken m.effects b.n) (h.known.numbers.past b.n)
        may.number

    told_begin : (n : ℕ) → is_call_done_as_told (noting m (entries.Begin b)) n ≡ true
    told_begin n = by (eqb b.n n) refl
      where
        now : Moment
        now = noting m (entries.Begin b)

        by : (same : Bool) → eqb b.n n ≡ same
            → where_any (is_done_as_told (noting m (entries.Begin b)))
            (if same then Some (record { begin = b; did = None }) else m.calls n) ≡ true
        by true same =
            and_from
            (list_all (is_effect_of b.n b.owner (dep_of (learn m.known (entries.Begin b)) b.owner) b.call) m.effects)
            (same_truth (is_taken m.effects b.n) false)
            (untaken_all b.n b.owner (dep_of (learn m.known (entries.Begin b)) b.owner) b.call m.effects new_number)
            (λ j. same_truth (new_number j) false)
        by false other =
            where_each (is_done_as_told (noting m (entries.Begin b))) (m.calls n)
            (λ call is. told_call (entries.Begin b) may n call is tt)

    own_begin : (owner : Owner) → is_doubt_its_own (noting m (entries.Begin b)) owner ≡ true
    own_begin owner =
        where_each
        (λ it. list_all (is_effect_of it.n owner (dep_of (learn m.known (entries.Begin b)) owner) it.call) m.effects
        && where_any (is_open_for owner it.call) (calls_after (entries.Begin b) m.calls it.n))
        (doubt_of (learn m.known (entries.Begin b)) owner)
        (λ dt is.
        (λ j. list_all (is_effect_of dt.n owner (dep_begins m b owner j) dt.call) m.effects
        && where_any (is_open_for owner dt.call) (calls_after (entries.Begin b) m.calls dt.n))
        ∙ where_some _ (doubt_of (learn m.known (entries.Begin b)) owner) dt
        (doubts_begin (own_then (entries.Begin b)) (λ o. refl) m b new old owner) is)
      where
        new : own_then (entries.Begin b) b.owner (Some (record { n = b.n; call = b.call })) ≡ true
        new =
            and_from (list_all (is_effect_of b.n b.owner (dep_of m.known b.owner) b.call) m.effects) _
            (untaken_all b.n b.owner (dep_of m.known b.owner) b.call m.effects new_number)
            ((λ j. where_any (is_open_for b.owner b.call)
            (if eq-eqb b.n b.n refl j then Some (record { begin = b; did = None }) else m.calls b.n))
            ∙ and_from (same_owner b.owner b.owner) _ (same_owner_itself b.owner) (call_self b.call))

        apart : (o : Owner) (dt : Doubt) → doubt_of m.known o ≡ Some dt → eqb b.n dt.n ≡ false
        apart o dt is =
            let past : nat_le dt.n m.known.last_call ≡ true =
            where_some (λ it. nat_le it.n m.known.last_call) (doubt_of m.known o) dt (h.known.numbers.doubts_past o) is
            in
            later_than b.n dt.n m.known.last_call past may.number

        old : (o : Owner) → own_then (entries.Begin b) o (doubt_of m.known o) ≡ true
        old o =
            where_each
            (λ it. list_all (is_effect_of it.n o (dep_of m.known o) it.call) m.effects
            && where_any (is_open_for o it.call) (calls_after (entries.Begin b) m.calls it.n))
            (doubt_of m.known o)
            (λ dt is.
            and_from (list_all (is_effect_of dt.n o (dep_of m.known o) dt.call) m.effects) _ (doubt_parts o dt is).0
            ((λ j. where_any (is_open_for o dt.call)
            (if apart o dt is j then Some (record { begin = b; did = None }) else m.calls dt.n))
            ∙ (doubt_parts o dt is).1))

  pub noted : (e : Entry) → MayNote outside m e → EffectFacts (noting m e)
  noted (entries.Begin b) may = record { done_as_told = told_begin b may; doubts_own = own_begin b may }
  noted (entries.Snapshot s) may = absurd may
  noted e may = record { done_as_told = told_note e may refl; doubts_own = own_note e may refl }
