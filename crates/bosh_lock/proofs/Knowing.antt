-- The steps that only look, and those that cut views in two and make two views one.
use Rattle.std.proofs.Common.{◌≡◌, ◌⊎◌, if◌then◌else◌, slice_index, ℕ, ◌^◌, Bool, true, false, List, [], ◌∷◌, ◌++◌, length, get_or, set, Option, Some, sym, refl, ap, ◌∙◌, subst, inl, inr, ⊎_elim, arith, length-set, get_or-set_same, get_or-set_other, ltb}
use mathlib.Core.Option.{some, some-injective}
use lib.ListN.{get_elem?}
use Rattle.atomic_table.specs.Table.{State, keeps, stepped, Allows, Splits, Joins}
use Rattle.std.proofs.lemmas.Bool.{false_from_ne_true}
use Rattle.atomic_table.proofs.Lists.{set_again, set_else, at_longer, at_snoc}
use Rattle.bosh_lock.specs.Extends.{Extends}
use Rattle.bosh_lock.specs.Grows.{Grows, IsHome, IsOut, Knows, shares}
use Rattle.bosh_lock.specs.Steps.{Sat, Looks, Stays, Weighs, kept_half, given_half, both_views, spent_view}
use Rattle.bosh_lock.specs.declared.rule.View.{View}
use Rattle.bosh_lock.proofs.Extending.{Extends_refl, Extends_beside}
use Rattle.bosh_lock.proofs.Places.{not_both, each_set, each_last}
use Rattle.bosh_lock.proofs.Shares.{shares_set, shares_last, share_within, two_within}

module _ {S I : Type 0} (items_of : S → List I) where
  abbrev St : Type 0
  St = State (Option S) (View I)

  -- the slot stays where it is: neither its word nor who holds it changes
  stays_placed : (s t : St) (items : List I) → slice_index t.words 0 ≡ slice_index s.words 0 → t.homes ≡ s.homes
      → ((j : ℕ) (v : View I) → get_elem? s.views j ≡ some v → v.holds ≡ true → get_elem? t.views j ≡ some v)
      → ((j : ℕ) (v : View I) → get_elem? t.views j ≡ some v → v.holds ≡ true → get_elem? s.views j ≡ some v)
      → IsHome items_of items s ⊎ IsOut items s → IsHome items_of items t ⊎ IsOut items t
  stays_placed s t items word homes there here = ⊎_elim
      (λ h. inl record {
        value = h.value;
        lists = h.lists;
        free = word ∙ h.free;
        home = homes ∙ h.home;
        unheld = λ j v e. false_from_ne_true v.holds (λ is. not_both v.holds is (h.unheld j v (here j v e is)));
      })
      (λ o. inr record {
        holder = o.holder;
        view = o.view;
        taken = λ e. o.taken (sym word ∙ e);
        out = homes ∙ o.out;
        seated = there o.holder o.view o.seated o.held;
        held = o.held;
        shared = o.shared;
        newest = o.newest;
        alone = λ j v e is. o.alone j v (here j v e is) is;
      })

  -- a view that holds nothing before and after
  there_still : (views : List (View I)) (id : ℕ) (v w : View I) → get_elem? views id ≡ some v → v.holds ≡ false
      → (j : ℕ) (u : View I) → get_elem? views j ≡ some u → u.holds ≡ true → get_elem? (set views id w) j ≡ some u
  there_still views id v w at idle j u e held = set_else views id j w (λ same.
      absurd (not_both u.holds held (ap (λ (x : View I). x.holds) (some-injective u v (sym e ∙ (ap (λ k. get_elem? views k) same ∙ at))) ∙ idle))) ∙ e

  here_before : (views : List (View I)) (id : ℕ) (w : View I) → w.holds ≡ false
      → (j : ℕ) (u : View I) → get_elem? (set views id w) j ≡ some u → u.holds ≡ true → get_elem? views j ≡ some u
  here_before views id w idle = each_set (λ j u. u.holds ≡ true → get_elem? views j ≡ some u) views id w
      (λ held. absurd (not_both w.holds held idle)) (λ j u _ e _. e)

  -- the seat looks how long the list is
  pub looks_on : (slots id : ℕ) (me : Sat S I) → me.0.holds ≡ false
      → Allows (Grows items_of) slots id me 1 (λ n. n) (Looks me)
  looks_on slots id me idle s r _ at _ =
      let n : ℕ = get_or s.words 1 0 in
      let w : View I = record me.0 { seen = r.items } in
      let t : St = stepped s 1 n id me.1 w keeps in
      let sum = shares_set s.views id me.0 w at in
      let wide = r.wide in
      let whole = r.whole in (
        w,
        keeps,
        tt,
        record {
          items = r.items;
          wide = length-set s.words 1 n ∙ r.wide;
          counted = get_or-set_same s.words 1 n 0 (omega arith) ∙ r.counted;
          whole = omega arith;
          known = each_set (λ _ v. Knows r.items v) s.views id w (Extends_refl r.items, (r.known id me.0 at).1) (λ j v _ e. r.known j v e);
          placed = stays_placed s t r.items (get_or-set_other s.words 1 0 n 0 (λ e. omega arith)) refl
              (there_still s.views id me.0 w at idle) (here_before s.views id w idle) r.placed;
        },
        ((r.items, refl, (r.known id me.0 at).0), r.counted),
      )

  -- a word past the second changes, and nothing else
  pub stays_put : (slots id : ℕ) (me : Sat S I) (f : ℕ → ℕ) → Allows (Grows items_of) slots id me 2 f (λ _. Stays me)
  stays_put slots id me f s r _ at _ =
      let n : ℕ = f (get_or s.words 2 0) in
      let same = set_again s.views id me.0 at in
      let t : St = stepped s 2 n id me.1 me.0 keeps in
      let wide = r.wide in (
        me.0,
        keeps,
        tt,
        record {
          items = r.items;
          wide = length-set s.words 2 n ∙ r.wide;
          counted = get_or-set_other s.words 2 1 n 0 (λ e. omega arith) ∙ r.counted;
          whole = ap shares same ∙ r.whole;
          known = λ j v e. r.known j v (ap (λ (vs : List (View I)). get_elem? vs j) (sym same) ∙ e);
          placed = stays_placed s t r.items (get_or-set_other s.words 2 0 n 0 (λ e. omega arith)) refl
              (λ j v e _. ap (λ (vs : List (View I)). get_elem? vs j) same ∙ e)
              (λ j v e _. ap (λ (vs : List (View I)). get_elem? vs j) (sym same) ∙ e) r.placed;
        },
        refl,
      )

  -- nothing changes, and the seat finds what the rule says of it
  pub weighs_in : (slots id : ℕ) (me : Sat S I) → Allows (Grows items_of) slots id me 2 (λ n. n) (λ _. Weighs me)
  unfolding stays_put
  weighs_in slots id me s r wide at small =
      let stays = stays_put slots id me (λ n. n) s r wide at small in
      let mine = r.known id me.0 at in
      let within = share_within s.views id me.0 at in
      let whole = r.whole in (
        me.0,
        keeps,
        tt,
        stays.3,
        (refl, omega arith, Extends_beside me.0.joined me.0.seen r.items mine.1 mine.0),
      )

  -- a view is cut in two
  pub cuts_in_two : (id : ℕ) (v : View I) → v.holds ≡ false → Splits (Grows items_of) id v (kept_half v) (given_half v)
  cuts_in_two id v idle s r at =
      let w : View I = kept_half v in
      let u : View I = given_half v in
      let t : St = record { words = s.words; homes = s.homes; views = set s.views id w ++ u ∷ [] } in
      let sum = shares_set s.views id v w at in
      let more = shares_last (set s.views id w) u in
      let whole = r.whole in record {
        items = r.items;
        wide = r.wide;
        counted = r.counted;
        whole = omega arith;
        known = each_last (Knows r.items) (set s.views id w) u (r.known id v at)
            (each_set (λ _ x. Knows r.items x) s.views id w (r.known id v at) (λ j x _ e. r.known j x e));
        placed = stays_placed s t r.items refl refl
            (λ j x e held. at_longer (set s.views id w) (u ∷ []) j x (there_still s.views id v w at idle j x e held))
            (λ j x e held. here_before s.views id w idle j x (⊎_elim (λ a. a) (λ same. absurd (not_both x.holds held (ap (λ (y : View I). y.holds) (sym same) ∙ idle))) (at_snoc (set s.views id w) u x j e)) held)
            r.placed;
      }

  known_both : (items : List I) (v w : View I) → Knows items v → Knows items w → Knows items (both_views v w)
  known_both items v w a b = cases (ltb (length v.seen) (length w.seen))
    where
      cases : (less : Bool) → Extends (if less then w.seen else v.seen) items × Extends (if less then v.seen else w.seen) items
      cases true = (b.0, a.0)
      cases false = (a.0, b.0)

  -- two views are made one
  pub makes_one : (id : ℕ) (v : View I) (other : ℕ) (w : View I) → v.holds ≡ false → w.holds ≡ false
      → Joins (Grows items_of) id v other w (both_views v w) spent_view
  makes_one id v other w idle idle' s r at apart at' =
      let b : View I = both_views v w in
      let middle : List (View I) = set s.views id b in
      let was : get_elem? s.views other ≡ some w = sym (set_else s.views id other b apart) ∙ at' in
      let t : St = record { words = s.words; homes = s.homes; views = set middle other spent_view } in
      let sum = shares_set s.views id v b at in
      let sum' = shares_set middle other w spent_view at' in
      let whole = r.whole in record {
        items = r.items;
        wide = r.wide;
        counted = r.counted;
        whole = omega arith;
        known = each_set (λ _ x. Knows r.items x) middle other spent_view ((r.items, refl), (r.items, refl))
            (λ j x _ e. each_set (λ _ y. Knows r.items y) s.views id b (known_both r.items v w (r.known id v at) (r.known other w was)) (λ k y _ f. r.known k y f) j x e);
        placed = stays_placed s t r.items refl refl
            (λ j x e held. there_still middle other w spent_view at' idle' j x (there_still s.views id v b at idle j x e held) held)
            (λ j x e held. here_before s.views id b idle j x (here_before middle other spent_view refl j x e held) held)
            r.placed;
      }

  -- who has all, and holds nothing, finds the slot at home, with a value whose list extends what he has seen
  pub closes_home : (id : ℕ) (v : View I) (s : St) → v.share ≡ 2 ^ 32 → v.holds ≡ false → Grows items_of s → get_elem? s.views id ≡ some v
      → (value : S) × (s.homes ≡ some (Some value) ∷ []) × Extends v.seen (items_of value)
  closes_home id v s all idle r at = ⊎_elim
      (λ h. (h.value, h.home, subst (Extends v.seen) (sym h.lists) (r.known id v at).0))
      (λ o.
      let two = two_within s.views id o.holder v o.view at o.seated (λ same. not_both o.view.holds o.held
      (ap (λ (x : View I). x.holds) (some-injective o.view v (sym o.seated ∙ (ap (λ k. get_elem? s.views k) same ∙ at))) ∙ idle)) in
      let some_share = o.shared in
      let whole = r.whole in absurd (omega arith)) r.placed
