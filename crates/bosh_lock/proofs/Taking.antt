-- The steps that take the slot, count the moves of its value, and give it back.
use Rattle.std.proofs.Common.{◌≡◌, ◌≢◌, ℕ, ◌≤◌, true, false, List, [], ◌∷◌, length, get_or, set, Option, Some, sym, refl, ap, ◌∙◌, subst, inl, inr, ⊎_elim, arith, length-set, get_or-set_same, get_or-set_other}
use mathlib.Core.Option.{none, some, some-injective}
use lib.ListN.{get_elem?}
use Rattle.atomic_table.specs.Table.{State, keeps, takes, gives, stepped, put_back, Allows}
use Rattle.std.proofs.lemmas.Bool.{false_from_ne_true}
use Rattle.atomic_table.proofs.Lists.{set_again}
use Rattle.bosh_lock.specs.Extends.{Extends}
use Rattle.bosh_lock.specs.Grows.{Grows, IsHome, IsOut, Knows, shares}
use Rattle.bosh_lock.specs.Steps.{Sat, Takes, Counts, Gives}
use Rattle.bosh_lock.specs.declared.rule.View.{View}
use Rattle.bosh_lock.proofs.Extending.{Extends_refl, Extends_same, Extends_trans}
use Rattle.bosh_lock.proofs.Places.{not_both, each_set, knows_more, seated_set}
use Rattle.bosh_lock.proofs.Shares.{shares_set}

module _ {S I : Type 0} (items_of : S → List I) where
  abbrev St : Type 0
  St = State (Option S) (View I)

  -- the slot is home, and the seat takes it
  taken_home : (s : St) (id n : ℕ) (me : Sat S I) (r : Grows items_of s) (h : IsHome items_of r.items s) → get_elem? s.views id ≡ some me.0 → n ≢ 0 → 1 ≤ me.0.share
      → Grows items_of (stepped s 0 n id me.1 (record me.0 { seen = items_of h.value; holds = true }) (takes 0 (Some h.value)))
  taken_home s id n me r h at up some_share =
      let w : View I = record me.0 { seen = items_of h.value; holds = true } in
      let wide = r.wide in
      let sum = shares_set s.views id me.0 w at in
      let whole = r.whole in
      let mine = r.known id me.0 at in record {
        items = r.items;
        wide = length-set s.words 0 n ∙ r.wide;
        counted = get_or-set_other s.words 0 1 n 0 (λ e. omega arith) ∙ r.counted;
        whole = omega arith;
        known = each_set (λ _ v. Knows r.items v) s.views id w (Extends_same (items_of h.value) r.items h.lists, mine.1) (λ j v _ e. r.known j v e);
        placed = inr record {
          holder = id;
          view = w;
          taken = λ e. up (sym (get_or-set_same s.words 0 n 0 (omega arith)) ∙ e);
          out = ap (λ hs. set hs 0 none) h.home;
          seated = seated_set s.views id me.0 w at;
          held = refl;
          shared = some_share;
          newest = h.lists;
          alone = each_set (λ j v. v.holds ≡ true → j ≡ id) s.views id w (λ _. refl) (λ j v _ e held. absurd (not_both v.holds held (h.unheld j v e)));
        };
      }

  -- the slot is out, and goes on to be
  stays_out : (s : St) (id n : ℕ) (me : Sat S I) (r : Grows items_of s) (o : IsOut {S = S} r.items s) → get_elem? s.views id ≡ some me.0 → n ≢ 0
      → Grows items_of (stepped s 0 n id me.1 me.0 keeps)
  stays_out s id n me r o at up =
      let same = set_again s.views id me.0 at in
      let wide = r.wide in record {
        items = r.items;
        wide = length-set s.words 0 n ∙ r.wide;
        counted = get_or-set_other s.words 0 1 n 0 (λ e. omega arith) ∙ r.counted;
        whole = ap shares same ∙ r.whole;
        known = λ j v e. r.known j v (ap (λ (vs : List (View I)). get_elem? vs j) (sym same) ∙ e);
        placed = inr record {
          holder = o.holder;
          view = o.view;
          taken = λ e. up (sym (get_or-set_same s.words 0 n 0 (omega arith)) ∙ e);
          out = o.out;
          seated = ap (λ (vs : List (View I)). get_elem? vs o.holder) same ∙ o.seated;
          held = o.held;
          shared = o.shared;
          newest = o.newest;
          alone = λ j v e. o.alone j v (ap (λ (vs : List (View I)). get_elem? vs j) (sym same) ∙ e);
        };
      }

  -- whatever number other than 0 comes to stand there
  pub takes_slot : (slots id : ℕ) (me : Sat S I) (f : ℕ → ℕ) → ((n : ℕ) → f n ≢ 0) → 1 ≤ me.0.share
      → Allows (Grows items_of) slots id me 0 f (Takes items_of me)
  takes_slot slots id me f up some_share s r _ at _ = let n : ℕ = get_or s.words 0 0 in ⊎_elim
      (λ h. (
        record me.0 { seen = items_of h.value; holds = true },
        takes 0 (Some h.value),
        ap (λ hs. get_elem? hs 0) h.home,
        taken_home s id (f n) me r h at (up n) some_share,
        (
          (λ _. (h.value, refl, Extends_trans me.0.seen r.items (items_of h.value) (r.known id me.0 at).0 (Extends_same r.items (items_of h.value) (sym h.lists)))),
          λ taken. absurd (taken h.free),
        ),
      ))
      (λ o. (me.0, keeps, tt, stays_out s id (f n) me r o at (up n), ((λ free. absurd (o.taken free)), λ _. refl))) r.placed

  -- the holder counts the moves of the value that it has
  pub counts_moves : (slots id : ℕ) (me : Sat S I) (value : S) (n : ℕ) → me.0.holds ≡ true → me.1 ≡ (0, Some value) ∷ [] → Extends me.0.seen (items_of value)
      → n ≡ length (items_of value) → Allows (Grows items_of) slots id me 1 (λ _. n) (λ _. Counts items_of me)
  counts_moves slots id me value n held carried longer long s r _ at _ = ⊎_elim
      (λ h. absurd (not_both me.0.holds held (h.unheld id me.0 at)))
      (λ o.
      let mine : id ≡ o.holder = o.alone id me.0 at held in
      let view : o.view ≡ me.0 = some-injective o.view me.0 (sym o.seated ∙ (ap (λ k. get_elem? s.views k) (sym mine) ∙ at)) in
      let list : r.items ≡ me.0.seen = sym o.newest ∙ ap (λ (v : View I). v.seen) view in
      let more : Extends r.items (items_of value) = Extends_trans r.items me.0.seen (items_of value) (Extends_same r.items me.0.seen list) longer in
      let w : View I = record me.0 { seen = items_of value } in
      let sum = shares_set s.views id me.0 w at in
      let wide = r.wide in
      let whole = r.whole in (
        w,
        keeps,
        tt,
        record {
          items = items_of value;
          wide = length-set s.words 1 n ∙ r.wide;
          counted = get_or-set_same s.words 1 n 0 (omega arith) ∙ long;
          whole = omega arith;
          known = each_set (λ _ v. Knows (items_of value) v) s.views id w
              (Extends_refl (items_of value), Extends_trans me.0.joined r.items (items_of value) (r.known id me.0 at).1 more)
              (λ j v _ e. knows_more r.items (items_of value) more v (r.known j v e));
          placed = inr record {
            holder = id;
            view = w;
            taken = λ e. o.taken (sym (get_or-set_other s.words 1 0 n 0 (λ z. omega arith)) ∙ e);
            out = o.out;
            seated = seated_set s.views id me.0 w at;
            held = held;
            shared = subst (λ (v : View I). 1 ≤ v.share) view o.shared;
            newest = refl;
            alone = each_set (λ j v. v.holds ≡ true → j ≡ id) s.views id w (λ _. refl) (λ j v _ e held'. o.alone j v e held' ∙ sym mine);
          };
        },
        λ other is. ap (λ (c : List (ℕ × Option S)). (record me.0 { seen = items_of (held_of value c) }, me.1)) (sym carried ∙ is),
      )) r.placed
    where
      held_of : S → List (ℕ × Option S) → S
      held_of d [] = d
      held_of d (x ∷ xs) = found d x.1
        where
          found : S → Option S → S
          found d (Some y) = y
          found d _ = d

  -- the holder gives the slot back
  pub gives_back : (slots id : ℕ) (me : Sat S I) (value : S) → me.0.holds ≡ true → me.1 ≡ (0, Some value) ∷ [] → me.0.seen ≡ items_of value
      → Allows (Grows items_of) slots id me 0 (λ _. 0) (λ _. Gives me)
  gives_back slots id me value held carried newest s r _ at _ = ⊎_elim
      (λ h. absurd (not_both me.0.holds held (h.unheld id me.0 at)))
      (λ o.
      let mine : id ≡ o.holder = o.alone id me.0 at held in
      let view : o.view ≡ me.0 = some-injective o.view me.0 (sym o.seated ∙ (ap (λ k. get_elem? s.views k) (sym mine) ∙ at)) in
      let list : r.items ≡ me.0.seen = sym o.newest ∙ ap (λ (v : View I). v.seen) view in
      let w : View I = record me.0 { holds = false } in
      let sum = shares_set s.views id me.0 w at in
      let wide = r.wide in
      let whole = r.whole in (
        w,
        gives,
        tt,
        record {
          items = r.items;
          wide = length-set s.words 0 0 ∙ r.wide;
          counted = get_or-set_other s.words 0 1 0 0 (λ e. omega arith) ∙ r.counted;
          whole = omega arith;
          known = each_set (λ _ v. Knows r.items v) s.views id w (r.known id me.0 at) (λ j v _ e. r.known j v e);
          placed = inl record {
            value = value;
            lists = sym newest ∙ sym list;
            free = get_or-set_same s.words 0 0 0 (omega arith);
            home = ap (put_back s.homes) carried ∙ ap (λ hs. set hs 0 (some (Some value))) o.out;
            unheld = each_set (λ _ v. v.holds ≡ false) s.views id w refl
                (λ j v apart e. false_from_ne_true v.holds (λ is. apart (o.alone j v e is ∙ sym mine)));
          };
        },
        refl,
      )) r.placed
