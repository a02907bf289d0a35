-- Arrays of fields.
use Rattle.std.proofs.Common.{◌≡◌, ℕ, suc, ◌+◌, Bool, true, ◌&&◌, cond, Option, Some, None, refl, sym, ap, subst, ◌∙◌}
use Rattle.std.proofs.lemmas.Bool.{and_parts, and_from}
use Rattle.std.specs.Option.{is_some}
use Rattle.serde_json.specs.Data.{Data, null, boolean, number, string, array, object, Items, no_items, item}
use Rattle.serde_json.specs.Find.{at, get_item}
use Rattle.cpi_wire.specs.Fields.{field, five_data, five_from, one_data, one_from, pair_at, three_data, three_from, two_data, two_from}
use Rattle.cpi_wire.specs.Reading.{◌>>=◌, Reader}
use Rattle.cpi_wire.proofs.CodingLemmas.{IsCoding, bind_some, some_is}

-- ---- the shape of an array

in_array : (i : ℕ) (d x : Data) → at i d ≡ Some x → (ds : Items) × (d ≡ array ds)
in_array i null x e = absurd cc
in_array i (boolean b) x e = absurd cc
in_array i (number n) x e = absurd cc
in_array i (string s) x e = absurd cc
in_array i (array ds) x e = (ds, refl)
in_array i (object ms) x e = absurd cc

begins : (ds : Items) (x : Data) → get_item 0 ds ≡ Some x → (rest : Items) × (ds ≡ item x rest)
begins no_items x e = absurd cc
begins (item d ds) x e = (ds, ap (λ (y : Data). item y ds) (some_is d x e))

ends : (ds : Items) → get_item 0 ds ≡ None → ds ≡ no_items
ends no_items e = refl
ends (item d ds) e = absurd cc

one_item : (ds : Items) (x : Data) → get_item 0 ds ≡ Some x → get_item 1 ds ≡ None → ds ≡ item x no_items
one_item ds x e last = let b = begins ds x e in b.1 ∙ ap (item x) (ends b.0 (ap (get_item 1) (sym b.1) ∙ last))

two_items : (ds : Items) (x y : Data) → get_item 0 ds ≡ Some x → get_item 1 ds ≡ Some y → get_item 2 ds ≡ None → ds ≡ item x (item y no_items)
two_items ds x y e f last = let b = begins ds x e in b.1 ∙ ap (item x) (one_item b.0 y (ap (get_item 1) (sym b.1) ∙ f) (ap (get_item 2) (sym b.1) ∙ last))

three_items : (ds : Items) (x y z : Data) → get_item 0 ds ≡ Some x → get_item 1 ds ≡ Some y → get_item 2 ds ≡ Some z → get_item 3 ds ≡ None → ds ≡ item x (item y (item z no_items))
three_items ds x y z e f g last = let b = begins ds x e in b.1 ∙ ap (item x) (two_items b.0 y z (ap (get_item 1) (sym b.1) ∙ f) (ap (get_item 2) (sym b.1) ∙ g) (ap (get_item 3) (sym b.1) ∙ last))

four_items : (ds : Items) (x y z u : Data) → get_item 0 ds ≡ Some x → get_item 1 ds ≡ Some y → get_item 2 ds ≡ Some z → get_item 3 ds ≡ Some u → get_item 4 ds ≡ None → ds ≡ item x (item y (item z (item u no_items)))
four_items ds x y z u e f g h last =
    let b = begins ds x e in
    b.1 ∙ ap (item x) (three_items b.0 y z u (ap (get_item 1) (sym b.1) ∙ f) (ap (get_item 2) (sym b.1) ∙ g) (ap (get_item 3) (sym b.1) ∙ h) (ap (get_item 4) (sym b.1) ∙ last))

five_items : (ds : Items) (x y z u v : Data) → get_item 0 ds ≡ Some x → get_item 1 ds ≡ Some y → get_item 2 ds ≡ Some z → get_item 3 ds ≡ Some u → get_item 4 ds ≡ Some v → get_item 5 ds ≡ None → ds ≡ item x (item y (item z (item u (item v no_items))))
five_items ds x y z u v e f g h i last =
    let b = begins ds x e in
    b.1 ∙ ap (item x) (four_items b.0 y z u v (ap (get_item 1) (sym b.1) ∙ f) (ap (get_item 2) (sym b.1) ∙ g) (ap (get_item 3) (sym b.1) ∙ h) (ap (get_item 4) (sym b.1) ∙ i) (ap (get_item 5) (sym b.1) ∙ last))

-- ---- what was read

whole : {A : Type 0} (o : Option Data) (read : Option A) (a : A) → cond (is_some o) None read ≡ Some a → (o ≡ None) × (read ≡ Some a)
whole None read a e = (refl, e)
whole (Some x) read a e = absurd cc

-- a field that was read
pub record Reads {A : Type 0} (reader : Reader A) (place : ℕ) (d : Data) (a : A) : Type 0 where
  value : Data
  stands : at place d ≡ Some value
  read : reader value ≡ Some a

field_read : {A : Type 0} (reader : Reader A) (place : ℕ) (d : Data) (a : A) → field reader place d ≡ Some a → Reads reader place d a
field_read reader place d a e = let b = bind_some (at place d) reader a e in record { value = b.0; stands = b.1; read = b.2 }

pair_read : {A B : Type 0} (r : Reader A) (s : Reader B) (place : ℕ) (d : Data) (p : A × B) → pair_at r s place d ≡ Some p → Reads r place d p.0 × Reads s (place + 1) d p.1
pair_read {A = A} {B = B} r s place d p e =
    let first = bind_some (field r place d) (λ a. field s (place + 1) d >>= λ b. Some (a, b)) p e in
    let second = bind_some (field s (place + 1) d) (λ b. Some (first.0, b)) p first.2 in
    let same : (first.0, second.0) ≡ p = some_is (first.0, second.0) p second.2 in
    subst (λ (q : A × B). Reads r place d q.0 × Reads s (place + 1) d q.1) same (field_read r place d first.0 first.1, field_read s (place + 1) d second.0 second.1)

-- the items of what a field was read from
at_item : (d : Data) (ds : Items) (i : ℕ) (o : Option Data) → d ≡ array ds → at i d ≡ o → get_item i ds ≡ o
at_item d ds i o is e = ap (at i) (sym is) ∙ e

-- ---- one field

one_takes : {A : Type 0} {levels : ℕ} {f : A → Data} {t : A → Bool} {r : Reader A} → IsCoding levels f t r → (d : Data) (a : A) → one_from r d ≡ Some a → (d ≡ one_data f a) × (t a ≡ true)
one_takes {f = f} {r = r} p d a e =
    let w = whole (at 1 d) (field r 0 d) a e in
    let x = field_read r 0 d a w.1 in
    let ds = in_array 0 d x.value x.stands in
    let tx = p.takes x.value a x.read in
    (ds.1 ∙ ap array (one_item ds.0 x.value (at_item d ds.0 0 _ ds.1 x.stands) (at_item d ds.0 1 _ ds.1 w.0)) ∙ ap (λ (v : Data). array (item v no_items)) tx.0, tx.1)

pub one_law : {A : Type 0} {levels : ℕ} {f : A → Data} {t : A → Bool} {r : Reader A} → IsCoding levels f t r → IsCoding (suc levels) (one_data f) t (one_from r)
one_law p = record { takes = one_takes p; again = p.again; plain = λ a h. (p.plain a h, tt) }

-- ---- two fields

two_takes : {A B : Type 0} {levels : ℕ} {f : A → Data} {g : B → Data} {t : A → Bool} {u : B → Bool} {r : Reader A} {s : Reader B} → IsCoding levels f t r → IsCoding levels g u s
    → (d : Data) (a : A × B) → two_from r s d ≡ Some a → (d ≡ two_data f g a.0 a.1) × ((t a.0 && u a.1) ≡ true)
two_takes {f = f} {g = g} {t = t} {u = u} {r = r} {s = s} p q d a e =
    let w = whole (at 2 d) (pair_at r s 0 d) a e in
    let b = pair_read r s 0 d a w.1 in
    let x = b.0 in
    let y = b.1 in
    let ds = in_array 0 d x.value x.stands in
    let tx = p.takes x.value a.0 x.read in
    let ty = q.takes y.value a.1 y.read in (
      ds.1 ∙ ap array (two_items ds.0 x.value y.value (at_item d ds.0 0 _ ds.1 x.stands) (at_item d ds.0 1 _ ds.1 y.stands) (at_item d ds.0 2 _ ds.1 w.0)) ∙ rw (tx.0, ty.0) refl,
      and_from (t a.0) (u a.1) tx.1 ty.1,
    )

pub two_law : {A B : Type 0} {levels : ℕ} {f : A → Data} {g : B → Data} {t : A → Bool} {u : B → Bool} {r : Reader A} {s : Reader B} → IsCoding levels f t r → IsCoding levels g u s
    → IsCoding (suc levels) (λ (a : A × B). two_data f g a.0 a.1) (λ (a : A × B). t a.0 && u a.1) (two_from r s)
two_law {t = t} {u = u} p q = record {
  takes = two_takes p q;
  again = λ a h. let parts = and_parts (t a.0) (u a.1) h in rw (p.again a.0 parts.0, q.again a.1 parts.1) refl;
  plain = λ a h. let parts = and_parts (t a.0) (u a.1) h in (p.plain a.0 parts.0, (q.plain a.1 parts.1, tt));
}

-- ---- three fields

three_takes : {A B C : Type 0} {levels : ℕ} {f : A → Data} {g : B → Data} {h : C → Data} {t : A → Bool} {u : B → Bool} {v : C → Bool} {r : Reader A} {s : Reader B} {x : Reader C}
    → IsCoding levels f t r → IsCoding levels g u s → IsCoding levels h v x
    → (d : Data) (a : A × B × C) → three_from r s x d ≡ Some a → (d ≡ three_data f g h a.0 a.1 a.2) × ((t a.0 && u a.1 && v a.2) ≡ true)
three_takes {A = A} {B = B} {C = C} {f = f} {g = g} {h = h} {t = t} {u = u} {v = v} {r = r} {s = s} {x = x} p q o d a e =
    let w = whole (at 3 d) (pair_at r s 0 d >>= λ m. field x 2 d >>= λ c. Some (m.0, m.1, c)) a e in
    let m = bind_some (pair_at r s 0 d) (λ m. field x 2 d >>= λ c. Some (m.0, m.1, c)) a w.1 in
    let n = bind_some (field x 2 d) (λ c. Some (m.0.0, m.0.1, c)) a m.2 in
    let b = pair_read r s 0 d m.0 m.1 in
    let l = field_read x 2 d n.0 n.1 in
    let ds = in_array 0 d b.0.value b.0.stands in
    let ta = p.takes b.0.value m.0.0 b.0.read in
    let tb = q.takes b.1.value m.0.1 b.1.read in
    let tc = o.takes l.value n.0 l.read in
    let same : (m.0.0, m.0.1, n.0) ≡ a = some_is (m.0.0, m.0.1, n.0) a n.2 in
    subst (λ (a : A × B × C). (d ≡ three_data f g h a.0 a.1 a.2) × ((t a.0 && u a.1 && v a.2) ≡ true)) same (
      ds.1 ∙ ap array (three_items ds.0 b.0.value b.1.value l.value (at_item d ds.0 0 _ ds.1 b.0.stands) (at_item d ds.0 1 _ ds.1 b.1.stands) (at_item d ds.0 2 _ ds.1 l.stands) (at_item d ds.0 3 _ ds.1 w.0)) ∙ rw (ta.0, tb.0, tc.0) refl,
      and_from (t m.0.0 && u m.0.1) (v n.0) (and_from (t m.0.0) (u m.0.1) ta.1 tb.1) tc.1,
    )

pub three_law : {A B C : Type 0} {levels : ℕ} {f : A → Data} {g : B → Data} {h : C → Data} {t : A → Bool} {u : B → Bool} {v : C → Bool} {r : Reader A} {s : Reader B} {x : Reader C}
    → IsCoding levels f t r → IsCoding levels g u s → IsCoding levels h v x
    → IsCoding (suc levels) (λ (a : A × B × C). three_data f g h a.0 a.1 a.2) (λ (a : A × B × C). t a.0 && u a.1 && v a.2) (three_from r s x)
three_law {t = t} {u = u} {v = v} p q o = record {
  takes = three_takes p q o;
  again = λ a k.
      let outer = and_parts (t a.0 && u a.1) (v a.2) k in
      let inner = and_parts (t a.0) (u a.1) outer.0 in
      rw (p.again a.0 inner.0, q.again a.1 inner.1, o.again a.2 outer.1) refl;
  plain = λ a k.
      let outer = and_parts (t a.0 && u a.1) (v a.2) k in
      let inner = and_parts (t a.0) (u a.1) outer.0 in
      (p.plain a.0 inner.0, (q.plain a.1 inner.1, (o.plain a.2 outer.1, tt)));
}

-- ---- five fields

five_takes : {A B C D E : Type 0} {levels : ℕ} {f : A → Data} {g : B → Data} {h : C → Data} {i : D → Data} {j : E → Data} {t : A → Bool} {u : B → Bool} {v : C → Bool} {w : D → Bool} {x : E → Bool}
    {r : Reader A} {s : Reader B} {y : Reader C} {z : Reader D} {k : Reader E} → IsCoding levels f t r → IsCoding levels g u s → IsCoding levels h v y → IsCoding levels i w z → IsCoding levels j x k
    → (d : Data) (a : A × B × C × D × E) → five_from r s y z k d ≡ Some a → (d ≡ five_data f g h i j a.0 a.1 a.2 a.3 a.4) × ((t a.0 && u a.1 && v a.2 && w a.3 && x a.4) ≡ true)
five_takes {A = A} {B = B} {C = C} {D = D} {E = E} {f = f} {g = g} {h = h} {i = i} {j = j} {t = t} {u = u} {v = v} {w = w} {x = x} {r = r} {s = s} {y = y} {z = z} {k = k} p q o l m d a e =
    let after_two : (A × B) → Option (A × B × C × D × E) = λ b. pair_at y z 2 d >>= λ c. field k 4 d >>= λ last. Some (b.0, b.1, c.0, c.1, last) in
    let all = whole (at 5 d) (pair_at r s 0 d >>= after_two) a e in
    let first = bind_some (pair_at r s 0 d) after_two a all.1 in
    let after_four : (C × D) → Option (A × B × C × D × E) = λ c. field k 4 d >>= λ last. Some (first.0.0, first.0.1, c.0, c.1, last) in
    let second = bind_some (pair_at y z 2 d) after_four a first.2 in
    let third = bind_some (field k 4 d) (λ last. Some (first.0.0, first.0.1, second.0.0, second.0.1, last)) a second.2 in
    let b = pair_read r s 0 d first.0 first.1 in
    let c = pair_read y z 2 d second.0 second.1 in
    let n = field_read k 4 d third.0 third.1 in
    let ds = in_array 0 d b.0.value b.0.stands in
    let ta = p.takes b.0.value first.0.0 b.0.read in
    let tb = q.takes b.1.value first.0.1 b.1.read in
    let tc = o.takes c.0.value second.0.0 c.0.read in
    let td = l.takes c.1.value second.0.1 c.1.read in
    let te = m.takes n.value third.0 n.read in
    let same : (first.0.0, first.0.1, second.0.0, second.0.1, third.0) ≡ a = some_is (first.0.0, first.0.1, second.0.0, second.0.1, third.0) a third.2 in
    let shape =
    five_items ds.0 b.0.value b.1.value c.0.value c.1.value n.value (at_item d ds.0 0 _ ds.1 b.0.stands) (at_item d ds.0 1 _ ds.1 b.1.stands) (at_item d ds.0 2 _ ds.1 c.0.stands) (at_item d ds.0 3 _ ds.1 c.1.stands)
    (at_item d ds.0 4 _ ds.1 n.stands) (at_item d ds.0 5 _ ds.1 all.0) in
    subst (λ (a : A × B × C × D × E). (d ≡ five_data f g h i j a.0 a.1 a.2 a.3 a.4) × ((t a.0 && u a.1 && v a.2 && w a.3 && x a.4) ≡ true)) same (
      ds.1 ∙ ap array shape ∙ rw (ta.0, tb.0, tc.0, td.0, te.0) refl,
      and_from (t first.0.0 && u first.0.1 && v second.0.0 && w second.0.1) (x third.0)
          (and_from (t first.0.0 && u first.0.1 && v second.0.0) (w second.0.1) (and_from (t first.0.0 && u first.0.1) (v second.0.0) (and_from (t first.0.0) (u first.0.1) ta.1 tb.1) tc.1) td.1) te.1,
    )

pub five_law : {A B C D E : Type 0} {levels : ℕ} {f : A → Data} {g : B → Data} {h : C → Data} {i : D → Data} {j : E → Data} {t : A → Bool} {u : B → Bool} {v : C → Bool} {w : D → Bool} {x : E → Bool}
    {r : Reader A} {s : Reader B} {y : Reader C} {z : Reader D} {k : Reader E} → IsCoding levels f t r → IsCoding levels g u s → IsCoding levels h v y → IsCoding levels i w z → IsCoding levels j x k
    → IsCoding (suc levels) (λ (a : A × B × C × D × E). five_data f g h i j a.0 a.1 a.2 a.3 a.4) (λ (a : A × B × C × D × E). t a.0 && u a.1 && v a.2 && w a.3 && x a.4) (five_from r s y z k)
five_law {t = t} {u = u} {v = v} {w = w} {x = x} p q o l m = record {
  takes = five_takes p q o l m;
  again = λ a n.
      let n4 = and_parts (t a.0 && u a.1 && v a.2 && w a.3) (x a.4) n in
      let n3 = and_parts (t a.0 && u a.1 && v a.2) (w a.3) n4.0 in
      let n2 = and_parts (t a.0 && u a.1) (v a.2) n3.0 in
      let n1 = and_parts (t a.0) (u a.1) n2.0 in
      rw (p.again a.0 n1.0, q.again a.1 n1.1, o.again a.2 n2.1, l.again a.3 n3.1, m.again a.4 n4.1) refl;
  plain = λ a n.
      let n4 = and_parts (t a.0 && u a.1 && v a.2 && w a.3) (x a.4) n in
      let n3 = and_parts (t a.0 && u a.1 && v a.2) (w a.3) n4.0 in
      let n2 = and_parts (t a.0 && u a.1) (v a.2) n3.0 in
      let n1 = and_parts (t a.0) (u a.1) n2.0 in
      (p.plain a.0 n1.0, (q.plain a.1 n1.1, (o.plain a.2 n2.1, (l.plain a.3 n3.1, (m.plain a.4 n4.1, tt)))));
}
