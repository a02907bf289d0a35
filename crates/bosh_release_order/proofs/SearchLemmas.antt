-- What is noted while the places that one needs are searched for.
use Rattle.std.proofs.Common.{◌≡◌, ◌⊎◌, ⊎_elim, inl, inr, ◌∙◌, ap, refl, sym, subst, arith, ℕ, ◌+◌, ◌<◌, ◌≤◌, Bool, true, false, List, [], ◌∷◌, ◌++◌, length, length-append, get_or, set, take, replicate}
use Rattle.std.specs.List.{All, Contains}
use Rattle.std.proofs.lemmas.Bool.{cases_eq, cases_lt}
use Rattle.std.proofs.lemmas.List.{get_or-replicate, get_or_past, get_or-set_other, get_or-set_same, length-replicate, length-set, take_more}
use Rattle.std.proofs.lemmas.List.Elements.{All-append, All-contains, All-cons, All-get_or, All-nil, All-weaker, Contains-append_cases, Contains-append_left, Contains-append_right, Contains-get_or, Contains-push, Contains-push_cases}
use Rattle.std.proofs.lemmas.List.Sums.{sum_by-set}
use Rattle.bosh_release_order.specs.Graph.{Graph, IsGraph, Needs, Reaches, at_once, by, needs_of}
use Rattle.bosh_release_order.specs.Search.{IsFound, IsReach, IsSearch, Notes, turns_of, work_left}

pub nothing : {A : Type 0} (x : A) → Contains [] x → ⊥
nothing x c = absurd (omega (arith, c.1))

-- ---- notes

pub notes_nothing : (found : List Bool) (work : List ℕ) → Notes [] found work found work
notes_nothing found work = record {
  same_length = refl;
  all = All-nil (IsFound found);
  kept = λ place h. h;
  only = λ place h. inl h;
  pending = λ place h. inl h;
  work_kept = λ place c. c;
  work_only = λ place c. inl c;
  left = omega arith;
}

one_found : (found : List Bool) (need : ℕ) → IsFound found need → All (IsFound found) (need ∷ [])
one_found found need h = All-cons (IsFound found) need [] h (All-nil (IsFound found))

-- a need that was found before
pub notes_known :
    (need : ℕ) (found : List Bool) (work : List ℕ) → IsFound found need → Notes (need ∷ []) found work found work
notes_known need found work known = record {
  same_length = refl;
  all = one_found found need known;
  kept = λ place h. h;
  only = λ place h. inl h;
  pending = λ place h. inl h;
  work_kept = λ place c. c;
  work_only = λ place c. inl c;
  left = omega arith;
}

-- a need that is new
pub notes_new :
    (need : ℕ) (found : List Bool) (work : List ℕ) → need < length found → get_or found need false ≡ false
    → Notes (need ∷ []) found work (set found need true) (work ++ need ∷ [])
notes_new need found work within new = record {
  same_length = length-set found need true;
  all = one_found (set found need true) need (get_or-set_same found need true false within);
  kept = kept;
  only = λ place h. ⊎_elim (λ (old : IsFound found place). inl old) (λ (it : place ≡ need). inr (subst (Contains (need ∷ [])) (sym it) (Contains-push [] need))) (either place h);
  pending = λ place h. ⊎_elim (λ (old : IsFound found place). inl old) (λ (it : place ≡ need). inr (subst (Contains (work ++ need ∷ [])) (sym it) (Contains-push work need))) (either place h);
  work_kept = λ place c. Contains-append_left work (need ∷ []) place c;
  work_only = λ place c. Contains-append_cases work (need ∷ []) place c;
  left = turns;
}
  where
    kept : (place : ℕ) → IsFound found place → IsFound (set found need true) place
    kept place h =
        ⊎_elim
        (λ (it : place ≡ need). subst (IsFound (set found need true)) (sym it) (get_or-set_same found need true false within))
        (λ (other : place ≡ need → ⊥). get_or-set_other found need place true false other ∙ h)
        (cases_eq place need)

    either : (place : ℕ) → IsFound (set found need true) place → IsFound found place ⊎ (place ≡ need)
    either place h =
        ⊎_elim
        (λ (it : place ≡ need). inr it)
        (λ (other : place ≡ need → ⊥). inl (sym (get_or-set_other found need place true false other) ∙ h))
        (cases_eq place need)

    turns : work_left (set found need true) (work ++ need ∷ []) ≤ work_left found work
    turns =
        let sums = sum_by-set turns_of found need true false within in
        let was : turns_of (get_or found need false) ≡ 2 = ap turns_of new in
        let count = length-append work (need ∷ []) in
        omega arith

-- one need more
pub notes_more :
    (needs : List ℕ) (i : ℕ) (d : ℕ) (f0 f1 f2 : List Bool) (w0 w1 w2 : List ℕ) → i < length needs
    → Notes (take i needs) f0 w0 f1 w1 → Notes (get_or needs i d ∷ []) f1 w1 f2 w2
    → Notes (take (i + 1) needs) f0 w0 f2 w2
notes_more needs i d f0 f1 f2 w0 w1 w2 within a b =
    let need = get_or needs i d in
    subst (λ front. Notes front f0 w0 f2 w2) (sym (take_more needs i d within)) (record {
      same_length = b.same_length ∙ a.same_length;
      all = All-append (IsFound f2) (take i needs) (need ∷ []) (All-weaker (IsFound f1) (IsFound f2) b.kept (take i needs) a.all) b.all;
      kept = λ place h. b.kept place (a.kept place h);
      only = λ place h. ⊎_elim
          (λ (mid : IsFound f1 place).
          ⊎_elim (λ (old : IsFound f0 place). inl old) (λ (c : Contains (take i needs) place). inr (Contains-append_left (take i needs) (need ∷ []) place c)) (a.only place mid))
          (λ (c : Contains (need ∷ []) place). inr (Contains-append_right (take i needs) (need ∷ []) place c))
          (b.only place h);
      pending = λ place h. ⊎_elim
          (λ (mid : IsFound f1 place).
          ⊎_elim (λ (old : IsFound f0 place). inl old) (λ (c : Contains w1 place). inr (b.work_kept place c)) (a.pending place mid))
          (λ (c : Contains w2 place). inr c)
          (b.pending place h);
      work_kept = λ place c. b.work_kept place (a.work_kept place c);
      work_only = λ place c. ⊎_elim
          (λ (mid : Contains w1 place).
          ⊎_elim (λ (old : Contains w0 place). inl old) (λ (n : Contains (take i needs) place). inr (Contains-append_left (take i needs) (need ∷ []) place n)) (a.work_only place mid))
          (λ (n : Contains (need ∷ []) place). inr (Contains-append_right (take i needs) (need ∷ []) place n))
          (b.work_only place c);
      left = let x = a.left in let y = b.left in omega arith;
    })

-- ---- the search

-- the needs of the first place are noted
pub search_start :
    (graph : Graph) (place : ℕ) (found0 found : List Bool) (work : List ℕ) → IsGraph graph → place < length graph
    → found0 ≡ replicate (length graph) false → Notes (needs_of graph place) found0 [] found work
    → IsSearch graph place found work
search_start graph place found0 found work well within start notes = record {
  same_length = notes.same_length ∙ ap length start ∙ length-replicate (length graph) false;
  needed = λ other h. ⊎_elim (λ (old : IsFound found0 other). absurd (unfound other old)) (λ (c : Contains (needs_of graph place) other). at_once place other c) (notes.only other h);
  starts = notes.all;
  closed = λ other h. ⊎_elim (λ (old : IsFound found0 other). absurd (unfound other old)) (λ (c : Contains work other). inl c) (notes.pending other h);
  work_found = λ other c. ⊎_elim (λ (old : Contains [] other). absurd (nothing other old)) (λ (n : Contains (needs_of graph place) other). All-contains (IsFound found) (needs_of graph place) other notes.all n) (notes.work_only other c);
  work_within = λ k d lt. ⊎_elim (λ (old : Contains [] (get_or work k d)). absurd (nothing (get_or work k d) old)) (λ (n : Contains (needs_of graph place) (get_or work k d)). All-contains (λ o. o < length graph) (needs_of graph place) (get_or work k d) (All-get_or (λ needs. All (λ o. o < length graph) needs) graph place [] within well) n) (notes.work_only (get_or work k d) (Contains-get_or work k d lt));
}
  where
    never : (o : ℕ) → get_or (replicate (length graph) false) o false ≡ false
    never o =
        ⊎_elim
        (λ (low : o < length graph). get_or-replicate (length graph) o false false low)
        (λ (high : length graph ≤ o).
        get_or_past (replicate (length graph) false) o false (let e = length-replicate (length graph) false in omega arith))
        (cases_lt o (length graph))

    unfound : (o : ℕ) → IsFound found0 o → ⊥
    unfound o h =
        let no : true ≡ false = sym h ∙ ap (λ (f : List Bool). get_or f o false) start ∙ never o in
        cc

reaches_then : {graph : Graph} {a b : ℕ} → Reaches graph a b → (c : ℕ) → Needs graph b c → Reaches graph a c
reaches_then (at_once a b n) c m = by a b c n (at_once b c m)
reaches_then (by a next b n r) c m = by a next c n (reaches_then r c m)

-- one place more was looked at
pub search_turn :
    (graph : Graph) (place at : ℕ) (found0 found : List Bool) (work0 work1 work : List ℕ) → IsGraph graph
    → IsSearch graph place found0 work0 → work0 ≡ work1 ++ at ∷ []
    → Notes (needs_of graph at) found0 work1 found work → IsSearch graph place found work
search_turn graph place at found0 found work0 work1 work well s popped notes = record {
  same_length = notes.same_length ∙ s.same_length;
  needed = λ other h. ⊎_elim
      (λ (old : IsFound found0 other). s.needed other old)
      (λ (c : Contains (needs_of graph at) other). reaches_then (s.needed at at_found) other c)
      (notes.only other h);
  starts = All-weaker (IsFound found0) (IsFound found) notes.kept (needs_of graph place) s.starts;
  closed = λ other h. ⊎_elim
      (λ (old : IsFound found0 other).
      ⊎_elim
      (λ (c : Contains work0 other).
      ⊎_elim
      (λ (d : Contains work1 other). inl (notes.work_kept other d))
      (λ (it : at ≡ other). inr (subst (λ o. All (IsFound found) (needs_of graph o)) it notes.all))
      (Contains-push_cases work1 at other (subst (λ ws. Contains ws other) popped c)))
      (λ (all : All (IsFound found0) (needs_of graph other)).
      inr (All-weaker (IsFound found0) (IsFound found) notes.kept (needs_of graph other) all))
      (s.closed other old))
      (λ (c : Contains work other). inl c)
      (notes.pending other h);
  work_found = λ other c. ⊎_elim
      (λ (d : Contains work1 other). notes.kept other (s.work_found other (kept other d)))
      (λ (n : Contains (needs_of graph at) other). All-contains (IsFound found) (needs_of graph at) other notes.all n)
      (notes.work_only other c);
  work_within = λ k d lt. ⊎_elim
      (λ (e : Contains work1 (get_or work k d)). All-contains (λ o. o < length graph) work0 (get_or work k d) s.work_within (kept (get_or work k d) e))
      (λ (n : Contains (needs_of graph at) (get_or work k d)). All-contains (λ o. o < length graph) (needs_of graph at) (get_or work k d) needs_within n)
      (notes.work_only (get_or work k d) (Contains-get_or work k d lt));
}
  where
    kept : (other : ℕ) → Contains work1 other → Contains work0 other
    kept other c = subst (λ ws. Contains ws other) (sym popped) (Contains-append_left work1 (at ∷ []) other c)

    at_work : Contains work0 at
    at_work = subst (λ ws. Contains ws at) (sym popped) (Contains-push work1 at)

    at_found : IsFound found0 at
    at_found = s.work_found at at_work

    at_within : at < length graph
    at_within = All-contains (λ o. o < length graph) work0 at s.work_within at_work

    needs_within : All (λ o. o < length graph) (needs_of graph at)
    needs_within = All-get_or (λ needs. All (λ o. o < length graph) needs) graph at [] at_within well

closed_reach :
    (graph : Graph) (found : List Bool)
    → ((other : ℕ) → IsFound found other → All (IsFound found) (needs_of graph other))
    → {place other : ℕ} → All (IsFound found) (needs_of graph place) → Reaches graph place other → IsFound found other
closed_reach graph found closed all (at_once place other n) = All-contains (IsFound found) (needs_of graph place) other all n
closed_reach graph found closed all (by place next last n r) =
    closed_reach graph found closed (closed next (All-contains (IsFound found) (needs_of graph place) next all n)) r

-- nothing is left to be looked at
pub search_end :
    (graph : Graph) (place : ℕ) (found : List Bool) (work : List ℕ) → IsSearch graph place found work → work ≡ []
    → IsReach graph place found
search_end graph place found work s none = record {
  same_length = s.same_length;
  exact = λ other. (s.needed other, λ r. closed_reach graph found closed s.starts r);
}
  where
    closed : (other : ℕ) → IsFound found other → All (IsFound found) (needs_of graph other)
    closed other h =
        ⊎_elim
        (λ (c : Contains work other). absurd (nothing other (subst (λ ws. Contains ws other) none c)))
        (λ (all : All (IsFound found) (needs_of graph other)). all)
        (s.closed other h)

pub popped_within :
    (graph : Graph) (place at : ℕ) (found : List Bool) (work0 work1 : List ℕ) → IsSearch graph place found work0
    → work0 ≡ work1 ++ at ∷ [] → at < length graph
popped_within graph place at found work0 work1 s popped =
    All-contains (λ o. o < length graph) work0 at s.work_within
    (subst (λ ws. Contains ws at) (sym popped) (Contains-push work1 at))
