-- How far the rounds come with each work.
use Rattle.std.proofs.Common.{◌≡◌, ◌≢◌, ◌∙◌, refl, sym, ap, subst, ⊎_elim, ℕ, zero, suc, ◌+◌, ◌-◌, ◌≤◌, ◌<◌, slice_index_or, true≢false, Bool, true, false, Option, Some, List, [], ◌∷◌, map, length, get_or, replicate, arith}
use Rattle.std.specs.List.{All, Contains, list_any}
use Rattle.std.specs.Option.{unwrap_or}
use Rattle.std.proofs.lemmas.Bool.{cases_lt, cases_eq}
use Rattle.std.proofs.lemmas.List.{length-map, get_or-map, get_or_default, length-replicate, get_or-replicate}
use Rattle.std.proofs.lemmas.List.Elements.{Contains-get_or}
use Rattle.bosh_base.specs.declared.key.Key.{Key}
use Rattle.bosh_base.specs.declared.key.KeyWork.{KeyWork}
use Rattle.bosh_compile.specs.declared.level.Progress.{Progress}
use Rattle.bosh_compile.specs.declared.table.Node.{Node}
use Rattle.bosh_compile.specs.Rounds.{level_within, last_level, Closed, IsPending, Advances, IsFitting, AllAdvance, IsAfter}
use Rattle.bosh_compile.specs.Table.{IsGraph, node_by, numbers_by}
use Rattle.bosh_compile.proofs.LevelLemmas.{settled-later, within-le}
use Rattle.bosh_compile.proofs.RoundLemmas.{stays_closed, level_kept, level_raised, level_found}
use Rattle.bosh_compile.proofs.TableLemmas.{number_of_key, has_number}

maps_agree : {A B : Type 0} (f : A → ℕ) (g : B → ℕ) (xs : List A) (ys : List B) → length xs ≡ length ys
    → ((k : ℕ) (d : A) (e : B) → k < length xs → f (get_or xs k d) ≡ g (get_or ys k e)) → map f xs ≡ map g ys
maps_agree f g [] [] same h = refl
maps_agree f g [] (y ∷ ys) same h = absurd (omega arith)
maps_agree f g (x ∷ xs) [] same h = absurd (omega arith)
maps_agree f g (x ∷ xs) (y ∷ ys) same h =
    let first : f x ≡ g y = h 0 x y (omega arith) in
    let rest = maps_agree f g xs ys (omega arith) (λ k d e low. h (suc k) d e (omega arith)) in
    λ i. first i ∷ rest i

abbrev no_key : Key
no_key = record { fingerprint = record { 0 = [] }; os = []; version = [] }

abbrev no_work : KeyWork
no_work = record { name = []; key = no_key; deps = [] }

abbrev no_node : Node
no_node = record { key = 0; needs = [] }

some_true : (all : List Bool) (k : ℕ) → slice_index_or all k false ≡ true → list_any (λ is. is) all ≡ true
some_true [] k is = is
some_true (true ∷ all) k is = refl
some_true (false ∷ all) zero is = absurd (true≢false (sym is))
some_true (false ∷ all) (suc k) is = some_true all k is

abbrev no_progress : Progress
no_progress = record { level = 0; met = 0 }

module _ (works : List KeyWork) (nodes : List Node) (graph : IsGraph works nodes) where
  node_at : (place : ℕ) (d : Node) (w : KeyWork) → place < length works → get_or nodes place d ≡ node_by graph.number (get_or works place w)
  node_at place d w in' = ap (λ (ns : List Node). get_or ns place d) graph.is_nodes ∙ get_or-map (node_by graph.number) works place w d in'

  pub length_nodes : length nodes ≡ length works
  length_nodes = ap length graph.is_nodes ∙ length-map works (node_by graph.number)

  needs_at : (place : ℕ) (d : Node) (w : KeyWork) → place < length works → (get_or nodes place d).needs ≡ numbers_by graph.number (get_or works place w).deps
  needs_at place d w in' = ap (λ (n : Node). n.needs) (node_at place d w in')

  -- the number of a work's key is that of its node
  number_at : (place : ℕ) (d : Node) (w : KeyWork) → place < length works → graph.number (get_or works place w).key ≡ Some (get_or nodes place d).key
  number_at place d w in' =
      let at = has_number works graph.number graph.is_numbering (get_or works place w) (Contains-get_or works place w in') in
      let key : (get_or nodes place d).key ≡ at.0 = ap (λ (n : Node). n.key) (node_at place d w in') ∙ ap (λ (o : Option ℕ). unwrap_or o 0) at.1 in
      at.1 ∙ ap Some (sym key)

  pub keys_fit : All (λ node. node.key < length nodes) nodes
  keys_fit = λ place d in'.
      let e = length_nodes in
      let in_range = (graph.is_numbering.right (get_or works place no_work).key (get_or nodes place d).key (number_at place d no_work (omega arith))).in_range in
      omega arith

  needs_fit : (place k : ℕ) (d : Node) → place < length works → k < length (get_or nodes place d).needs → get_or (get_or nodes place d).needs k 0 < length works
  needs_fit place k d in' low =
      let ns = (get_or nodes place d).needs in
      let among = subst (λ (xs : List ℕ). Contains xs (get_or ns k 0)) (needs_at place d no_work in') (Contains-get_or ns k 0 low) in
      let key = number_of_key graph.number (get_or works place no_work).deps (get_or ns k 0) among in
      (graph.is_numbering.right key.0 (get_or ns k 0) key.2).in_range

  pub all_start : (progress : List Progress) → progress ≡ replicate (length works) (record { level = 0; met = 0 }) → IsAfter works nodes graph.number 0 progress
  all_start progress is = record {
    same_length = ap length is ∙ length-replicate (length works) no_progress;
    levels = λ place d e in'. ap (λ (p : Progress). p.level) (at place e in');
    within = λ place d e in'. let none : (get_or progress place e).met ≡ 0 = ap (λ (p : Progress). p.met) (at place e in') in omega arith;
    met = λ place k d e in' low. let none : (get_or progress place e).met ≡ 0 = ap (λ (p : Progress). p.met) (at place e in') in absurd (omega arith);
  }
    where
      at : (place : ℕ) (e : Progress) → place < length works → get_or progress place e ≡ no_progress
      at place e in' = ap (λ (ps : List Progress). get_or ps place e) is ∙ get_or-replicate (length works) place no_progress e in'

  module _ (round : ℕ) (progress : List Progress) (after : IsAfter works nodes graph.number round progress) where
    pub at_the_end : round ≡ length works → map (λ p. p.level) progress ≡ map (last_level works) works
    unfolding last_level
    at_the_end all = maps_agree (λ (p : Progress). p.level) (level_within works (length works)) progress works after.same_length (λ k d e low.
        let same = after.same_length in
        after.levels k e d (omega arith) ∙ ap (λ (n : ℕ). level_within works n (get_or works k e)) all)

    -- where no work came as far as the round, all levels are found
    pub at_rest :
        ((place : ℕ) (e : Progress) → place < length works → (slice_index_or progress place e).level ≢ round)
        → round ≤ length works → map (λ p. p.level) progress ≡ map (last_level works) works
    unfolding last_level
    at_rest none fits = maps_agree (λ (p : Progress). p.level) (level_within works (length works)) progress works after.same_length (λ k d e low.
        let same = after.same_length in
        let here : k < length works = omega arith in
        let work = get_or works k e in
        let is = after.levels k e d here in
        let ne = none k d here in
        let le = within-le works round work in
        let differs : level_within works round work ≢ round = λ came. ne (is ∙ came) in
        let found : level_within works round work < round = omega arith in
        let whole : round + (length works - round) ≡ length works = omega arith in
        is ∙ sym (settled-later works (length works - round) round work found)
        ∙ ap (λ (n : ℕ). level_within works n work) whole)

    module _ (pending : List Bool) (seen : IsPending nodes progress round pending) where
      -- no key is pending, so no work came as far
      pub none_came :
          list_any (λ is. is) pending ≡ false
          → (place : ℕ) (e : Progress) → place < length works → (slice_index_or progress place e).level ≢ round
      none_came none place e in' came =
          let count = length_nodes in
          let here : place < length nodes = omega arith in
          let marked = seen.marked place no_node e here came in
          true≢false (sym (some_true pending (slice_index_or nodes place no_node).key marked) ∙ none)

      pub fitting : IsFitting nodes (length pending) progress
      fitting = record {
        needs = λ place k d in' low.
            let e = length_nodes in
            let f = seen.same_length in
            let fits = needs_fit place k d (omega arith) low in
            omega arith;
        met = λ place d e in'. let same = length_nodes in after.within place d e (omega arith);
      }

      pending_work : (n : ℕ) → get_or pending n false ≡ true → (other : KeyWork) × Contains works other × (graph.number other.key ≡ Some n) × (level_within works round other ≡ round)
      pending_work n is =
          let e = length_nodes in
          let d = node_by graph.number no_work in
          let found = seen.only n d no_progress is in
          let in' : found.0 < length works = omega (arith, found.1) in
          (get_or works found.0 no_work, Contains-get_or works found.0 no_work in', number_at found.0 d no_work in' ∙ ap Some found.2, sym (after.levels found.0 no_work no_progress in') ∙ found.3)

      closed_otherwise : (n : ℕ) → get_or pending n false ≡ false → Closed works graph.number round n
      closed_otherwise n is = λ work c at.
          let e = length_nodes in
          let d = node_by graph.number no_work in
          let le = within-le works round work in
          ⊎_elim
          (λ (less : level_within works round work < round). less)
          (λ (more : round ≤ level_within works round work).
          let level : (get_or progress c.0 no_progress).level ≡ round = after.levels c.0 work no_progress c.1 ∙ ap (level_within works round) c.2 ∙ omega arith in
          let marked = seen.marked c.0 d no_progress (omega (arith, c.1)) level in
          let key : Some (get_or nodes c.0 d).key ≡ Some n = sym (number_at c.0 d work c.1) ∙ ap (λ (w : KeyWork). graph.number w.key) c.2 ∙ at in
          let same : (get_or nodes c.0 d).key ≡ n = cc in
          let clash : false ≡ true = sym is ∙ ap (λ (k : ℕ). get_or pending k false) (sym same) ∙ marked in
          cc)
          (cases_lt (level_within works round work) round)

      module _ (next : List Progress) (all : AllAdvance round nodes pending progress next) where
        module _ (place : ℕ) (d : Node) (e : Progress) (w : KeyWork) (in' : place < length works) where
          work : KeyWork
          work = get_or works place w

          step : Advances round (get_or nodes place d).needs pending (get_or progress place e) (get_or next place e)
          step = let same = length_nodes in all.each place d e (omega arith)

          met_closed : (k : ℕ) → k < (get_or next place e).met → Closed works graph.number round (get_or (get_or nodes place d).needs k 0)
          met_closed k low = ⊎_elim
              (λ (before : k < (get_or progress place e).met). after.met place k d e in' before)
              (λ (now : (get_or progress place e).met ≤ k). closed_otherwise (get_or (get_or nodes place d).needs k 0) (step.closed k now low))
              (cases_lt k (get_or progress place e).met)

          level_before : (get_or progress place e).level ≡ level_within works round (get_or works place w)
          level_before = after.levels place w e in'

          level_if_found : (get_or progress place e).level ≡ round → (get_or next place e).met ≡ length (get_or nodes place d).needs → (get_or next place e).level ≡ level_within works (suc round) (get_or works place w)
          level_if_found came end =
              let closed : (n : ℕ) → Contains (numbers_by graph.number (get_or works place w).deps) n → Closed works graph.number round n = λ n c.
              let at : Contains (get_or nodes place d).needs n = subst (λ (xs : List ℕ). Contains xs n) (sym (needs_at place d w in')) c in
              let same : get_or (get_or nodes place d).needs at.0 0 ≡ n = get_or_default (get_or nodes place d).needs at.0 0 n at.1 ∙ at.2 in
              subst (λ (m : ℕ). Closed works graph.number round m) same (met_closed at.0 (omega (arith, at.1))) in
              step.found came end ∙ sym (level_found works graph.number graph.is_numbering round (get_or works place w) (sym level_before ∙ came) closed)

          level_if_not : (get_or progress place e).level ≡ round → (get_or next place e).met < length (get_or nodes place d).needs → (get_or next place e).level ≡ level_within works (suc round) (get_or works place w)
          level_if_not came more =
              let higher = step.higher came more in
              let ns = (get_or nodes place d).needs in
              let n = get_or ns (get_or next place e).met 0 in
              let found = pending_work n higher.1 in
              let among = subst (λ (xs : List ℕ). Contains xs n) (needs_at place d w in') (Contains-get_or ns (get_or next place e).met 0 more) in
              higher.0 ∙ sym (level_raised works graph.number graph.is_numbering round (get_or works place w) n found.0 among found.1 found.2 found.3)

          level_after : (get_or next place e).level ≡ level_within works (suc round) (get_or works place w)
          level_after = ⊎_elim
              (λ (came : (get_or progress place e).level ≡ round). ⊎_elim
              (λ (more : (get_or next place e).met < length (get_or nodes place d).needs). level_if_not came more)
              (λ (end : length (get_or nodes place d).needs ≤ (get_or next place e).met). let within = step.within in level_if_found came (omega arith))
              (cases_lt (get_or next place e).met (length (get_or nodes place d).needs)))
              (λ (other : (get_or progress place e).level ≢ round).
              step.other other ∙ level_before ∙ sym (level_kept works graph.number graph.is_numbering round (get_or works place w) (λ same. other (level_before ∙ same))))
              (cases_eq (get_or progress place e).level round)

        pub one_round_more : IsAfter works nodes graph.number (suc round) next
        one_round_more = record {
          same_length = all.same_length ∙ after.same_length;
          levels = λ place w e in'. level_after place (node_by graph.number no_work) e w in';
          within = λ place d e in'. (step place d e no_work in').within;
          met = λ place k d e in' low. stays_closed works graph.number graph.is_numbering round (get_or (get_or nodes place d).needs k 0) (met_closed place d e no_work in' k low);
        }
