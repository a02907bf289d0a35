-- Fingerprints that are found one after another.
use Rattle.std.proofs.Common.{◌≡◌, ◌⊎◌, ⊎_elim, inl, inr, ◌∙◌, ap, refl, sym, subst, arith, ℕ, zero, suc, ◌+◌, ◌<◌, List, [], ◌∷◌, ◌++◌, length, get_or, set, take, map, fold}
use Rattle.std.specs.BTreeSet.{insert_key}
use Rattle.std.specs.List.{All, Contains}
use Rattle.std.specs.Ordering.{match_ordering, nat_cmp}
use Rattle.std.specs.declared.cmp.Ordering.{Ordering}
use Rattle.std.specs.declared.cmp.Ordering.TheVariants.{Less, Equal, Greater}
use Rattle.std.proofs.lemmas.Bool.{cases_eq}
use Rattle.std.proofs.lemmas.List.{get_or-set_other, get_or-set_same, length-set, set-get_or, take_more}
use Rattle.std.proofs.lemmas.List.Elements.{All-cons, All-head, All-nil, All-tail, All-weaker, Contains-append_left, Contains-append_right, Contains-push_cases}
use Rattle.std.proofs.lemmas.List.Sums.{fold-append}
use Rattle.bosh_base.specs.declared.digest.Digest.{Digest}
use Rattle.bosh_release_listing.specs.Listing.{Stamped, digest_of, package_text}
use Rattle.bosh_release.specs.Collected.{ArePrints, listing_of, no_digest, numbers_in_order, print_at, print_of, stamp_at}
use Rattle.bosh_release.specs.Prints.{ArePrintsOf}
use Rattle.bosh_release.specs.declared.drafted_package.PackageDraft.{PackageDraft}
use Rattle.bosh_release_files.specs.Pattern.{taken_files}
use Rattle.bosh_release_order.specs.Graph.{IsOrder, needs_of}

-- ---- numbers in order

all_inserted : (P : ℕ → Type 0) (ks : List ℕ) (k : ℕ) → All P ks → P k → All P (insert_key nat_cmp ks k)
all_inserted P [] k all p = All-cons P k [] p (All-nil P)
all_inserted P (x ∷ xs) k all p =
    at (all_inserted P xs k (All-tail P x xs all) p) (nat_cmp k x)
  where
    at :
        All P (insert_key nat_cmp xs k) → (o : Ordering)
        → All P (match_ordering o (k ∷ x ∷ xs) (x ∷ xs) (x ∷ insert_key nat_cmp xs k))
    at below Less = All-cons P k (x ∷ xs) p all
    at below Equal = all
    at below Greater = All-cons P x (insert_key nat_cmp xs k) (All-head P x xs all) below

all_folded : (P : ℕ → Type 0) (ks ns : List ℕ) → All P ks → All P ns → All P (fold (insert_key nat_cmp) ks ns)
all_folded P ks [] all more = all
all_folded P ks (n ∷ ns) all more =
    all_folded P (insert_key nat_cmp ks n) ns (all_inserted P ks n all (All-head P n ns more)) (All-tail P n ns more)

-- one number more
pub numbers_more :
    (ns : List ℕ) (i d : ℕ) → i < length ns
    → numbers_in_order (take (i + 1) ns) ≡ insert_key nat_cmp (numbers_in_order (take i ns)) (get_or ns i d)
numbers_more ns i d lt =
    ap numbers_in_order (take_more ns i d lt) ∙ fold-append (insert_key nat_cmp) [] (take i ns) (get_or ns i d ∷ [])

pub all_in_order : (P : ℕ → Type 0) (ns : List ℕ) → All P ns → All P (numbers_in_order ns)
all_in_order P ns all = all_folded P [] ns (All-nil P) all

-- ---- fingerprints that do not change

maps_agree : {A B : Type 0} (f g : A → B) (xs : List A) → All (λ x. f x ≡ g x) xs → map f xs ≡ map g xs
maps_agree f g [] all = refl
maps_agree f g (x ∷ xs) all =
    let first = All-head (λ y. f y ≡ g y) x xs all in
    let rest = maps_agree f g xs (All-tail (λ y. f y ≡ g y) x xs all) in
    ap (λ y. y ∷ map f xs) first ∙ ap (λ ys. g x ∷ ys) rest

module _ (sources : List Stamped) (packages : List PackageDraft) where
  print_with : PackageDraft → List Stamped → Digest
  print_with pack deps = digest_of (package_text (record { name = pack.name; script = pack.script; files = taken_files sources pack.patterns; deps = deps }))

  pub same_print :
      (old new : List Digest) (pack : PackageDraft) (needs : List ℕ) → All (λ n. print_at new n ≡ print_at old n) needs
      → print_of sources packages new pack needs ≡ print_of sources packages old pack needs
  unfolding print_with
  same_print old new pack needs same =
      ap (print_with pack)
      (maps_agree (stamp_at packages new) (stamp_at packages old) (numbers_in_order needs)
      (All-weaker (λ n. print_at new n ≡ print_at old n) (λ n. stamp_at packages new n ≡ stamp_at packages old n)
      (λ n e. ap (λ (d : Digest). stamp_with n d) e) (numbers_in_order needs)
      (all_in_order (λ n. print_at new n ≡ print_at old n) needs same)))
    where
      stamp_with : ℕ → Digest → Stamped
      stamp_with n d = record { name = Rattle.bosh_release.specs.Collected.name_at packages n; digest = d }

-- ---- membership is a test

among : (done : List ℕ) (place : ℕ) → Contains done place ⊎ (Contains done place → ⊥)
among [] place = inr (λ c. absurd (omega (arith, c.1)))
among (first ∷ done) place =
    ⊎_elim
    (λ (same : place ≡ first). inl (0, omega arith, sym same))
    (λ (other : place ≡ first → ⊥).
    ⊎_elim
    (λ (later : Contains done place). inl (Contains-append_right (first ∷ []) done place later))
    (λ (never : Contains done place → ⊥). inr (λ c. split other never c))
    (among done place))
    (cases_eq place first)
  where
    split : (place ≡ first → ⊥) → (Contains done place → ⊥) → Contains (first ∷ done) place → ⊥
    split other never (zero, lt, is) = other (sym is)
    split other never (suc k, lt, is) = never (k, omega arith, is)

-- ---- one fingerprint more

module _ (sources : List Stamped) (packages : List PackageDraft) (graph : List (List ℕ)) where
  pub prints_nothing :
      (prints : List Digest) → length prints ≡ length packages → ArePrintsOf sources packages graph [] prints
  prints_nothing prints same = record {
    same_length = same;
    closed = λ place c. absurd (omega (arith, c.1));
    each = λ place d c. absurd (omega (arith, c.1));
  }

  -- a fingerprint that was found before is found again
  again :
      (done : List ℕ) (prints : List Digest) (q : ℕ) (print : Digest) (e : PackageDraft)
      → ArePrintsOf sources packages graph done prints → q < length packages → Contains done q
      → print ≡ print_of sources packages prints (get_or packages q e) (needs_of graph q)
      → set prints q print ≡ prints
  again done prints q print e are low c is =
      ap (λ (d : Digest). set prints q d) (is ∙ sym (are.each q e c)) ∙ set-get_or prints q no_digest

  pub prints_more :
      (done : List ℕ) (prints : List Digest) (q : ℕ) (print : Digest)
      → ArePrintsOf sources packages graph done prints → q < length packages
      → All (Contains done) (needs_of graph q)
      → ((d : PackageDraft) → print ≡ print_of sources packages prints (get_or packages q d) (needs_of graph q))
      → ArePrintsOf sources packages graph (done ++ q ∷ []) (set prints q print)
  prints_more done prints q print are low needed is = record {
    same_length = length-set prints q print ∙ are.same_length;
    closed = λ place c. ⊎_elim
        (λ (old : Contains done place). kept (needs_of graph place) (are.closed place old))
        (λ (it : q ≡ place). subst (λ p. All (Contains (done ++ q ∷ [])) (needs_of graph p)) it (kept (needs_of graph q) needed))
        (Contains-push_cases done q place c);
    each = λ place d c. ⊎_elim
        (λ (was : Contains done q).
        let same = again done prints q print d are low was (is d) in
        let old : Contains done place = ⊎_elim (λ (o : Contains done place). o) (λ (it : q ≡ place). subst (Contains done) it was) (Contains-push_cases done q place c) in
        ap (λ (ps : List Digest). print_at ps place) same ∙ are.each place d old
        ∙ ap (λ (ps : List Digest). print_of sources packages ps (get_or packages place d) (needs_of graph place)) (sym same))
        (λ (new : Contains done q → ⊥).
        ⊎_elim
        (λ (old : Contains done place).
        let other : place ≡ q → ⊥ = λ e. new (subst (Contains done) e old) in
        get_or-set_other prints q place print no_digest other ∙ are.each place d old
        ∙ sym (same_print sources packages prints (set prints q print) (get_or packages place d) (needs_of graph place) (unchanged new (needs_of graph place) (are.closed place old))))
        (λ (it : q ≡ place).
        let short : q < length prints = (let n = are.same_length in omega arith) in
        subst (λ p. print_at (set prints q print) p ≡ print_of sources packages (set prints q print) (get_or packages p d) (needs_of graph p)) it
        (get_or-set_same prints q print no_digest short ∙ is d
        ∙ sym (same_print sources packages prints (set prints q print) (get_or packages q d) (needs_of graph q) (unchanged new (needs_of graph q) needed))))
        (Contains-push_cases done q place c))
        (among done q);
  }
    where
      kept : (needs : List ℕ) → All (Contains done) needs → All (Contains (done ++ q ∷ [])) needs
      kept needs all = All-weaker (Contains done) (Contains (done ++ q ∷ [])) (λ n c. Contains-append_left done (q ∷ []) n c) needs all

      unchanged :
          (Contains done q → ⊥) → (needs : List ℕ) → All (Contains done) needs
          → All (λ n. print_at (set prints q print) n ≡ print_at prints n) needs
      unchanged new needs all =
          All-weaker (Contains done) (λ n. print_at (set prints q print) n ≡ print_at prints n)
          (λ n c. get_or-set_other prints q n print no_digest (λ e. new (subst (Contains done) e c))) needs all

  -- all fingerprints
  pub prints_whole :
      (order : List ℕ) (prints : List Digest) → IsOrder graph order → length graph ≡ length packages
      → ArePrintsOf sources packages graph order prints → ArePrints sources packages graph prints
  prints_whole order prints is same are = record {
    same_length = are.same_length;
    each = λ place d lt. are.each place d (is.all place (omega arith));
  }

  -- one turn
  pub prints_turn :
      (order : List ℕ) (prints : List Digest) (i : ℕ) (print : Digest) → IsOrder graph order
      → length graph ≡ length packages → i < length order → ArePrintsOf sources packages graph (take i order) prints
      → ((d : PackageDraft) → print ≡ print_of sources packages prints (get_or packages (get_or order i 0) d) (needs_of graph (get_or order i 0)))
      → ArePrintsOf sources packages graph (take (i + 1) order) (set prints (get_or order i 0) print)
  prints_turn order prints i print is same lt are printed =
      let q = get_or order i 0 in
      let low : q < length graph = is.within i 0 lt in
      subst (λ done. ArePrintsOf sources packages graph done (set prints q print)) (sym (take_more order i 0 lt))
      (prints_more (take i order) prints q print are (omega arith) (is.after i 0 lt) printed)
