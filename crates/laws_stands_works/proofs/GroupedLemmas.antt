-- The changed instances of a task that opens, by their groups.
use Rattle.std.proofs.Common.{◌≡◌, ◌∙◌, ℕ, ◌<◌, Bool, true, false, ◌||◌, not, List, [], ◌∷◌, ◌++◌, map}
use Rattle.std.proofs.Common.{Option, Some, None, ap, arith, refl, subst, sym}
use Rattle.std.specs.Prelude.{cond, fold, length, nat_lt, slice_get, slice_set, suc, if◌then◌else◌}
use Rattle.std.specs.List.{enumerate_from, position, position_or_len}
use Rattle.std.specs.Option.{option_and_then, option_map, option_map_or}
use Rattle.std.specs.Str.{bytes_eq}
use Rattle.std.proofs.lemmas.Bool.{and_parts, false≢true, lt-ltb, true≢false}
use Rattle.std.proofs.lemmas.Bool.Decides.{nat_tests}
use Rattle.std.proofs.lemmas.List.{append-nil, append_assoc, length-append, map-append}
use Rattle.std.proofs.lemmas.Slice.Eq.{bytes_eq-Decides}
use Rattle.bosh_base.specs.declared.inst.Inst.{Inst}
use Rattle.bosh_history.specs.Words.{is_among}
use Rattle.bosh_plan.specs.Grouping.{first_inst, is_group_of, new_group, with_member, with_place}
use Rattle.bosh_work.specs.declared.groups.GroupWork.{GroupWork}
use Rattle.bosh_rows.specs.SoundSnapshot.{are_distinct}
use Rattle.laws_stands.proofs.DeploymentLemmas.{bytes_flip, bytes_is}
use Rattle.laws_stands.proofs.MemberLemmas.{once_apart}
use Rattle.laws_stands.specs.GroupsStand.{names_of, once}
use Rattle.laws_stands_works.proofs.NameLemmas.{members_of, members_snoc, none_of_group, once_snoc, with_name}

-- ---- one more member, at the first group that it is of

abbrev one_more : ℕ → GroupWork → GroupWork
one_more n it = record it { places = it.places ++ n ∷ [] }

abbrev placed : (GroupWork → Bool) → ℕ → List GroupWork → List GroupWork
placed test n [] = new_group n ∷ []
placed test n (it ∷ groups) = if test it then one_more n it ∷ groups else it ∷ placed test n groups

-- so it is put by its position
abbrev put : (GroupWork → Bool) → ℕ → List GroupWork → Option ℕ → List GroupWork
put test n groups place = option_map_or (λ at. with_place groups at n) place (groups ++ new_group n ∷ [])

behind : (it : GroupWork) (n : ℕ) (groups : List GroupWork) (place : Option ℕ) (test : GroupWork → Bool)
    → put test n (it ∷ groups) (option_map suc place) ≡ it ∷ put test n groups place
behind it n groups None test = refl
behind it n groups (Some at) test = by (slice_get groups at)
  where
    by : (o : Option GroupWork)
        → option_map_or (λ group. it ∷ slice_set groups at (one_more n group)) o (it ∷ groups)
        ≡ it ∷ option_map_or (λ group. slice_set groups at (one_more n group)) o groups
    by (Some group) = refl
    by None = refl

below_both : (a b : ℕ) → nat_lt (suc a) (suc b) ≡ nat_lt a b
below_both a b = grind (arith, nat_tests)

position_behind : (test : GroupWork → Bool) (it : GroupWork) (groups : List GroupWork) → test it ≡ false
    → position test (it ∷ groups) ≡ option_map suc (position test groups)
position_behind test it groups fails =
    (λ j. cond (nat_lt (shifted j) (suc (length groups))) (Some (shifted j)) None)
    ∙ (λ j. cond (below_both (position_or_len test groups) (length groups) j)
    (Some (suc (position_or_len test groups))) None)
    ∙ by (nat_lt (position_or_len test groups) (length groups))
  where
    shifted : position_or_len test (it ∷ groups) ≡ suc (position_or_len test groups)
    shifted = grind (arith, fails)

    by : (b : Bool) → cond b (Some (suc (position_or_len test groups))) None
        ≡ option_map suc (cond b (Some (position_or_len test groups)) None)
    by true = refl
    by false = refl

position_first : (test : GroupWork → Bool) (it : GroupWork) (groups : List GroupWork) → test it ≡ true
    → position test (it ∷ groups) ≡ Some 0
position_first test it groups passes =
    (λ j. cond (nat_lt (first j) (suc (length groups))) (Some (first j)) None)
    ∙ (λ j. cond (lt-ltb 0 (suc (length groups)) low j) (Some 0) None)
  where
    first : position_or_len test (it ∷ groups) ≡ 0
    first = grind (arith, passes)

    low : 0 < suc (length groups)
    low = omega arith

put_placed : (test : GroupWork → Bool) (n : ℕ) (groups : List GroupWork)
    → put test n groups (position test groups) ≡ placed test n groups
put_placed test n [] = refl
put_placed test n (it ∷ groups) = by (test it) refl (put_placed test n groups)
  where
    by : (b : Bool) → test it ≡ b → put test n groups (position test groups) ≡ placed test n groups
        → put test n (it ∷ groups) (position test (it ∷ groups))
        ≡ (if b then one_more n it ∷ groups else it ∷ placed test n groups)
    by true passes more = ap (put test n (it ∷ groups)) (position_first test it groups passes)
    by false fails more = ap (put test n (it ∷ groups)) (position_behind test it groups fails)
        ∙ behind it n groups (position test groups) test ∙ ap (λ all. it ∷ all) more

not_false : (b : Bool) → not b ≡ true → b ≡ false
not_false false is = refl
not_false true is = absurd (false≢true is)

-- ---- groups that are built of the first instances

module _ (changed : List Inst) where
  -- it has its members among the first, and begins with one of them
  pub record IsBuilt (before : List Inst) (group : List ℕ) (it : GroupWork) : Type 0 where
    pub places_are : it.places ≡ map (λ e. e.0) (members_of before group)
    pub head : ℕ
    pub tail : List ℕ
    pub starts : it.places ≡ head ∷ tail
    pub first : Inst
    pub first_is : slice_get changed head ≡ Some first
    pub group_is : first.group ≡ group

  abbrev pub EachBuilt : List Inst → List (List ℕ) → List GroupWork → Type 0
  EachBuilt before [] [] = Unit {0}
  EachBuilt before (group ∷ names) (it ∷ groups) = IsBuilt before group it × EachBuilt before names groups
  EachBuilt before names groups = ⊥

  pub first_as : (before : List Inst) (group : List ℕ) (it : GroupWork) (built : IsBuilt before group it)
      → first_inst changed it ≡ Some built.first
  first_as before group it built =
      ap (λ places. option_and_then (λ at. slice_get changed at) (slice_get places 0)) built.starts ∙ built.first_is

  of_group : (before : List Inst) (group : List ℕ) (it : GroupWork) → IsBuilt before group it → (x : Inst)
      → is_group_of changed x it ≡ bytes_eq x.group group
  of_group before group it built x =
      ap (λ o. option_map_or (λ (other : Inst). bytes_eq other.group x.group) o false) (first_as before group it built)
      ∙ ap (λ name. bytes_eq name x.group) built.group_is ∙ bytes_flip group x.group

  module _ (before : List Inst) (x : Inst) (there : slice_get changed (length before) ≡ Some x) where
    abbrev after : List Inst
    after = before ++ x ∷ []

    other_built : (group : List ℕ) (it : GroupWork) → bytes_eq x.group group ≡ false → IsBuilt before group it
        → IsBuilt after group it
    other_built group it other built = record {
      places_are = built.places_are
          ∙ ap (map (λ (e : ℕ × Inst). e.0)) (sym (append-nil (members_of before group))
          ∙ (λ j. members_of before group ++ (if sym other j then (length before, x) ∷ [] else []))
          ∙ sym (members_snoc before x group));
      head = built.head;
      tail = built.tail;
      starts = built.starts;
      first = built.first;
      first_is = built.first_is;
      group_is = built.group_is;
    }

    own_members : (group : List ℕ) → bytes_eq x.group group ≡ true
        → map (λ (e : ℕ × Inst). e.0) (members_of before group) ++ length before ∷ []
        ≡ map (λ (e : ℕ × Inst). e.0) (members_of after group)
    own_members group same =
        sym (map-append (λ (e : ℕ × Inst). e.0) (members_of before group) ((length before, x) ∷ []))
        ∙ ap (map (λ (e : ℕ × Inst). e.0)) ((λ j. members_of before group
        ++ (if sym same j then (length before, x) ∷ [] else [])) ∙ sym (members_snoc before x group))

    own_built : (group : List ℕ) (it : GroupWork) → bytes_eq x.group group ≡ true → IsBuilt before group it
        → IsBuilt after group (one_more (length before) it)
    own_built group it same built = record {
      places_are = ap (λ places. places ++ length before ∷ []) built.places_are ∙ own_members group same;
      head = built.head;
      tail = built.tail ++ length before ∷ [];
      starts = ap (λ places. places ++ length before ∷ []) built.starts;
      first = built.first;
      first_is = built.first_is;
      group_is = built.group_is;
    }

    new_built : members_of before x.group ≡ [] → IsBuilt after x.group (new_group (length before))
    new_built none = record {
      places_are = ap (λ all. map (λ (e : ℕ × Inst). e.0) all ++ length before ∷ []) (sym none)
          ∙ own_members x.group ((bytes_eq-Decides x.group x.group).1 refl);
      head = length before;
      tail = [];
      starts = refl;
      first = x;
      first_is = there;
      group_is = refl;
    }

    others_built : (names : List (List ℕ)) (groups : List GroupWork) → is_among bytes_eq x.group names ≡ false
        → EachBuilt before names groups → EachBuilt after names groups
    others_built [] [] none each = tt
    others_built (group ∷ names) (it ∷ groups) none (built, each) =
        by (bytes_eq x.group group) refl none (λ none. others_built names groups none each)
      where
        by : (b : Bool) → bytes_eq x.group group ≡ b → (b || is_among bytes_eq x.group names) ≡ false
            → (is_among bytes_eq x.group names ≡ false → EachBuilt after names groups)
            → EachBuilt after (group ∷ names) (it ∷ groups)
        by true same none more = absurd (true≢false none)
        by false other none more = (other_built group it other built, more none)
    others_built [] (it ∷ groups) none each = absurd each
    others_built (group ∷ names) [] none each = absurd each

    placed_built : (names : List (List ℕ)) (groups : List GroupWork) → are_distinct bytes_eq names ≡ true
        → (is_among bytes_eq x.group names ≡ false → members_of before x.group ≡ []) → EachBuilt before names groups
        → EachBuilt after (with_name x.group names) (placed (is_group_of changed x) (length before) groups)
    placed_built [] [] apart none each = (new_built (none refl), tt)
    placed_built (group ∷ names) (it ∷ groups) apart none (built, each) =
        let (once, rest) = and_parts (not (is_among bytes_eq group names)) (are_distinct bytes_eq names) apart in
        by (bytes_eq x.group group) refl once none (λ none. placed_built names groups rest none each)
      where
        more : List GroupWork
        more = placed (is_group_of changed x) (length before) groups

        left : (b : Bool) → EachBuilt after (if b then names else names ++ x.group ∷ []) more
            → IsBuilt after group it
            → EachBuilt after (if b then group ∷ names else (group ∷ names) ++ x.group ∷ []) (it ∷ more)
        left true each built = (built, each)
        left false each built = (built, each)

        by : (b : Bool) → bytes_eq x.group group ≡ b → not (is_among bytes_eq group names) ≡ true
            → ((b || is_among bytes_eq x.group names) ≡ false → members_of before x.group ≡ [])
            → ((is_among bytes_eq x.group names ≡ false → members_of before x.group ≡ [])
            → EachBuilt after (with_name x.group names) (placed (is_group_of changed x) (length before) groups))
            → EachBuilt after (if b || is_among bytes_eq x.group names then group ∷ names
            else (group ∷ names) ++ x.group ∷ []) (placed (is_group_of changed x) (length before) (it ∷ groups))
        by true same once none go =
            subst (EachBuilt after (group ∷ names))
            (λ j. if sym (of_group before group it built x ∙ same) j then one_more (length before) it ∷ groups
            else it ∷ more) (
              own_built group it same built,
              others_built names groups (ap (λ name. is_among bytes_eq name names) (bytes_is x.group group same)
                  ∙ not_false (is_among bytes_eq group names) once) each,
            )
        by false other once none go =
            subst (EachBuilt after (if is_among bytes_eq x.group names then group ∷ names
            else (group ∷ names) ++ x.group ∷ []))
            (λ j. if sym (of_group before group it built x ∙ other) j then one_more (length before) it ∷ groups
            else it ∷ more)
            (left (is_among bytes_eq x.group names) (go none)
            (other_built group it other built))
    placed_built [] (it ∷ groups) apart none each = absurd each
    placed_built (group ∷ names) [] apart none each = absurd each

  -- ---- one instance after another

  names_snoc : (before : List Inst) (x : Inst) → names_of (before ++ x ∷ []) ≡ with_name x.group (names_of before)
  names_snoc before x = ap once (map-append (λ (i : Inst). i.group) before (x ∷ []))
      ∙ once_snoc (map (λ i. i.group) before) x.group

  at_middle : (before rest : List Inst) (x : Inst) → slice_get (before ++ x ∷ rest) (length before) ≡ Some x
  at_middle [] rest x = refl
  at_middle (y ∷ before) rest x = at_middle before rest x

  pub all_built : (before rest : List Inst) → before ++ rest ≡ changed → (groups : List GroupWork)
      → EachBuilt before (names_of before) groups
      → EachBuilt changed (names_of changed) (fold (with_member changed) groups (enumerate_from (length before) rest))
  all_built before [] whole groups each =
      subst (λ before. EachBuilt before (names_of before) groups) (sym (append-nil before) ∙ whole) each
  all_built before (x ∷ rest) whole groups each =
      subst (λ n. EachBuilt changed (names_of changed) (fold (with_member changed)
      (with_member changed groups (length before, x)) (enumerate_from n rest)))
      (length-append before (x ∷ []))
      (all_built (before ++ x ∷ []) rest (append_assoc before (x ∷ []) rest ∙ whole)
      (with_member changed groups (length before, x))
      (subst (EachBuilt (before ++ x ∷ []) (names_of (before ++ x ∷ [])))
      (sym (put_placed (is_group_of changed x) (length before) groups))
      (subst (λ names. EachBuilt (before ++ x ∷ []) names (placed (is_group_of changed x) (length before) groups))
      (sym (names_snoc before x))
      (placed_built before x
      (ap (λ all. slice_get all (length before)) (sym whole) ∙ at_middle before rest x) (names_of before) groups
      (once_apart (map (λ i. i.group) before)) (none_of_group before x.group) each))))
