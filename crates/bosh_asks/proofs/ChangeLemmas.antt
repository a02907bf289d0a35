-- Instances that change, one after another.
use Rattle.std.proofs.Common.{◌≡◌, ◌∙◌, ap, refl, sym, subst, arith, ℕ, ◌+◌, ◌<◌, ◌≤◌, Bool, true, false, ◌||◌, cond}
use Rattle.std.proofs.Common.{List, [], ◌∷◌, ◌++◌, Option, length, map, get_or, take}
use Rattle.std.proofs.lemmas.List.{length-map, map-append, take_all, take_more}
use Rattle.bosh_base.specs.declared.goal.GoalRow.{GoalRow}
use Rattle.bosh_base.specs.declared.inst.Inst.{Inst}
use Rattle.bosh_base.specs.declared.row.Row.{Row}
use Rattle.bosh_asks.specs.Changed.{AreChanged, changed_of, does_not_stand, insts_of}

-- the list with one instance more, where that is changed
abbrev with_one : Bool → List Inst → Inst → List Inst
with_one is changed inst = cond is (changed ++ inst ∷ []) changed

last_of : (every : Bool) (wants : List GoalRow) (rows : List (Option Row)) (want : GoalRow) (row : Option Row)
    → length rows ≡ length wants
    → changed_of every (wants ++ want ∷ []) (rows ++ row ∷ [])
    ≡ with_one (every || does_not_stand want row) (changed_of every wants rows) want.inst
last_of every [] [] want row same = refl
last_of every [] (r ∷ rows) want row same = absurd (omega arith)
last_of every (w ∷ wants) [] want row same = absurd (omega arith)
last_of every (w ∷ wants) (r ∷ rows) want row same =
    at (every || does_not_stand w r) (every || does_not_stand want row)
    (last_of every wants rows want row (omega arith))
  where
    before : List Inst
    before = changed_of every wants rows

    after : List Inst
    after = changed_of every (wants ++ want ∷ []) (rows ++ row ∷ [])

    at :
        (first last : Bool) → after ≡ with_one last before want.inst
        → cond first (w.inst ∷ after) after ≡ with_one last (cond first (w.inst ∷ before) before) want.inst
    at true true more = ap (λ all. w.inst ∷ all) more
    at true false more = ap (λ all. w.inst ∷ all) more
    at false true more = more
    at false false more = more

every_one :
    (wants : List GoalRow) (rows : List (Option Row)) → length rows ≡ length wants
    → changed_of true wants rows ≡ insts_of wants
every_one [] rows same = refl
every_one (w ∷ wants) [] same = absurd (omega arith)
every_one (w ∷ wants) (r ∷ rows) same = ap (λ all. w.inst ∷ all) (every_one wants rows (omega arith))

pub are_changed :
    (every : Bool) (wants : List GoalRow) (rows : List (Option Row)) (changed : List Inst) → length rows ≡ length wants
    → changed ≡ changed_of every wants rows → AreChanged every wants changed
are_changed every wants rows changed same is = record {
  rows = rows;
  same_length = same;
  is = is;
  all = λ all. is ∙ ap (λ b. changed_of b wants rows) all ∙ every_one wants rows same;
}

pub all_changed :
    (every : Bool) (wants : List GoalRow) (row_of : GoalRow → Option Row) (i : ℕ) (changed : List Inst)
    → length wants ≤ i → changed ≡ changed_of every (take i wants) (map row_of (take i wants))
    → changed ≡ changed_of every wants (map row_of wants)
all_changed every wants row_of i changed past h =
    subst (λ (ws : List GoalRow). changed ≡ changed_of every ws (map row_of ws)) (take_all i wants past) h

pub changed_more :
    (every : Bool) (wants : List GoalRow) (row_of : GoalRow → Option Row) (i : ℕ) (want : GoalRow)
    (changed : List Inst) (answer : Bool) → i < length wants → want ≡ get_or wants i want
    → answer ≡ (every || does_not_stand want (row_of want))
    → changed ≡ changed_of every (take i wants) (map row_of (take i wants))
    → with_one answer changed want.inst ≡ changed_of every (take (i + 1) wants) (map row_of (take (i + 1) wants))
changed_more every wants row_of i want changed answer low at one before =
    let more : take (i + 1) wants ≡ take i wants ++ want ∷ [] =
    take_more wants i want low ∙ ap (λ w. take i wants ++ w ∷ []) (sym at) in
    ap (λ b. with_one b changed want.inst) one
    ∙ ap (λ all. with_one (every || does_not_stand want (row_of want)) all want.inst) before
    ∙ sym (last_of every (take i wants) (map row_of (take i wants)) want (row_of want)
    (length-map (take i wants) row_of))
    ∙ ap (λ rows. changed_of every (take i wants ++ want ∷ []) rows)
    (sym (map-append row_of (take i wants) (want ∷ [])))
    ∙ ap (λ (ws : List GoalRow). changed_of every ws (map row_of ws)) (sym more)
