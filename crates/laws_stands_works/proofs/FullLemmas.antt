-- Lines of a task that opens: all is left of them, but for keys that are compiled already.
use Rattle.std.proofs.Common.{◌≡◌, ◌∙◌, ◌+◌, Bool, true, false, ◌&&◌, not, List, [], ◌∷◌, ◌++◌, map, Some}
use Rattle.std.proofs.Common.{ap, refl, sym}
use Rattle.std.specs.Prelude.{fold, is_some, length, replicate, slice_set, if◌then◌else◌}
use Rattle.std.specs.List.{enumerate_from, list_all}
use Rattle.std.proofs.lemmas.Bool.{and_parts}
use Rattle.std.proofs.lemmas.List.{append-nil, append_assoc, length-append, length-map, map-append}
use Rattle.bosh_base.specs.declared.key.Key.{Key}
use Rattle.bosh_base.specs.declared.key.KeyWork.{KeyWork}
use Rattle.bosh_plan.specs.WorkBy.{full, key_line, with_key}
use Rattle.bosh_records.specs.Keys.{digest_in}
use Rattle.bosh_records.specs.declared.keys.Keys.{Keys}
use Rattle.bosh_work.specs.Line.{finished_line}
use Rattle.bosh_work.specs.declared.line.Line.{Line}
use Rattle.laws_stands.specs.LineStands.{LineStands}

-- ---- items of which all are left

all_marked : {T : Type 0} (f : T → Bool) (items : List T) → list_all f items ≡ true
    → replicate (length items) true ≡ map f items
all_marked f [] all = refl
all_marked f (x ∷ items) all =
    let (first, rest) = and_parts (f x) (list_all f items) all in
    λ i. sym first i ∷ all_marked f items rest i

all_both : {T : Type 0} (f g : T → Bool) (items : List T) → list_all f items ≡ true → list_all g items ≡ true
    → list_all (λ x. f x && g x) items ≡ true
all_both f g [] all each = refl
all_both f g (x ∷ items) all each =
    let (one, ones) = and_parts (f x) (list_all f items) all in
    let (two, twos) = and_parts (g x) (list_all g items) each in
    (λ i. (one i && two i) && list_all (λ x. f x && g x) items) ∙ all_both f g items ones twos

pub full_stands : {T : Type 0} (items : List T) (left idle : T → Bool) → list_all left items ≡ true
    → list_all idle items ≡ true → LineStands items left idle (full items)
full_stands items left idle all free = record {
  items_are = refl;
  left_are = all_marked left items all;
  free_are = all_marked (λ x. left x && idle x) items (all_both left idle items all free);
}

-- ---- keys

-- a mark is put
set_there : {T : Type 0} (front rest : List T) (x y : T)
    → slice_set (front ++ x ∷ rest) (length front) y ≡ front ++ y ∷ rest
set_there [] rest x y = refl
set_there (z ∷ front) rest x y = ap (λ all. z ∷ all) (set_there front rest x y)

module _ (keys : Keys) where
  abbrev is_left : Key → Bool
  is_left key = not (is_some (digest_in keys key))

  -- the marks of the first are those of their keys, and all others are left
  abbrev marked : List KeyWork → List KeyWork → List KeyWork → Line Key
  marked works before rest = record {
    items = map (λ work. work.key) works;
    queue = record {
      left = map (λ work. is_left work.key) before ++ replicate (length rest) true;
      free = map (λ work. is_left work.key) before ++ replicate (length rest) true;
    };
  }

  one_key : (works before rest : List KeyWork) (work : KeyWork)
      → with_key keys (marked works before (work ∷ rest)) (length before, work) ≡ marked works (before ++ work ∷ []) rest
  one_key works before rest work = by (is_some (digest_in keys work.key)) refl
    where
      marks : List Bool
      marks = map (λ work. is_left work.key) before

      others : List Bool
      others = replicate (length rest) true

      more : (b : Bool) → is_left work.key ≡ b
          → marks ++ b ∷ others ≡ map (λ work. is_left work.key) (before ++ work ∷ []) ++ others
      more b is =
          (λ j. marks ++ sym is j ∷ others) ∙ sym (append_assoc marks (is_left work.key ∷ []) others)
          ∙ ap (λ all. all ++ others) (sym (map-append (λ work. is_left work.key) before (work ∷ [])))

      set : slice_set (marks ++ true ∷ others) (length before) false ≡ marks ++ false ∷ others
      set = ap (λ n. slice_set (marks ++ true ∷ others) n false) (sym (length-map before (λ work. is_left work.key)))
          ∙ set_there marks others true false

      line : List Bool → Line Key
      line marks = record {
        items = map (λ work. work.key) works;
        queue = record { left = marks; free = marks };
      }

      by : (b : Bool) → is_some (digest_in keys work.key) ≡ b
          → (if b then finished_line (line (marks ++ true ∷ others)) (Some (length before))
          else line (marks ++ true ∷ others))
          ≡ line (map (λ work. is_left work.key) (before ++ work ∷ []) ++ others)
      by true is = ap line (set ∙ more false (ap not is))
      by false is = ap line (more true (ap not is))

  all_keys : (works before rest : List KeyWork)
      → fold (with_key keys) (marked works before rest) (enumerate_from (length before) rest)
      ≡ marked works (before ++ rest) []
  all_keys works before [] = ap (λ all. marked works all []) (sym (append-nil before))
  all_keys works before (work ∷ rest) =
      ap (λ line. fold (with_key keys) line (enumerate_from (length before + 1) rest)) (one_key works before rest work)
      ∙ ap (λ n. fold (with_key keys) (marked works (before ++ work ∷ []) rest) (enumerate_from n rest))
      (sym (length-append before (work ∷ [])))
      ∙ all_keys works (before ++ work ∷ []) rest
      ∙ ap (λ all. marked works all []) (append_assoc before (work ∷ []) rest)

  marks_of : (f : Key → Bool) (g : KeyWork → Bool) → ((work : KeyWork) → g work ≡ f work.key) → (works : List KeyWork)
      → map g works ++ [] ≡ map f (map (λ work. work.key) works)
  marks_of f g same [] = refl
  marks_of f g same (work ∷ works) = λ i. same work i ∷ marks_of f g same works i

  -- those that are compiled are not left, and no machine works for another one yet
  pub keys_stand : (works : List KeyWork) (left idle : Key → Bool)
      → ((key : Key) → not (is_some (digest_in keys key)) ≡ left key) → ((key : Key) → idle key ≡ true)
      → LineStands (map (λ work. work.key) works) left idle (key_line keys works)
  keys_stand works left idle same free = record {
    items_are = ap (λ line. line.items) whole;
    left_are = ap (λ (line : Line Key). line.queue.left) whole
        ∙ marks_of left (λ work. is_left work.key) (λ work. same work.key) works;
    free_are = ap (λ (line : Line Key). line.queue.free) whole
        ∙ marks_of (λ key. left key && idle key) (λ work. is_left work.key)
        (λ work. same work.key ∙ both (left work.key) (idle work.key) (free work.key)) works;
  }
    where
      both : (a b : Bool) → b ≡ true → a ≡ (a && b)
      both true b is = sym is
      both false b is = refl

      ones : replicate (length (map (λ (work : KeyWork). work.key) works)) true
          ≡ replicate (length works) true
      ones = ap (λ n. replicate n true) (length-map works (λ (work : KeyWork). work.key))

      whole : key_line keys works ≡ marked works works []
      whole = (λ j. fold (with_key keys) (record {
        items = map (λ work. work.key) works;
        queue = record { left = ones j; free = ones j };
      }) (enumerate_from 0 works)) ∙ all_keys works [] works
