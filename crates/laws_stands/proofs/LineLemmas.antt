-- A line stands for its items, and goes on to.
use Rattle.std.proofs.Common.{◌≡◌, ◌∙◌, ℕ, Bool, true, false, not, ◌&&◌, List, map, Option, Some, None, ap, refl}
use Rattle.std.proofs.Common.{sym}
use Rattle.std.specs.List.{list_any}
use Rattle.std.specs.Prelude.{◌==◌, find, slice_get, slice_index_or, slice_set, if◌then◌else◌}
use Rattle.std.specs.Option.{option_and_then}
use Rattle.bosh_claim.specs.Phase.{is_finished}
use Rattle.bosh_progress.specs.Tree.{first_marked, marked_in}
use Rattle.bosh_history.specs.Words.{at}
use Rattle.bosh_work.specs.Line.{finished_line, given_line, taken_line}
use Rattle.bosh_work.specs.declared.line.Line.{Line}
use Rattle.bosh_claim.specs.Noted.{first_of}
use Rattle.laws_stands.specs.LineStands.{LineStands, place_of}
use Rattle.laws_stands.proofs.MarkLemmas.{at_place, found, placed, same_marks, set_at, set_same, zero_as}

pub first_is : {T : Type 0} (items : List T) (left idle : T → Bool) (line : Line T)
    → LineStands items left idle line
    → first_of line ≡ find (λ x. left x && idle x) items
first_is items left idle line stands =
    (λ i. option_and_then (λ k. slice_get (stands.items_are i) k) (first_marked (stands.free_are i)))
    ∙ found (λ x. left x && idle x) items

-- it is finished where nothing is left
pub over_is : {T : Type 0} (items : List T) (left idle : T → Bool) (line : Line T) → LineStands items left idle line
    → is_finished line.queue ≡ not (list_any left items)
over_is items left idle line stands = ap (λ marks. marked_in marks == 0) stands.left_are ∙ zero_as left items

-- nothing that is known of its items changed
pub stands_on : {T : Type 0} (items : List T) (left idle left' idle' : T → Bool) (line : Line T)
    → ((x : T) → left' x ≡ left x) → ((x : T) → idle' x ≡ idle x)
    → LineStands items left idle line → LineStands items left' idle' line
stands_on items left idle left' idle' line same_left same_idle stands = record {
  items_are = stands.items_are;
  left_are = stands.left_are ∙ sym (same_marks left' left items same_left);
  free_are = stands.free_are
      ∙ sym (same_marks (λ x. left' x && idle' x) (λ x. left x && idle x) items (λ x. λ i. same_left x i
      && same_idle x i));
}

-- an item that has the one mark at its place
module _ {T : Type 0} (same : T → T → Bool) (decides : (a b : T) → same a b ≡ true → a ≡ b) (items : List T) (x : T)
    (one : (b : Bool) (f : T → Bool) → map (at same x b f) items ≡ set_at (place_of same x items) b (map f items)) where
  -- somebody works on an item
  pub stands_taken : (left idle left' idle' : T → Bool) (line : Line T)
      → ((y : T) → left' y ≡ left y) → ((y : T) → idle' y ≡ at same x false idle y)
      → LineStands items left idle line → LineStands items left' idle' (taken_line line (place_of same x items))
  stands_taken left idle left' idle' line same_left now stands = by (place_of same x items) refl
    where
      free : (y : T) → (left' y && idle' y) ≡ at same x false (λ z. left z && idle z) y
      free y = (λ i. same_left y i && now y i) ∙ of (same x y) (left y) (idle y)
        where
          of : (b l d : Bool) → (l && (if b then false else d)) ≡ (if b then false else l && d)
          of true true d = refl
          of true false d = refl
          of false l d = refl

      marks : map (λ y. left' y && idle' y) items ≡ set_at (place_of same x items) false
          (map (λ y. left y && idle y) items)
      marks = same_marks (λ y. left' y && idle' y) (at same x false (λ z. left z && idle z)) items free
          ∙ one false (λ y. left y && idle y)

      by : (place : Option ℕ) → place_of same x items ≡ place → LineStands items left' idle' (taken_line line place)
      by (Some k) is = record {
        items_are = stands.items_are;
        left_are = stands.left_are ∙ sym (same_marks left' left items same_left);
        free_are = ap (λ marks. slice_set marks k false) stands.free_are
            ∙ sym (marks ∙ ap (λ k. set_at k false (map (λ y. left y && idle y) items)) is);
      }
      by None is = record {
        items_are = stands.items_are;
        left_are = stands.left_are ∙ sym (same_marks left' left items same_left);
        free_are = stands.free_are ∙ sym (marks ∙ ap (λ k. set_at k false (map (λ y. left y && idle y) items)) is);
      }

  -- nobody does any more
  pub stands_given : (left idle left' idle' : T → Bool) (line : Line T)
      → ((y : T) → left' y ≡ left y) → ((y : T) → idle' y ≡ at same x true idle y)
      → LineStands items left idle line → LineStands items left' idle' (given_line line (place_of same x items))
  stands_given left idle left' idle' line same_left now stands = by (place_of same x items) refl
    where
      free : (y : T) → (left' y && idle' y) ≡ at same x (left x) (λ z. left z && idle z) y
      free y = (λ i. same_left y i && now y i) ∙ of (same x y) refl
        where
          of : (b : Bool) → same x y ≡ b → (left y && (if b then true else idle y))
              ≡ (if b then left x else left y && idle y)
          of true is = and_true (left y) ∙ ap left (sym (decides x y is))
            where
              and_true : (l : Bool) → (l && true) ≡ l
              and_true true = refl
              and_true false = refl
          of false is = refl

      marks : map (λ y. left' y && idle' y) items ≡ set_at (place_of same x items) (left x)
          (map (λ y. left y && idle y) items)
      marks = same_marks (λ y. left' y && idle' y) (at same x (left x) (λ z. left z && idle z)) items free
          ∙ one (left x) (λ y. left y && idle y)

      -- the mark that is set is the one of the item
      kept : (k : ℕ) → place_of same x items ≡ Some k → slice_index_or (map left items) k false ≡ left x
      kept k is = let p : (y : T) × (slice_get items k ≡ Some y) × (same x y ≡ true) = placed (same x) items k is in
          at_place left items k p.0 p.1 ∙ ap left (sym (decides x p.0 p.2))

      unless_left : (k : ℕ) (b : Bool) → left x ≡ b → slice_index_or (map (λ y. left y && idle y) items) k false
          ≡ (b && slice_index_or (map (λ y. left y && idle y) items) k false)
          → (if b then slice_set (map (λ y. left y && idle y) items) k true else map (λ y. left y && idle y) items)
          ≡ slice_set (map (λ y. left y && idle y) items) k (left x)
      unless_left k true is there = ap (slice_set (map (λ y. left y && idle y) items) k) (sym is)
      unless_left k false is there = set_same (left x) (map (λ y. left y && idle y) items) k there is

      within : (k : ℕ) → place_of same x items ≡ Some k → slice_index_or (map (λ y. left y && idle y) items) k false
          ≡ (left x && slice_index_or (map (λ y. left y && idle y) items) k false)
      within k is = let p : (y : T) × (slice_get items k ≡ Some y) × (same x y ≡ true) =
          placed (same x) items k is in
          let e : x ≡ p.0 = decides x p.0 p.2 in
          at_place (λ y. left y && idle y) items k p.0 p.1 ∙ both (left p.0) (idle p.0)
          ∙ (λ i. left (sym e i) && sym (at_place (λ y. left y && idle y) items k p.0 p.1) i)
        where
          both : (l d : Bool) → (l && d) ≡ (l && (l && d))
          both true d = refl
          both false d = refl

      by : (place : Option ℕ) → place_of same x items ≡ place → LineStands items left' idle' (given_line line place)
      by (Some k) is = record {
        items_are = stands.items_are;
        left_are = stands.left_are ∙ sym (same_marks left' left items same_left);
        free_are =
            (λ i. if slice_index_or (stands.left_are i) k false then slice_set (stands.free_are i) k true
            else stands.free_are i)
            ∙ (λ i. if kept k is i then slice_set (map (λ y. left y && idle y) items) k true
            else map (λ y. left y && idle y) items)
            ∙ unless_left k (left x) refl (within k is)
            ∙ sym (marks ∙ ap (λ k. set_at k (left x) (map (λ y. left y && idle y) items)) is);
      }
      by None is = record {
        items_are = stands.items_are;
        left_are = stands.left_are ∙ sym (same_marks left' left items same_left);
        free_are = stands.free_are
            ∙ sym (marks ∙ ap (λ k. set_at k (left x) (map (λ y. left y && idle y) items)) is);
      }

  -- an item is finished
  pub stands_finished : (left idle left' idle' : T → Bool) (line : Line T)
      → ((y : T) → left' y ≡ at same x false left y) → ((y : T) → idle' y ≡ idle y)
      → LineStands items left idle line → LineStands items left' idle' (finished_line line (place_of same x items))
  stands_finished left idle left' idle' line now same_idle stands = by (place_of same x items) refl
    where
      free : (y : T) → (left' y && idle' y) ≡ at same x false (λ z. left z && idle z) y
      free y = (λ i. now y i && same_idle y i) ∙ of (same x y) (left y) (idle y)
        where
          of : (b l d : Bool) → ((if b then false else l) && d) ≡ (if b then false else l && d)
          of true l d = refl
          of false l d = refl

      marks : map (λ y. left' y && idle' y) items ≡ set_at (place_of same x items) false
          (map (λ y. left y && idle y) items)
      marks = same_marks (λ y. left' y && idle' y) (at same x false (λ z. left z && idle z)) items free
          ∙ one false (λ y. left y && idle y)

      lefts : map left' items ≡ set_at (place_of same x items) false (map left items)
      lefts = same_marks left' (at same x false left) items now ∙ one false left

      by : (place : Option ℕ) → place_of same x items ≡ place
          → LineStands items left' idle' (finished_line line place)
      by (Some k) is = record {
        items_are = stands.items_are;
        left_are = ap (λ marks. slice_set marks k false) stands.left_are
            ∙ sym (lefts ∙ ap (λ k. set_at k false (map left items)) is);
        free_are = ap (λ marks. slice_set marks k false) stands.free_are
            ∙ sym (marks ∙ ap (λ k. set_at k false (map (λ y. left y && idle y) items)) is);
      }
      by None is = record {
        items_are = stands.items_are;
        left_are = stands.left_are ∙ sym (lefts ∙ ap (λ k. set_at k false (map left items)) is);
        free_are = stands.free_are ∙ sym (marks ∙ ap (λ k. set_at k false (map (λ y. left y && idle y) items)) is);
      }
