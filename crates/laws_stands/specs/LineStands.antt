-- What a line of items stands for: items in order, of each of which it is known whether it is left, and whether its owner
-- has no open call.
use Rattle.std.specs.Prelude.{◌≡◌, ℕ, Bool, ◌&&◌, List, Option, map}
use Rattle.bosh_progress.specs.Tree.{first_marked}
use Rattle.bosh_work.specs.declared.line.Line.{Line}

-- the marks of a line are those of its items
pub record LineStands {T : Type 0} (items : List T) (left idle : T → Bool) (line : Line T) : Type 0 where
  pub items_are : line.items ≡ items
  pub left_are : line.queue.left ≡ map left items
  pub free_are : line.queue.free ≡ map (λ x. left x && idle x) items

-- the first place of an item
abbrev pub place_of : {T : Type 0} → (T → T → Bool) → T → List T → Option ℕ
place_of same x items = first_marked (map (same x) items)
