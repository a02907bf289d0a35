-- Lists of byte strings that grow at the end.
use Rattle.std.proofs.Common.{◌≡◌, ℕ, ◌+◌, ◌<◌, List, [], ◌∷◌, ◌++◌, length, take, get_or, Vec, sym, ◌∙◌, ap}
use Rattle.std.proofs.lemmas.List.{take_more, map-append}
use Rattle.std.specs.declared.alloc.Global.{Global}
use Rattle.bosh_ports.specs.Contents.{contents}

-- one item more at the end
pub contents-push : (items : List (Vec ℕ Global)) (item : Vec ℕ Global) → contents (items ++ item ∷ []) ≡ contents items ++ item.items ∷ []
contents-push items item = map-append (λ v. v.items) items (item ∷ [])

-- a copy that has come so far, and the next item's copy
pub contents-copy_more : (copies items : List (Vec ℕ Global)) (i : ℕ) (item copy : Vec ℕ Global) →
    contents copies ≡ contents (take i items) → i < length items → item ≡ get_or items i item → copy.items ≡ item.items →
    contents (copies ++ copy ∷ []) ≡ contents (take (i + 1) items)
contents-copy_more copies items i item copy so_far below is same =
    contents-push copies copy
    ∙ ap (λ front. front ++ copy.items ∷ []) so_far
    ∙ ap (λ bytes. contents (take i items) ++ bytes ∷ []) (same ∙ ap (λ v. v.items) is)
    ∙ sym (ap contents (take_more items i item below) ∙ contents-push (take i items) (get_or items i item))
