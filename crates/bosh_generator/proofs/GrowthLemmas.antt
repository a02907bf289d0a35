-- Lists that grow at their end.
use Rattle.std.proofs.Common.{◌≡◌, ◌∙◌, ap, append_assoc, List, ◌++◌}

pub grown : {A : Type 0} (before mid after list more : List A) → mid ≡ before ++ list → after ≡ mid ++ more
    → after ≡ before ++ (list ++ more)
grown before mid after list more one other = other ∙ ap (λ all. all ++ more) one ∙ append_assoc before list more
