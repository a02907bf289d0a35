use Rattle.std.proofs.Common.{codes, ◌==◌, rules, tests}
use Rattle.std.specs.Str.{bytes_eq}
use Rattle.std.proofs.lemmas.Iterator.Search.{any_from_yields_List}
use Rattle.std.proofs.lemmas.Iterator.Splits.{YieldsList-from_slice_split}
use Rattle.bosh_line_words.proofs.path.climbs.Goals as goal

-- the parts that `split` gives are those of the definition, and each is compared
pub returns : goal.returns
returns c = any_from_yields_List (λ part. bytes_eq part (codes "..")) _ _ _ c.any.ensures.ran
    (YieldsList-from_slice_split _ (λ byte. byte == 47) c.args.path.now c.split.ensures.rest c.split.ensures.done c.split.ensures.closure (λ x b q k. search (rules, tests)))
    (λ x b q k. search (rules, tests))
