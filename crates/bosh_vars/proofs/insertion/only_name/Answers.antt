use Rattle.std.proofs.Common.{◌≡◌, length, arith}
use Rattle.std.proofs.lemmas.Bool.Decides.{nat_tests}
use Rattle.bosh_vars.proofs.PlaceholderLemmas.{only_name-alone}
use Rattle.bosh_vars.proofs.insertion.only_name.Goals as goal

pub returns-then-is_empty-clause-name : goal.returns-then-is_empty-clause-name
returns-then-is_empty-clause-name c =
    let empty : length c.in_ok-name.rest.now ≡ 0 = grind (arith, nat_tests) in
    only_name-alone c.args.text.now c.in_ok-name.name.now c.in_ok-name.rest.now c.in_ok-name.ensures.name c.in_ok-name.ensures.parts empty
