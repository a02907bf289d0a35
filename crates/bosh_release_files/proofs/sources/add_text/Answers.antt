use Rattle.std.proofs.Common.{◌∙◌, ap, sym, ◌||◌}
use Rattle.std.specs.Option.{option_map}
use Rattle.bosh_release_files.specs.Pattern.{is_that}
use Rattle.bosh_release_files.specs.Sources.{has}
use Rattle.bosh_release_files.proofs.IndexLemmas.{has_more}
use Rattle.bosh_release_files.proofs.sources.add_text.Goals as goal

pub returns-in_ok-insert-in-Some-clause-added : goal.returns-in_ok-insert-in-Some-clause-added
returns-in_ok-insert-in-Some-clause-added c = λ q.
    has_more c.args.texts.now c.insert.new.self c.in-Some.text c.in_ok-insert-in-Some.ensures.updates q
    ∙ ap (λ o. is_that q (option_map (λ text. text.now) o) || has c.args.texts.now q) (sym c.in-Some.is)
