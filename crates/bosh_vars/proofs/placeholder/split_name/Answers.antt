use Rattle.std.proofs.Common.{◌∙◌, ap, sym, subst, take}
use Rattle.std.specs.Str.{IsUtf8}
use Rattle.bosh_vars.proofs.PlaceholderLemmas.{letters_utf8}
use Rattle.bosh_vars.proofs.placeholder.split_name.Goals as goal

pub returns-clause-utf8 : goal.returns-clause-utf8
returns-clause-utf8 c =
    subst IsUtf8 (sym (c.split_at.ensures.front ∙ ap (λ n. take n c.args.bytes.now) c.name_len.ensures.length)) (letters_utf8 c.args.bytes.now)
