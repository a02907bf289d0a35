use Rattle.bosh_yaml.proofs.NamedLineLemmas.{json_repeats_none, json_syntax_names_none, repeated_names_line, syntax_names_line}
use Rattle.bosh_yaml.proofs.laws.refusals_name_a_line.Goals as goal

pub returns : goal.returns
returns c = record { repeated = repeated_names_line; syntax = syntax_names_line; json_syntax = json_syntax_names_none; json_keys = json_repeats_none }
