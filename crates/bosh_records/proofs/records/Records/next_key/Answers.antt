use Rattle.std.proofs.Common.{◌∙◌, sym}
use Rattle.bosh_records.proofs.NextKeyLemmas.{none_next}
use Rattle.bosh_records.proofs.records.Records.next_key.Goals as goal

pub returns-in_err-first : goal.returns-in_err-first
returns-in_err-first c =
    c.from_residual.ensures ∙ sym (none_next c.args.self.now c.args.work.now (sym c.first.ensures ∙ c.in_err-first.was))
