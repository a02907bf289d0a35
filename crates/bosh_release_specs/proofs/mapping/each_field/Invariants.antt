use Rattle.std.proofs.Common.{◌≡◌, drop}
use Rattle.bosh_fields.proofs.ListLemmas.{after}
use Rattle.bosh_release_specs.specs.JobSpec.{each_field}
use Rattle.bosh_release_specs.proofs.FieldLemmas.{fields}
use Rattle.bosh_release_specs.proofs.mapping.each_field.Given as goal

-- the values so far, and those of the other fields, are those of all fields
abbrev pub invariant-loop-key : goal.invariant-loop-key
invariant-loop-key g l =
    let kind = g.T.FromField.kind in
    each_field kind (fields l.fields) ≡ after l.values.items (each_field kind (fields (drop l.key-index l.fields)))
