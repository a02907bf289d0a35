use Rattle.std.proofs.Common.{◌≡◌, drop}
use Rattle.bosh_fields.proofs.ListLemmas.{after}
use Rattle.bosh_manifest_parts.specs.Link.{each_link}
use Rattle.bosh_manifest_parts.proofs.LinkLemmas.{fields}
use Rattle.bosh_manifest_parts.proofs.links.each_link.Given as goal

-- the links so far, and those of the other fields, are those of all fields
abbrev pub invariant-loop-name : goal.invariant-loop-name
invariant-loop-name g l =
    let item = g.T.Member.item l.given in
    each_link item l.key (fields l.fields) ≡ after l.links.items (each_link item l.key (fields (drop l.name-index l.fields)))
