use Rattle.std.proofs.Common.{◌≡◌, ◌∙◌, true, false, ap, sym}
use Rattle.std.specs.Option.{is_some}
use Rattle.bosh_share.specs.Directory.{candidates_at}
use Rattle.bosh_share.proofs.DirectoryLemmas.{IsDirectory-kept, IsDirectory-put}
use Rattle.bosh_share.proofs.directory.add.Goals as goal

pub returns-then-contains_key-clause-ok : goal.returns-then-contains_key-clause-ok
returns-then-contains_key-clause-ok c = λ before h.
    let there : is_some (candidates_at c.args.directory.now c.args.known.now.dep) ≡ true =
    ap (λ name. is_some (candidates_at c.args.directory.now name)) (sym c.as_bytes-name.ensures.bytes) ∙ sym c.contains_key.ensures ∙ c.if-contains_key.true in
    IsDirectory-kept before c.args.known.now c.args.directory.now there h

pub returns-clause-ok : goal.returns-clause-ok
returns-clause-ok c = λ before h.
    let absent : is_some (candidates_at c.args.directory.now c.as_bytes-name.result.now) ≡ false = sym c.contains_key.ensures ∙ c.if-contains_key.false in
    IsDirectory-put before c.args.known.now c.as_bytes-name.result.now c.args.directory.now c.insert.new.self c.in_ok-candidates.candidates c.as_bytes-name.ensures.bytes absent c.in_ok-candidates.ensures.ok c.in_ok-insert.ensures.updates h
