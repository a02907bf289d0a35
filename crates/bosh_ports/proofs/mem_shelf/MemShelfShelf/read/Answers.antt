use Rattle.std.proofs.Common.{rules, sym, ◌∙◌, ap, refl, Some}
use Rattle.bosh_ports.proofs.ShelfLemmas.{file_at-files_of}
use Rattle.bosh_ports.proofs.mem_shelf.MemShelfShelf.read.Goals as goal
use Rattle.bosh_ports.proofs.mem_shelf.MemShelfShelf.read.Goals.{in-None, in-Some, in-Some-2+in_ok-to_vec-in-Some-2}

pub returns-clause-answer : goal.returns-clause-answer
returns-clause-answer c =
    let found = file_at-files_of c.self.inside.files.entries c.args.path.now in
    let g = c.get.ensures.value in
    rw (← c.self.view_is, found, ← g)
    (elim c.match-get.branch [
      | in-None w ↦ rw (w.result-is, w.in-None.is) refl
      | in-Some w ↦ rw (w.result-is, w.in-Some.is) (let l = w.len.ensures in search rules)
      | in-Some-2+in_ok-to_vec-in-Some-2 w ↦
          let same = w.in_ok-to_vec-in-Some-2.ensures.items_if_clones_equal (λ _ _ e. e) ∙ w.deref.ensures.value in
          rw (w.result-is, w.in-Some.is) (ap Some (sym same), rw same (let l = w.len.ensures in let few = w.if-len-gt-MOST_BYTES.false in search rules))
    ])
