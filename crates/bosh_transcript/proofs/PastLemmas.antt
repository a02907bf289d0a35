-- Moves that come one after the other.
use Rattle.std.proofs.Common.{List, [], ◌++◌, refl, sym, ap, ◌∙◌, append_assoc, append-nil}
use Rattle.bosh_base.proofs.HistoryLemmas.{Extends_refl, Extends_trans}
use Rattle.bosh_base.specs.declared.moves.Move.{Move}
use Rattle.bosh_transcript.proofs.ReplyLemmas.{replies_append}
use Rattle.bosh_moves.specs.Replies.{replies_in}
use Rattle.bosh_base.specs.declared.moves.Said as said
use Rattle.bosh_transcript.specs.Past.{AreSilent, Continues, Past, Proceeds}

pub continues_none : (a : Past) → Continues a [] a
continues_none a = record {
  same_opening = refl;
  story = sym (append-nil a.story);
  grows = Extends_refl a.moves;
}

pub continues_then : (a b c : Past) (xs ys : List Move) → Continues a xs b → Continues b ys c → Continues a (xs ++ ys) c
continues_then a b c xs ys x y = record {
  same_opening = y.same_opening ∙ x.same_opening;
  story = y.story ∙ ap (λ (before : List Move). before ++ ys) x.story ∙ append_assoc a.story xs ys;
  grows = Extends_trans a.moves b.moves c.moves x.grows y.grows;
}

pub silent_then : (xs ys : List Move) → AreSilent xs → AreSilent ys → AreSilent (xs ++ ys)
silent_then xs ys x y =
    replies_append xs ys ∙ ap (λ (before : List said.Said). before ++ replies_in ys) x ∙ y

pub proceeds_none : (a : Past) → Proceeds a a
proceeds_none a = record { segment = []; continues = continues_none a; silent = refl }

pub proceeds_then : (a b c : Past) → Proceeds a b → Proceeds b c → Proceeds a c
proceeds_then a b c x y = record {
  segment = x.segment ++ y.segment;
  continues = continues_then a b c x.segment y.segment x.continues y.continues;
  silent = silent_then x.segment y.segment x.silent y.silent;
}
