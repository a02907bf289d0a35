-- Segments of a history, one after the other.
use Rattle.std.proofs.Common.{◌≡◌, ℕ, List, [], ◌∷◌, ◌++◌, inl, inr, refl, sym, ap, ◌∙◌, subst, append_assoc, append-nil}
use Rattle.std.proofs.lemmas.List.{map-append}
use Rattle.std.specs.List.Sorted.{IsPermutation}
use Rattle.bosh_base.specs.declared.moves.Move.{Move}
use Rattle.bosh_base.specs.declared.moves.Move.TheVariants as moves
use Rattle.bosh_base.specs.declared.moves.Said as said
use Rattle.bosh_base.specs.declared.reply.Reply.{Reply}
use Rattle.bosh_moves.specs.Replies.{replies_in}
use Rattle.bosh_transcript.proofs.ReplyLemmas.{answered_append}
use Rattle.bosh_transcript.specs.Past.{AreSilent}
use Rattle.bosh_transcript.specs.Replies.{answered_commands}
use Rattle.bosh_transcript.specs.Segments.{AreAnswered, AreAnsweredUpTo, AreOpened, AreOpenedUpTo, AreRun, AreRunUpTo, AreThen, AreTogether, AreTogetherUpTo, AreTold, AreToldUpTo, IsAnswered, all_said, said_reply}

-- what comes after the first of a segment may be more
pub then_more : {Is Are More : List Move → Type 0} (xs ys : List Move) →
    (x : AreThen Is Are xs) → ((rest : List Move) → Are rest → More (rest ++ ys)) → AreThen Is More (xs ++ ys)
then_more xs ys x next = record {
  first = x.first;
  rest = x.rest ++ ys;
  is = ap (λ (l : List Move). l ++ ys) x.is ∙ append_assoc x.first x.rest ys;
  begins = x.begins;
  others = next x.rest x.others;
}

-- ---- replies alone

pub told_none : AreTold [] []
told_none = record { replies = []; due = refl; is = refl }

pub told_one : (number : ℕ) (reply : Reply) → AreTold (number ∷ []) (said_reply number reply ∷ [])
told_one number reply = record { replies = record { command = number; reply = reply } ∷ []; due = refl; is = refl }

said_append : (xs ys : List said.Said) → all_said (xs ++ ys) ≡ all_said xs ++ all_said ys
said_append xs ys = map-append moves.Said xs ys

said_then : (xs ys : List said.Said) (a b : List Move) → a ≡ all_said xs → b ≡ all_said ys → a ++ b ≡ all_said (xs ++ ys)
said_then xs ys a b x y =
    ap (λ (l : List Move). l ++ b) x ∙ ap (λ (l : List Move). all_said xs ++ l) y ∙ sym (said_append xs ys)

pub told_then : (xs ys : List ℕ) (a b : List Move) → AreTold xs a → AreTold ys b → AreTold (xs ++ ys) (a ++ b)
told_then xs ys a b x y = record {
  replies = x.replies ++ y.replies;
  due = answered_append x.replies y.replies
      ∙ ap (λ (l : List ℕ). l ++ answered_commands y.replies) x.due ∙ ap (λ (l : List ℕ). xs ++ l) y.due;
  is = said_then x.replies y.replies a b x.is y.is;
}

pub told_cut : (xs ys : List ℕ) (a b : List Move) → AreTold xs a → AreToldUpTo ys b → AreToldUpTo (xs ++ ys) (a ++ b)
told_cut xs ys a b x y = record {
  replies = x.replies ++ y.replies;
  left = y.left;
  due = ap (λ (l : List ℕ). l ++ y.left) (answered_append x.replies y.replies)
      ∙ append_assoc (answered_commands x.replies) (answered_commands y.replies) y.left
      ∙ ap (λ (l : List ℕ). answered_commands x.replies ++ l) y.due
      ∙ ap (λ (l : List ℕ). l ++ ys) x.due;
  is = said_then x.replies y.replies a b x.is y.is;
}

-- an event came before further commands
pub told_first : (xs ys : List ℕ) (a : List Move) → AreToldUpTo xs a → AreToldUpTo (xs ++ ys) a
told_first xs ys a x = record {
  replies = x.replies;
  left = x.left ++ ys;
  due = sym (append_assoc (answered_commands x.replies) x.left ys) ∙ ap (λ (l : List ℕ). l ++ ys) x.due;
  is = x.is;
}

pub told_nothing : (xs : List ℕ) → AreToldUpTo xs []
told_nothing xs = record { replies = []; left = xs; due = refl; is = refl }

pub told_whole : (xs : List ℕ) (a : List Move) → AreTold xs a → AreToldUpTo xs a
told_whole xs a x = record {
  replies = x.replies;
  left = [];
  due = append-nil (answered_commands x.replies) ∙ x.due;
  is = x.is;
}

-- ---- one command after the other

-- the first reply that was said, where the command has one
first_said : (number : ℕ) (replies : List said.Said) (a b : List Move) → AreSilent a →
    answered_commands replies ≡ number ∷ [] → b ≡ all_said replies → IsAnswered number (a ++ b)
first_said number [] a b silent due is = absurd (let no : ⊥ = cc in no)
first_said number (it ∷ []) a b silent due is = record {
  work = a;
  reply = it.reply;
  silent = silent;
  is = ap (λ (l : List Move). a ++ l) is
      ∙ ap (λ (n : ℕ). a ++ said_reply n it.reply ∷ []) (let e : it.command ≡ number = cc in e);
}
first_said number (it ∷ other ∷ more) a b silent due is = absurd (let no : ⊥ = cc in no)

pub answered_one : (number : ℕ) (a b : List Move) → AreSilent a → AreTold (number ∷ []) b → IsAnswered number (a ++ b)
answered_one number a b silent told = first_said number told.replies a b silent told.due told.is

-- one command alone
pub one_alone : (number : ℕ) (a : List Move) → IsAnswered number a → AreAnswered (number ∷ []) a
one_alone number a one = record { first = a; rest = []; is = sym (append-nil a); begins = one; others = refl }

pub answered_then : (xs ys : List ℕ) (a b : List Move) → AreAnswered xs a → AreAnswered ys b → AreAnswered (xs ++ ys) (a ++ b)
answered_then [] ys a b none y = subst (λ (l : List Move). AreAnswered ys (l ++ b)) (sym none) y
answered_then (number ∷ xs) ys a b x y =
    then_more a b x (λ rest others. answered_then xs ys rest b others y)

pub answered_cut : (xs ys : List ℕ) (a b : List Move) → AreAnswered xs a → AreAnsweredUpTo ys b →
    AreAnsweredUpTo (xs ++ ys) (a ++ b)
answered_cut [] ys a b none y = subst (λ (l : List Move). AreAnsweredUpTo ys (l ++ b)) (sym none) y
answered_cut (number ∷ xs) ys a b x y =
    inr (then_more a b x (λ rest others. answered_cut xs ys rest b others y))

nothing_more : (ys : List ℕ) → AreAnsweredUpTo ys []
nothing_more [] = refl
nothing_more (number ∷ ys) = inl refl

-- an event came before further commands
pub answered_first : (xs ys : List ℕ) (a : List Move) → AreAnsweredUpTo xs a → AreAnsweredUpTo (xs ++ ys) a
answered_first [] ys a none = subst (AreAnsweredUpTo ys) (sym none) (nothing_more ys)
answered_first (number ∷ xs) ys a (inl silent) = inl silent
answered_first (number ∷ xs) ys a (inr x) = inr (record {
  first = x.first;
  rest = x.rest;
  is = x.is;
  begins = x.begins;
  others = answered_first xs ys x.rest x.others;
})

-- what is told of one command, up to an event
cut_said : (number : ℕ) (replies : List said.Said) (left : List ℕ) (a b : List Move) → AreSilent a →
    answered_commands replies ++ left ≡ number ∷ [] → b ≡ all_said replies → AreAnsweredUpTo (number ∷ []) (a ++ b)
cut_said number [] left a b silent due is =
    inl (ap replies_in (ap (λ (l : List Move). a ++ l) is ∙ append-nil a) ∙ silent)
cut_said number (it ∷ []) left a b silent due is = inr (record {
  first = a ++ b;
  rest = [];
  is = sym (append-nil (a ++ b));
  begins = first_said number (it ∷ []) a b silent
      (ap (λ (n : ℕ). n ∷ []) (let e : it.command ≡ number = cc in e)) is;
  others = refl;
})
cut_said number (it ∷ other ∷ more) left a b silent due is = absurd (let no : ⊥ = cc in no)

pub cut_one : (number : ℕ) (a b : List Move) → AreSilent a → AreToldUpTo (number ∷ []) b →
    AreAnsweredUpTo (number ∷ []) (a ++ b)
cut_one number a b silent told = cut_said number told.replies told.left a b silent told.due told.is

-- ---- commands that are carried out at once

pub opened_none : AreOpened [] [] []
opened_none = (refl, refl)

pub opened_told : (number : ℕ) (a : List Move) → IsAnswered number a → AreOpened (number ∷ []) [] a
opened_told number a one = inl (record { first = a; rest = []; is = sym (append-nil a); begins = one; others = (refl, refl) })

pub opened_runs : (number : ℕ) (a : List Move) → AreSilent a → AreOpened (number ∷ []) (number ∷ []) a
opened_runs number a silent = inr (record {
  others_running = [];
  is_running = refl;
  opens = record { first = a; rest = []; is = sym (append-nil a); begins = silent; others = (refl, refl) };
})

pub opened_then : (xs ys r s : List ℕ) (a b : List Move) → AreOpened xs r a → AreOpened ys s b →
    AreOpened (xs ++ ys) (r ++ s) (a ++ b)
opened_then [] ys r s a b none y =
    subst (λ (l : List ℕ). AreOpened ys (l ++ s) (a ++ b)) (sym none.0)
    (subst (λ (l : List Move). AreOpened ys s (l ++ b)) (sym none.1) y)
opened_then (number ∷ xs) ys r s a b (inl told) y =
    inl (then_more a b told (λ rest others. opened_then xs ys r s rest b others y))
opened_then (number ∷ xs) ys r s a b (inr runs) y = inr (record {
  others_running = runs.others_running ++ s;
  is_running = ap (λ (l : List ℕ). l ++ s) runs.is_running;
  opens = then_more a b runs.opens (λ rest others. opened_then xs ys runs.others_running s rest b others y);
})

-- an event came as the task of one was to open
pub opened_cut : (xs ys r : List ℕ) (number : ℕ) (a b : List Move) → AreOpened xs r a → AreAnsweredUpTo (number ∷ []) b →
    AreOpenedUpTo (xs ++ number ∷ ys) (a ++ b)
opened_cut xs ys r number a b x (inl silent) = record {
  first = xs;
  left = number ∷ ys;
  running = r;
  front = refl;
  opens = record { first = a; rest = b; is = refl; begins = x; others = silent };
}
opened_cut xs ys r number a b x (inr told) =
    let one : IsAnswered number b =
    subst (IsAnswered number) (sym (told.is ∙ ap (λ (l : List Move). told.first ++ l) told.others ∙ append-nil told.first))
    told.begins in
    record {
      first = xs ++ number ∷ [];
      left = ys;
      running = r ++ [];
      front = sym (append_assoc xs (number ∷ []) ys);
      opens = record {
        first = a ++ b;
        rest = [];
        is = sym (append-nil (a ++ b));
        begins = opened_then xs (number ∷ []) r [] a b x (opened_told number b one);
        others = refl;
      };
    }

pub run_told : (running order : List ℕ) (a b : List Move) → IsPermutation order running → AreSilent a → AreTold order b →
    AreRun running (a ++ b)
run_told running order a b each silent told = record {
  order = order;
  each = each;
  run = record { first = a; rest = b; is = refl; begins = silent; others = told };
}

pub run_cut : (running order : List ℕ) (a b : List Move) → IsPermutation order running → AreSilent a →
    AreToldUpTo order b → AreRunUpTo running (a ++ b)
run_cut running order a b each silent told = record {
  order = order;
  each = each;
  run = record { first = a; rest = b; is = refl; begins = silent; others = told };
}

pub together_run : (commands running : List ℕ) (a b : List Move) → AreOpened commands running a → AreRun running b →
    AreTogether commands (a ++ b)
together_run commands running a b opened run = record {
  running = running;
  opens = record { first = a; rest = b; is = refl; begins = opened; others = run };
}

pub together_cut : (commands running : List ℕ) (a b : List Move) → AreOpened commands running a → AreRunUpTo running b →
    AreTogetherUpTo commands (a ++ b)
together_cut commands running a b opened run = inr (record {
  running = running;
  opens = record { first = a; rest = b; is = refl; begins = opened; others = run };
})

-- an event came before the first of them
pub together_nothing : (commands : List ℕ) → AreTogetherUpTo commands []
together_nothing commands = inl (record {
  first = [];
  left = commands;
  running = [];
  front = refl;
  opens = record { first = []; rest = []; is = refl; begins = (refl, refl); others = refl };
})
