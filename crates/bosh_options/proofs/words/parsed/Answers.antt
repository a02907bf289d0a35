use Rattle.std.proofs.Common.{◌≡◌, ◌∙◌, ℕ, List, [], Option, None, Some, Result, Ok, Err, true, codes, map, ap, refl, sym, subst, inl, inr}
use Rattle.std.specs.Prelude.{unwrap_or}
use Rattle.std.specs.Str.Parse.{ExplainsUnsignedError, HasUnsignedDigitsIfOk, ParsesUnsigned}
use denote.Ref.{Bor}
use Rattle.clap.specs.Walk.{rows_of}
use Rattle.clap.proofs.OnLiterals.{clap_on_literals}
use Rattle.clap.proofs.WalkLemmas.{one_text-rows}
use Rattle.clap.specs.Matches.{ReadsOne}
use Rattle.clap.specs.Words.{App, HasKind, app_of, fault_of, found_of, is_simple, is_simple_and_free, matches_of, one_of, one_text}
use Rattle.bosh_options.specs.Words.{IsCount, program}
use Rattle.bosh_options.proofs.words.parsed.Goals as goal

-- clap's words say all of the command
is_plain : is_simple_and_free program ≡ true
unfolding program clap_on_literals
is_plain = refl

is_known : is_simple program ≡ true
unfolding program clap_on_literals
is_known = refl

-- the value that is read is the one that the text spells
counted :
    {E : Type 0} (gives : List ℕ → Result ℕ E → Type 0) (text : Option (List ℕ)) (one : Option ℕ) → (text ≡ None → one ≡ None)
    → ((t : List ℕ) → text ≡ Some t → ReadsOne gives t one) → ((t : List ℕ) (r : Result ℕ E) → gives t r → ParsesUnsigned 8 10 t r)
    → IsCount text (unwrap_or one 1)
counted gives None one none value parses = ap (λ (o : Option ℕ). unwrap_or o 1) (none refl)
counted gives (Some t) (Some n) none value parses = inl (parses t (Ok n) (value t refl))
counted gives (Some t) None none value parses =
    let wrong = value t refl in
    inr (parses t (Err wrong.0) wrong.1, refl)

pub returns-in-Ok-clause-kinds : goal.returns-in-Ok-clause-kinds
returns-in-Ok-clause-kinds c =
    let is : app_of c.in_ok-command.command ≡ program = c.in_ok-command.ensures in
    subst (λ (app : App). fault_of app (map (λ (word : Bor (List ℕ)). word.now) c.args.words.now) ≡ []) is
    (c.in-Ok.ensures.kinds (ap is_simple_and_free is ∙ is_plain))

pub returns-in-Ok-clause-count : goal.returns-in-Ok-clause-count
returns-in-Ok-clause-count c =
    let words : List (List ℕ) = map (λ (word : Bor (List ℕ)). word.now) c.args.words.now in
    let is : app_of c.in_ok-command.command ≡ program = c.in_ok-command.ensures in
    let rows : rows_of (found_of c.in-Ok.matches) ≡ matches_of program words =
    (c.in-Ok.ensures.matches (ap is_simple is ∙ is_known)).0 ∙ ap (λ (app : App). matches_of app words) is in
    let text : one_text (found_of c.in-Ok.matches) (codes "threads") ≡ one_of (codes "threads") (matches_of program words) =
    one_text-rows (found_of c.in-Ok.matches) (codes "threads") ∙ ap (one_of (codes "threads")) rows in
    subst (λ (it : Option (List ℕ)). IsCount it c.unwrap_or.result) text
    (subst (λ (n : ℕ). IsCount (one_text (found_of c.in-Ok.matches) (codes "threads")) n) (sym c.unwrap_or.ensures)
    (counted (λ bs r. ParsesUnsigned 8 10 bs r × ExplainsUnsignedError 10 bs r × HasUnsignedDigitsIfOk bs r) (one_text (found_of c.in-Ok.matches) (codes "threads")) c.get_one.result c.get_one.ensures.none c.get_one.ensures.value (λ t r g. g.0)))

pub returns-in-Err-clause-kinds : goal.returns-in-Err-clause-kinds
returns-in-Err-clause-kinds c =
    let is : app_of c.in_ok-command.command ≡ program = c.in_ok-command.ensures in
    subst (λ (app : App). HasKind (fault_of app (map (λ (word : Bor (List ℕ)). word.now) c.args.words.now)) c.in-Err.error) is
    (c.in-Err.ensures.kinds (ap is_simple_and_free is ∙ is_plain))
