-- Texts in their parts, and whether bytes are UTF-8.
use Rattle.std.proofs.Common.{◌≡◌, ℕ, Bool, true, false, List, [], ◌∷◌, ◌++◌, codes, IsUtf8, refl, sym, ap, ◌∙◌, append_assoc}
use Rattle.std.specs.Str.{is_utf8}
use Rattle.std.proofs.lemmas.Str.{IsUtf8-from_is_utf8, is_utf8-from_IsUtf8}
use Rattle.bosh_base.specs.Call.{method_of}
use Rattle.bosh_base.specs.declared.answer.Answer.{Answer}
use Rattle.bosh_base.specs.declared.call.Call.{Call}
use Rattle.bosh_base.specs.declared.owner.Owner.{Owner}
use Rattle.bosh_base.specs.declared.answer.Answer.TheVariants.{Gone}
use Rattle.json.specs.Print.{quoted}
use Rattle.serde_json.specs.Written.{compact_text}
use Rattle.cpi_proc.specs.Request.{context, context_back, context_front, director, opened, request_back, request_data, request_front}
use Rattle.cpi_proc.specs.Reply.{error_data, no_log, reply_data, reply_front, reply_middle, result_data}
use Rattle.cpi_proc.specs.declared.request.Request.{Request}

is_not : (b : Bool) → (b ≡ true → ⊥) → b ≡ false
is_not true h = absurd (h refl)
is_not false h = refl

pub is_utf8-true : (bs : List ℕ) → IsUtf8 bs → is_utf8 bs ≡ true
is_utf8-true = is_utf8-from_IsUtf8

pub is_utf8-false : (bs : List ℕ) → (IsUtf8 bs → ⊥) → is_utf8 bs ≡ false
is_utf8-false bs h = is_not (is_utf8 bs) (λ e. h (IsUtf8-from_is_utf8 bs e))

pub ruleset tests_text = (is_utf8-true, is_utf8-false)

pub context_is : (dep : List ℕ) (owner : Owner) (n : ℕ) → context_front dep ++ context_back owner n ≡ compact_text (context dep owner n)
unfolding context opened director
context_is dep owner n = simp append_assoc refl

pub request_is : (r : Request) → request_front r.call ++ (opened (codes ",") (codes "context") ++ (compact_text (context r.dep r.owner r.n) ++ request_back (method_of r.call))) ≡ compact_text (request_data r)
unfolding request_data opened
request_is r = simp append_assoc refl

-- pieces that were added one after the other
pub two_pieces : (start a b w x : List ℕ) → w ≡ start ++ a → x ≡ w ++ b → x ≡ start ++ (a ++ b)
two_pieces start a b w x p q = q ∙ ap (λ (s : List ℕ). s ++ b) p ∙ append_assoc start a b

pub four_pieces : (start a b c d w x y z : List ℕ) → w ≡ start ++ a → x ≡ w ++ b → y ≡ x ++ c → z ≡ y ++ d → z ≡ start ++ (a ++ (b ++ (c ++ d)))
four_pieces start a b c d w x y z p q r s =
    s ∙ ap (λ (t : List ℕ). t ++ d) (r ∙ ap (λ (t : List ℕ). t ++ c) (two_pieces start a b w x p q)) ∙ append_assoc (start ++ (a ++ b)) c d ∙ append_assoc start (a ++ b) (c ++ d)
    ∙ ap (λ (t : List ℕ). start ++ t) (append_assoc a b (c ++ d))

pub reply_is : (a : Answer) → reply_front a ++ (reply_middle ++ (compact_text (result_data a) ++ codes "}")) ≡ compact_text (reply_data a)
unfolding reply_data opened no_log
reply_is a = simp append_assoc refl

pub three_pieces : (start a b c w x y : List ℕ) → w ≡ start ++ a → x ≡ w ++ b → y ≡ x ++ c → y ≡ start ++ (a ++ (b ++ c))
three_pieces start a b c w x y p q r =
    r ∙ ap (λ (t : List ℕ). t ++ c) (two_pieces start a b w x p q) ∙ append_assoc start (a ++ b) c ∙ ap (λ (t : List ℕ). start ++ t) (append_assoc a b c)

pub gone_is : opened (codes "{") (codes "type") ++ (quoted (codes "Gone") ++ codes "}") ≡ compact_text (error_data Gone)
unfolding error_data opened
gone_is = simp append_assoc refl
