-- The lines that events and refusals name are lines of the text.
use Rattle.std.proofs.Common.{ℕ, zero, suc, Bool, true, false, List, [], ◌∷◌, ◌++◌, length, nat_lt, nat_le, Option, Some, None, Result, Ok, Err, codes, ◌==◌, if◌then◌else◌}
use Rattle.std.specs.Str.{bytes_eq, is_utf8}
use Rattle.bosh_yaml.specs.declared.bare.Place.{Place}
use Rattle.bosh_yaml.specs.declared.bare.Place.TheVariants.{Flow as FlowPlace}
use Rattle.bosh_yaml.specs.declared.block.Frame.{Frame}
use Rattle.bosh_yaml.specs.declared.block.Frame.TheVariants.{Whole, Done, Item, List as ListAt, Entry, Map as MapAt}
use Rattle.bosh_yaml.specs.declared.event.Event.{Event}
use Rattle.bosh_yaml.specs.declared.event.Event.TheVariants as event
use Rattle.bosh_yaml.specs.declared.fault.ReadFault.{ReadFault}
use Rattle.bosh_yaml.specs.declared.fault.ReadFault.TheVariants.{Syntax, RepeatedKey, TooDeep, TooLarge, Number, Memory}
use Rattle.bosh_yaml.specs.declared.flow.Nest.{Nest}
use Rattle.bosh_yaml.specs.declared.flow.Nest.TheVariants.{BeforeForm, AfterForm, BeforeItem, AfterItem, BeforeKey, AfterKey, AfterEntry}
use Rattle.bosh_yaml.specs.declared.flow.Sign.{Sign}
use Rattle.bosh_yaml.specs.declared.flow.Sign.TheVariants as sign
use Rattle.bosh_yaml.specs.declared.word.Word.{Word}
use Rattle.bosh_yaml.specs.declared.word.Word.TheVariants.{Plain, Quoted}
use Rattle.bosh_yaml.specs.Bare.{plain_len, starts_plain}
use Rattle.bosh_yaml.specs.Block.{after_events, nothing, place_dash, place_key, place_value, Placed}
use Rattle.bosh_yaml.specs.Flow.{after_key, after_value, close_list, close_map, comma, ends_key, form, form_of, is_whole, sign_at, sign_of, sign_or_word, signs_of, turn, word_sign}
use Rattle.bosh_yaml.specs.Lines.{is_end, skip_spaces}
use Rattle.bosh_yaml.specs.Quotes.{double_quoted, single_quoted}
use Rattle.bosh_yaml.specs.Result.{◌>>=◌, with_front}
use Rattle.bosh_yaml.specs.Word.{key_of, plain_word, quoted_word, text_of, word_at}

abbrev pub IsOn : (ℕ → Type 0) → Event → Type 0
IsOn P (event.Scalar leaf) = Unit {0}
IsOn P event.OpenList = Unit {0}
IsOn P event.OpenMap = Unit {0}
IsOn P (event.Key line key) = P line
IsOn P event.Close = Unit {0}

-- P holds of the line of each key
abbrev pub AreOn : (ℕ → Type 0) → List Event → Type 0
AreOn P [] = Unit {0}
AreOn P (e ∷ es) = IsOn P e × AreOn P es

-- a refusal for the syntax of a line of which P holds
abbrev pub RefusesOn : (ℕ → Type 0) → ReadFault → Type 0
RefusesOn P (Syntax line) = P line
RefusesOn P (RepeatedKey line) = ⊥
RefusesOn P TooDeep = ⊥
RefusesOn P TooLarge = ⊥
RefusesOn P Number = ⊥
RefusesOn P Memory = ⊥

abbrev pub Gave : (ℕ → Type 0) → {A : Type 0} → (A → Type 0) → Result A ReadFault → Type 0
Gave P Q (Ok x) = Q x
Gave P Q (Err e) = RefusesOn P e

abbrev pub Any : {A : Type 0} → A → Type 0
Any x = Unit {0}

abbrev pub OnPair : (ℕ → Type 0) → {B : Type 0} → List Event × B → Type 0
OnPair P p = AreOn P p.0

module _ (P : ℕ → Type 0) where
  pub on_append : (es fs : List Event) → AreOn P es → AreOn P fs → AreOn P (es ++ fs)
  on_append [] fs h k = k
  on_append (e ∷ es) fs h k = (h.0, on_append es fs h.1 k)

  pub gave_bind : {A B : Type 0} (Q : A → Type 0) (R : B → Type 0) (read : Result A ReadFault) (f : A → Result B ReadFault) → Gave P Q read → ((x : A) → Q x → Gave P R (f x)) → Gave P R (read >>= f)
  gave_bind Q R (Ok x) f h step = step x h
  gave_bind Q R (Err e) f h step = h

  pub gave_if : {A : Type 0} (Q : A → Type 0) (b : Bool) (x y : Result A ReadFault) → Gave P Q x → Gave P Q y → Gave P Q (if b then x else y)
  gave_if Q true x y h k = h
  gave_if Q false x y h k = k

  -- events before others
  pub gave_behind : {B : Type 0} (es : List Event) (read : Result (List Event × B) ReadFault) → AreOn P es → Gave P (OnPair P) read → Gave P (OnPair P) (read >>= λ p. Ok (es ++ p.0, p.1))
  gave_behind es (Ok p) h k = on_append es p.0 h k
  gave_behind es (Err e) h k = k

  pub gave_front : (es : List Event) (read : Result (List Event) ReadFault) → AreOn P es → Gave P (AreOn P) read → Gave P (AreOn P) (with_front es read)
  gave_front es (Ok fs) h k = on_append es fs h k
  gave_front es (Err e) h k = k

  gave_any_front : {A : Type 0} (xs : List A) (read : Result (List A) ReadFault) → Gave P Any read → Gave P Any (with_front xs read)
  gave_any_front xs (Ok ys) k = tt
  gave_any_front xs (Err e) k = k

  module _ (line : ℕ) (p : P line) where
    -- ---- scalars

    pub on_text : (bytes : List ℕ) → Gave P Any (text_of line bytes)
    on_text bytes = gave_if Any (is_utf8 bytes) _ _ tt p

    on_quoted : (q : Option (List ℕ × List ℕ)) → Gave P Any (quoted_word line q)
    on_quoted None = p
    on_quoted (Some q) = gave_bind Any Any (text_of line q.0) _ (on_text q.0) (λ x h. tt)

    on_plain : (place : Place) (bytes : List ℕ) → Gave P Any (plain_word place line bytes)
    on_plain place bytes =
        gave_if Any (starts_plain bytes) _ _ (gave_if Any (plain_len place bytes == 0) _ _ p (gave_bind Any Any (text_of line _) _ (on_text _) (λ x h. tt))) p

    pub on_word : (place : Place) (bytes : List ℕ) → Gave P Any (word_at place line bytes)
    on_word place [] = p
    on_word place (b ∷ bs) =
        gave_if Any (b == 39) _ _ (on_quoted (single_quoted bs)) (gave_if Any (b == 34) _ _ (on_quoted (double_quoted bs)) (on_plain place (b ∷ bs)))

    pub on_key : (word : Word) → Gave P Any (key_of line word)
    on_key (Quoted text) = tt
    on_key (Plain text) = gave_if Any (bytes_eq text (codes "<<")) _ _ p tt

    -- ---- flow forms

    on_word_sign : (word : Word) (rest : List ℕ) → Gave P Any (word_sign line (word, rest))
    on_word_sign word [] = tt
    on_word_sign word (b ∷ bs) =
        gave_if Any (b == 58) _ _ (gave_if Any (ends_key bs) _ _ (gave_bind Any Any (key_of line word) _ (on_key word) (λ x h. tt)) p) tt

    on_sign_or_word : (found : Option Sign) (rest bytes : List ℕ) → Gave P Any (sign_or_word line found rest bytes)
    on_sign_or_word None rest bytes = gave_bind Any Any (word_at FlowPlace line bytes) _ (on_word FlowPlace bytes) (λ w h. on_word_sign w.0 w.1)
    on_sign_or_word (Some s) rest bytes = tt

    on_sign : (bytes : List ℕ) → Gave P Any (sign_at line bytes)
    on_sign [] = p
    on_sign (b ∷ bs) = on_sign_or_word (sign_of b) bs (b ∷ bs)

    on_signs : (most : ℕ) (bytes : List ℕ) → Gave P Any (signs_of most line bytes)
    on_signs zero bytes = gave_if Any (is_end bytes) _ _ tt p
    on_signs (suc most) bytes =
        gave_if Any (is_end bytes) _ _ tt (gave_bind Any Any (sign_at line (skip_spaces bytes)) _ (on_sign (skip_spaces bytes)) (λ first h. gave_any_front (first.0 ∷ []) (signs_of most line first.1) (on_signs most first.1)))

    on_after_value : (nest : Nest) → Gave P Any (after_value line nest)
    on_after_value BeforeForm = tt
    on_after_value AfterForm = p
    on_after_value BeforeItem = tt
    on_after_value AfterItem = p
    on_after_value BeforeKey = p
    on_after_value AfterKey = tt
    on_after_value AfterEntry = p

    on_after_key : (nest : Nest) → Gave P Any (after_key line nest)
    on_after_key BeforeForm = p
    on_after_key AfterForm = p
    on_after_key BeforeItem = p
    on_after_key AfterItem = p
    on_after_key BeforeKey = tt
    on_after_key AfterKey = p
    on_after_key AfterEntry = p

    on_comma : (nest : Nest) → Gave P (OnPair P) (comma line nest)
    on_comma BeforeForm = p
    on_comma AfterForm = p
    on_comma BeforeItem = p
    on_comma AfterItem = tt
    on_comma BeforeKey = p
    on_comma AfterKey = (tt, tt)
    on_comma AfterEntry = tt

    on_close_list : (nest : Nest) → Gave P (OnPair P) (close_list line nest)
    on_close_list BeforeForm = p
    on_close_list AfterForm = p
    on_close_list BeforeItem = (tt, tt)
    on_close_list AfterItem = (tt, tt)
    on_close_list BeforeKey = p
    on_close_list AfterKey = p
    on_close_list AfterEntry = p

    on_close_map : (nest : Nest) → Gave P (OnPair P) (close_map line nest)
    on_close_map BeforeForm = p
    on_close_map AfterForm = p
    on_close_map BeforeItem = p
    on_close_map AfterItem = p
    on_close_map BeforeKey = (tt, tt)
    on_close_map AfterKey = (tt, (tt, tt))
    on_close_map AfterEntry = (tt, tt)

    on_turn : (nest : Nest) (s : Sign) → Gave P (OnPair P) (turn line nest s)
    on_turn nest sign.OpenList = gave_bind Any (OnPair P) (after_value line nest) _ (on_after_value nest) (λ after h. (tt, tt))
    on_turn nest sign.OpenMap = gave_bind Any (OnPair P) (after_value line nest) _ (on_after_value nest) (λ after h. (tt, tt))
    on_turn nest (sign.Scalar value) = gave_bind Any (OnPair P) (after_value line nest) _ (on_after_value nest) (λ after h. (tt, tt))
    on_turn nest (sign.Key key) = gave_bind Any (OnPair P) (after_key line nest) _ (on_after_key nest) (λ after h. (p, tt))
    on_turn nest sign.Comma = on_comma nest
    on_turn nest sign.CloseList = on_close_list nest
    on_turn nest sign.CloseMap = on_close_map nest

    on_form : (nests : List Nest) (signs : List Sign) → Gave P (AreOn P) (form line nests signs)
    on_form nests [] = gave_if (AreOn P) (is_whole nests) _ _ tt p
    on_form [] (s ∷ signs) = p
    on_form (nest ∷ nests) (s ∷ signs) =
        gave_bind (OnPair P) (AreOn P) (turn line nest s) _ (on_turn nest s) (λ next h. gave_front next.0 (form line (next.1 ++ nests) signs) h (on_form (next.1 ++ nests) signs))

    pub on_form_of : (bytes : List ℕ) → Gave P (AreOn P) (form_of line bytes)
    on_form_of bytes = gave_bind Any (AreOn P) (signs_of (length bytes) line bytes) _ (on_signs (length bytes) bytes) (λ signs h. on_form (BeforeForm ∷ []) signs)

    -- ---- dashes, keys and values by their columns

    behind_close : (read : Result Placed ReadFault) → Gave P (OnPair P) read → Gave P (OnPair P) (after_events (event.Close ∷ []) read)
    behind_close read h = gave_behind (event.Close ∷ []) read (tt, tt) h

    behind_null : (read : Result Placed ReadFault) → Gave P (OnPair P) read → Gave P (OnPair P) (after_events (nothing ∷ event.Close ∷ []) read)
    behind_null read h = gave_behind (nothing ∷ event.Close ∷ []) read (tt, (tt, tt)) h

    pub on_dash : (column : ℕ) (frames : List Frame) → Gave P (OnPair P) (place_dash line column frames)
    on_dash column [] = p
    on_dash column (Whole ∷ frames) = (tt, tt)
    on_dash column (Done ∷ frames) = p
    on_dash column (Item at ∷ frames) =
        gave_if (OnPair P) (nat_lt at column) _ _ (tt, tt) (gave_if (OnPair P) (column == at) _ _ (tt, tt) (behind_null (place_dash line column frames) (on_dash column frames)))
    on_dash column (ListAt at ∷ frames) = gave_if (OnPair P) (column == at) _ _ tt (behind_close (place_dash line column frames) (on_dash column frames))
    on_dash column (Entry at ∷ frames) = gave_if (OnPair P) (nat_le at column) _ _ (tt, tt) (behind_null (place_dash line column frames) (on_dash column frames))
    on_dash column (MapAt at ∷ frames) = behind_close (place_dash line column frames) (on_dash column frames)

    pub on_place_key : (column : ℕ) (key : List ℕ) (frames : List Frame) → Gave P (OnPair P) (place_key line column key frames)
    on_place_key column key [] = p
    on_place_key column key (Whole ∷ frames) = (tt, (p, tt))
    on_place_key column key (Done ∷ frames) = p
    on_place_key column key (Item at ∷ frames) = gave_if (OnPair P) (nat_lt at column) _ _ (tt, (p, tt)) (behind_null (place_key line column key frames) (on_place_key column key frames))
    on_place_key column key (ListAt at ∷ frames) = behind_close (place_key line column key frames) (on_place_key column key frames)
    on_place_key column key (Entry at ∷ frames) =
        gave_if (OnPair P) (nat_lt at column) _ _ (tt, (p, tt)) (gave_if (OnPair P) (column == at) _ _ (tt, (p, tt)) (behind_null (place_key line column key frames) (on_place_key column key frames)))
    on_place_key column key (MapAt at ∷ frames) = gave_if (OnPair P) (column == at) _ _ (p, tt) (behind_close (place_key line column key frames) (on_place_key column key frames))

    pub on_value : (column : ℕ) (frames : List Frame) → Gave P Any (place_value line column frames)
    on_value column [] = p
    on_value column (Whole ∷ frames) = tt
    on_value column (Done ∷ frames) = p
    on_value column (Item at ∷ frames) = gave_if Any (nat_lt at column) _ _ tt p
    on_value column (ListAt at ∷ frames) = p
    on_value column (Entry at ∷ frames) = gave_if Any (nat_lt at column) _ _ tt p
    on_value column (MapAt at ∷ frames) = p
