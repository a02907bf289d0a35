-- The fault of a line, word by word.
use Rattle.std.proofs.Common.{◌≡◌, ℕ, suc, ◌+◌, ◌<◌, ◌&&◌, ◌||◌, Bool, true, false, not, cond, List, [], ◌∷◌, length, drop, Option, Some, None, Result, Ok, Err, refl, ap, subst, sym, ◌∙◌, arith, nat_lt}
use Rattle.std.specs.Prelude.{IfErr, IsErrAnd, count_by, find, map, is_some, option_and_then}
use Rattle.std.specs.List.{list_any}
use Rattle.bosh_line_words.specs.declared.fault.LineFault.{LineFault}
use Rattle.bosh_line_words.specs.declared.fault.LineFault.TheVariants.{UnknownCommand, BadArgument, Missing, Extra, TooLarge, BadTogether, Memory}
use Rattle.std.specs.Option.{option_map}
use Rattle.std.specs.Str.{bytes_eq, is_utf8}
use Rattle.bosh_line_words.specs.declared.choice.Choice as code
use Rattle.bosh_line_words.specs.Words.{Word}
use Rattle.bosh_line_words.specs.Grammar.{Choice, IsRefused, Role, Stands, Names, Spare, fault_by, fault_of, faulty, choice_of, is_open, is_over, is_repeated, is_repeated_in, is_spare, named, naming, place_fault, roles, roles_after, suits, takes_value}

abbrev pub Fits : Type 0
Fits = List ℕ → Bool

open_after : (place : Fits) (rs : List Role) → is_open (Stands place ∷ rs) ≡ is_open rs
open_after place [] = refl
open_after place (r ∷ rs) = refl

fewer : (n m : ℕ) → nat_lt (suc n) (suc m) ≡ nat_lt n m
fewer n m = grind arith

-- what is short of words is so whether or not the first place has its word
short_after : (place : Fits) (n m : ℕ) (rs : List Role) → (nat_lt (suc n) (suc m) || is_open (Stands place ∷ rs)) ≡ (nat_lt n m || is_open rs)
short_after place n m rs = ap (λ (b : Bool). b || is_open (Stands place ∷ rs)) (fewer n m) ∙ ap (λ (b : Bool). nat_lt n m || b) (open_after place rs)

first_fits : (fits : Bool) (at : Option ℕ) (place : ℕ) (short over : Bool) → fits ≡ true → fault_by (cond fits at (Some place)) short over ≡ fault_by at short over
first_fits true at place short over is = refl
first_fits false at place short over is = cc

first_fails : (fits : Bool) (at : Option ℕ) (place : ℕ) (short over : Bool) (fault : LineFault) → cond fits None (Some (BadArgument place)) ≡ Some fault → fault_by (cond fits at (Some place)) short over ≡ Some fault
first_fails true at place short over fault is = cc
first_fails false at place short over fault is = is

taken_at : (place : Fits) (places : List Fits) (options : List Choice) (word : Word) (words : List Word) → place word.text ≡ true → fault_of (place ∷ places) options (word ∷ words) ≡ fault_of places options words
unfolding fault_of
taken_at place places options word words suits =
    let rs = roles places options words in
    let over = is_over options rs (drop (length places) words) in
    first_fits (place word.text) (faulty rs words) word.place (nat_lt (suc (length words)) (suc (length places)) || is_open (Stands place ∷ rs)) over suits
    ∙ ap (λ (b : Bool). fault_by (faulty rs words) b over) (short_after place (length words) (length places) rs)

-- a word that may stand at a place has no part in the fault
pub fault_taken : (place : Fits) (places : List Fits) (options : List Choice) (ws : List Word) (word : Word) (words : List Word) → ws ≡ word ∷ words → place word.text ≡ true → fault_of (place ∷ places) options ws ≡ fault_of places options words
fault_taken place places options ws word words is suits =
    ap (λ (xs : List Word). fault_of (place ∷ places) options xs) is ∙ taken_at place places options word words suits

none_there : (n : ℕ) (over : Bool) (fault : LineFault) → Some Missing ≡ Some fault → fault_by None (nat_lt 0 (suc n) || false) over ≡ Some fault
none_there n over fault is = let some : nat_lt 0 (suc n) ≡ true = grind arith in ap (λ (b : Bool). fault_by None (b || false) over) some ∙ is

-- the fault of a word at a place, or of a place with no word, is that of the line
pub fault_placed : (place : Fits) (places : List Fits) (options : List Choice) (ws : List Word) (fault : LineFault) → place_fault place ws ≡ Some fault → fault_of (place ∷ places) options ws ≡ Some fault
unfolding fault_of
fault_placed place places options [] fault is = none_there (length places) _ fault is
fault_placed place places options (word ∷ words) fault is = first_fails (place word.text) _ word.place _ _ fault is

-- Words after the places, where some were seen already: whether one of these is too many, and those that the count of each
-- option still has to go over.
abbrev pub left_fault : Bool → List Choice → List Word → List Word → Option LineFault
left_fault spare options all words =
    let rs = roles_after options None words in
    fault_by (faulty rs words) (is_open rs) (spare || list_any is_spare rs || list_any (is_repeated all) options)

same_fault : (at at2 : Option ℕ) (short short2 over over2 : Bool) → at ≡ at2 → short ≡ short2 → over ≡ over2 → fault_by at short over ≡ fault_by at2 short2 over2
same_fault at at2 short short2 over over2 p q r = cc

none_fewer : (n : ℕ) → nat_lt n 0 ≡ false
none_fewer n = grind arith

pub left_start : (options : List Choice) (words : List Word) → fault_of [] options words ≡ left_fault false options words words
unfolding fault_of
left_start options words =
    let rs = roles_after options None words in
    same_fault (faulty rs words) (faulty rs words) (nat_lt (length words) 0 || is_open rs) (is_open rs) _ _ refl (ap (λ (b : Bool). b || is_open rs) (none_fewer (length words))) refl

or-false : (b : Bool) → (b || false) ≡ b
or-false true = refl
or-false false = refl

or-true : (b : Bool) → (b || true) ≡ true
or-true true = refl
or-true false = refl

-- no word is left
pub left_end : (spare : Bool) (options : List Choice) (all : List Word) → left_fault spare options all [] ≡ fault_by None false (spare || list_any (is_repeated all) options)
left_end spare options all = ap (λ (b : Bool). fault_by None false (b || list_any (is_repeated all) options)) (or-false spare)

open_past : (r : Role) (rs : List Role) → takes_value r ≡ false → is_open (r ∷ rs) ≡ is_open rs
open_past r [] takes = takes
open_past r (next ∷ rs) takes = refl

-- what words come to where the first names this option, or none
abbrev headed : Bool → List Choice → List Word → Word → List Word → Option Choice → Option LineFault
headed spare options all word more found =
    let rs = roles_after options (option_and_then (λ choice. choice.value) found) more in
    fault_by (faulty (naming found ∷ rs) (word ∷ more)) (is_open (naming found ∷ rs)) (spare || list_any is_spare (naming found ∷ rs) || list_any (is_repeated all) options)

headed_by : (spare : Bool) (options : List Choice) (all words more : List Word) (word : Word) (found : Option Choice) → words ≡ word ∷ more → named options word.text ≡ found → left_fault spare options all words ≡ headed spare options all word more found
headed_by spare options all words more word found is names =
    ap (λ (ws : List Word). left_fault spare options all ws) is ∙ ap (λ (f : Option Choice). headed spare options all word more f) names

cond_true : (b : Bool) (x y : Option ℕ) → b ≡ true → cond b x y ≡ x
cond_true b x y is = rw is refl

cond_false : (b : Bool) (x y : Option ℕ) → b ≡ false → cond b x y ≡ y
cond_false b x y is = rw is refl

-- a word that names no option is one too many, and has a fault where it is not UTF-8
pub left_spare : (spare : Bool) (options : List Choice) (all words more : List Word) (word : Word) → words ≡ word ∷ more → named options word.text ≡ None → is_utf8 word.text ≡ true → left_fault spare options all words ≡ left_fault true options all more
left_spare spare options all words more word is none utf8 =
    let rs = roles_after options None more in
    headed_by spare options all words more word None is none
    ∙ same_fault _ (faulty rs more) _ (is_open rs) _ true (cond_true _ (faulty rs more) (Some word.place) utf8) (open_past Spare rs refl) (ap (λ (b : Bool). b || list_any (is_repeated all) options) (or-true spare))

pub left_bytes : (spare : Bool) (options : List Choice) (all words more : List Word) (word : Word) → words ≡ word ∷ more → named options word.text ≡ None → is_utf8 word.text ≡ false → left_fault spare options all words ≡ Some (BadArgument word.place)
left_bytes spare options all words more word is none utf8 =
    let rs = roles_after options None more in
    headed_by spare options all words more word None is none
    ∙ same_fault _ (Some word.place) _ _ _ _ (cond_false _ (faulty rs more) (Some word.place) utf8) refl refl

-- an option with no value
flag_at : (spare : Bool) (options : List Choice) (all more : List Word) (word : Word) (choice : Choice) (value : Option Fits) → choice.value ≡ value → value ≡ None → headed spare options all word more (Some choice) ≡ left_fault spare options all more
flag_at spare options all more word choice value takes none =
    let rs = roles_after options None more in
    let missing : choice.value ≡ None = takes ∙ none in
    let same : roles_after options choice.value more ≡ rs = ap (λ (v : Option Fits). roles_after options v more) missing in
    let no_value : takes_value (Names choice) ≡ false = ap is_some missing in
    same_fault _ (faulty rs more) _ (is_open rs) _ _ (ap (λ (xs : List Role). faulty xs more) same) (ap (λ (xs : List Role). is_open (Names choice ∷ xs)) same ∙ open_past (Names choice) rs no_value) (ap (λ (xs : List Role). spare || list_any is_spare xs || list_any (is_repeated all) options) same)

pub left_flag : (spare : Bool) (options : List Choice) (all words more : List Word) (word : Word) (choice : Choice) → words ≡ word ∷ more → named options word.text ≡ Some choice → choice.value ≡ None → left_fault spare options all words ≡ left_fault spare options all more
left_flag spare options all words more word choice is names none =
    headed_by spare options all words more word (Some choice) is names ∙ flag_at spare options all more word choice None none refl

-- an option with its value
abbrev valued : Bool → List Choice → List Word → Word → List Word → Choice → Fits → Option LineFault
valued spare options all word more choice fits =
    let rs = roles_after options (Some fits) more in
    fault_by (faulty (Names choice ∷ rs) (word ∷ more)) (is_open (Names choice ∷ rs)) (spare || list_any is_spare (Names choice ∷ rs) || list_any (is_repeated all) options)

valued_by : (spare : Bool) (options : List Choice) (all words more : List Word) (word : Word) (choice : Choice) (fits : Fits) → words ≡ word ∷ more → named options word.text ≡ Some choice → choice.value ≡ Some fits → left_fault spare options all words ≡ valued spare options all word more choice fits
valued_by spare options all words more word choice fits is names takes =
    headed_by spare options all words more word (Some choice) is names
    ∙ ap (λ (v : Option Fits). let rs = roles_after options v more in fault_by (faulty (Names choice ∷ rs) (word ∷ more)) (is_open (Names choice ∷ rs)) (spare || list_any is_spare (Names choice ∷ rs) || list_any (is_repeated all) options)) takes

value_at : (spare : Bool) (options : List Choice) (all past : List Word) (word value : Word) (choice : Choice) (fits : Fits) → fits value.text ≡ true → valued spare options all word (value ∷ past) choice fits ≡ left_fault spare options all past
value_at spare options all past word value choice fits suits =
    let rs = roles_after options None past in
    same_fault _ (faulty rs past) _ (is_open rs) _ _ (cond_true _ (faulty rs past) (Some value.place) suits) (open_past (Stands fits) rs refl) refl

pub left_value : (spare : Bool) (options : List Choice) (all words more past : List Word) (word value : Word) (choice : Choice) (fits : Fits) → words ≡ word ∷ more → named options word.text ≡ Some choice → choice.value ≡ Some fits → more ≡ value ∷ past → fits value.text ≡ true → left_fault spare options all words ≡ left_fault spare options all past
left_value spare options all words more past word value choice fits is names takes next suits =
    valued_by spare options all words more word choice fits is names takes
    ∙ (ap (λ (ws : List Word). valued spare options all word ws choice fits) next ∙ value_at spare options all past word value choice fits suits)

unfit_at : (spare : Bool) (options : List Choice) (all more : List Word) (word : Word) (choice : Choice) (fits : Fits) (fault : LineFault) → choice.value ≡ Some fits → place_fault fits more ≡ Some fault → valued spare options all word more choice fits ≡ Some fault
unfit_at spare options all [] word choice fits fault takes refused = ap (λ (b : Bool). fault_by None b (spare || list_any is_spare (Names choice ∷ []) || list_any (is_repeated all) options)) (ap is_some takes) ∙ refused
unfit_at spare options all (value ∷ past) word choice fits fault takes refused = first_fails (fits value.text) _ value.place _ _ fault refused

pub left_unfit : (spare : Bool) (options : List Choice) (all words more : List Word) (word : Word) (choice : Choice) (fits : Fits) (fault : LineFault) → words ≡ word ∷ more → named options word.text ≡ Some choice → choice.value ≡ Some fits → place_fault fits more ≡ Some fault → left_fault spare options all words ≡ Some fault
left_unfit spare options all words more word choice fits fault is names takes refused =
    valued_by spare options all words more word choice fits is names takes ∙ unfit_at spare options all more word choice fits fault takes refused

by_test : (b : Bool) (view : code.Choice → Choice) (x y : Option code.Choice) → cond b (option_map view x) (option_map view y) ≡ option_map view (cond b x y)
by_test true view x y = refl
by_test false view x y = refl

named-first : (name text : List ℕ) (view : code.Choice → Choice) (c : code.Choice) (cs : List code.Choice) → name ≡ c.name.now → named (map view cs) text ≡ option_map view (find (λ c. bytes_eq text c.name.now) cs) → cond (bytes_eq text name) (Some (view c)) (named (map view cs) text) ≡ option_map view (cond (bytes_eq text c.name.now) (Some c) (find (λ c. bytes_eq text c.name.now) cs))
named-first name text view c cs same rest = rw (same, rest) (by_test (bytes_eq text c.name.now) view (Some c) (find (λ c. bytes_eq text c.name.now) cs))

-- the options of a table by name
pub named-map : (view : code.Choice → Choice) → ((c : code.Choice) → (view c).name ≡ c.name.now) → (cs : List code.Choice) (text : List ℕ) → named (map view cs) text ≡ option_map view (find (λ c. bytes_eq text c.name.now) cs)
named-map view names [] text = refl
named-map view names (c ∷ cs) text = named-first (view c).name text view c cs (names c) (named-map view names cs text)

-- an option of a table of code, and none of it
pub named-some : (fits : Fits) (cs : List code.Choice) (text : List ℕ) (choice : code.Choice) → Some choice ≡ find (λ c. bytes_eq text c.name.now) cs → named (map (choice_of fits) cs) text ≡ Some (choice_of fits choice)
named-some fits cs text choice is = named-map (choice_of fits) (λ c. refl) cs text ∙ ap (option_map (choice_of fits)) (sym is)

pub named-none : (fits : Fits) (cs : List code.Choice) (text : List ℕ) → None ≡ find (λ c. bytes_eq text c.name.now) cs → named (map (choice_of fits) cs) text ≡ None
named-none fits cs text is = named-map (choice_of fits) (λ c. refl) cs text ∙ ap (option_map (choice_of fits)) (sym is)

pub value-some : (fits : Fits) (choice : code.Choice) → choice.takes_value ≡ true → (choice_of fits choice).value ≡ Some fits
value-some fits choice takes = rw takes refl

pub value-none : (fits : Fits) (choice : code.Choice) → choice.takes_value ≡ false → (choice_of fits choice).value ≡ None
value-none fits choice takes = rw takes refl

-- what the table of code has twice, its options have
pub repeated-map : (fits : Fits) (words : List Word) (cs : List code.Choice) → list_any (is_repeated words) (map (choice_of fits) cs) ≡ list_any (is_repeated_in words) cs
repeated-map fits words [] = refl
repeated-map fits words (c ∷ cs) = ap (λ (b : Bool). is_repeated_in words c || b) (repeated-map fits words cs)

over_is : (spare : Bool) (fits : Fits) (cs : List code.Choice) (all left : List Word) (fault : Option LineFault) (over : Bool) → fault ≡ left_fault spare (map (choice_of fits) cs) all left → left ≡ [] → (spare || list_any (is_repeated_in all) cs) ≡ over → fault ≡ fault_by None false over
over_is spare fits cs all left fault over is none judged =
    is ∙ (ap (λ (ws : List Word). left_fault spare (map (choice_of fits) cs) all ws) none
    ∙ (left_end spare (map (choice_of fits) cs) all ∙ (ap (λ (b : Bool). fault_by None false (spare || b)) (repeated-map fits all cs) ∙ ap (fault_by None false) judged)))

pub left_over : (spare : Bool) (fits : Fits) (cs : List code.Choice) (all left : List Word) (fault : Option LineFault) → fault ≡ left_fault spare (map (choice_of fits) cs) all left → left ≡ [] → (spare || list_any (is_repeated_in all) cs) ≡ true → fault ≡ Some Extra
left_over spare fits cs all left fault is none judged = over_is spare fits cs all left fault true is none judged

pub left_well : (spare : Bool) (fits : Fits) (cs : List code.Choice) (all left : List Word) (fault : Option LineFault) → fault ≡ left_fault spare (map (choice_of fits) cs) all left → left ≡ [] → (spare || list_any (is_repeated_in all) cs) ≡ false → fault ≡ None
left_well spare fits cs all left fault is none judged = over_is spare fits cs all left fault false is none judged

-- a fault that is handed on is the same
pub told : {T : Type 0} (result : Result T LineFault) (fault : LineFault) (at : Option LineFault) → IsErrAnd result (λ f. f ≡ fault) → at ≡ Some fault → IfErr result (λ f. at ≡ Some f)
told (Ok value) fault at is refused = tt
told (Err f) fault at is refused = refused ∙ ap (λ (x : LineFault). Some x) (sym is)

pub ruleset leaves = (left_start, left_end, left_spare, left_bytes, left_flag, left_value, left_unfit)

-- words are refused with their fault, which is never want of memory
never_memory : (at : Option ℕ) (short over : Bool) → fault_by at short over ≡ Some Memory → ⊥
never_memory (Some place) short over is = cc
never_memory None true over is = cc
never_memory None false true is = cc
never_memory None false false is = cc

pub refused : (places : List Fits) (options : List Choice) (words : List Word) (fault : LineFault) → fault_of places options words ≡ Some fault → IsRefused places options words fault
unfolding fault_of
refused places options words Memory is = absurd (never_memory _ _ _ is)
refused places options words UnknownCommand is = is
refused places options words (BadArgument place) is = is
refused places options words Missing is = is
refused places options words Extra is = is
refused places options words TooLarge is = is
refused places options words BadTogether is = is

pub out_of_memory : (places : List Fits) (options : List Choice) (words : List Word) (fault : LineFault) → fault ≡ Memory → fault_of places options words ≡ None → IsRefused places options words fault
out_of_memory places options words fault is none = subst (IsRefused places options words) (sym is) none

-- the words after the first are refused, so all are
pub refused_after : (place : Fits) (places : List Fits) (options : List Choice) (ws words : List Word) (fault : LineFault) → fault_of (place ∷ places) options ws ≡ fault_of places options words → IsRefused places options words fault → IsRefused (place ∷ places) options ws fault
refused_after place places options ws words Memory same is = same ∙ is
refused_after place places options ws words UnknownCommand same is = same ∙ is
refused_after place places options ws words (BadArgument at) same is = same ∙ is
refused_after place places options ws words Missing same is = same ∙ is
refused_after place places options ws words Extra same is = same ∙ is
refused_after place places options ws words TooLarge same is = same ∙ is
refused_after place places options ws words BadTogether same is = same ∙ is

pub refused_placed : (place : Fits) (places : List Fits) (options : List Choice) (ws : List Word) (fault : LineFault) → place_fault place ws ≡ Some fault → IsRefused (place ∷ places) options ws fault
refused_placed place places options ws fault is = refused (place ∷ places) options ws fault (fault_placed place places options ws fault is)

pub refused_taken : (place : Fits) (places : List Fits) (options : List Choice) (ws : List Word) (word : Word) (words : List Word) (fault : LineFault) → ws ≡ word ∷ words → place word.text ≡ true → IsRefused places options words fault → IsRefused (place ∷ places) options ws fault
refused_taken place places options ws word words fault is suits after = refused_after place places options ws words fault (fault_taken place places options ws word words is suits) after

spare_never : (at : Option ℕ) (short : Bool) → fault_by at short true ≡ None → ⊥
spare_never (Some place) short is = cc
spare_never None true is = cc
spare_never None false is = cc

follows_by : (choice : Choice) (fits : Fits) (ws more : List Word) (word : Word) (fault : LineFault) (names utf8 : Bool) → choice.value ≡ Some fits → fault_of [] (choice ∷ []) ws ≡ None → ws ≡ word ∷ more → place_fault fits more ≡ Some fault → bytes_eq word.text choice.name ≡ names → is_utf8 word.text ≡ utf8 → ⊥
follows_by choice fits ws more word fault true utf8 takes none is lacks names text =
    let named_it : named (choice ∷ []) word.text ≡ Some choice = rw names refl in
    let found = left_start (choice ∷ []) ws ∙ left_unfit false (choice ∷ []) ws ws more word choice fits fault is named_it takes lacks in
    cc
follows_by choice fits ws more word fault false true takes none is lacks names text =
    let named_none : named (choice ∷ []) word.text ≡ None = rw names refl in
    spare_never _ _ (sym (left_start (choice ∷ []) ws ∙ left_spare false (choice ∷ []) ws ws more word is named_none text) ∙ none)
follows_by choice fits ws more word fault false false takes none is lacks names text =
    let named_none : named (choice ∷ []) word.text ≡ None = rw names refl in
    let found = left_start (choice ∷ []) ws ∙ left_bytes false (choice ∷ []) ws ws more word is named_none text in
    cc

-- where the one option takes a value, and words have no fault, a fitting word follows the first
pub value_follows : (choice : Choice) (fits : Fits) (ws more : List Word) (word : Word) (fault : LineFault) → choice.value ≡ Some fits → fault_of [] (choice ∷ []) ws ≡ None → ws ≡ word ∷ more → place_fault fits more ≡ Some fault → ⊥
value_follows choice fits ws more word fault takes none is lacks = follows_by choice fits ws more word fault _ _ takes none is lacks refl refl

pub told_refused : {T : Type 0} (result : Result T LineFault) (fault : LineFault) (places : List Fits) (words : List Word) → IsErrAnd result (λ f. f ≡ fault) → IsRefused places [] words fault → IfErr result (IsRefused places [] words)
told_refused (Ok value) fault places words is refused = tt
told_refused (Err f) fault places words is refused = subst (IsRefused places [] words) (sym is) refused

pub ruleset reading = (fault_taken, refused, out_of_memory, refused_placed, refused_taken)

-- no words of no places have no fault
pub none_left : fault_of [] [] [] ≡ None
unfolding fault_of
none_left = refl
