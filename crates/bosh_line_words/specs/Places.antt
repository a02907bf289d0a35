-- The words of a line that has nothing but places.
use Rattle.std.specs.Prelude.{◌≡◌, ℕ, Bool, List, [], ◌∷◌, None}
use Rattle.bosh_line_words.specs.Grammar.{fault_of}
use Rattle.bosh_line_words.specs.Words.{Word}

-- which words may stand at a place
abbrev pub Fits : Type 0
Fits = List ℕ → Bool

-- what a word there is read as
abbrev pub Reading : Type 0 → Type 1
Reading V = List ℕ → V → Type 0

pub record IsOne {A : Type 0} (fits : Fits) (reads : Reading A) (words : List Word) (a : A) : Type 0 where
  pub one : Word
  pub all : words ≡ one ∷ []
  pub means : reads one.text a
  pub well : fault_of (fits ∷ []) [] words ≡ None

pub record IsTwo {A B : Type 0} (fits_a : Fits) (reads_a : Reading A) (fits_b : Fits)
    (reads_b : Reading B) (words : List Word) (a : A) (b : B) : Type 0 where
  pub one : Word
  pub two : Word
  pub all : words ≡ one ∷ two ∷ []
  pub means_one : reads_a one.text a
  pub means_two : reads_b two.text b
  pub well : fault_of (fits_a ∷ fits_b ∷ []) [] words ≡ None

pub record IsThree {A B C : Type 0} (fits_a : Fits) (reads_a : Reading A) (fits_b : Fits)
    (reads_b : Reading B) (fits_c : Fits) (reads_c : Reading C) (words : List Word) (a : A) (b : B)
    (c : C) : Type 0 where
  pub one : Word
  pub two : Word
  pub three : Word
  pub all : words ≡ one ∷ two ∷ three ∷ []
  pub means_one : reads_a one.text a
  pub means_two : reads_b two.text b
  pub means_three : reads_c three.text c
  pub well : fault_of (fits_a ∷ fits_b ∷ fits_c ∷ []) [] words ≡ None

pub record IsFour {A B C D : Type 0} (fits_a : Fits) (reads_a : Reading A) (fits_b : Fits)
    (reads_b : Reading B) (fits_c : Fits) (reads_c : Reading C) (fits_d : Fits)
    (reads_d : Reading D) (words : List Word) (a : A) (b : B) (c : C) (d : D) : Type 0 where
  pub one : Word
  pub two : Word
  pub three : Word
  pub four : Word
  pub all : words ≡ one ∷ two ∷ three ∷ four ∷ []
  pub means_one : reads_a one.text a
  pub means_two : reads_b two.text b
  pub means_three : reads_c three.text c
  pub means_four : reads_d four.text d
  pub well : fault_of (fits_a ∷ fits_b ∷ fits_c ∷ fits_d ∷ []) [] words ≡ None

pub record IsFive {A B C D E : Type 0} (fits_a : Fits) (reads_a : Reading A) (fits_b : Fits)
    (reads_b : Reading B) (fits_c : Fits) (reads_c : Reading C) (fits_d : Fits)
    (reads_d : Reading D) (fits_e : Fits) (reads_e : Reading E) (words : List Word) (a : A) (b : B)
    (c : C) (d : D) (e : E) : Type 0 where
  pub one : Word
  pub two : Word
  pub three : Word
  pub four : Word
  pub five : Word
  pub all : words ≡ one ∷ two ∷ three ∷ four ∷ five ∷ []
  pub means_one : reads_a one.text a
  pub means_two : reads_b two.text b
  pub means_three : reads_c three.text c
  pub means_four : reads_d four.text d
  pub means_five : reads_e five.text e
  pub well : fault_of (fits_a ∷ fits_b ∷ fits_c ∷ fits_d ∷ fits_e ∷ []) [] words ≡ None
