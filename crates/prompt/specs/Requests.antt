-- What a line asks for, or the first mistake in it. Assumes nothing: these are definitions.
-- A reader takes what it reads off the front of a text, and leaves the rest, or stops where something else was expected.
use Rattle.std.specs.Prelude.{ℕ, zero, suc, ◌+◌, ◌-◌, cond, List, [], ◌∷◌, ◌++◌, length, Some, None, Option, ◌==◌}
use Rattle.prompt.specs.Words.{trimmed, word, behind, is_over}
use Rattle.prompt.specs.Verbs.{Choice, no_verb, one, several, exact, choice, verbs}
use Rattle.scan.specs.Numbers.{number}
use Rattle.prompt.specs.Numbers.{most_of}
use Rattle.prompt.specs.declared.verbs.Verb.{Verb}
use Rattle.prompt.specs.declared.verbs.Verb.TheVariants.{Load, Give, Forward, Where, Registers, Words, Outs, Help, Quit}
use Rattle.prompt.specs.declared.quantities.Quantity.{Quantity}
use Rattle.prompt.specs.declared.quantities.Quantity.TheVariants.{Steps, Value, Address, First, Count}
use Rattle.prompt.specs.declared.mistakes.Expected.{Expected}
use Rattle.prompt.specs.declared.mistakes.Expected.TheVariants.{Command, MoreLetters, FileName, Number, FewerNumbers, End}

-- a value and the rest of the text; or the text from where something else was expected
pub data Got (A : Type 0) : Type 0 where
  got : A → List ℕ → Got A
  slip : List ℕ → Expected → Got A

abbrev pub Reader : Type 0 → Type 0
Reader A = List ℕ → Got A

-- go on with what was read
abbrev pub bind : {A B : Type 0} → Got A → (A → Reader B) → Got B
bind (got a t) k = k a t
bind (slip t e) k = slip t e

-- what there is, or a mistake here
abbrev pub or_slip : {A : Type 0} → Option A → (here rest : List ℕ) → Expected → Got A
or_slip None here rest e = slip here e
or_slip (Some a) here rest e = got a rest

abbrev pub a_number : Quantity → Reader ℕ
a_number q t = or_slip (number (most_of q) (word (trimmed t))) (trimmed t) (behind (trimmed t)) (Number q)

abbrev pub a_choice : Choice → (here rest : List ℕ) → Got Verb
a_choice no_verb here rest = slip here Command
a_choice several here rest = slip here MoreLetters
a_choice (one v) here rest = got v rest
a_choice (exact v) here rest = got v rest

abbrev pub a_verb : Reader Verb
a_verb t = a_choice (choice (word (trimmed t)) verbs no_verb) (trimmed t) (behind (trimmed t))

-- what is read here, unless nothing more stands on the line; then the other
abbrev pub unless_over : {A : Type 0} → Got A → List ℕ → Got A → Got A
unless_over g t h = cond (is_over t) h g

abbrev pub a_file : Reader (List ℕ)
a_file t = unless_over (got (word (trimmed t)) (behind (trimmed t))) (trimmed t) (slip (trimmed t) FileName)

-- a number that is to come in, if there may be so many more, and the text from the next word on
abbrev pub a_value : ℕ → Reader ℕ
a_value left t = cond (left == 0) (slip t FewerNumbers) (bind (a_number Value t) (λ v u. got v (trimmed u)))

-- such numbers to the end of the line, behind those that were read
unfoldable pub values : ℕ → List ℕ → Reader (List ℕ)
values zero done t = unless_over (slip t FewerNumbers) t (got done t)
values (suc n) done t = unless_over (bind (a_value (suc n) t) (λ v u. values n (done ++ v ∷ []) u)) t (got done t)

abbrev pub all_values : Reader (List ℕ)
all_values t = values 4096 [] (trimmed t)

abbrev pub the_numbers : Got (List ℕ) → List ℕ
the_numbers (got ns t) = ns
the_numbers (slip t e) = []

abbrev pub numbers_in : List ℕ → List ℕ
numbers_in t = the_numbers (all_values t)

-- what is asked for at the prompt
pub data Asked : Type 0 where
  nothing : Asked
  repeat : Asked
  load : List ℕ → Asked
  give : List ℕ → Asked
  forward : ℕ → Asked
  where_now : Asked
  registers : Asked
  words : ℕ → ℕ → Asked
  outs : ℕ → ℕ → Asked
  help : Option Verb → Asked
  quit : Asked

abbrev pub as_a : {A B : Type 0} → (A → B) → Reader A → Reader B
as_a f r t = bind (r t) (λ a u. got (f a) u)

abbrev pub as_two : {A B : Type 0} → (A → A → B) → Reader A → Reader A → Reader B
as_two f r s t = bind (r t) (λ a u. bind (s u) (λ b v. got (f a b) v))

-- what stands behind each command word
abbrev pub asked_by : Verb → Reader Asked
asked_by Load t = as_a load a_file t
asked_by Give t = as_a give all_values t
asked_by Forward t = as_a forward (a_number Steps) t
asked_by Where t = got where_now t
asked_by Registers t = got registers t
asked_by Words t = as_two words (a_number Address) (a_number Count) t
asked_by Outs t = as_two outs (a_number First) (a_number Count) t
asked_by Help t = unless_over (as_a (λ v. help (Some v)) a_verb t) (trimmed t) (got (help None) t)
asked_by Quit t = got quit t

-- and then the end of the line
abbrev pub a_command : Reader Asked
a_command t =
    bind (a_verb t) (λ v u. bind (asked_by v u) (λ q w. unless_over (slip (trimmed w) End) (trimmed w) (got q (trimmed w))))

abbrev pub asked : Reader Asked
asked [] = got repeat []
asked (b ∷ t) = cond (b == 35) (got nothing (b ∷ t)) (a_command (b ∷ t))

-- what a line asks for; or the column of its first mistake, counted from 1, the word that stands there, and what was expected
pub data Answer : Type 0 where
  right : Asked → Answer
  wrong : ℕ → List ℕ → Expected → Answer

abbrev pub answer : ℕ → Got Asked → Answer
answer n (got q t) = right q
answer n (slip t e) = wrong (n - length t + 1) (word t) e

abbrev pub request : List ℕ → Answer
request line = answer (length line) (asked (trimmed line))
