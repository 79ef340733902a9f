-- The command words, and which of them a word means. Assumes nothing: these are definitions.
use Rattle.std.specs.Prelude.{◌≡◌, ℕ, Bool, cond, List, [], ◌∷◌, length, take, Ok, Err, codes, Result, nat_lt}
use Rattle.std.specs.Str.{bytes_eq}
use Rattle.prompt.specs.declared.mistakes.Expected.{Expected}
use Rattle.prompt.specs.declared.mistakes.Expected.TheVariants.{Command, MoreLetters}
use Rattle.prompt.specs.declared.verbs.Verb.{Verb}
use Rattle.prompt.specs.declared.verbs.Verb.TheVariants.{Load, Give, Forward, Where, Registers, Words, Outs, Help, Quit}

abbrev pub spelling : Verb → List ℕ
spelling Load = codes "load"
spelling Give = codes "give"
spelling Forward = codes "forward"
spelling Where = codes "where"
spelling Registers = codes "registers"
spelling Words = codes "words"
spelling Outs = codes "outs"
spelling Help = codes "help"
spelling Quit = codes "quit"

abbrev pub verbs : List Verb
verbs = Load ∷ Give ∷ Forward ∷ Where ∷ Registers ∷ Words ∷ Outs ∷ Help ∷ Quit ∷ []

abbrev pub is_front : (word text : List ℕ) → Bool
is_front w t = bytes_eq w (take (length w) t)

-- how a word and the spelling of a command agree
pub data Fit : Type 0 where
  apart : Fit
  front : Fit
  whole : Fit

-- whether a word is the front of a spelling, or all of it
abbrev pub fits : (word spelled : List ℕ) → Fit
fits w s = cond (is_front w s) (cond (nat_lt (length w) (length s)) front whole) apart

-- which command a word means: none, the one that it is the front of, more than one, or the one that it spells out
pub data Choice : Type 0 where
  no_verb : Choice
  one : Verb → Choice
  several : Choice
  exact : Verb → Choice

-- with one command more: a word that is spelled out means that one, whatever else it is the front of
abbrev pub joined : Choice → Verb → Fit → Choice
joined (exact u) v f = exact u
joined no_verb v whole = exact v
joined no_verb v front = one v
joined no_verb v apart = no_verb
joined (one u) v whole = exact v
joined (one u) v front = several
joined (one u) v apart = one u
joined several v whole = exact v
joined several v front = several
joined several v apart = several

unfoldable pub choice : List ℕ → List Verb → Choice → Choice
choice w [] c = c
choice w (v ∷ vs) c = choice w vs (joined c v (fits w (spelling v)))

-- the code's answer to that
abbrev pub Chosen : Choice → Result Verb Expected → Type 0
Chosen no_verb r = r ≡ Err Command
Chosen (one v) r = r ≡ Ok v
Chosen several r = r ≡ Err MoreLetters
Chosen (exact v) r = r ≡ Ok v
