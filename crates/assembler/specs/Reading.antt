-- Reading what is left of a line. Assumes nothing: these are definitions.
-- A reader gives a value and what is left behind it, or says what it expected, and what was left where that failed.
use Rattle.std.specs.Prelude.{◌≡◌, ℕ, true, List, Some, None, Ok, Err, Option, Result}
use Rattle.std.specs.Borrow.{Bor}
use Rattle.std.specs.Option.{ok_or, option_map}
use Rattle.command.specs.Machine.{pick}
use Rattle.assembler.specs.declared.cursor.Cursor.{Cursor}
use Rattle.assembler.specs.declared.mistakes.Expected.{Expected}
use Rattle.assembler.specs.declared.mistakes.Expected.TheVariants.{LabelName, LineEnd}
use Rattle.assembler.specs.Words.{word, past_word, spaced, over, a_name, behind}

pub data Got (A : Type 0) : Type 0 where
  got : A → List ℕ → Got A
  wrong : Expected → List ℕ → Got A

abbrev pub bind : {A B : Type 0} → Got A → (A → List ℕ → Got B) → Got B
bind (got a t) k = k a t
bind (wrong e t) k = wrong e t

-- what the code read, by what it means, and what is left
abbrev pub Took : {A B : Type 0} → (B → A) → Got A → Result B Expected → List ℕ → Type 0
Took f g (Ok b) u = g ≡ got (f b) u
Took f g (Err e) u = g ≡ wrong e u

abbrev pub itself : {A : Type 0} → A → A
itself a = a

abbrev pub left : Cursor → List ℕ
left c = c.rest.now

abbrev pub shown_name : Option (Bor (List ℕ)) → Option (List ℕ)
shown_name r = option_map (λ x. x.now) r

-- one word, by what it means
abbrev pub meant : {A : Type 0} → Result A Expected → List ℕ → List ℕ → Got A
meant (Ok a) t u = got a u
meant (Err e) t u = wrong e t

abbrev pub by_word : {A : Type 0} → (List ℕ → Result A Expected) → List ℕ → Got A
by_word f t = meant (f (word t)) t (past_word t)

abbrev pub a_word : {A : Type 0} → Expected → (List ℕ → Option A) → List ℕ → Got A
a_word e f t = by_word (λ w. ok_or (f w) e) t

-- a name and a colon, or neither
abbrev pub before_colon : List ℕ → List ℕ → Option (List ℕ) → Got (Option (List ℕ))
before_colon t w None = got None t
before_colon t w (Some u) = pick (a_name w) (got (Some w) (spaced u)) (wrong LabelName t)

abbrev pub label : List ℕ → Got (Option (List ℕ))
label t = before_colon (spaced t) (word (spaced t)) (behind 58 (past_word (spaced t)))

-- nothing more on the line
abbrev pub ended : List ℕ → Got (Unit {0})
ended t = pick (over (spaced t)) (got tt (spaced t)) (wrong LineEnd (spaced t))

-- a label that was read is a name
abbrev pub AName : Option (Bor (List ℕ)) → Type 0
AName None = Unit {0}
AName (Some w) = a_name w.now ≡ true

abbrev pub NamedAlone : {E : Type 0} → Result (Option (Bor (List ℕ))) E → Type 0
NamedAlone (Ok o) = AName o
NamedAlone (Err e) = Unit {0}

abbrev pub Named : {E : Type 0} → Result (Option (Bor (List ℕ)) × ℕ) E → Type 0
Named (Ok p) = AName p.0
Named (Err e) = Unit {0}
