-- The words of a line, names and numbers. Assumes nothing: these are definitions.
use Rattle.std.specs.Prelude.{◌≡◌, ℕ, ◌+◌, ◌-◌, ◌*◌, Bool, cond, not, ◌&&◌, List, [], ◌∷◌, length, take, Some, None, Option, MatchOption, ◌==◌, nat_le, nat_lt, slice_index}
use Rattle.std.specs.Borrow.{Bor}
use Rattle.std.specs.Option.{unwrap_or}
use Rattle.scan.specs.Fronts.{over as is_over}
use Rattle.command.specs.Machine.{pick, or}

abbrev pub within : ℕ → ℕ → ℕ → Bool
within low high b = nat_le low b && nat_le b high

-- a space, a tab or a carriage return
abbrev pub blank : ℕ → Bool
blank b = or (b == 32) (or (b == 9) (b == 13))

abbrev pub letter : ℕ → Bool
letter b = or (within 65 90 b) (or (within 97 122 b) (b == 95))

abbrev pub digit : ℕ → Bool
digit b = within 48 57 b

-- a word ends at a blank, a comma, a colon or the # of a comment
abbrev pub in_word : ℕ → Bool
in_word b = not (or (blank b) (or (b == 44) (or (b == 58) (b == 35))))

abbrev pub in_name : ℕ → Bool
in_name b = or (letter b) (digit b)

abbrev pub in_line : ℕ → Bool
in_line b = not (b == 10)

-- the longest front of such bytes, and what is past it
unfoldable pub front : (ℕ → Bool) → List ℕ → List ℕ
front p [] = []
front p (b ∷ bs) = pick (p b) (b ∷ front p bs) []

unfoldable pub past : (ℕ → Bool) → List ℕ → List ℕ
past p [] = []
past p (b ∷ bs) = pick (p b) (past p bs) (b ∷ bs)

-- what stands behind a sign, if the text begins with it
abbrev pub behind : ℕ → List ℕ → Option (List ℕ)
behind s [] = None
behind s (b ∷ bs) = pick (b == s) (Some bs) None

-- the code's answer to that
abbrev pub Behind : Option (Bor (List ℕ)) → Option (List ℕ) → Type 0
Behind r o = MatchOption r (o ≡ None) (λ u. o ≡ Some u.now)

abbrev pub word : List ℕ → List ℕ
word t = front in_word t

abbrev pub past_word : List ℕ → List ℕ
past_word t = past in_word t

abbrev pub spaced : List ℕ → List ℕ
spaced t = past blank t

-- past what is blank, and a comma at most
abbrev pub past_comma : List ℕ → Option (List ℕ) → List ℕ
past_comma t None = t
past_comma t (Some u) = spaced u

abbrev pub separated : List ℕ → List ℕ
separated t = past_comma (spaced t) (behind 44 (spaced t))

-- the first line, and what is past it and its end
abbrev pub line_of : List ℕ → List ℕ
line_of t = front in_line t

abbrev pub after_line : List ℕ → List ℕ
after_line t = unwrap_or (behind 10 (past in_line t)) (past in_line t)

-- a piece of a text without the end of a line that it ends with, if it does
abbrev pub without_end : List ℕ → List ℕ
without_end t = cond (slice_index t (length t - 1) == 10) (take (length t - 1) t) t

-- nothing more but a comment
abbrev pub over : List ℕ → Bool
over t = is_over t

abbrev pub a_name : List ℕ → Bool
a_name w = letter (slice_index w 0) && length (past in_name w) == 0

-- what a digit stands for, and 16 for what is none
abbrev pub digit_of : ℕ → ℕ
digit_of b = pick (digit b) (b - 48) (pick (within 97 102 b) (b - 87) (pick (within 65 70 b) (b - 55) 16))

-- the number that digits write behind one, as long as it is below a limit
unfoldable pub value_on : ℕ → ℕ → ℕ → List ℕ → Option ℕ
value_on base limit n [] = Some n
value_on base limit n (b ∷ bs) =
    pick (nat_lt (digit_of b) base) (pick (nat_lt (n * base + digit_of b) limit) (value_on base limit (n * base + digit_of b) bs) None) None

abbrev pub value_below : ℕ → ℕ → List ℕ → Option ℕ
value_below base limit w = pick (length w == 0) None (value_on base limit 0 w)

abbrev pub then_behind : ℕ → Option (List ℕ) → Option (List ℕ)
then_behind s None = None
then_behind s (Some u) = behind s u

abbrev pub hex_digits : List ℕ → Option (List ℕ)
hex_digits w = then_behind 120 (behind 48 w)

-- in tens, or after 0x in sixteens
abbrev pub in_base : ℕ → List ℕ → Option (List ℕ) → Option ℕ
in_base limit w None = value_below 10 limit w
in_base limit w (Some u) = value_below 16 limit u

abbrev pub number_below : ℕ → List ℕ → Option ℕ
number_below limit w = in_base limit w (hex_digits w)

-- a byte as it is shown
abbrev pub printable : ℕ → ℕ
printable b = pick (within 32 126 b) b 63
