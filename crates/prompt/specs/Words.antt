-- How a line is cut into words. Assumes nothing: these are definitions.
use Rattle.std.specs.Prelude.{ℕ, Bool, true, cond, not, ◌&&◌, List, take, drop, ◌==◌}
use Rattle.std.specs.List.{prefix_len}
use Rattle.scan.specs.Fronts.{over}

-- a space, a tab, a comma, a carriage return
abbrev pub is_blank : ℕ → Bool
is_blank b = cond (b == 32) true (cond (b == 9) true (cond (b == 44) true (b == 13)))

-- a word goes on to a blank or a comment
abbrev pub in_word : ℕ → Bool
in_word b = not (is_blank b) && not (b == 35)

abbrev pub trimmed : List ℕ → List ℕ
trimmed t = drop (prefix_len is_blank t) t

abbrev pub word : List ℕ → List ℕ
word t = take (prefix_len in_word t) t

abbrev pub behind : List ℕ → List ℕ
behind t = drop (prefix_len in_word t) t

-- nothing but a comment is left
abbrev pub is_over : List ℕ → Bool
is_over t = over t
