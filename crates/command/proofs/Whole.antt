-- What a text says, by what is read of it.
use Rattle.std.proofs.Common.{◌≡◌, ℕ, ◌<◌, List, [], ◌∷◌, length, drop, Ok, Err, Result, refl, ap, ◌∙◌, arith}
use Rattle.command.specs.Plain.{Command as Asked}
use Rattle.std.specs.Result.{IsErrAnd}
use Rattle.command.specs.Told.{Reads}
use Rattle.command.specs.declared.commands.Command.{Command}
use Rattle.command.specs.declared.reading.NoCommand.{NoCommand}
use Rattle.command.specs.Reader.{nothing, got, bind, first, byte, below, one_of, command_ways, command, all_of, none, read_command, Says}
use Rattle.command.proofs.FirstBytes.{no_byte}
use Rattle.command.proofs.Texts.{text_none}
use Rattle.command.proofs.Spellings.{read_back, says_none}

pub command_none : (t : List ℕ) → byte (below 256) t ≡ nothing → command t ≡ nothing
unfolding command
command_none t e = no_byte command_ways refl t e

pub command_at : (t : List ℕ) {k : ℕ} {u : List ℕ} → first t ≡ got k u → command t ≡ one_of command_ways k u
unfolding command
command_at t e = ap (λ g. bind g (one_of command_ways)) e

pub command_is : (t : List ℕ) (c : Asked) {k : ℕ} {u : List ℕ} (v : List ℕ) → first t ≡ got k u → one_of command_ways k u ≡ got c v → command t ≡ got c v
command_is t c v e h = command_at t e ∙ h

pub rest_is : (t : List ℕ) {k : ℕ} {u : List ℕ} → first t ≡ got k u → u ≡ drop 1 t
unfolding first
rest_is [] e = absurd (let z : ◌≡◌ {A = ℕ} 0 1 = cc in omega arith)
rest_is (b ∷ t) e = cc

module _ (t : List ℕ) where
  pub refused_none : command t ≡ nothing → (a : Asked) → Says t a → ⊥
  unfolding read_command all_of
  refused_none e = says_none t (ap all_of e)

  left_over : (c : Asked) (u : List ℕ) → 0 < length u → all_of (got c u) ≡ none
  unfolding all_of
  left_over c [] h = absurd (omega arith)
  left_over c (b ∷ u) h = refl

  pub refused_left : {c : Asked} (u : List ℕ) → command t ≡ got c u → 0 < length u → (a : Asked) → Says t a → ⊥
  unfolding read_command
  refused_left {c} u e h = says_none t (ap all_of e ∙ left_over c u h)

  pub accepted : {c : Asked} (u : List ℕ) → command t ≡ got c u → length u < 1 → Says t c
  unfolding read_command all_of
  accepted {c} u e h = read_back t c (ap all_of e ∙ ap (λ l. all_of (got c l)) (text_none u h))

  -- what is refused, nobody says
  pub refused : (P : NoCommand → Type 0) (r : Result Command NoCommand) → IsErrAnd r P → ((a : Asked) → Says t a → ⊥) → Reads t r
  refused P (Ok c) e h = absurd e
  refused P (Err x) e h = h
