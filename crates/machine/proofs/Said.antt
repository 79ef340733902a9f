-- Commands as they are read, and those that hold all that they say.
use Rattle.std.proofs.Common.{◌≡◌, ℕ, List, refl, ap}
use Rattle.command.specs.Plain.{Command}
use Rattle.command.specs.Reader.{Read, none, some, read_command, Says}
use Rattle.command.proofs.Spellings.{read_back, read_forth}
use Rattle.machine.specs.Engine.{written, begin_read}
use Rattle.machine.specs.Entry.{Carries}
use Rattle.machine.specs.declared.acts.Told.{Told}
use Rattle.machine.specs.declared.acts.Told.TheVariants.{No}
use Rattle.machine.specs.declared.acts.Refusal.TheVariants.{Unexpected}
use Rattle.machine.proofs.Plans.{carries_at}

-- a text that says no command is read as none
reads_none : (t : List ℕ) → ((a : Command) → Says t a → ⊥) → read_command t ≡ none
reads_none t h = go (read_command t) refl
  where
    go : (g : Read) → read_command t ≡ g → g ≡ none
    go none e = refl
    go (some c) e = absurd (h c (read_back t c e))

pub hears_none : (m out t : List ℕ) → ((a : Command) → Says t a → ⊥) → Carries (begin_read m (read_command t)) m (No Unexpected) out m out
unfolding begin_read written
hears_none m out t h = carries_at m (No Unexpected) out m out (ap (begin_read m) (reads_none t h)) (refl, ((Unexpected, refl, refl), refl))

pub hears : (m out t : List ℕ) (a : Command) (r : Told) (m₁ out₁ : List ℕ) → Says t a → Carries (begin_read m (some a)) m r out m₁ out₁ → Carries (begin_read m (read_command t)) m r out m₁ out₁
hears m out t a r m₁ out₁ s h = carries_at m r out m₁ out₁ (ap (begin_read m) (read_forth t a s)) h
