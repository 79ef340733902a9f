-- Things that are found by their names. Assumes nothing.
use Rattle.std.proofs.Common.{◌≡◌, ℕ, true, false, List, [], ◌∷◌, Some, None, Option, refl, ⊎_elim}
use Rattle.std.specs.List.{find}
use Rattle.std.specs.Option.{option_map}
use Rattle.std.specs.Str.{bytes_eq}
use Rattle.std.proofs.lemmas.Bool.{cases_Bool}
use Rattle.command.specs.Machine.{each}
use Rattle.command.specs.declared.code.Op.{Op}
use Rattle.command.specs.declared.code.Op.TheVariants.{Sum, Difference, Product, Quotient, Remainder, And, Or, Either, Left, Right}
use Rattle.command.specs.declared.code.Comparison.{Comparison}
use Rattle.command.specs.declared.code.Comparison.TheVariants.{Equal, Unequal, Less}
use Rattle.assembler.specs.declared.labels.Label.{Label as Code}
use Rattle.assembler.specs.declared.names.Mnemonic.{Mnemonic}
use Rattle.assembler.specs.declared.names.Mnemonic.TheVariants.{Load, Copied, Reckon, Read, Write, Jump, Call, Return, In, Out, Halt}
use Rattle.assembler.specs.Names.{among}
use Rattle.assembler.specs.Instructions.{label_of, labels_of, place_of}

pub found_among : {A B : Type 0} (name : A → List ℕ) (f : A → B) (w : List ℕ) (xs : List A)
    → option_map f (find (λ x. bytes_eq w (name x)) xs) ≡ among (each (λ x. (name x, f x)) xs) w
found_among name f w [] = refl
found_among name f w (x ∷ xs) =
    ⊎_elim (λ (e : bytes_eq w (name x) ≡ true). rw e refl) (λ (e : bytes_eq w (name x) ≡ false). rw e (found_among name f w xs)) (cases_Bool (bytes_eq w (name x)))

pub found_place : (w : List ℕ) (ls : List Code) → option_map (λ (l : Code). l.place) (find (λ l. bytes_eq (label_of l).name w) ls) ≡ place_of (labels_of ls) w
unfolding place_of
found_place w [] = refl
found_place w (l ∷ ls) =
    let n = (label_of l).name in
    ⊎_elim (λ (e : bytes_eq n w ≡ true). rw e refl) (λ (e : bytes_eq n w ≡ false). rw e (found_place w ls)) (cases_Bool (bytes_eq n w))

pub mapped_itself : {A : Type 0} (o : Option A) → option_map (λ x. x) o ≡ o
mapped_itself None = refl
mapped_itself (Some a) = refl

abbrev pub all_mnemonics : List Mnemonic
all_mnemonics = Load ∷ Copied ∷ Reckon ∷ Read ∷ Write ∷ Jump ∷ Call ∷ Return ∷ In ∷ Out ∷ Halt ∷ []

abbrev pub all_ops : List Op
all_ops = Sum ∷ Difference ∷ Product ∷ Quotient ∷ Remainder ∷ And ∷ Or ∷ Either ∷ Left ∷ Right ∷ []

abbrev pub all_comparisons : List Comparison
all_comparisons = Equal ∷ Unequal ∷ Less ∷ []
