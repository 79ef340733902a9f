-- Lines at the prompt, and what they ask for. Assumes nothing.
use Rattle.std.proofs.Common.{◌≡◌, [], ◌∷◌, Some, None, codes, refl}
use Rattle.prompt.specs.Verbs.{choice}
use Rattle.prompt.specs.Requests.{request, values, right, wrong, nothing, repeat, load, give, words, help}
use Rattle.prompt.specs.declared.verbs.Verb.TheVariants.{Words}
use Rattle.prompt.specs.declared.quantities.Quantity.TheVariants.{Steps, Count}
use Rattle.prompt.specs.declared.mistakes.Expected.TheVariants.{Command, MoreLetters, Number, End}

in_full : request (codes "words 10, 2") ≡ right (words 10 2)
unfolding choice
in_full = refl

cut_short : request (codes "  wo 0xff 2 # two of them") ≡ right (words 255 2)
unfolding choice
cut_short = refl

numbers : request (codes "give 5 9 8 0") ≡ right (give (5 ∷ 9 ∷ 8 ∷ 0 ∷ []))
unfolding choice values
numbers = refl

a_name : request (codes "load box.asm") ≡ right (load (codes "box.asm"))
unfolding choice
a_name = refl

no_command : (request [] ≡ right repeat) × (request (codes "  # later") ≡ right nothing)
no_command = (refl, refl)

a_topic : (request (codes "help") ≡ right (help None)) × (request (codes "h wor") ≡ right (help (Some Words)))
unfolding choice
a_topic = (refl, refl)

unclear : request (codes "w 10 2") ≡ wrong 1 (codes "w") MoreLetters
unfolding choice
unclear = refl

unknown : request (codes "jump 7") ≡ wrong 1 (codes "jump") Command
unfolding choice
unknown = refl

no_number : request (codes "forward ten") ≡ wrong 9 (codes "ten") (Number Steps)
unfolding choice
no_number = refl

too_short : request (codes "forward") ≡ wrong 8 [] (Number Steps)
unfolding choice
too_short = refl

too_large : request (codes "outs 0 4097") ≡ wrong 8 (codes "4097") (Number Count)
unfolding choice
too_large = refl

too_much : request (codes "where now") ≡ wrong 7 (codes "now") End
unfolding choice
too_much = refl
