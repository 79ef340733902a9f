-- What the user reads of a place and of a refusal. Assumes nothing: these are definitions.
use Rattle.std.specs.Prelude.{ℕ, List, [], ◌++◌, Some, None, codes as chars, decimal, Option}
use Rattle.target.specs.declared.answers.Why.{Why}
use Rattle.target.specs.Texts.{why_text, fault_text}
use Rattle.session.specs.declared.debugger.Place.{Place}
use Rattle.session.specs.declared.debugger.Refusal.{Refusal}
use Rattle.session.specs.declared.debugger.Refusal.TheVariants.{Full, Fault, NoMemory}

-- behind the place, why it does not go on from there
abbrev pub ending : Option Why → List ℕ
ending None = []
ending (Some y) = chars " " ++ why_text y

abbrev pub place_text : Place → List ℕ
place_text p = decimal p.time ++ (chars " at " ++ (decimal p.spot.at ++ ending p.spot.why))

abbrev pub refusal_text : Refusal → List ℕ
refusal_text (Full n) = chars "refused 7: at most 65536 numbers can come in, and " ++ (decimal n ++ chars " have")
refusal_text (Fault f) = fault_text f
refusal_text NoMemory = chars "there is no memory left for that"
