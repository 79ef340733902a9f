-- The reader computes.
use Rattle.std.proofs.Common.{◌≡◌, [], ◌∷◌, refl}
use Rattle.command.specs.Machine.{in_bytes, load_number, halt}
use Rattle.command.specs.Plain.{load, forward, spelled, instr_spelled}
use Rattle.command.specs.Reader.{first, bytes, so_many, instr, break, command, all_of, read_command, some, none}

forward_read : read_command (3 ∷ 0 ∷ 0 ∷ 0 ∷ 0 ∷ 0 ∷ 0 ∷ 1 ∷ 2 ∷ []) ≡ some (forward 258)
unfolding first bytes so_many instr break command all_of read_command
forward_read = refl

too_far : read_command (3 ∷ 0 ∷ 0 ∷ 0 ∷ 1 ∷ 0 ∷ 0 ∷ 0 ∷ 0 ∷ []) ≡ none
unfolding first bytes so_many instr break command all_of read_command
too_far = refl

left_over : read_command (3 ∷ 0 ∷ 0 ∷ 0 ∷ 0 ∷ 0 ∷ 0 ∷ 0 ∷ 2 ∷ 0 ∷ []) ≡ none
unfolding first bytes so_many instr break command all_of read_command
left_over = refl

program_read : read_command (spelled (load (load_number 15 1000 ∷ halt ∷ []))) ≡ some (load (load_number 15 1000 ∷ halt ∷ []))
unfolding spelled instr_spelled in_bytes first bytes so_many instr break command all_of read_command
program_read = refl
