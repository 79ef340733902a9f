-- How what the code answers stands for what is read. Assumes nothing: these are definitions.
use Rattle.std.specs.Prelude.{◌≡◌, ℕ, List, Ok, Err, Result}
use Rattle.prompt.specs.declared.cursor.Cursor.{Cursor}
use Rattle.prompt.specs.declared.mistakes.Expected.{Expected}
use Rattle.prompt.specs.declared.mistakes.Mistake.{Mistake}
use Rattle.prompt.specs.declared.requests.Request.{Request}
use Rattle.prompt.specs.declared.requests.Request.TheVariants.{Nothing, Repeat, Load, Give, Forward, Where, Registers, Words, Outs, Help, Quit}
use Rattle.prompt.specs.Requests.{Got, got, slip, numbers_in, Asked, nothing, repeat, load, give, forward, where_now, registers, words, outs, help, quit, Answer, right, wrong}

abbrev pub left : Cursor → List ℕ
left c = c.rest.now

-- what was taken, by what it means, and what is left
abbrev pub Took : {A B : Type 0} → (B → A) → Got A → Result B Expected → List ℕ → Type 0
Took f g (Ok b) u = g ≡ got (f b) u
Took f g (Err e) u = g ≡ slip u e

abbrev pub itself : {A : Type 0} → A → A
itself a = a

abbrev pub meant : Request → Asked
meant Nothing = nothing
meant Repeat = repeat
meant (Load name) = load name.now
meant (Give ns) = give (numbers_in ns.text.now)
meant (Forward n) = forward n
meant Where = where_now
meant Registers = registers
meant (Words a n) = words a n
meant (Outs a n) = outs a n
meant (Help v) = help v
meant Quit = quit

abbrev pub Reads : Answer → Result Request Mistake → Type 0
Reads a (Ok q) = a ≡ right (meant q)
Reads a (Err m) = a ≡ wrong m.column m.found.now m.expected
