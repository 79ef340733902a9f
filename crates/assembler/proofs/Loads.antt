-- What assembles may be loaded: each instruction fits, and there are not too many. Assumes nothing.
use Rattle.std.proofs.Common.{◌≡◌, ℕ, ◌+◌, ◌*◌, ◌<◌, ◌≤◌, Bool, true, false, ◌&&◌, eqb, ltb, List, [], ◌∷◌, ◌++◌, length, is_some, Some, None, Ok, Err, codes as chars, Option, Result, unwrap_or, refl, subst, arith, length-append}
use Rattle.std.proofs.lemmas.Bool.{lt-ltb, ltb-true, and_from, and_parts}
use Rattle.std.specs.Option.{ok_or}
use Rattle.std.specs.Str.{bytes_eq}
use Rattle.command.specs.Machine.{pick, every, Instr, load_number, copy, reckon, read, write, jump, jump_if, call, take_in, put_out}
use Rattle.command.specs.Plain.{an_instr}
use Rattle.assembler.specs.declared.mistakes.Expected.{Expected}
use Rattle.assembler.specs.declared.mistakes.Expected.TheVariants as expected
use Rattle.assembler.specs.declared.names.Mnemonic.{Mnemonic}
use Rattle.assembler.specs.declared.names.Mnemonic.TheVariants.{Load, Copied, Reckon, Read, Write, Jump, Call, Return, In, Out, Halt}
use Rattle.assembler.specs.Words.{word, past_word, spaced, separated, over, digit_of, value_on, value_below, hex_digits, in_base, number_below, a_name, behind}
use Rattle.assembler.specs.Names.{among, ops, comparisons, op_named, comparison_named}
use Rattle.assembler.specs.Reading.{Got, got, wrong, bind, meant, a_word, ended, label}
use Rattle.assembler.specs.Instructions.{Label, place_of, place_named, register_named, register, next_register, next_number, next_offset, place, operation, comparison, below, if_named, jump_by, word_operands, one_register, to_place, operands, mnemonic, instruction}
use Rattle.assembler.specs.Source.{Mistake, Assembly, on_line, unless_known, then_placed, next_place, with_label, line_label, find_labels, line_instr, unless_over, with_instr, read_lines, lines, by_labels, assembled}
use Rattle.assembler.specs.Again.{Loadable}

pub pick_both : {A : Type 0} (P : A → Type 0) (b : Bool) (x y : A) → (b ≡ true → P x) → (b ≡ false → P y) → P (pick b x y)
pick_both P true x y f g = f refl
pick_both P false x y f g = g refl

abbrev Below : ℕ → Option ℕ → Type 0
Below m None = Unit {0}
Below m (Some n) = n < m

value_on_below : (base limit n : ℕ) (w : List ℕ) → n < limit → Below limit (value_on base limit n w)
unfolding value_on
value_on_below base limit n [] h = h
value_on_below base limit n (b ∷ bs) h =
    pick_both (Below limit) (ltb (digit_of b) base) _ _
    (λ e. pick_both (Below limit) (ltb (n * base + digit_of b) limit) _ _ (λ f. value_on_below base limit (n * base + digit_of b) bs (ltb-true (n * base + digit_of b) limit f)) (λ f. tt))
    (λ e. tt)

value_below_below : (base limit : ℕ) (w : List ℕ) → 0 < limit → Below limit (value_below base limit w)
value_below_below base limit w h = pick_both (Below limit) (eqb (length w) 0) _ _ (λ e. tt) (λ e. value_on_below base limit 0 w h)

number_below_below : (limit : ℕ) (w : List ℕ) → 0 < limit → Below limit (number_below limit w)
number_below_below limit w h = go (hex_digits w)
  where
    go : (o : Option (List ℕ)) → Below limit (in_base limit w o)
    go None = value_below_below 10 limit w h
    go (Some u) = value_below_below 16 limit u h

-- what holds of what was read
abbrev pub Fits : {A : Type 0} → (A → Type 0) → Got A → Type 0
Fits P (got a u) = P a
Fits P (wrong e u) = Unit {0}

fits_bind : {A B : Type 0} (P : A → Type 0) (Q : B → Type 0) (g : Got A) (k : A → List ℕ → Got B) → Fits P g → ((a : A) (u : List ℕ) → P a → Fits Q (k a u)) → Fits Q (bind g k)
fits_bind P Q (got a u) k p f = f a u p
fits_bind P Q (wrong e u) k p f = tt

abbrev Under : ℕ → ℕ → Type 0
Under m n = n < m

abbrev OkBelow : ℕ → Result ℕ Expected → Type 0
OkBelow m (Ok n) = n < m
OkBelow m (Err e) = Unit {0}

ok_below : (m : ℕ) (e : Expected) (o : Option ℕ) → Below m o → OkBelow m (ok_or o e)
ok_below m e None h = tt
ok_below m e (Some n) h = h

meant_fits : (m : ℕ) (r : Result ℕ Expected) (t u : List ℕ) → OkBelow m r → Fits (Under m) (meant r t u)
meant_fits m (Ok n) t u h = h
meant_fits m (Err e) t u h = tt

word_fits : (m : ℕ) (e : Expected) (f : List ℕ → Option ℕ) (t : List ℕ) → Below m (f (word t)) → Fits (Under m) (a_word e f t)
word_fits m e f t h = meant_fits m (ok_or (f (word t)) e) t (past_word t) (ok_below m e (f (word t)) h)

register_fits : (t : List ℕ) → Fits (Under 16) (register t)
register_fits t = word_fits 16 expected.Register register_named t (number_below_below 16 (unwrap_or (behind 114 (word t)) (word t)) (omega arith))

number_fits : (t : List ℕ) → Fits (Under 4294967296) (next_number t)
number_fits t = word_fits 4294967296 expected.Number (number_below 4294967296) (separated t) (number_below_below 4294967296 (word (separated t)) (omega arith))

offset_fits : (t : List ℕ) → Fits (Under 65536) (next_offset t)
offset_fits t = word_fits 65536 expected.Offset (number_below 65536) (separated t) (number_below_below 65536 (word (separated t)) (omega arith))

among_below : (m : ℕ) (ns : List (List ℕ × ℕ)) (w : List ℕ) → every (λ n. ltb n.1 m) ns ≡ true → Below m (among ns w)
among_below m [] w h = tt
among_below m (n ∷ ns) w h =
    let a = and_parts (ltb n.1 m) (every (λ n. ltb n.1 m) ns) h in
    pick_both (Below m) (bytes_eq w n.0) _ _ (λ e. ltb-true n.1 m a.0) (λ e. among_below m ns w a.1)

operation_fits : (t : List ℕ) → Fits (Under 10) (operation t)
operation_fits t = word_fits 10 expected.Operation op_named t (among_below 10 ops (word t) refl)

comparison_fits : (t : List ℕ) → Fits (Below 4) (comparison t)
comparison_fits t =
    pick_both (Fits (Below 4)) (bytes_eq (word t) (chars "not")) _ _ (λ e. second (spaced (past_word t))) (λ e. named (comparison_named (word t)) (among_below 4 comparisons (word t) refl))
  where
    second : (u : List ℕ) → Fits (Below 4) (below u)
    second u = pick_both (Fits (Below 4)) (bytes_eq (word u) (chars "below")) _ _ (λ e. omega arith) (λ e. tt)

    named : (o : Option ℕ) → Below 4 o → Fits (Below 4) (if_named o t (past_word t))
    named None h = tt
    named (Some c) h = h

-- labels whose places fit
abbrev pub Places : List Label → Type 0
Places [] = Unit {0}
Places (l ∷ ls) = (l.place < 65536) × Places ls

place_of_below : (ls : List Label) (w : List ℕ) → Places ls → Below 65536 (place_of ls w)
unfolding place_of
place_of_below [] w h = tt
place_of_below (l ∷ ls) w h = pick_both (Below 65536) (bytes_eq l.name w) _ _ (λ e. h.0) (λ e. place_of_below ls w h.1)

module _ (ls : List Label) (fine : Places ls) where
  place_fits : (t : List ℕ) → Fits (Under 65536) (place ls t)
  place_fits t =
      meant_fits 65536 (place_named ls (word t)) t (past_word t)
      (pick_both (OkBelow 65536) (a_name (word t)) _ _ (λ e. ok_below 65536 expected.KnownLabel (place_of ls (word t)) (place_of_below ls (word t) fine))
      (λ e. ok_below 65536 expected.Place (number_below 65536 (word t)) (number_below_below 65536 (word t) (omega arith))))

abbrev pub Fit : Instr → Type 0
Fit i = an_instr i ≡ true

fit_load : (k n : ℕ) → k < 16 → n < 4294967296 → Fit (load_number k n)
unfolding an_instr
fit_load k n h g = rw (lt-ltb k 16 h, lt-ltb n 4294967296 g)

fit_copy : (k j : ℕ) → k < 16 → j < 16 → Fit (copy k j)
unfolding an_instr
fit_copy k j h g = and_from (ltb k 16) (ltb j 16) (lt-ltb k 16 h) (lt-ltb j 16 g)

fit_reckon : (o k j : ℕ) → o < 10 → k < 16 → j < 16 → Fit (reckon o k j)
unfolding an_instr
fit_reckon o k j l h g = and_from (ltb o 10) (ltb k 16 && ltb j 16) (lt-ltb o 10 l) (and_from (ltb k 16) (ltb j 16) (lt-ltb k 16 h) (lt-ltb j 16 g))

fit_word : (k b n : ℕ) → k < 16 → b < 16 → n < 65536 → (ltb k 16 && (ltb b 16 && ltb n 65536)) ≡ true
fit_word k b n h g l = and_from (ltb k 16) (ltb b 16 && ltb n 65536) (lt-ltb k 16 h) (and_from (ltb b 16) (ltb n 65536) (lt-ltb b 16 g) (lt-ltb n 65536 l))

fit_jump_if : (c k j n : ℕ) → c < 4 → k < 16 → j < 16 → n < 65536 → Fit (jump_if c k j n)
unfolding an_instr
fit_jump_if c k j n m h g l =
    and_from (ltb c 4 && ltb k 16) (ltb j 16 && ltb n 65536) (and_from (ltb c 4) (ltb k 16) (lt-ltb c 4 m) (lt-ltb k 16 h)) (and_from (ltb j 16) (ltb n 65536) (lt-ltb j 16 g) (lt-ltb n 65536 l))

-- three operands of `read` and `write`
word_operands_fit : (f : ℕ → ℕ → ℕ → Instr) → ((k b n : ℕ) → k < 16 → b < 16 → n < 65536 → Fit (f k b n)) → (t : List ℕ) → Fits Fit (word_operands f t)
word_operands_fit f fine t =
    fits_bind (Under 16) Fit (register t) _ (register_fits t) (λ k u h.
    fits_bind (Under 16) Fit (next_register u) _ (register_fits (separated u)) (λ b v g.
    fits_bind (Under 65536) Fit (next_offset v) _ (offset_fits v) (λ n w l. fine k b n h g l)))

one_register_fit : (f : ℕ → Instr) → ((k : ℕ) → k < 16 → Fit (f k)) → (t : List ℕ) → Fits Fit (one_register f t)
one_register_fit f fine t = fits_bind (Under 16) Fit (register t) _ (register_fits t) (λ k u h. fine k h)

module _ (ls : List Label) (fine : Places ls) where
  to_place_fit : (f : ℕ → Instr) → ((k : ℕ) → k < 65536 → Fit (f k)) → (t : List ℕ) → Fits Fit (to_place ls f t)
  to_place_fit f ok t = fits_bind (Under 65536) Fit (place ls t) _ (place_fits ls fine t) (λ k u h. ok k h)

  jump_by_fit : (o : Option ℕ) (t : List ℕ) → Below 4 o → Fits Fit (jump_by ls o t)
  unfolding an_instr
  jump_by_fit None t h = to_place_fit jump (λ k l. lt-ltb k 65536 l) t
  jump_by_fit (Some c) t h =
      fits_bind (Under 16) Fit (register (spaced t)) _ (register_fits (spaced t)) (λ k u a.
      fits_bind (Under 16) Fit (next_register u) _ (register_fits (separated u)) (λ j v b.
      fits_bind (Under 65536) Fit (place ls (separated v)) _ (place_fits ls fine (separated v)) (λ n w l. fit_jump_if c k j n h a b l)))

  operands_fit : (m : Mnemonic) (t : List ℕ) → Fits Fit (operands ls m t)
  unfolding an_instr
  operands_fit Load t =
      fits_bind (Under 16) Fit (register t) _ (register_fits t) (λ k u h. fits_bind (Under 4294967296) Fit (next_number u) _ (number_fits u) (λ n v g. fit_load k n h g))
  operands_fit Copied t =
      fits_bind (Under 16) Fit (register t) _ (register_fits t) (λ k u h. fits_bind (Under 16) Fit (next_register u) _ (register_fits (separated u)) (λ j v g. fit_copy k j h g))
  operands_fit Reckon t =
      fits_bind (Under 10) Fit (operation t) _ (operation_fits t) (λ o s l.
      fits_bind (Under 16) Fit (register (spaced s)) _ (register_fits (spaced s)) (λ k u h.
      fits_bind (Under 16) Fit (next_register u) _ (register_fits (separated u)) (λ j v g. fit_reckon o k j l h g)))
  operands_fit Read t = word_operands_fit read (λ k b n h g l. fit_word k b n h g l) t
  operands_fit Write t = word_operands_fit write (λ k b n h g l. fit_word k b n h g l) t
  operands_fit Jump t = fits_bind (Below 4) Fit (comparison t) (jump_by ls) (comparison_fits t) (λ o u h. jump_by_fit o u h)
  operands_fit Call t = to_place_fit call (λ k l. lt-ltb k 65536 l) t
  operands_fit Return t = refl
  operands_fit In t = one_register_fit take_in (λ k h. lt-ltb k 16 h) t
  operands_fit Out t = one_register_fit put_out (λ k h. lt-ltb k 16 h) t
  operands_fit Halt t = refl

  pub instruction_fit : (t : List ℕ) → Fits Fit (instruction ls t)
  unfolding instruction
  instruction_fit t =
      fits_bind (λ m. Unit {0}) Fit (mnemonic t) _ (some (mnemonic t)) (λ m u z.
      fits_bind Fit Fit (operands ls m (spaced u)) _ (operands_fit m (spaced u)) (λ i v h.
      fits_bind (λ z. Unit {0}) Fit (ended v) _ (some (ended v)) (λ y w z. h)))
    where
      some : {A : Type 0} (g : Got A) → Fits (λ a. Unit {0}) g
      some (got a u) = tt
      some (wrong e u) = tt

-- both passes over a line: a line has an instruction or not
abbrev has : Got (Option (List ℕ)) → ℕ
has (got o u) = pick (over u) 0 1
has (wrong e u) = 0

count : List (List ℕ) → ℕ
count [] = 0
count (t ∷ ts) = has (label t) + count ts

places_push : (ls : List Label) (w : List ℕ) (k : ℕ) → k < 65536 → Places ls → Places (ls ++ record { name = w; place = k } ∷ [])
places_push [] w k h p = (h, tt)
places_push (l ∷ ls) w k h p = (p.0, places_push ls w k h p.1)

places_with : (ls : List Label) (k : ℕ) (o : Option (List ℕ)) → k < 65536 → Places ls → Places (with_label ls k o)
places_with ls k None h p = p
places_with ls k (Some w) h p = places_push ls w k h p

-- the first pass
abbrev Noted : ℕ → ℕ → Result (Option (List ℕ) × ℕ) Mistake → Type 0
Noted k j (Ok p) = (p.1 ≡ k + j) × (p.1 ≤ 4096)
Noted k j (Err m) = Unit {0}

noted : (n k : ℕ) (ls : List Label) (t : List ℕ) → k ≤ 4096 → Noted k (has (label t)) (line_label n ls k t)
unfolding line_label
noted n k ls t h = go (label t)
  where
    next : (o : Option (List ℕ)) (u : List ℕ) → Noted k (pick (over u) 0 1) (on_line n t (then_placed o u (next_place k u)))
    next o u = at (over u) (ltb k 4096) refl
      where
        at : (a b : Bool) → ltb k 4096 ≡ b → Noted k (pick a 0 1) (on_line n t (then_placed o u (pick a (Ok k) (pick b (Ok (k + 1)) (Err expected.Room)))))
        at true b e = (omega arith, h)
        at false true e = let l = ltb-true k 4096 e in (refl, omega arith)
        at false false e = tt

    go : (g : Got (Option (List ℕ))) → Noted k (has g) (on_line n t (bind (bind g (unless_known ls t)) (λ o t. then_placed o t (next_place k t))))
    go (wrong e u) = tt
    go (got None u) = next None u
    go (got (Some w) u) = known (is_some (place_of ls w))
      where
        known : (b : Bool) → Noted k (pick (over u) 0 1) (on_line n t (bind (pick b (wrong expected.NewLabel (spaced t)) (got (Some w) u)) (λ o t. then_placed o t (next_place k t))))
        known true = tt
        known false = next (Some w) u

abbrev Found : ℕ → List (List ℕ) → Result (List Label) Mistake → Type 0
Found k ts (Ok ls) = Places ls × (k + count ts ≤ 4096)
Found k ts (Err m) = Unit {0}

abbrev finds : ℕ → List Label → ℕ → List (List ℕ) → Result (Option (List ℕ) × ℕ) Mistake → Result (List Label) Mistake
finds n ls k ts (Ok p) = find_labels (n + 1) (with_label ls k p.0) p.1 ts
finds n ls k ts (Err m) = Err m

found : (n k : ℕ) (ls : List Label) (ts : List (List ℕ)) → k ≤ 4096 → Places ls → Found k ts (find_labels n ls k ts)
unfolding find_labels count
found n k ls [] h p = (p, omega arith)
found n k ls (t ∷ ts) h p = go (line_label n ls k t) (noted n k ls t h) (λ o j l. found (n + 1) j (with_label ls k o) ts l (places_with ls k o (omega arith) p))
  where
    go : (r : Result (Option (List ℕ) × ℕ) Mistake) → Noted k (has (label t)) r
        → ((o : Option (List ℕ)) (j : ℕ) → j ≤ 4096 → Found j ts (find_labels (n + 1) (with_label ls k o) j ts)) → Found k (t ∷ ts) (finds n ls k ts r)
    go (Err m) q again = tt
    go (Ok x) q again = moved (find_labels (n + 1) (with_label ls k x.0) x.1 ts) (again x.0 x.1 q.1)
      where
        moved : (r : Result (List Label) Mistake) → Found x.1 ts r → Found k (t ∷ ts) r
        moved (Ok ms) f = (f.0, let a = f.1 in let b = q.0 in omega arith)
        moved (Err m) f = tt

-- the second pass
abbrev Took : ℕ → Result (Option Instr) Mistake → Type 0
Took j (Ok None) = j ≡ 0
Took j (Ok (Some i)) = (j ≡ 1) × Fit i
Took j (Err m) = Unit {0}

taken : (n : ℕ) (ls : List Label) (t : List ℕ) → Places ls → Took (has (label t)) (line_instr n ls t)
unfolding line_instr
taken n ls t p = go (label t)
  where
    read_it : (g : Got Instr) → Fits Fit g → Took 1 (on_line n t (bind g (λ i u. got (Some i) u)))
    read_it (got i u) f = (refl, f)
    read_it (wrong e u) f = tt

    go : (g : Got (Option (List ℕ))) → Took (has g) (on_line n t (bind g (λ o t. unless_over ls t)))
    go (wrong e u) = tt
    go (got o u) = at (over u)
      where
        at : (b : Bool) → Took (pick b 0 1) (on_line n t (pick b (got None u) (bind (instruction ls u) (λ i u. got (Some i) u))))
        at true = refl
        at false = read_it (instruction ls u) (instruction_fit ls p u)

abbrev AllRead : ℕ → Result (List Instr) Mistake → Type 0
AllRead n (Ok js) = (every an_instr js ≡ true) × (length js ≡ n)
AllRead n (Err m) = Unit {0}

every_push : {A : Type 0} (p : A → Bool) (xs : List A) (y : A) → every p xs ≡ true → p y ≡ true → every p (xs ++ y ∷ []) ≡ true
every_push p [] y h g = and_from (p y) true g refl
every_push p (x ∷ xs) y h g = let a = and_parts (p x) (every p xs) h in and_from (p x) (every p (xs ++ y ∷ [])) a.0 (every_push p xs y a.1 g)

abbrev goes : ℕ → List Label → List Instr → List (List ℕ) → Result (Option Instr) Mistake → Result (List Instr) Mistake
goes n ls is ts (Ok o) = read_lines (n + 1) ls (with_instr is o) ts
goes n ls is ts (Err m) = Err m

all_read : (n : ℕ) (ls : List Label) (is : List Instr) (ts : List (List ℕ)) → Places ls → every an_instr is ≡ true → AllRead (length is + count ts) (read_lines n ls is ts)
unfolding read_lines count
all_read n ls is [] p h = (h, omega arith)
all_read n ls is (t ∷ ts) p h = go (line_instr n ls t) (taken n ls t p) (λ js g. all_read (n + 1) ls js ts p g)
  where
    go : (r : Result (Option Instr) Mistake) → Took (has (label t)) r
        → ((js : List Instr) → every an_instr js ≡ true → AllRead (length js + count ts) (read_lines (n + 1) ls js ts)) → AllRead (length is + count (t ∷ ts)) (goes n ls is ts r)
    go (Err m) q again = tt
    go (Ok None) q again = moved (read_lines (n + 1) ls is ts) (again is h) (omega arith)
      where
        moved : (r : Result (List Instr) Mistake) → AllRead (length is + count ts) r → length is + count ts ≡ length is + (has (label t) + count ts) → AllRead (length is + (has (label t) + count ts)) r
        moved r f e = subst (λ (k : ℕ). AllRead k r) e f
    go (Ok (Some i)) q again = moved (read_lines (n + 1) ls (is ++ i ∷ []) ts) (again (is ++ i ∷ []) (every_push an_instr is i h q.1))
        (let a = q.0 in let b : length (is ++ i ∷ []) ≡ length is + 1 = length-append is (i ∷ []) in omega arith)
      where
        moved : (r : Result (List Instr) Mistake) → AllRead (length (is ++ i ∷ []) + count ts) r → length (is ++ i ∷ []) + count ts ≡ length is + (has (label t) + count ts) → AllRead (length is + (has (label t) + count ts)) r
        moved r f e = subst (λ (k : ℕ). AllRead k r) e f

abbrev Loaded : Result Assembly Mistake → Type 0
Loaded (Ok a) = Loadable a.program
Loaded (Err m) = Unit {0}

loaded : (t : List ℕ) → Loaded (assembled t)
unfolding assembled
loaded t = go (find_labels 1 [] 0 (lines t)) (found 1 0 [] (lines t) (omega arith) tt)
  where
    go : (r : Result (List Label) Mistake) → Found 0 (lines t) r → Loaded (by_labels t r)
    go (Err m) f = tt
    go (Ok ls) f = at (read_lines 1 ls [] (lines t)) (all_read 1 ls [] (lines t) f.0 refl)
      where
        at : (r : Result (List Instr) Mistake) → AllRead (0 + count (lines t)) r → Loaded (elim r [ Ok is ↦ Ok (record { program = is; labels = ls }) | Err m ↦ Err m ])
        at (Ok is) x = record { few = let a = x.1 in let b = f.1 in omega arith; fit = x.0 }
        at (Err m) x = tt

pub assembled_loads : (t : List ℕ) (a : Assembly) → assembled t ≡ Ok a → Loadable a.program
assembled_loads t a e = subst Loaded e (loaded t)
