-- Commands are read just as they are spelled.
use Rattle.std.proofs.Common.{◌≡◌, ℕ, ◌≤◌, Bool, true, false, ◌&&◌, eqb, ◌⊎◌, List, [], ◌∷◌, ◌++◌, length, sym, refl, ap, ◌∙◌, subst, inl, inr, append_assoc, append-nil, arith}
use Rattle.std.proofs.lemmas.Bool.{and_parts, eqb-true}
use Rattle.command.specs.Machine.{pick, flat, eight, Instr, load_number, copy, reckon, read, write, jump, jump_if, call, return, take_in, put_out, halt}
use Rattle.command.specs.Plain.{Break, Command, load, give, forward, back, run, rerun, changer, add_break, drop_break, where_now, registers, words_from, outs_from, a_word, a_reg, billion, instr_spelled, an_instr, test_spelled, a_test, break_spelled, a_break, spelled, fits, numbers}
use Rattle.command.specs.Reader.{Got, nothing, got, Reader, first, byte, number, both, as_a, counted, below, up_to, register, place, word, steps, any_number, two, instr_ways, instr, which_below, a_test_of, test, a_break_of, break, command_ways, command, Read, none, some, all_of, read_command, Says}
use Rattle.command.specs.Statements.{SpelledOnce, ReadExactly}
use Rattle.command.proofs.Readers.{Right, Exact, bind_at, exact_byte, exact_empty, exact_both, exact_as, WaysRight, by_first_right, way_as, one}
use Rattle.command.proofs.Digits.{exact_below, exact_up_to, exact_counted, w_counted, ok_counted}

exact_register : Exact one a_reg register
exact_register = exact_byte (below 16)

exact_place : Exact eight (below 65536) place
exact_place = exact_below 65536 (omega arith)

pub exact_word : Exact eight a_word word
exact_word = exact_below 4294967296 (omega arith)

exact_steps : Exact eight (up_to billion) steps
exact_steps = exact_up_to billion (omega arith)

exact_any : Exact eight (below 18446744073709551616) any_number
exact_any = exact_below 18446744073709551616 (omega arith)

-- what was read, made into something
made : {A B : Type 0} {w : A → List ℕ} {ok : A → Bool} {r : Reader A} (f : A → B) → Exact w ok r → (a : A) (u : List ℕ) → ok a ≡ true → as_a f r (w a ++ u) ≡ got (f a) u
made f e a u h = bind_at _ (e.forth a u h)

two_exact : {w v : ℕ → List ℕ} {ok fine : ℕ → Bool} {r s : Reader ℕ} → Exact w ok r → Exact v fine s → Exact (λ p. w p.0 ++ v p.1) (λ p. ok p.0 && fine p.1) (two r s)
two_exact e f = exact_both _ _ _ _ e (λ a. f)

infixr 60 ◌and◌
abbrev ◌and◌ : {A B : Type 0} → A → B → A × B
a and b = (a, b)

-- the parts of instructions
-- (each is an exact reader, whose type says what it writes)
reg_word : Exact (λ p. one p.0 ++ eight p.1) (λ p. a_reg p.0 && a_word p.1) (two register word)
reg_word = two_exact exact_register exact_word

reg_reg : Exact (λ p. one p.0 ++ one p.1) (λ p. a_reg p.0 && a_reg p.1) (two register register)
reg_reg = two_exact exact_register exact_register

reg_place : Exact (λ p. one p.0 ++ eight p.1) (λ p. a_reg p.0 && below 65536 p.1) (two register place)
reg_place = two_exact exact_register exact_place

op_reg_reg : Exact (λ p. one p.0 ++ (one p.1.0 ++ one p.1.1)) (λ p. below 10 p.0 && (a_reg p.1.0 && a_reg p.1.1)) (both (byte (below 10)) (λ o. two register register))
op_reg_reg = exact_both _ _ _ _ (exact_byte (below 10)) (λ o. reg_reg)

reg_reg_place : Exact (λ p. one p.0 ++ (one p.1.0 ++ eight p.1.1)) (λ p. a_reg p.0 && (a_reg p.1.0 && below 65536 p.1.1)) (both register (λ k. two register place))
reg_reg_place = exact_both _ _ _ _ exact_register (λ k. reg_place)

sign_reg_reg_place : Exact (λ p. (one p.0.0 ++ one p.0.1) ++ (one p.1.0 ++ eight p.1.1)) (λ p. (below 4 p.0.0 && a_reg p.0.1) && (a_reg p.1.0 && below 65536 p.1.1)) (both (two (byte (below 4)) register) (λ ck. two register place))
sign_reg_reg_place = exact_both _ _ _ _ (two_exact (exact_byte (below 4)) exact_register) (λ ck. reg_place)

instr_way : {B : Type 0} {v : B → List ℕ} {fine : B → Bool} {r : Reader B} (k : ℕ) (f : B → Instr) → Exact v fine r
    → ((b : B) → instr_spelled (f b) ≡ k ∷ v b) → ((b : B) → an_instr (f b) ≡ fine b) → (t : List ℕ) → Right instr_spelled an_instr (k ∷ t) (as_a f r t)
instr_way = way_as instr_spelled an_instr

instr_right : WaysRight instr_spelled an_instr instr_ways
unfolding instr_spelled an_instr
instr_right =
    instr_way 0 _ reg_word (λ p. refl) (λ p. refl)
    and instr_way 1 _ reg_reg (λ p. refl) (λ p. refl)
    and instr_way 2 _ op_reg_reg (λ p. refl) (λ p. refl)
    and instr_way 3 _ reg_reg_place (λ p. refl) (λ p. refl)
    and instr_way 4 _ reg_reg_place (λ p. refl) (λ p. refl)
    and instr_way 5 _ exact_place (λ p. refl) (λ p. refl)
    and instr_way 6 _ sign_reg_reg_place (λ p. refl) (λ p. refl)
    and instr_way 7 _ exact_place (λ p. refl) (λ p. refl)
    and instr_way 8 (λ u. return) exact_empty (λ p. refl) (λ p. refl)
    and instr_way 9 _ exact_register (λ p. refl) (λ p. refl)
    and instr_way 10 _ exact_register (λ p. refl) (λ p. refl)
    and instr_way 11 (λ u. halt) exact_empty (λ p. refl) (λ p. refl)
    and tt

instr_forth : (i : Instr) (u : List ℕ) → an_instr i ≡ true → instr (instr_spelled i ++ u) ≡ got i u
unfolding instr instr_spelled an_instr first
instr_forth (load_number k n) u h = made _ reg_word (k, n) u h
instr_forth (copy k j) u h = made _ reg_reg (k, j) u h
instr_forth (reckon o k j) u h = made _ op_reg_reg (o, (k, j)) u h
instr_forth (read k b n) u h = made _ reg_reg_place (k, (b, n)) u h
instr_forth (write k b n) u h = made _ reg_reg_place (k, (b, n)) u h
instr_forth (jump k) u h = made _ exact_place k u h
instr_forth (jump_if c k j n) u h = made _ sign_reg_reg_place ((c, k), (j, n)) u h
instr_forth (call k) u h = made _ exact_place k u h
instr_forth return u h = refl
instr_forth (take_in k) u h = made _ exact_register k u h
instr_forth (put_out k) u h = made _ exact_register k u h
instr_forth halt u h = refl

pub exact_instr : Exact instr_spelled an_instr instr
unfolding instr
exact_instr = record { back = by_first_right instr_spelled an_instr instr_ways instr_right; forth = instr_forth }

which_few : (kind : ℕ) → which_below kind ≤ 18446744073709551616
which_few kind = go (eqb kind 0)
  where
    go : (b : Bool) → pick b 16 65536 ≤ 18446744073709551616
    go true = omega arith
    go false = omega arith

pub exact_test : Exact test_spelled a_test test
exact_test =
    exact_as test_spelled a_test a_test_of (λ p. refl) (λ p. refl) (λ t. ((t.kind, t.which), (t.sign, t.value))) (λ t h. refl)
    (exact_both _ _ _ _ (exact_both _ _ _ _ (exact_byte (below 2)) (λ kind. exact_below (which_below kind) (which_few kind)))
    (λ kw. two_exact (exact_byte (below 4)) exact_word))

and_assoc : (a b c : Bool) → (a && (b && c)) ≡ ((a && b) && c)
and_assoc true b c = refl
and_assoc false b c = refl

exact_list : {A : Type 0} {w : A → List ℕ} {ok : A → Bool} {r : Reader A} (max : ℕ) → max ≤ 4096 → Exact w ok r → Exact (w_counted w) (ok_counted max ok) (counted max r)
exact_list max few e = exact_counted max (omega arith) _ _ e

places_tests_places : Exact (λ p. (w_counted eight p.0.0 ++ w_counted test_spelled p.0.1) ++ w_counted eight p.1)
    (λ p. (ok_counted 1 (below 65536) p.0.0 && ok_counted 8 a_test p.0.1) && ok_counted 1 (below 65536) p.1)
    (both (both (counted 1 place) (λ p. counted 8 test)) (λ pt. counted 1 place))
places_tests_places =
    exact_both _ _ _ _ (exact_both _ _ _ _ (exact_list 1 (omega arith) exact_place) (λ p. exact_list 8 (omega arith) exact_test)) (λ pt. exact_list 1 (omega arith) exact_place)

-- a break that is given has no number, so it's made of its parts
no_number : (b : Break) → a_break b ≡ true → a_break_of ((b.place, b.tests), b.changed) ≡ b
no_number b h =
    let e : b.id ≡ 0 = eqb-true b.id 0 (and_parts _ _ (and_parts _ _ h).0).0 in
    λ i. record { id = sym e i; place = b.place; tests = b.tests; changed = b.changed }

pub exact_break : Exact break_spelled a_break break
unfolding break
exact_break =
    exact_as break_spelled a_break a_break_of
    (λ p. ap (λ l. l ++ numbers p.1) (append_assoc (numbers p.0.0) (eight (length p.0.1)) (flat test_spelled p.0.1)))
    (λ p. and_assoc (ok_counted 1 (below 65536) p.0.0) (ok_counted 8 a_test p.0.1) (ok_counted 1 (below 65536) p.1))
    (λ b. ((b.place, b.tests), b.changed)) no_number places_tests_places

-- the commands
pub exact_load : Exact (w_counted instr_spelled) (ok_counted 4096 an_instr) (counted 4096 instr)
exact_load = exact_list 4096 (omega arith) exact_instr

pub exact_give : Exact (w_counted eight) (ok_counted 4096 a_word) (counted 4096 word)
exact_give = exact_list 4096 (omega arith) exact_word

place_count : Exact (λ p. eight p.0 ++ eight p.1) (λ p. below 65536 p.0 && up_to 4096 p.1) (two place (number (up_to 4096)))
place_count = two_exact exact_place (exact_up_to 4096 (omega arith))

any_count : Exact (λ p. eight p.0 ++ eight p.1) (λ p. below 18446744073709551616 p.0 && up_to 4096 p.1) (two any_number (number (up_to 4096)))
any_count = two_exact exact_any (exact_up_to 4096 (omega arith))

command_way : {B : Type 0} {v : B → List ℕ} {fine : B → Bool} {r : Reader B} (k : ℕ) (f : B → Command) → Exact v fine r
    → ((b : B) → spelled (f b) ≡ k ∷ v b) → ((b : B) → fits (f b) ≡ fine b) → (t : List ℕ) → Right spelled fits (k ∷ t) (as_a f r t)
command_way = way_as spelled fits

command_right : WaysRight spelled fits command_ways
unfolding spelled fits
command_right =
    command_way 1 _ exact_load (λ p. refl) (λ p. refl)
    and command_way 2 _ exact_give (λ p. refl) (λ p. refl)
    and command_way 3 _ exact_steps (λ p. refl) (λ p. refl)
    and command_way 4 _ exact_steps (λ p. refl) (λ p. refl)
    and command_way 5 _ exact_steps (λ p. refl) (λ p. refl)
    and command_way 6 _ exact_steps (λ p. refl) (λ p. refl)
    and command_way 7 _ exact_place (λ p. refl) (λ p. refl)
    and command_way 8 _ exact_break (λ p. refl) (λ p. refl)
    and command_way 9 _ exact_any (λ p. refl) (λ p. refl)
    and command_way 10 (λ u. where_now) exact_empty (λ p. refl) (λ p. refl)
    and command_way 11 (λ u. registers) exact_empty (λ p. refl) (λ p. refl)
    and command_way 12 _ place_count (λ p. refl) (λ p. refl)
    and command_way 13 _ any_count (λ p. refl) (λ p. refl)
    and tt

command_forth : (c : Command) (u : List ℕ) → fits c ≡ true → command (spelled c ++ u) ≡ got c u
unfolding command spelled fits first
command_forth (load is) u h = made _ exact_load is u h
command_forth (give vs) u h = made _ exact_give vs u h
command_forth (forward n) u h = made _ exact_steps n u h
command_forth (back n) u h = made _ exact_steps n u h
command_forth (run n) u h = made _ exact_steps n u h
command_forth (rerun n) u h = made _ exact_steps n u h
command_forth (changer a) u h = made _ exact_place a u h
command_forth (add_break b) u h = made _ exact_break b u h
command_forth (drop_break i) u h = made _ exact_any i u h
command_forth where_now u h = refl
command_forth registers u h = refl
command_forth (words_from a n) u h = made _ place_count (a, n) u h
command_forth (outs_from a n) u h = made _ any_count (a, n) u h

pub exact_command : Exact spelled fits command
unfolding command
exact_command = record { back = by_first_right spelled fits command_ways command_right; forth = command_forth }

-- what was read is spelled so, and fits
Sound : List ℕ → Read → Type 0
Sound t none = Unit {0}
Sound t (some c) = (spelled c ≡ t) × (fits c ≡ true)

sound : (t : List ℕ) (g : Got Command) → Right spelled fits t g → Sound t (all_of g)
unfolding Sound all_of
sound t nothing h = tt
sound t (got c []) h = (sym (append-nil (spelled c)) ∙ h.0, h.1)
sound t (got c (b ∷ u)) h = tt

pub read_back : (text : List ℕ) (c : Command) → read_command text ≡ some c → Says text c
unfolding Sound read_command
read_back t c e = subst (Sound t) e (sound t (command t) (exact_command.back t))

pub read_forth : (text : List ℕ) (c : Command) → Says text c → read_command text ≡ some c
unfolding read_command all_of
read_forth t c (s, h) =
    ap read_command (sym s) ∙ (ap (λ l. all_of (command l)) (sym (append-nil (spelled c))) ∙ ap all_of (exact_command.forth c [] h))

pub read_exactly : ReadExactly
unfolding ReadExactly
read_exactly t c = (read_back t c, read_forth t c)

pub spelled_once : SpelledOnce
unfolding SpelledOnce
spelled_once a c ha hc s =
    let p : some a ≡ some c = sym (read_forth (spelled a) a (refl, ha)) ∙ read_forth (spelled a) c (sym s, hc) in
    cc

-- whoever says a command says no other
pub says_once : (text : List ℕ) (a c : Command) → Says text a → Says text c → a ≡ c
says_once text a c p q = let e : some a ≡ some c = sym (read_forth text a p) ∙ read_forth text c q in cc

-- a text that is read as none says no command
pub says_none : (text : List ℕ) → read_command text ≡ none → (a : Command) → Says text a → ⊥
says_none text e a p = let f : none ≡ some a = sym e ∙ read_forth text a p in let z : ◌≡◌ {A = ℕ} 0 1 = cc in omega arith

-- so whether it says one, and which, can be told
pub says_which : (text : List ℕ) → ((c : Command) × Says text c) ⊎ ((c : Command) → Says text c → ⊥)
says_which text = go (read_command text) refl
  where
    go : (r : Read) → read_command text ≡ r → ((c : Command) × Says text c) ⊎ ((c : Command) → Says text c → ⊥)
    go none e = inr (says_none text e)
    go (some c) e = inl (c, read_back text c e)
