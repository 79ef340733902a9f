-- Programs are read just as they are spelled.
use Rattle.std.proofs.Common.{◌≡◌, ℕ, ◌<◌, List, [], ◌∷◌, ◌++◌, length, IsErrAnd, Some, None, Ok, Err, Option, Result, Vec, sym, refl, ap, ◌∙◌, subst, append-nil, arith}
use Rattle.std.proofs.lemmas.Bool.{lt-ltb}
use Rattle.std.specs.Option.{ok_or}
use Rattle.std.specs.declared.alloc.Global.{Global}
use Rattle.command.specs.declared.code.Instr.{Instr as Code}
use Rattle.spelling.specs.declared.spelled.ReadError.{ReadError}
use Rattle.spelling.specs.declared.spelled.ReadError.TheVariants.{NoProgram, NoMemory}
use Rattle.command.specs.Machine.{flat, eight, Instr}
use Rattle.command.specs.Plain.{instr_spelled, an_instr}
use Rattle.command.specs.Reader.{Got, nothing, got, bind, so_many, bytes, instr}
use Rattle.command.proofs.Readers.{Right, Rights, bind_at, so_many_back, so_many_forth}
use Rattle.command.proofs.Digits.{exact_bytes, a_u64}
use Rattle.command.proofs.Spellings.{exact_instr}
use Rattle.spelling.specs.Spelling.{program, all_of, read_program, Spells, TakesAll, Reads}

-- what was read to the end is spelled so
abbrev Told : List ℕ → Option (List Instr) → Type 0
Told t None = Unit {0}
Told t (Some is) = Spells t is

whole : (t u : List ℕ) (n : ℕ) → eight n ++ u ≡ t → (g : Got (List Instr)) → Rights instr_spelled an_instr n u g → Told t (all_of g)
whole t u n h nothing x = tt
whole t u n h (got is []) x =
    (ap (λ k. eight k ++ flat instr_spelled is) x.0 ∙ (ap (λ l. eight n ++ l) (sym (append-nil (flat instr_spelled is)) ∙ x.1) ∙ h), x.2)
whole t u n h (got is (b ∷ v)) x = tt

counted : (t : List ℕ) (g : Got ℕ) → Right eight a_u64 t g → Told t (all_of (bind g (λ n u. so_many instr n u)))
counted t nothing h = tt
counted t (got n u) h = whole t u n h.0 (so_many instr n u) (so_many_back instr_spelled an_instr exact_instr n u)

told : (t : List ℕ) → Told t (read_program t)
unfolding read_program
told t = counted t (bytes 8 0 t) (exact_bytes.back t)

pub program_back : (t : List ℕ) (is : List Instr) → read_program t ≡ Some is → Spells t is
program_back t is e = subst (Told t) e (told t)

pub program_forth : (t : List ℕ) (is : List Instr) → length is < 18446744073709551616 → Spells t is → read_program t ≡ Some is
unfolding read_program
program_forth t is h s =
    ap (λ u. all_of (program u)) (sym s.0)
    ∙ ap all_of (bind_at (λ n u. so_many instr n u) (exact_bytes.forth (length is) (flat instr_spelled is) (lt-ltb (length is) 18446744073709551616 h)))
    ∙ ap (λ l. all_of (so_many instr (length is) l)) (sym (append-nil (flat instr_spelled is)))
    ∙ ap all_of (so_many_forth instr_spelled an_instr exact_instr is [] s.1)

-- the ways out of the code's reader
module _ (t : List ℕ) where
  pub no_count : bytes 8 0 t ≡ nothing → read_program t ≡ None
  unfolding read_program
  no_count e = ap (λ g. all_of (bind g (λ n u. so_many instr n u))) e

  pub by_count : {n : ℕ} {u : List ℕ} → bytes 8 0 t ≡ got n u → read_program t ≡ all_of (so_many instr n u)
  unfolding read_program
  by_count e = ap (λ g. all_of (bind g (λ n u. so_many instr n u))) e

  pub no_program : read_program t ≡ None → (is : List Instr) → length is < 18446744073709551616 → Spells t is → ⊥
  no_program e is h s = let f = program_forth t is h s in let z : ◌≡◌ {A = ℕ} 0 1 = cc in omega arith

  pub stopped : (g : Got (List Instr)) (u : List ℕ) (e : ReadError) (r : Result (Vec Code Global) ReadError)
      → read_program t ≡ all_of g → TakesAll g (Err e) u → IsErrAnd r (λ y. y ≡ e) → Reads t r
  stopped g u e (Ok v) p a q = absurd q
  stopped g u e (Err y) p a q = subst (λ (x : ReadError). Reads t (Err x)) (sym q) (at e a)
    where
      at : (e : ReadError) → TakesAll g (Err e) u → Reads t (Err e)
      at NoProgram a = no_program (p ∙ ap all_of a)
      at NoMemory a = tt

  pub refused : (e : ReadError) (r : Result (Vec Code Global) ReadError) → read_program t ≡ None → e ≡ NoProgram → IsErrAnd r (λ y. y ≡ e) → Reads t r
  refused e (Ok v) p h q = absurd q
  refused e (Err y) p h q = subst (λ (x : ReadError). Reads t (Err x)) (sym (q ∙ h)) (no_program p)

-- no instruction where one was to be
pub none_taken : (g : Got (List Instr)) (u : List ℕ) (e : ReadError) (r : Result (Vec Code Global) ReadError) → g ≡ nothing → e ≡ NoProgram → IsErrAnd r (λ y. y ≡ e) → TakesAll g r u
none_taken g u e (Ok v) p h q = absurd q
none_taken g u e (Err y) p h q = subst (λ (x : ReadError). TakesAll g (Err x) u) (sym (q ∙ h)) p

-- what `ok_or` refuses with
pub err_is : {A E : Type 0} {o : Option A} {e d : E} → Err e ≡ ok_or o d → o ≡ None → e ≡ d
err_is {A} {E} {o} {e} {d} v n = let f : ◌≡◌ {A = Result A E} (Err e) (Err d) = v ∙ ap (λ p. ok_or p d) n in cc

pub nothing_left : {A : Type 0} (a : A) (u : List ℕ) → length u ≡ 0 → all_of (got a u) ≡ Some a
nothing_left a [] h = refl
nothing_left a (b ∷ u) h = absurd (omega arith)

pub something_left : {A : Type 0} (a : A) (u : List ℕ) → (length u ≡ 0 → ⊥) → all_of (got a u) ≡ None
something_left a [] h = absurd (h refl)
something_left a (b ∷ u) h = refl
