-- What the emulator promises of each act, from what its parts promise. Assumes nothing.
use Rattle.std.proofs.Common.{◌≡◌, ℕ, suc, ◌+◌, ◌-◌, ◌<◌, ◌≤◌, List, [], ◌∷◌, length, get_or, take, drop, vec_items, vec_capacity, Option, sym, refl, ap, ◌∙◌, subst, arith, length-append}
use Rattle.command.specs.Machine.{Instr, State as Model, word_at, step}
use Rattle.command.specs.Plain.{Break, status_number}
use Rattle.command.specs.Codes.{codes}
use Rattle.command.proofs.OutsGrow.{grown_front}
use Rattle.target.specs.Run.{Target, came, saw, goes, looks_regs, looks_words, looks_outs, looks_where, words_of, going}
use Rattle.target.specs.Acts.{Does}
use Rattle.target.specs.Whys.{why_number}
use Rattle.target.specs.declared.answers.Came.{Came}
use Rattle.target.specs.declared.answers.Why.{Why}
use Rattle.target.proofs.Doing.{gone, does_goes, does_regs, does_words, does_outs, does_spot}
use Rattle.processor.specs.declared.emulator.Emulator.{Emulator}
use Rattle.processor.specs.Like.{Base, Like, CameTo, held}
use Rattle.processor.specs.Holding.{base_of, Held}
use Rattle.processor.specs.Telling.{told_outs}
use Rattle.processor.proofs.Holds.{went, moved, logged_same}

-- what goes by the code's program and input goes by the target's
pub goes_promise : (e e₁ : Emulator) (n : ℕ) (bs : List Break) (is : List Instr) (ins : List ℕ) (c : Came) → length bs ≤ 64
    → e₁.program ≡ e.program → e₁.fed ≡ e.fed → e₁.slots ≡ e.slots → is ≡ codes (vec_items e.program) → ins ≡ vec_items e.fed
    → ((s : Model) → Like (base_of e) e.state s → CameTo (base_of e) e₁.state c (going n is ins bs s 0))
    → Does (goes n bs) (came c.by c.hit (why_number c.why)) c.by (Held e) (Held e₁)
goes_promise e e₁ n bs is ins c few p f q pe fe g =
    does_goes (Held e) (Held e₁) n c.by c.hit (why_number c.why) bs few
    (λ t (far, h).
    let k : CameTo (base_of e) e₁.state c (gone n bs t) =
    subst (λ i. CameTo (base_of e) e₁.state c (going n i t.fed bs t.state 0)) (pe ∙ sym h.program)
    (subst (λ i. CameTo (base_of e) e₁.state c (going n is i bs t.state 0)) (fe ∙ sym h.fed) (g t.state h.state)) in
    (went e e₁ n bs c p f q t far h k, k.by, k.hit, k.why))

-- room is wanted where there is too little, whatever room there is
pub no_room : (e : Emulator) (n cap : ℕ) → vec_capacity e.state.log ≤ cap → cap < e.state.put + n → (t : Target) → Held e t → cap - e.state.put < n
no_room e n cap g h t (far, l) =
    let k = l.state in
    let a : e.state.put ≤ length (vec_items e.state.log) =
    omega (arith, k.put, ap length k.log, length-append t.state.out (drop (length t.state.out) (vec_items e.state.log))) in
    omega (arith, e.state.log.ok)

-- words from a place on
pub words_told : (t : Target) (a : ℕ) (xs : List ℕ) → ((i : ℕ) → i < length xs → word_at t.state.words (a + i) ≡ get_or xs i 0) → words_of t a (length xs) ≡ xs
unfolding words_of
words_told t a [] f = refl
words_told t a (x ∷ xs) f =
    λ i. head i ∷ words_told t (suc a) xs (λ k h. ap (word_at t.state.words) (shift a k) ∙ f (suc k) (omega arith)) i
  where
    shift : (a k : ℕ) → suc a + k ≡ a + suc k
    shift a k = omega arith

    head : word_at t.state.words a ≡ x
    head = let z : a ≡ a + 0 = omega arith in ap (word_at t.state.words) z ∙ f 0 (omega arith)

pub words_promise : (e : Emulator) (a : ℕ) (row : List ℕ) → length row ≤ 4096 → ((i : ℕ) → i < length row → get_or row i 0 ≡ get_or (held e.state) (a + i) 0)
    → Does (looks_words a (length row)) (saw row) 0 (Held e) (Held e)
words_promise e a row few f =
    does_words (Held e) a (length row) row few (λ t (far, h). words_told t a row (λ i lt. h.state.words (a + i) ∙ sym (f i lt)))

-- what went out by now is the beginning of the log
pub outs_now : (e : Emulator) (t : Target) → Held e t → take e.state.put (vec_items e.state.log) ≡ t.state.out
outs_now e t (far, h) =
    let l = h.state in
    ap (λ n. take n (vec_items e.state.log)) (sym l.put) ∙ grown_front t.state.out (vec_items e.state.log) (drop (length t.state.out) (vec_items e.state.log), l.log)

pub outs_promise : (e : Emulator) (a n : ℕ) → n ≤ 4096
    → Does (looks_outs a n) (saw (told_outs (vec_items e.state.log) e.state.put a n)) 0 (Held e) (Held e)
outs_promise e a n few = does_outs (Held e) a n _ few (λ t h. ap (λ z. take n (drop a z)) (sym (outs_now e t h)))

pub spot_promise : (e : Emulator) (is : List Instr) (ins : List ℕ) (why : Option Why) → is ≡ codes (vec_items e.program) → ins ≡ vec_items e.fed
    → ((b : Base) (s : Model) → Like b e.state s → why_number why ≡ status_number (step is ins s).status)
    → Does looks_where (saw (e.state.at ∷ why_number why ∷ [])) 0 (Held e) (Held e)
spot_promise e is ins why pe fe f =
    does_spot (Held e) e.state.at (why_number why)
    (λ t (far, h). (
      h.state.place,
      ap (λ (i : List Instr). status_number (step i t.fed t.state).status) (h.program ∙ sym pe)
          ∙ ap (λ (i : List ℕ). status_number (step is i t.state).status) (h.fed ∙ sym fe) ∙ sym (f (base_of e) t.state h.state),
    ))

pub regs_promise : (e : Emulator) → Does looks_regs (saw e.state.regs) 0 (Held e) (Held e)
regs_promise e = does_regs (Held e) e.state.regs (λ t (far, h). h.state.registers)

-- room was taken in the log, and nothing else is changed
pub logged_held : (e e₁ : Emulator) → e₁.program ≡ e.program → e₁.fed ≡ e.fed → e₁.slots ≡ e.slots → e₁.state.at ≡ e.state.at → e₁.state.regs ≡ e.state.regs
    → e₁.state.words ≡ e.state.words → e₁.state.taken ≡ e.state.taken → e₁.state.put ≡ e.state.put → vec_items e₁.state.log ≡ vec_items e.state.log
    → (t : Target) → Held e t → Held e₁ t
logged_held e e₁ p f q at regs words taken put log t (far, h) =
    moved e e₁ p f q t far h t.state (logged_same (base_of e) e.state e₁.state t.state at regs words taken put log h.state)
    far h.on_run.0 (omega arith) h.on_run.1 h.on_run.2 h.runs (log ∙ h.log)
