-- The emulator stays like the target that each act makes. Assumes nothing.
use Rattle.std.proofs.Common.{◌≡◌, ℕ, suc, ◌<◌, ◌≤◌, true, false, eqb, ltb, leb, List, [], ◌∷◌, ◌++◌, length, get_or, drop, set, replicate, Some, None, vec_items, Option, Vec, sym, refl, ap, ◌∙◌, subst, append-nil, arith, length-append, get_or-set_other, get_or-set_same}
use Rattle.std.proofs.lemmas.Bool.{eqb-true, eqb-false, eq-eqb, ne_eqb, leb-true, leb-false, ltb-true, ltb-false}
use Rattle.std.proofs.lemmas.List.{drop_all, drop_at}
use Rattle.command.specs.Machine.{pick, Instr, State as Model, word_at, so_many, is_running, step, state_at}
use Rattle.command.specs.Plain.{Break}
use Rattle.command.specs.Codes.{codes}
use Rattle.command.specs.Statements.{PastSame, OutsGrow}
use Rattle.std.specs.declared.alloc.Global.{Global}
use Rattle.command.specs.declared.code.Instr.{Instr as Code}
use Rattle.command.proofs.Picks.{by_test}
use Rattle.command.proofs.MoreInput.{past_same}
use Rattle.command.proofs.Running.{ran_till}
use Rattle.command.proofs.OutsGrow.{Grown, outs_grow}
use Rattle.target.specs.Run.{Target, slot_of, fresh_target, with_state, keep_in, going}
use Rattle.target.specs.declared.answers.Came.{Came}
use Rattle.target.proofs.Slots.{kept_found, kept_others}
use Rattle.target.proofs.Doing.{fed_with, gone}
use Rattle.target.proofs.GoingKeeps.{going_keeps}
use Rattle.processor.specs.declared.pages.Pages.{Pages}
use Rattle.processor.specs.declared.words.Words.{Words}
use Rattle.processor.specs.declared.kept.Kept.{Kept}
use Rattle.processor.specs.declared.state.State.{State}
use Rattle.processor.specs.declared.emulator.Emulator.{Emulator}
use Rattle.processor.specs.Held.{held_word}
use Rattle.processor.specs.Like.{Base, Like, CameTo, held, laid}
use Rattle.processor.specs.Holding.{base_of, KeptLike, OnRun, InSlot, HeldTill, Held}
use Rattle.processor.proofs.Defaults.{default_past}

-- a list laid over one that begins with it shows the longer one
pub laid_grown : (xs ys : List ℕ) → Grown xs ys → laid xs ys ≡ ys
laid_grown xs ys (more, e) = ap (λ (z : List ℕ). xs ++ drop (length xs) z) e ∙ ap (λ (z : List ℕ). xs ++ z) (drop_at xs more (length xs) refl) ∙ sym e

-- a list laid over its own beginning shows itself
pub laid_past : (xs ys : List ℕ) → Grown ys xs → laid xs ys ≡ xs
laid_past xs ys (more, e) =
    let h : length ys ≤ length xs = omega (arith, ap length e, length-append ys more) in
    ap (λ (z : List ℕ). xs ++ z) (drop_all (length xs) ys h) ∙ append-nil xs

laid_laid : (xs ys : List ℕ) → laid xs (laid xs ys) ≡ laid xs ys
laid_laid xs ys = laid_grown xs (laid xs ys) (drop (length xs) ys, refl)

abbrev VecCode : Type 0
VecCode = Vec Code Global

-- the program begins
pub begun : (e : Emulator) (is : List Code) → vec_items e.program ≡ is → vec_items e.fed ≡ [] → e.state.at ≡ 0 → e.state.regs ≡ replicate 16 0
    → e.state.taken ≡ 0 → e.state.put ≡ 0 → vec_items e.state.log ≡ [] → ((a : ℕ) → get_or (held e.state) a 0 ≡ 0)
    → ((k : ℕ) → get_or (vec_items e.slots) k None ≡ None) → Held e (fresh_target (codes is))
unfolding state_at is_running slot_of word_at so_many
begun e is p f at regs taken put log words slots = (
  0,
  record {
    program = ap codes (sym p);
    fed = sym f;
    runs = refl;
    log = log;
    state = record {
      place = sym at;
      registers = sym regs;
      words = λ a. sym (words a);
      took = sym taken;
      put = sym put;
      log = refl;
      pages = refl;
      runs = refl;
    };
    on_run = (0, omega arith, refl);
    slots = λ k h. subst (λ z. InSlot (codes is) [] 0 e.state.words.pages k z []) (sym (slots k)) refl;
    no_more = λ k h. refl;
  },
)

-- more comes in: what was on the run still is
module _ (is : List Instr) (ins vs : List ℕ) (far : ℕ) (r : is_running (state_at is ins far).status ≡ true) where
  pub same_past : (time : ℕ) → time ≤ far → state_at is (ins ++ vs) time ≡ state_at is ins time
  unfolding PastSame
  same_past time h = past_same is ins vs time (ran_till is ins far time h r)

  pub still_on_run : (s : Model) → OnRun is ins far s → OnRun is (ins ++ vs) far s
  still_on_run s (time, h, e) = (time, h, e ∙ sym (same_past time h))

  pub still_in_slot : (ps : Pages) (k : ℕ) (o : Option Kept) (ss : List Model) → InSlot is ins far ps k o ss → InSlot is (ins ++ vs) far ps k o ss
  still_in_slot ps k None ss h = h
  still_in_slot ps k (Some q) ss (s, e, l, t) = (s, e, l, still_on_run s t)

pub fed_more : (e e₁ : Emulator) (vs : List ℕ) → e₁.program ≡ e.program → vec_items e₁.fed ≡ vec_items e.fed ++ vs → e₁.state ≡ e.state → e₁.slots ≡ e.slots
    → (t : Target) → Held e t → Held e₁ (fed_with t vs)
fed_more e e₁ vs p f m q t (far, h) =
    let past = same_past t.program t.fed vs far h.runs far (omega arith) in (
      far,
      record {
        program = h.program ∙ ap (λ (z : VecCode). codes (vec_items z)) (sym p);
        fed = ap (λ z. z ++ vs) h.fed ∙ sym f;
        runs = ap (λ (s : Model). is_running s.status) past ∙ h.runs;
        log = ap (λ (s : State). vec_items s.log) m ∙ h.log ∙ ap (λ (s : Model). s.out) (sym past);
        state = subst (λ (s : State). Like (record { log = vec_items s.log; pages = s.words.pages }) s t.state) (sym m) h.state;
        on_run = still_on_run t.program t.fed vs far h.runs t.state h.on_run;
        slots = λ k lt.
            subst (λ (s : State). InSlot t.program (t.fed ++ vs) far s.words.pages k (get_or (vec_items e₁.slots) k None) (slot_of t.slots k)) (sym m)
            (subst (λ z. InSlot t.program (t.fed ++ vs) far e.state.words.pages k (get_or (vec_items z) k None) (slot_of t.slots k)) (sym q)
            (still_in_slot t.program t.fed vs far h.runs e.state.words.pages k _ _ (h.slots k lt)));
        no_more = h.no_more;
      },
    )

-- room was taken in the log
pub logged_same : (b : Base) (m m₁ : State) (s : Model) → m₁.at ≡ m.at → m₁.regs ≡ m.regs → m₁.words ≡ m.words → m₁.taken ≡ m.taken → m₁.put ≡ m.put
    → vec_items m₁.log ≡ vec_items m.log → Like b m s → Like b m₁ s
logged_same b m m₁ s at regs words taken put log l =
    record {
      place = l.place ∙ sym at;
      registers = l.registers ∙ sym regs;
      words = λ a. l.words a ∙ ap (λ (w : Words). get_or (vec_items w.items) a 0) (sym words);
      took = l.took ∙ sym taken;
      put = l.put ∙ sym put;
      log = log ∙ l.log;
      pages = ap (λ (w : Words). w.pages) words ∙ l.pages;
      runs = l.runs;
    }

-- going on stays on the run
going_time : (is : List Instr) (ins : List ℕ) (bs : List Break) (n : ℕ) (s : Model) (time : ℕ) → s ≡ state_at is ins time → is_running s.status ≡ true
    → (u : ℕ) × ((going n is ins bs s 0).state ≡ state_at is ins u) × (is_running (state_at is ins u).status ≡ true)
unfolding state_at
going_time is ins bs n s time e r =
    going_keeps is ins bs (λ (x : Model). (u : ℕ) × (x ≡ state_at is ins u) × (is_running (state_at is ins u).status ≡ true))
    (λ x rx h. (suc h.0, ap (step is ins) h.1, ap (λ (y : Model). is_running (step is ins y).status) (sym h.1) ∙ rx))
    n s 0 (time, e, ap (λ (y : Model). is_running y.status) (sym e) ∙ r)

further : (is : List Instr) (ins : List ℕ) (far far₁ : ℕ) → far ≤ far₁ → (ps : Pages) (k : ℕ) (o : Option Kept) (ss : List Model) → InSlot is ins far ps k o ss → InSlot is ins far₁ ps k o ss
further is ins far far₁ le ps k None ss h = h
further is ins far far₁ le ps k (Some q) ss (s, e, l, (time, lt, f)) = (s, e, l, (time, omega arith, f))

-- the log as it is now serves as the log that what goes out is laid over
rebased : (b : Base) (m : State) (s : Model) → Like b m s → Like (record { log = vec_items m.log; pages = m.words.pages }) m s
rebased b m s l =
    record {
      place = l.place;
      registers = l.registers;
      words = l.words;
      took = l.took;
      put = l.put;
      log = l.log ∙ sym (laid_laid s.out b.log) ∙ ap (laid s.out) (sym l.log);
      pages = refl;
      runs = l.runs;
    }

module _ (e e₁ : Emulator) (p : e₁.program ≡ e.program) (f : e₁.fed ≡ e.fed) (q : e₁.slots ≡ e.slots) (t : Target) (far : ℕ) (h : HeldTill far e t) (s : Model)
    (l : Like (base_of e) e₁.state s) where
  -- a state further on, or not so far, on the same run
  pub moved : (far₁ u : ℕ) → far ≤ far₁ → u ≤ far₁ → s ≡ state_at t.program t.fed u → is_running (state_at t.program t.fed far₁).status ≡ true
      → vec_items e₁.state.log ≡ (state_at t.program t.fed far₁).out → Held e₁ (with_state t s)
  moved far₁ u lf lu eq r log = (
    far₁,
    record {
      program = h.program ∙ ap (λ (z : VecCode). codes (vec_items z)) (sym p);
      fed = h.fed ∙ ap vec_items (sym f);
      runs = r;
      log = log;
      state = rebased (base_of e) e₁.state s l;
      on_run = (u, lu, eq);
      slots = λ k lt.
          subst (λ z. InSlot t.program t.fed far₁ z k (get_or (vec_items e₁.slots) k None) (slot_of t.slots k)) (sym l.pages)
          (subst (λ z. InSlot t.program t.fed far₁ e.state.words.pages k (get_or (vec_items z) k None) (slot_of t.slots k)) (sym q)
          (further t.program t.fed far far₁ lf e.state.words.pages k _ _ (h.slots k lt)));
      no_more = h.no_more;
    },
  )

  pub moved_on : (u : ℕ) → s ≡ state_at t.program t.fed u → is_running (state_at t.program t.fed u).status ≡ true → Held e₁ (with_state t s)
  unfolding OutsGrow
  moved_on u eq r =
      let out : s.out ≡ (state_at t.program t.fed u).out = ap (λ (x : Model). x.out) eq in
      let log : vec_items e₁.state.log ≡ laid (state_at t.program t.fed u).out (state_at t.program t.fed far).out = l.log ∙ (λ i. laid (out i) (h.log i)) in
      by_test (leb u far)
      (λ (b : leb u far ≡ true).
      let le = leb-true u far b in
      moved far u (omega arith) le eq h.runs (log ∙ laid_grown _ _ (outs_grow t.program t.fed u far le)))
      (λ (b : leb u far ≡ false).
      let lt = leb-false u far b in
      let le : far ≤ u = omega arith in
      moved u u le (omega arith) eq r (log ∙ laid_past _ _ (outs_grow t.program t.fed far u le)))

pub went : (e e₁ : Emulator) (n : ℕ) (bs : List Break) (c : Came) → e₁.program ≡ e.program → e₁.fed ≡ e.fed → e₁.slots ≡ e.slots
    → (t : Target) (far : ℕ) (h : HeldTill far e t) → CameTo (base_of e) e₁.state c (gone n bs t) → Held e₁ (with_state t (gone n bs t).state)
unfolding is_running
went e e₁ n bs c p f q t far h came =
    let run = h.on_run in
    let r : is_running t.state.status ≡ true = ap is_running h.state.runs in
    let g = going_time t.program t.fed bs n t.state run.0 run.2 r in
    moved_on e e₁ p f q t far h (gone n bs t).state came.like g.0 g.1 g.2

-- the state is kept in a slot
module _ (e e₁ : Emulator) (k : ℕ) (lt : k < 256) (p : e₁.program ≡ e.program) (f : e₁.fed ≡ e.fed) (kq : Kept)
    (at : kq.at ≡ e.state.at) (regs : kq.regs ≡ e.state.regs) (taken : kq.taken ≡ e.state.taken) (put : kq.put ≡ e.state.put)
    (q : vec_items e₁.slots ≡ set (vec_items e.slots) k (Some kq))
    (m_at : e₁.state.at ≡ e.state.at) (m_regs : e₁.state.regs ≡ e.state.regs) (m_taken : e₁.state.taken ≡ e.state.taken) (m_put : e₁.state.put ≡ e.state.put)
    (m_log : e₁.state.log ≡ e.state.log) (m_items : vec_items e₁.state.words.items ≡ vec_items e.state.words.items)
    (kept : (row a : ℕ) → row < 256 → a < 65536 → held_word e₁.state.words.pages row a ≡ pick (eqb row k) (get_or (held e.state) a 0) (held_word e.state.words.pages row a)) where
  same_like : (s : Model) → Like (base_of e) e.state s → Like (base_of e₁) e₁.state s
  same_like s l =
      record {
        place = l.place ∙ sym m_at;
        registers = l.registers ∙ sym m_regs;
        words = λ a. l.words a ∙ ap (λ z. get_or z a 0) (sym m_items);
        took = l.took ∙ sym m_taken;
        put = l.put ∙ sym m_put;
        log = ap vec_items m_log ∙ l.log ∙ ap (λ z. laid s.out (vec_items z)) (sym m_log);
        pages = refl;
        runs = l.runs;
      }

  kept_now : (s : Model) → Like (base_of e) e.state s → KeptLike e₁.state.words.pages k kq s
  kept_now s l =
      record {
        place = l.place ∙ sym at;
        registers = l.registers ∙ sym regs;
        words = λ a la. l.words a ∙ sym (kept k a lt la ∙ simp (eq-eqb k k refl));
        no_more = λ a la. l.words a ∙ default_past (held e.state) 0 a (omega (arith, e.state.words.full, e.state.words.items.ok.0));
        took = l.took ∙ sym taken;
        put = l.put ∙ sym put;
        runs = l.runs;
      }

  other_kept : (j : ℕ) → j < 256 → eqb j k ≡ false → (o : Kept) (s : Model) → KeptLike e.state.words.pages j o s → KeptLike e₁.state.words.pages j o s
  other_kept j lj ne o s l =
      record {
        place = l.place;
        registers = l.registers;
        words = λ a la. l.words a la ∙ sym (kept j a lj la ∙ simp ne);
        no_more = l.no_more;
        took = l.took;
        put = l.put;
        runs = l.runs;
      }

  other_slot : (is : List Instr) (ins : List ℕ) (far j : ℕ) → j < 256 → eqb j k ≡ false → (o : Option Kept) (ss : List Model)
      → InSlot is ins far e.state.words.pages j o ss → InSlot is ins far e₁.state.words.pages j o ss
  other_slot is ins far j lj ne None ss h = h
  other_slot is ins far j lj ne (Some o) ss (s, eq, l, r) = (s, eq, other_kept j lj ne o s l, r)

  pub kept_held : (t : Target) → Held e t → Held e₁ (keep_in t k)
  kept_held t (far, h) =
      let there : k < length (vec_items e.slots) = omega (arith, e.many, e.slots.ok.0) in
      let Slot : ℕ → List (Option Kept) → List Model → Type 0 = λ j os ss. InSlot t.program t.fed far e₁.state.words.pages j (get_or os j None) ss in (
        far,
        record {
          program = h.program ∙ ap (λ (z : VecCode). codes (vec_items z)) (sym p);
          fed = h.fed ∙ ap vec_items (sym f);
          runs = h.runs;
          log = ap vec_items m_log ∙ h.log;
          state = same_like t.state h.state;
          on_run = h.on_run;
          slots = λ j lj.
              subst (λ os. Slot j os (slot_of (keep_in t k).slots j)) (sym q)
              (by_test (eqb j k)
              (λ (b : eqb j k ≡ true).
              let i : k ≡ j = sym (eqb-true j k b) in
              subst (λ z. Slot z (set (vec_items e.slots) k (Some kq)) (slot_of (keep_in t k).slots z)) i
              (subst (λ o. InSlot t.program t.fed far e₁.state.words.pages k o (slot_of (keep_in t k).slots k)) (sym (get_or-set_same (vec_items e.slots) k (Some kq) None there))
              (t.state, kept_found t k, kept_now t.state h.state, h.on_run)))
              (λ (b : eqb j k ≡ false).
              let ne : j ≡ k → ⊥ = eqb-false j k b in
              subst (λ o. InSlot t.program t.fed far e₁.state.words.pages j o (slot_of (keep_in t k).slots j)) (sym (get_or-set_other (vec_items e.slots) k j (Some kq) None ne))
              (subst (InSlot t.program t.fed far e₁.state.words.pages j (get_or (vec_items e.slots) j None)) (sym (kept_others t k j (ne_eqb k j (λ x. ne (sym x)))))
              (other_slot t.program t.fed far j lj b _ _ (h.slots j lj)))));
          no_more = λ j lj. kept_others t k j (ne_eqb k j (λ x. let y = x in omega arith)) ∙ h.no_more j lj;
        },
      )

-- the state that was kept in a slot is taken up
module _ (e e₁ : Emulator) (k : ℕ) (lt : k < 256) (p : e₁.program ≡ e.program) (f : e₁.fed ≡ e.fed) (q : e₁.slots ≡ e.slots) (kq : Kept)
    (found : get_or (vec_items e.slots) k None ≡ Some kq)
    (at : e₁.state.at ≡ kq.at) (regs : e₁.state.regs ≡ kq.regs) (taken : e₁.state.taken ≡ kq.taken) (put : e₁.state.put ≡ kq.put)
    (log : e₁.state.log ≡ e.state.log)
    (words : (a : ℕ) → a < 65536 → get_or (held e₁.state) a 0 ≡ held_word e.state.words.pages k a)
    (rows : (row a : ℕ) → row < 256 → a < 65536 → held_word e₁.state.words.pages row a ≡ held_word e.state.words.pages row a) where
  word_now : (s : Model) → KeptLike e.state.words.pages k kq s → (a : ℕ) → word_at s.words a ≡ get_or (held e₁.state) a 0
  word_now s l a =
      by_test (ltb a 65536)
      (λ (b : ltb a 65536 ≡ true). let la = ltb-true a 65536 b in l.words a la ∙ sym (words a la))
      (λ (b : ltb a 65536 ≡ false).
      let la = ltb-false a 65536 b in
      l.no_more a la ∙ sym (default_past (held e₁.state) 0 a (omega (arith, e₁.state.words.full, e₁.state.words.items.ok.0))))

  same_rows : (j : ℕ) → j < 256 → (is : List Instr) (ins : List ℕ) (far : ℕ) (o : Option Kept) (ss : List Model)
      → InSlot is ins far e.state.words.pages j o ss → InSlot is ins far e₁.state.words.pages j o ss
  same_rows j lj is ins far None ss h = h
  same_rows j lj is ins far (Some o) ss (s, eq, l, r) =
      (s, eq, record { place = l.place; registers = l.registers; words = λ a la. l.words a la ∙ sym (rows j a lj la); no_more = l.no_more; took = l.took; put = l.put; runs = l.runs }, r)

  pub taken_held : (t : Target) → Held e t → (s : Model) × (slot_of t.slots k ≡ s ∷ []) × Held e₁ (with_state t s)
  unfolding OutsGrow
  taken_held t (far, h) =
      let i = subst (λ o. InSlot t.program t.fed far e.state.words.pages k o (slot_of t.slots k)) found (h.slots k lt) in
      let s = i.0 in
      let l = i.2 in
      let run = i.3 in
      let grown = outs_grow t.program t.fed run.0 far run.1 in
      let same : vec_items e₁.state.log ≡ (state_at t.program t.fed far).out = ap vec_items log ∙ h.log in (
        s,
        i.1,
        (
          far,
          record {
            program = h.program ∙ ap (λ (z : VecCode). codes (vec_items z)) (sym p);
            fed = h.fed ∙ ap vec_items (sym f);
            runs = h.runs;
            log = same;
            state = record {
              place = l.place ∙ sym at;
              registers = l.registers ∙ sym regs;
              words = word_now s l;
              took = l.took ∙ sym taken;
              put = l.put ∙ sym put;
              log = same ∙ sym (laid_grown _ _ grown) ∙ ap (λ (x : Model). laid x.out (state_at t.program t.fed far).out) (sym run.2) ∙ ap (laid s.out) (sym same);
              pages = refl;
              runs = l.runs;
            };
            on_run = run;
            slots = λ j lj. subst (λ z. InSlot t.program t.fed far e₁.state.words.pages j (get_or (vec_items z) j None) (slot_of t.slots j)) (sym q) (same_rows j lj t.program t.fed far _ _ (h.slots j lj));
            no_more = h.no_more;
          },
        ),
      )

-- nothing was kept in a slot
pub empty_held : (e : Emulator) (k : ℕ) → k < 256 → get_or (vec_items e.slots) k None ≡ None → (t : Target) → Held e t → slot_of t.slots k ≡ []
empty_held e k lt none t (far, h) = subst (λ o. InSlot t.program t.fed far e.state.words.pages k o (slot_of t.slots k)) none (h.slots k lt)
