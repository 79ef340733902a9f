use Rattle.std.proofs.Common.{rules, ◌≡◌, ℕ, [], get_or, None, vec_items, sym, refl, ap, subst, arith}
use Rattle.command.specs.Machine.{state_at, is_running, at_start}
use Rattle.command.specs.Codes.{codes}
use Rattle.target.specs.Run.{slot_of}
use Rattle.processor.specs.Like.{Like}
use Rattle.processor.specs.Holding.{InSlot}
use Rattle.processor.proofs.Defaults.{defaults}
use Rattle.processor.proofs.emulator.Emulator.new.Goals as goal

pub returns : goal.returns
unfolding state_at is_running slot_of
returns c =
    let m = c.in_ok-state.state in
    let s = c.in_ok-state.ensures in
    let none : (k : ℕ) → get_or (vec_items c.in_ok-slots.slots) k None ≡ None = defaults 256 (vec_items c.in_ok-slots.slots) None (c.in_ok-slots.ensures.items_if_clones_equal (λ y q. search rules)) in (
      omega (arith, s.0, s.2),
      (
        0,
        record {
          program = sym (ap codes c.in_ok-program.ensures.items);
          fed = sym c.in_ok-fed.ensures.items;
          runs = refl;
          log = s.1;
          state = subst (λ z. Like (record { log = z; pages = m.words.pages }) m at_start) (sym s.1) s.3;
          on_run = (0, omega arith, refl);
          slots = λ k h. subst (λ z. InSlot [] [] 0 m.words.pages k z []) (sym (none k)) refl;
          no_more = λ k h. refl;
        },
      ),
    )
