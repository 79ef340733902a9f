use Rattle.std.proofs.Common.{ℕ, List, vec_items, sym, subst}
use Rattle.command.specs.Taken.{left}
use Rattle.dialogue.proofs.Decoding.{SoFar, one_more, less_left, all_begins, all_spells}
use Rattle.dialogue.proofs.shown.numbers_of.Goals as goal

pub loop-number-smaller : goal.loop-number-smaller
loop-number-smaller c = less_left (left c.loop-number.cursor) c.in-Some.ensures.takes

pub loop-number-preserved : goal.loop-number-preserved
loop-number-preserved c =
    subst (λ (ns : List ℕ). SoFar c.args.bytes.now ns (left c.up_to.new.self)) (sym c.in_ok-push.ensures.items) (one_more _ _ _ c.loop-number.invariant c.in-Some.ensures.takes)

pub returns : goal.returns
returns c =
    record {
      begins = all_begins c.args.bytes.now (vec_items c.loop-number.numbers) (left c.loop-number.cursor) c.loop-number.invariant c.in_default.ensures.takes;
      spells = all_spells c.args.bytes.now (vec_items c.loop-number.numbers) (left c.loop-number.cursor) c.loop-number.invariant c.in_default.ensures.takes;
    }
