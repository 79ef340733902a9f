use Rattle.std.proofs.Common.{rules, ◌≡◌, true, false, Ok, Err, Result, is_ok, sym, refl, subst}
use Rattle.std.specs.Result.{result_or}
use Rattle.std.specs.declared.alloc.AllocError.{AllocError}
use Rattle.target.proofs.Doing.{does_feeds}
use Rattle.target.specs.Acts.{Feeds}
use Rattle.target.specs.declared.answers.Fault.{Fault}
use Rattle.target.specs.declared.answers.Fault.TheVariants.{NoMemory}
use Rattle.processor.specs.Holding.{Held}
use Rattle.processor.proofs.Holds.{fed_more}
use Rattle.processor.proofs.acting.EmulatorProcessor.feed.Goals as goal

-- a fault in place of whatever error there was
faulted : (r : Result (Unit {0}) AllocError) (s : Result (Unit {0}) Fault) (P : Result (Unit {0}) Fault → Type 0)
    → s ≡ result_or r (Err NoMemory) → (is_ok r ≡ true → P (Ok tt)) → (is_ok r ≡ false → P (Err NoMemory)) → P s
faulted (Ok x) s P e f g = subst P (sym e) (f refl)
faulted (Err x) s P e f g = subst P (sym e) (g refl)

pub returns : goal.returns
returns c =
    let e = c.args.self.now in
    let i = c.extend_from_slice.ensures in
    faulted c.extend_from_slice.result c.or.result (Feeds c.args.more.now (Held e) (Held _)) c.or.ensures
    (λ ok. does_feeds (Held e) (Held _) c.args.more.now (fed_more e _ c.args.more.now refl (simp ok at i.items) refl refl))
    (λ no. let items = simp no at i.items in search rules)
