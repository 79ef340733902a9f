use Rattle.std.proofs.Common.{◌≤◌, length, refl, ap, arith}
use Rattle.command.specs.Codes.{codes}
use Rattle.command.specs.Breaks.{break_of, breaks_of}
use Rattle.target.proofs.Doing.{each_length, refuses_goes}
use Rattle.processor.specs.Holding.{Held, base_of, room_of}
use Rattle.target.specs.Acts.{Goes, Wanting}
use Rattle.processor.proofs.Holds.{logged_same}
use Rattle.processor.proofs.Faults.{refused}
use Rattle.processor.proofs.Promises.{goes_promise, no_room, logged_held}
use Rattle.processor.proofs.acting.EmulatorProcessor.goes.Goals as goal

pub returns-then-breaks-gt-MOST_BREAKS : goal.returns-then-breaks-gt-MOST_BREAKS
returns-then-breaks-gt-MOST_BREAKS c =
    let e = c.args.self.now in record {
      goes = (c.if-breaks-gt-MOST_BREAKS.true, refuses_goes (Held e) (Held e) c.args.n (breaks_of c.args.breaks.now) (omega (arith, each_length break_of c.args.breaks.now)) (λ t h. h));
      wanting = tt;
    }

pub returns : goal.returns
returns c =
    let e = c.args.self.now in
    let few : length (breaks_of c.args.breaks.now) ≤ 64 = omega (arith, each_length break_of c.args.breaks.now) in record {
      goes = (
        omega arith,
        goes_promise e _ c.args.n (breaks_of c.args.breaks.now) (codes c.as_slice.result.now) c.as_slice-2.result.now c.goes.result few refl refl refl
            (ap codes c.as_slice.ensures.value) c.as_slice-2.ensures.value
            (λ s l. c.goes.ensures.came (base_of e) s (logged_same (base_of e) e.state _ s refl refl refl refl refl c.in_ok-make_room.ensures.items l)),
      );
      wanting = tt;
    }

pub returns-in_err-make_room : goal.returns-in_err-make_room
returns-in_err-make_room c =
    let e = c.args.self.now in
    let k = c.in_err-make_room.ensures in
    let r = c.from_residual.ensures.1 in record {
      goes = refused c.from_residual.result _ _ (Goes c.args.n c.args.breaks.now (room_of e) (Held e) (Held _)) k.room.0 r (
        omega arith,
        λ t h. (
          no_room e c.args.n _ (omega arith) (omega (arith, k.room.1, k.grows)) t h,
          logged_held e _ refl refl refl refl refl refl refl refl k.items t h,
        ),
      );
      wanting = refused c.from_residual.result _ _ (Wanting c.args.n _ (Held e)) k.room.0 r (λ t h. no_room e c.args.n _ k.grows k.room.1 t h);
    }
