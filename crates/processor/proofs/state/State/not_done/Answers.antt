use Rattle.command.specs.Codes.{op_number}
use Rattle.command.specs.Machine.{does, reckon, read, write, call, return, take_in}
use Rattle.target.specs.declared.answers.Why.TheVariants.{ByZero, NoWord, Waits}
use Rattle.processor.proofs.Instructions.{by_zero, no_read, no_write, no_call, no_return, waits}
use Rattle.processor.proofs.WhyNot.{because, because_err, reckoning, reading, writing, calling, returning, taking, the_rest}
use Rattle.processor.proofs.state.State.not_done.Goals as goal

pub returns-in-Reckon : goal.returns-in-Reckon
returns-in-Reckon c b s l =
    let m = c.args.self.now in
    let ins = c.args.fed.now in
    let k = c.in-Reckon in
    let t = does s ins (reckon (op_number k.op) k.k.number k.j.number) in
    because_err _ ByZero s ins c.args.i _ c.err.ensures.value k.is c.reckoned.ensures
    (λ v h. reckoning b m s l ins (op_number k.op) k.k.number k.j.number v h)
    (λ h. because b m s ByZero t (by_zero b m s l ins (op_number k.op) k.k.number k.j.number h))

pub returns-in-Read : goal.returns-in-Read
returns-in-Read c b s l =
    let m = c.args.self.now in
    let ins = c.args.fed.now in
    let k = c.in-Read in
    let t = does s ins (read k.field-0.number k.j.number k.n) in
    because_err _ NoWord s ins c.args.i _ c.err-in-Read.ensures.value k.is c.word_place.ensures
    (λ a h. reading b m s l ins k.field-0.number k.j.number k.n a h.0 h.1)
    (λ h. because b m s NoWord t (no_read b m s l ins k.field-0.number k.j.number k.n h))

pub returns-in-Write : goal.returns-in-Write
returns-in-Write c b s l =
    let m = c.args.self.now in
    let ins = c.args.fed.now in
    let k = c.in-Write in
    let t = does s ins (write k.field-0.number k.j.number k.n) in
    because_err _ NoWord s ins c.args.i _ c.err-in-Write.ensures.value k.is c.word_place-in-Write.ensures
    (λ a h. writing b m s l ins k.field-0.number k.j.number k.n a h.0 h.1)
    (λ h. because b m s NoWord t (no_write b m s l ins k.field-0.number k.j.number k.n h))

pub returns-in-Call : goal.returns-in-Call
returns-in-Call c b s l =
    let m = c.args.self.now in
    let ins = c.args.fed.now in
    let k = c.in-Call in
    let t = does s ins (call k.field-0) in
    because_err _ NoWord s ins c.args.i _ c.err-in-Call.ensures.value k.is c.call_place.ensures
    (λ a h. calling b m s l ins k.field-0 a h.0 h.1)
    (λ h. because b m s NoWord t (no_call b m s l ins k.field-0 h))

pub returns-in-Return : goal.returns-in-Return
returns-in-Return c b s l =
    let m = c.args.self.now in
    let ins = c.args.fed.now in
    let k = c.in-Return in
    let t = does s ins (return) in
    because_err _ NoWord s ins c.args.i _ c.err-in-Return.ensures.value k.is c.return_place.ensures
    (λ a h. returning b m s l ins a h.0 h.1)
    (λ h. because b m s NoWord t (no_return b m s l ins h))

pub returns-in-In : goal.returns-in-In
returns-in-In c b s l =
    let m = c.args.self.now in
    let ins = c.args.fed.now in
    let k = c.in-In in
    let t = does s ins (take_in k.field-0.number) in
    because_err _ Waits s ins c.args.i _ c.err-in-In.ensures.value k.is c.incoming.ensures
    (λ v h. taking b m s l ins k.field-0.number h.0)
    (λ h. because b m s Waits t (waits b m s l ins k.field-0.number h))

pub returns-in-Halt : goal.returns-in-Halt
unfolding does
returns-in-Halt c b s l = simp c.in-Halt.is

pub returns-in_default : goal.returns-in_default
returns-in_default c b s l =
    the_rest b c.args.self.now s l c.args.fed.now c.args.i c.in_default.not-Reckon c.in_default.not-Read c.in_default.not-Write c.in_default.not-Call c.in_default.not-Return
    c.in_default.not-In c.in_default.not-Halt
