use Rattle.std.proofs.Common.{ℕ, List, Option, length, sym, ◌∙◌, subst, eqb-true, arith}
use borrow.Author.Tests.{eqb-false}
use Rattle.command.specs.Reader.{byte, below, one_of, command_ways, Says}
use Rattle.command.specs.Told.{told, Counts, Counted}
use Rattle.command.specs.Taken.{left, itself}
use Rattle.command.specs.declared.commands.Command.{Command}
use Rattle.command.proofs.FirstBytes.{byte_is_first}
use Rattle.command.proofs.Texts.{took, took_none}
use Rattle.command.proofs.Whole.{command_none, command_at, command_is, rest_is, refused_none, refused_left, refused, accepted}
use Rattle.command.proofs.reading.read.Goals as goal

pub returns-in_err-kind : goal.returns-in_err-kind
returns-in_err-kind c =
    let t = c.args.text.now in
    refused t _ c.from_residual.result c.from_residual.ensures.1
    (refused_none t (command_none t (took_none itself (byte (below 256) t) (left c.kind.new.self) c.in_err-kind.ensures.ok_part c.kind.ensures)))

pub returns-in-Some : goal.returns-in-Some
returns-in-Some c =
    let t = c.args.text.now in
    let u = left c.kind.new.self in
    let v = left c.command_of.new.self in
    let x = c.in-Some.command in
    let e = byte_is_first t (took itself (byte (below 256) t) u c.in_ok-kind.ensures.ok_part c.kind.ensures) in
    let h = took (told u) (one_of command_ways c.in_ok-kind.kind u) v c.in-Some.is c.command_of.ensures.takes in
    let z = eqb-true (length v) 0 (sym c.if-is_empty.ensures) in
    subst (λ (u : List ℕ). Says t (told u x) × Counts u x) (rest_is t e) (accepted t v (command_is t (told u x) v e h) (omega arith), subst (λ (r : Option Command). Counted u r) c.in-Some.is c.command_of.ensures.counted)

pub returns-in_default : goal.returns-in_default
returns-in_default c =
    let t = c.args.text.now in
    let u = left c.kind.new.self in
    let v = left c.command_of.new.self in
    let x = c.in-Some.command in
    let e = byte_is_first t (took itself (byte (below 256) t) u c.in_ok-kind.ensures.ok_part c.kind.ensures) in
    let h = took (told u) (one_of command_ways c.in_ok-kind.kind u) v c.in-Some.is c.command_of.ensures.takes in
    let z = eqb-false (length v) 0 (sym c.if-is_empty.ensures) in
    refused_left t v (command_is t (told u x) v e h) (omega arith)

pub returns-in_default-2 : goal.returns-in_default-2
returns-in_default-2 c =
    let t = c.args.text.now in
    let u = left c.kind.new.self in
    refused_none t
    (command_at t (byte_is_first t (took itself (byte (below 256) t) u c.in_ok-kind.ensures.ok_part c.kind.ensures))
    ∙ took_none (told u) (one_of command_ways c.in_ok-kind.kind u) (left c.command_of.new.self) c.in_default.is c.command_of.ensures.takes)
