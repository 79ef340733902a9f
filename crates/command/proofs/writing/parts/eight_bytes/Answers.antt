use Rattle.std.proofs.Common.{◌≡◌, ℕ, ◌<◌, length, get_or, ap, ◌∙◌, rules}
use Rattle.command.proofs.Writes.{eight_is, alike}
use Rattle.command.proofs.writing.parts.eight_bytes.Goals as goal

pub returns : goal.returns
returns c =
    let same : (i : ℕ) → i < 8 → get_or c.map.result i 0 ≡ get_or c.to_be_bytes.result i 0 =
    λ i h. let f = (c.map.ensures.items.at i 0 0 h).2 in search rules in
    alike c.to_be_bytes.result c.map.result 8 (ap length c.to_be_bytes.ensures) c.map.ensures.items.long same
    ∙ (c.to_be_bytes.ensures ∙ eight_is c.args.number)
