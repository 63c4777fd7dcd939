-- `Gathered::push`: that it keeps its contract.
use Rattle.std.proofs.Common.{◌≡◌, length, refl, rules, arith}
use Rattle.std.proofs.lemmas.Grind.{common_steps}
use Rattle.record_lines.proofs.Stores.{runs-push}
use Rattle.record_lines.proofs.gathered.Gathered.push.Goals as goal

pub returns : goal.returns
returns c =
    let inside = c.self.inside in
    rw (c.in_ok-push.ensures.items, c.in_ok-extend_from_slice.ensures.items, ← c.self.view_is)
    (runs-push inside.bytes.items c.args.bytes.now inside.pieces.items _ c.self.invariant
    (let start : c.len-start.result ≡ length inside.bytes.items = search rules in start) refl)

pub invariant_of-self-in_err-push : goal.invariant_of-self-in_err-push
invariant_of-self-in_err-push c = grind (arith, common_steps)

pub invariant_of-self : goal.invariant_of-self
invariant_of-self c = grind (arith, common_steps)

pub invariant_of-self-2 : goal.invariant_of-self-2
invariant_of-self-2 c = grind (arith, common_steps)
