-- `Window::follow`: its contract, `IsCopy`.
use Rattle.std.proofs.lemmas.Grind.{common_steps}
use Rattle.std.proofs.Common.{rules, arith, ◌≡◌, length, vec_len}
use Rattle.disk_files.proofs.WindowLemmas.{follows}
use Rattle.disk_files.proofs.window.Window.follow.Goals as goal

pub returns-in-Some : goal.returns-in-Some
returns-in-Some c = λ n old new is copy some torn.
    let m = c.args.self.now in
    let count : length m.bytes.items ≡ vec_len m.bytes = search rules in
    follows m.at m.len c.args.at c.in-Some.index n c.args.bytes.now m.bytes.items _ old new c.settle.ensures.items is copy c.in-Some.ensures.within
    (omega (arith, count, m.fits)) c.in-Some.ensures.place some torn

pub invariant_of-self : goal.invariant_of-self
invariant_of-self c = grind (arith, common_steps)
