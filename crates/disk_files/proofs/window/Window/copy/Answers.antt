-- `Window::copy`: its clause `whole`.
use Rattle.std.proofs.Common.{arith, ap, ℕ, List, ◌∙◌, ◌≡◌, ◌+◌, ◌-◌, length, take, drop}
use Rattle.disk_files.proofs.WindowLemmas.{copied}
use Rattle.disk_files.proofs.window.Window.copy.Goals as goal

pub returns-in-Some-clause-whole : goal.returns-in-Some-clause-whole
returns-in-Some-clause-whole c = λ held copy whole.
    let i = c.in-Some.index in
    let n = length c.args.out.now in
    let size : i + n - i ≡ n = omega arith in
    c.copy_from_slice.ensures.after
    ∙ ap (λ (m : ℕ). take m (drop i c.deref.result.now)) size
    ∙ ap (λ (l : List ℕ). take n (drop i l)) c.deref.ensures.value
    ∙ copied c.args.self.now.at c.args.self.now.len c.args.at i n c.args.self.now.bytes.items held copy c.in-Some.ensures.within c.in-Some.ensures.place
