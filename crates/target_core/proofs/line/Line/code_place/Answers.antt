-- A place that isn't aligned comes out of the rotation past the end of the RAM.
use Rattle.std.proofs.Common.{◌+◌, ◌-◌, ◌%◌, ◌^◌, ℕ, arith, ap, ◌∙◌}
use Rattle.std.specs.Int.{w32, rotate_right}
use Rattle.target_core.proofs.PlaceLemmas.{half_inside}
use Rattle.target_core.proofs.line.Line.code_place.Goals as goal

pub returns-clause-even : goal.returns-clause-even
returns-clause-even g c =
    let l = c.args.self.now in
    (half_inside l.ram_base l.ram_size l.reach l.code_halves c.args.at c.rotate_right-index.result (omega arith) (omega arith) (omega arith) l.reaches
    (l.by_code ∙ l.by_halves)
    (c.rotate_right-index.ensures ∙ ap (λ (b : ℕ). rotate_right w32 ((c.args.at + (2 ^ 32 - b)) % 2 ^ 32) 1) l.is_code) c.if-index-self.false).0

pub returns-clause-value : goal.returns-clause-value
returns-clause-value g c =
    let l = c.args.self.now in
    (half_inside l.ram_base l.ram_size l.reach l.code_halves c.args.at c.rotate_right-index.result (omega arith) (omega arith) (omega arith) l.reaches
    (l.by_code ∙ l.by_halves)
    (c.rotate_right-index.ensures ∙ ap (λ (b : ℕ). rotate_right w32 ((c.args.at + (2 ^ 32 - b)) % 2 ^ 32) 1) l.is_code) c.if-index-self.false).1
