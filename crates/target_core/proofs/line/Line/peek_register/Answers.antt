-- The word that `peek_register` gives is what the driver answers.
use Rattle.std.proofs.Common.{ℕ, ◌+◌, ◌-◌, ◌%◌, ◌^◌, arith, refl}
use Rattle.target_core.proofs.LineLemmas.{peeks}
use Rattle.target_core.proofs.PlaceLemmas.{apart_there}
use Rattle.target_core.proofs.line.Line.peek_register.Goals as goal

pub returns-clause-acts : goal.returns-clause-acts
returns-clause-acts g c =
    let l = c.args.self.now in
    let offset : ℕ = (c.args.at + (2 ^ 32 - l.block)) % 2 ^ 32 in
    let there = apart_there l.ram_base l.ram_size l.block l.apart c.args.at offset l.is_apart (omega arith) (omega arith) refl c.if-offset-self.false in
    peeks {G = g.B.Bench} (λ b x told. g.met.B.Bench.as_told b x told) l c.args.at offset c.peek.result (omega (arith, there.0, l.at_block)) there.2
    c.peek.ensures.value
