-- `files_len`: its clauses `value` and `bound`.
use Rattle.std.proofs.Common.{ℕ, List, length, ap, arith, length-append}
use Rattle.job_file.proofs.HashLemmas.{concat_none, concat_some, second_len}
use Rattle.job_file.proofs.body.files_len.Goals as goal

pub returns-in-None-clause-value : goal.returns-in-None-clause-value
returns-in-None-clause-value c = ap (λ (l : List ℕ). length l) (concat_none c.args.parts.now c.in-None.is)

pub returns-in-Some-clause-value : goal.returns-in-Some-clause-value
returns-in-Some-clause-value c =
    let p = c.args.parts.now in
    let s = c.in-Some.second in
    omega (arith, ap (λ (l : List ℕ). length l) (concat_some p s c.in-Some.is), length-append p.flm.now s.now)

pub returns-in-Some-clause-bound : goal.returns-in-Some-clause-bound
returns-in-Some-clause-bound c = omega (arith, c.requires.first, c.requires.second, second_len c.args.parts.now c.in-Some.second c.in-Some.is)
