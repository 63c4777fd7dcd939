-- `read_second`: its clause `gives`.
use Rattle.std.proofs.Common.{◌≡◌, ◌∙◌, ◌+◌, ℕ, Some, Ok, drop, sym, ap, arith, refl}
use Rattle.board_file.specs.Shown as board
use Rattle.bench_model.proofs.Moments.{only_reads_here}
use Rattle.bench_model.proofs.CountLemmas.{none_counted}
use Rattle.job_file.specs.Readers.{file_there}
use Rattle.job_file.proofs.TextsLemmas.{second_none, second_fails, second_read}
use Rattle.job_file.proofs.texts.read_second.Goals as goal

pub returns-then-head-eq1-clause-gives : goal.returns-then-head-eq1-clause-gives
returns-then-head-eq1-clause-gives g c = λ told.
    second_none c.args.whole c.args.at (board.shown c.args.board.now) c.args.head.now (drop c.args.at (g.B.Bench.state c.args.bench.now).file)
    c.if-head-eq1.true

pub returns-in-Ok-clause-gives : goal.returns-in-Ok-clause-gives
returns-in-Ok-clause-gives g c = λ told.
    let file = (g.B.Bench.state c.args.bench.now).file in
    let h = c.args.head.now in
    let len : c.from.result ≡ h.second = omega arith in
    second_read c.args.whole c.args.at (board.shown c.args.board.now) h (drop c.args.at file) (file_there file c.args.at h.second c.in-Ok.algorithm)
    (drop (c.args.at + h.second) file) c.if-head-eq1.false (c.in-Ok.ensures.gives told)
    ∙ ap (λ (n : ℕ). Ok (Some (file_there file c.args.at h.second c.in-Ok.algorithm), drop (c.args.at + n) file)) (sym len)

pub returns-in-Err-clause-gives : goal.returns-in-Err-clause-gives
returns-in-Err-clause-gives g c = λ told.
    second_fails c.args.whole c.args.at (board.shown c.args.board.now) c.args.head.now (drop c.args.at (g.B.Bench.state c.args.bench.now).file) c.in-Err.fault
    c.if-head-eq1.false (c.in-Err.ensures.gives told)

pub returns-then-head-eq1-clause-reads : goal.returns-then-head-eq1-clause-reads
returns-then-head-eq1-clause-reads g c = only_reads_here _ _

pub returns-in-Ok-clause-fits : goal.returns-in-Ok-clause-fits
returns-in-Ok-clause-fits g c = let fits = c.in-Ok.ensures.fits refl in omega (arith, fits)

pub returns-then-head-eq1-clause-counted : goal.returns-then-head-eq1-clause-counted
returns-then-head-eq1-clause-counted g c = none_counted _ _ refl

pub overflow_add-result : goal.overflow_add-result
overflow_add-result g c = let fits = c.in-Ok.ensures.fits refl in omega (arith, fits)
