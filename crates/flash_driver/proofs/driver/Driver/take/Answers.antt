-- `Driver::take`: that it keeps its contract.
use Rattle.std.proofs.Common.{refl}
use Rattle.flash_driver.proofs.TouchLemmas.{touches_here, opens_touch, fails_touch}
use Rattle.flash_driver.proofs.driver.Driver.take.Goals as goal

pub returns-in-Fault-clause-touches : goal.returns-in-Fault-clause-touches
returns-in-Fault-clause-touches g c = touches_here _ _ _ _ _ (λ x told. g.met.B.Bench.as_told c.args.bench.now x told) c.requires.agrees refl

pub returns-in-Taken-clause-touches : goal.returns-in-Taken-clause-touches
returns-in-Taken-clause-touches g c = touches_here _ _ _ _ _ (λ x told. g.met.B.Bench.as_told c.args.bench.now x told) c.requires.agrees refl

pub returns-in-Ok-clause-touches : goal.returns-in-Ok-clause-touches
returns-in-Ok-clause-touches g c =
    opens_touch _ _ _ _ _ _ _ _ _ c.in-Begins.is c.requires.begins c.len.ensures (λ x told. g.met.B.Bench.as_told c.cells_open.new.self x told)
    c.requires.agrees c.in-Ok.ensures.does

pub returns-in-Err-clause-touches : goal.returns-in-Err-clause-touches
returns-in-Err-clause-touches g c =
    fails_touch _ _ _ _ _ _ _ _ _ c.in-Begins.is c.requires.begins (λ x told. g.met.B.Bench.as_told c.cells_open.new.self x told) c.requires.agrees
    c.in-Err.ensures.does
