-- `begin_ready`: a call of `begin` that was answered 0 began a job, and the file that it left is served.
use Rattle.std.proofs.Common.{refl}
use Rattle.command_words.specs.Files.{begin}
use Rattle.promise.proofs.ReadyLemmas.{are_met}
use Rattle.promise.proofs.ready.begin_ready.Goals as goal

pub returns-then-status-eq0 : goal.returns-then-status-eq0
returns-then-status-eq0 g c = λ told asked asks yes.
    are_met asked (g.I.Inputs.state c.args.inputs.now).stands c.args.bench.now c.flash-status.new.bench c.is_served.new.bench
    _ _ _ c.is_served.ensures.reads (c.is_served.ensures.served yes) c.if-status-eq0.true
    (c.flash-status.ensures.resumes refl told (begin asked) asks)
