-- `SourceInputsInputs::take`: that it keeps its contract.
use Rattle.std.proofs.lemmas.Grind.{common_steps}
use Rattle.std.proofs.Common.{rules, ap, subst, ◌≡◌, ◌⊎◌, ℕ, List, arith}
use Rattle.std.specs.IoError.{error_kind}
use Rattle.std.specs.declared.io.ErrorKind.TheVariants.{OutOfMemory}
use Rattle.faults.specs.Counts.{Rose}
use Rattle.stream_files.specs.Outside.{IsLonger}
use Rattle.stream_files.proofs.RunLemmas.{excused}
use Rattle.stream_files.proofs.source_inputs.SourceInputsInputs.take.Goals as goal

pub returns-in_ok-remember-in-Err-2-clause-fails : goal.returns-in_ok-remember-in-Err-2-clause-fails
returns-in_ok-remember-in-Err-2-clause-fails g c = λ told.
    let S = g.S.Source.state in
    let other : error_kind c.in-Err.fault ≡ OutOfMemory → ⊥ = search rules in
    let old = S c.args.self.now.source in
    let new = S c.remember.new.self.source in
    subst (λ (name : List ℕ). Rose old.calls.errors new.calls.errors ⊎ IsLonger 67108864 (old.stands name)) c.text.ensures
    (excused old (S c.read_file.new.source) new (IsLonger 67108864 (old.stands c.text.result.now)) c.in-Err.fault
    (ap S c.remember.ensures.source) (c.in-Err.ensures.err told) other)

pub returns-in_ok-remember-in-Err-2-clause-cause : goal.returns-in_ok-remember-in-Err-2-clause-cause
returns-in_ok-remember-in-Err-2-clause-cause g c = grind (arith, common_steps)
