-- `hash_runs`: its contract, `Holds256`, that its loop keeps its invariant, and what `hash_run` requires.
use Rattle.std.proofs.Common.{◌++◌, ℕ, List, take, sym, refl, subst, arith}
use Rattle.std.specs.List.{flat_map}
use Rattle.std.proofs.lemmas.List.{append-nil, take_all}
use Rattle.sha2.specs.Hashers.{Holds256}
use Rattle.byte_map.specs.Image.{Run}
use Rattle.job_text.specs.Body.{run_text}
use Rattle.job_text.specs.Runs.{run_of}
use Rattle.job_text.proofs.PartLemmas.{more_runs, short_run}
use Rattle.job_file.proofs.hash_front.hash_runs.Goals as goal

pub loop-index-init : goal.loop-index-init
loop-index-init c = λ m holds. subst (λ (l : List ℕ). Holds256 c.args.hasher.now l) (sym (append-nil m)) holds

pub hash_run-requires : goal.hash_run-requires
hash_run-requires c = short_run c.args.image.now c.loop-index.index (run_of c.run-place.result.0 c.run-place.result.1.now) c.requires
    (omega arith) c.run-place.ensures

pub loop-index-preserved : goal.loop-index-preserved
loop-index-preserved c = λ m holds.
    let image = c.args.image.now in
    let r : Run = run_of c.run-place.result.0 c.run-place.result.1.now in
    let front : List ℕ = m ++ flat_map run_text (take c.loop-index.index image) in
    subst (λ (l : List ℕ). Holds256 c.hash_run.new.hasher l)
    (more_runs image c.loop-index.index r m front (front ++ run_text r) (omega arith) c.run-place.ensures refl refl)
    (c.hash_run.ensures front (c.loop-index.invariant m holds))

pub returns : goal.returns
returns c = λ m holds.
    subst (λ (rs : List Run). Holds256 c.loop-index.hasher (m ++ flat_map run_text rs)) (take_all c.loop-index.index c.args.image.now (omega arith))
    (c.loop-index.invariant m holds)
