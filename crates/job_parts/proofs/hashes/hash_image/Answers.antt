-- `hash_image`: its contract, and that its loop keeps its invariant.
use Rattle.std.proofs.Common.{◌∙◌, List, take, ap, arith}
use Rattle.std.proofs.lemmas.List.{take_all}
use Rattle.sha2.specs.Sha256.{sha256}
use Rattle.byte_map.specs.Image.{Run}
use Rattle.job_text.specs.Runs.{run_of}
use Rattle.job_parts.specs.Listing.{bytes_of}
use Rattle.job_parts.proofs.HashLemmas.{run_hashed}
use Rattle.job_parts.proofs.hashes.hash_image.Goals as goal

pub loop-index-init : goal.loop-index-init
loop-index-init c = c.new-hasher.ensures

pub loop-index-preserved : goal.loop-index-preserved
loop-index-preserved c =
    run_hashed c.args.image.now c.loop-index.index (run_of c.run.result.0 c.run.result.1.now) c.loop-index.hasher c.update.new.self (omega arith)
    c.run.ensures c.loop-index.invariant c.update.ensures

pub returns : goal.returns
returns c =
    c.finalize.ensures (bytes_of (take c.loop-index.index c.args.image.now)) c.loop-index.invariant
    ∙ ap (λ (rs : List Run). sha256 (bytes_of rs)) (take_all c.loop-index.index c.args.image.now (omega arith))
