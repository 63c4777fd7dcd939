-- `ByteMap::run`: the run that it answers.
use Rattle.std.proofs.Common.{◌∙◌, ℕ, List, [], Option, Some, sym, ap}
use Rattle.std.proofs.lemmas.Option.{slice_get-get_or}
use Rattle.byte_map.specs.Image.{Run, run_at}
use Rattle.byte_map.proofs.map.ByteMap.run.Goals as goal

abbrev made : ℕ → List ℕ → Option Run
made at bytes = Some (record { at = at; bytes = bytes })

pub returns : goal.returns
returns c =
    slice_get-get_or c.args.self.now c.args.index (record { at = 0; bytes = [] }) c.requires
    ∙ ap (λ (rs : List Run). Some (run_at rs c.args.index)) (sym c.self.view_is)
    ∙ ap (λ (r : Run). Some r) (sym c.get-run.ensures)
    ∙ ap (λ (at : ℕ). made at c.get-run.result.now.bytes) (sym c.at.ensures)
    ∙ ap (λ (bytes : List ℕ). made c.at.result bytes) (sym c.bytes.ensures)
