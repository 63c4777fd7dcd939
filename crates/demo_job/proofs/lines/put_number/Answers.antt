-- `put_number`: its contract, `Puts`.
use Rattle.std.proofs.Common.{◌∙◌, ap, ℕ, List, [], ◌∷◌}
use Rattle.std.specs.Prelude.{codes}
use Rattle.std.specs.List.{concat}
use Rattle.outside_io.proofs.PutTexts.{puts_as}
use Rattle.demo_job.specs.Lines.{number_text}
use Rattle.demo_job.proofs.lines.put_number.Goals as goal

pub returns : goal.returns
unfolding number_text
returns g c =
    let is = c.as_bytes.ensures.value ∙ c.format.ensures.text in
    puts_as (ap (λ (digits : List ℕ). concat (c.args.name.now ∷ digits ∷ codes "\n" ∷ [])) is) c.put_pieces.ensures
