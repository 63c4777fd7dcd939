-- The lines of a demonstration.
use Rattle.std.specs.Prelude.{ℕ, Bool, true, false, List, [], ◌∷◌, ◌++◌, codes, decimal}
use Rattle.std.specs.List.{concat}
use Rattle.demo_job.specs.declared.lines.DemoLines.{DemoLines}

-- a line that names a number
unfoldable pub number_text : List ℕ → ℕ → List ℕ
number_text name number = concat (name ∷ decimal number ∷ codes "\n" ∷ [])

-- the last line, which is put where the cells are as wanted
unfoldable pub same_text : Bool → List ℕ
same_text true = codes "same\n"
same_text false = []

-- the lines of a demonstration: the seed; what the first plan erases, programs and costs; the number of calls after which the job was
-- stopped; the status of the resume; and whether the cells are as wanted
unfoldable pub demo_text : DemoLines → List ℕ
demo_text lines =
    number_text (codes "demo ") lines.seed ++ number_text (codes "sectors ") lines.sectors ++ number_text (codes "pages ") lines.pages
    ++ number_text (codes "cost ") lines.cost ++ number_text (codes "stopped ") lines.calls ++ number_text (codes "resumed ") lines.status
    ++ same_text lines.same
