-- The line that says that one of many targets is done.
use Rattle.std.specs.Prelude.{ℕ, List, [], ◌∷◌, ◌++◌, codes, decimal}
use Rattle.std.specs.List.{concat}

-- the beginning of a target's line, with its number, counted from 1
unfoldable pub target_head : ℕ → List ℕ
target_head index = concat (codes "target " ∷ decimal index ∷ codes " " ∷ [])

-- what the line of a target that is done says after its number
abbrev pub done_text : List ℕ
done_text = codes "done\n"

-- the whole line of a target that is done
abbrev pub done_line : ℕ → List ℕ
done_line index = target_head index ++ done_text
