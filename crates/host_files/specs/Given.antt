-- The program's arguments as the system gives them.
use Rattle.std.specs.Prelude.{ℕ, List, map, string_bytes}
use Rattle.std.specs.Vec.Iter.{into_iter_items}
use Rattle.std.specs.declared.alloc.Global.{Global}
use Rattle.std.specs.declared.string.String.{String}
use Rattle.std.specs.declared.vec.IntoIter.{IntoIter}

-- the bytes of the arguments, in their order
abbrev pub texts_of : IntoIter (String Global) Global → List (List ℕ)
texts_of given = map (λ argument. string_bytes argument) (into_iter_items given)
