-- Runs with their bytes kept in one list, for `Gathered::push` and `push_runs`.
use Rattle.std.proofs.Common.{◌≡◌, ◌+◌, ◌<◌, ◌∙◌, ℕ, List, [], ◌∷◌, ◌++◌, length, take, drop, Some, refl, sym, ap, arith, append_assoc, length-drop}
use Rattle.std.specs.Prelude.{map, slice_get}
use Rattle.std.specs.List.{All}
use Rattle.std.proofs.Math.Seq.{drop-append_seam}
use Rattle.std.proofs.lemmas.List.{map-append, take-append-le, drop-append-le, take_all, take_more}
use Rattle.std.proofs.lemmas.List.Elements.{All-head, All-tail}
use Rattle.std.proofs.lemmas.Option.{get_or_from_slice_get}
use Rattle.byte_map.specs.Image.{Run}
use Rattle.record_lines.specs.declared.gathered.Piece.{Piece}
use Rattle.record_lines.specs.Gathered.{run_of, IsInside}

-- bytes appended to the store don't change a piece in it
run_of-append : (bytes more : List ℕ) (piece : Piece) → IsInside bytes piece → run_of (bytes ++ more) piece ≡ run_of bytes piece
run_of-append bytes more piece inside =
    ap (λ (bs : List ℕ). record { at = piece.at; bytes = bs })
    (ap (take piece.len) (drop-append-le piece.start bytes more (omega (arith, inside)))
    ∙ take-append-le piece.len (drop piece.start bytes) more (omega (arith, inside, length-drop piece.start bytes)))

runs-append : (bytes more : List ℕ) (pieces : List Piece) → All (IsInside bytes) pieces → map (run_of (bytes ++ more)) pieces ≡ map (run_of bytes) pieces
runs-append bytes more [] inside = refl
runs-append bytes more (piece ∷ pieces) inside =
    ap (λ (run : Run). run ∷ map (run_of (bytes ++ more)) pieces) (run_of-append bytes more piece (All-head (IsInside bytes) piece pieces inside))
    ∙ ap (λ (runs : List Run). run_of bytes piece ∷ runs) (runs-append bytes more pieces (All-tail (IsInside bytes) piece pieces inside))

-- a piece that has the last bytes of the store
run_of-last : (bytes more : List ℕ) (piece : Piece) → piece.start ≡ length bytes → piece.len ≡ length more →
    run_of (bytes ++ more) piece ≡ record { at = piece.at; bytes = more }
run_of-last bytes more piece start len =
    ap (λ (bs : List ℕ). record { at = piece.at; bytes = bs })
    (ap (λ (n : ℕ). take piece.len (drop n (bytes ++ more))) start
    ∙ ap (take piece.len) (drop-append_seam bytes more)
    ∙ take_all piece.len more (omega (arith, len)))

-- the runs of a store with one more piece
pub runs-push : (bytes more : List ℕ) (pieces : List Piece) (piece : Piece) → All (IsInside bytes) pieces → piece.start ≡ length bytes → piece.len ≡ length more
    → map (run_of (bytes ++ more)) (pieces ++ piece ∷ []) ≡ map (run_of bytes) pieces ++ record { at = piece.at; bytes = more } ∷ []
runs-push bytes more pieces piece inside start len =
    map-append (run_of (bytes ++ more)) pieces (piece ∷ [])
    ∙ ap (λ (runs : List Run). runs ++ run_of (bytes ++ more) piece ∷ []) (runs-append bytes more pieces inside)
    ∙ ap (λ (run : Run). map (run_of bytes) pieces ++ run ∷ []) (run_of-last bytes more piece start len)

-- the runs of a map, appended one by one to others
pub pushed_more : (before runs now next : List Run) (index : ℕ) (run : Run) → index < length runs → slice_get runs index ≡ Some run →
    now ≡ before ++ take index runs → next ≡ now ++ run ∷ [] → next ≡ before ++ take (index + 1) runs
pushed_more before runs now next index run lt is now_is next_is =
    let none : Run = record { at = 0; bytes = [] } in
    next_is
    ∙ ap (λ (rs : List Run). rs ++ run ∷ []) now_is
    ∙ append_assoc before (take index runs) (run ∷ [])
    ∙ ap (λ (r : Run). before ++ (take index runs ++ r ∷ [])) (sym (get_or_from_slice_get runs index run none is))
    ∙ ap (λ (rs : List Run). before ++ rs) (sym (take_more runs index none lt))
