-- `Gathered::run`: the run that it answers, and that no number overflows.
use Rattle.std.proofs.Common.{◌≡◌, ◌∙◌, ◌+◌, ◌-◌, ◌<◌, ℕ, List, length, map, take, drop, slice_get, Option, Some, sym, ap, subst, arith}
use Rattle.std.specs.Prelude.{option_map}
use Rattle.std.proofs.lemmas.List.{length-map}
use Rattle.std.proofs.lemmas.Option.{slice_get-get_or, slice_get-map}
use Rattle.std.proofs.lemmas.Grind.{common_steps}
use Rattle.byte_map.specs.Image.{Run}
use Rattle.record_lines.specs.declared.gathered.Piece.{Piece}
use Rattle.record_lines.specs.Gathered.{run_of}
use Rattle.record_lines.proofs.gathered.Gathered.run.Goals as goal

pub overflow_add-result : goal.overflow_add-result
overflow_add-result c = grind (arith, common_steps)

pub slice_bounds-result-end : goal.slice_bounds-result-end
slice_bounds-result-end c = grind (arith, common_steps)

pub index-piece-requires : goal.index-piece-requires
index-piece-requires c = grind (arith, common_steps)

abbrev made : ℕ → List ℕ → Option Run
made at bytes = Some (record { at = at; bytes = bytes })

pub returns : goal.returns
returns c =
    let piece = c.index-piece.result.now in
    let pieces = c.self.inside.pieces.items in
    let bytes = c.self.inside.bytes.items in
    let view : map (run_of bytes) pieces ≡ c.args.self.now = c.self.view_is in
    let within : c.args.index < length pieces =
    omega (arith, c.requires, ap (λ (rs : List Run). length rs) view, length-map pieces (run_of bytes)) in
    let got = slice_get-get_or pieces c.args.index piece within ∙ ap (λ (p : Piece). Some p) (sym c.index-piece.ensures) in
    let len : piece.len ≡ piece.start + piece.len - piece.start = omega arith in
    subst (λ (rs : List Run). slice_get rs c.args.index ≡ made piece.at (take (piece.start + piece.len - piece.start) (drop piece.start c.deref.result.now)))
    view
    (slice_get-map (run_of bytes) pieces c.args.index
    ∙ ap (λ (o : Option Piece). option_map (run_of bytes) o) got
    ∙ ap (λ (n : ℕ). made piece.at (take n (drop piece.start bytes))) len
    ∙ ap (λ (bs : List ℕ). made piece.at (take (piece.start + piece.len - piece.start) (drop piece.start bs))) (sym c.deref.ensures.value))
