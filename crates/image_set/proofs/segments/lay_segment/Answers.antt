-- `lay_segment`: its clauses `whole`, `ok`, `err` and `size`.
use Rattle.std.proofs.Common.{◌≡◌, ◌∙◌, ℕ, List, Ok, ap, subst, refl, arith, length}
use Rattle.std.proofs.lemmas.Result.{err_from_is_err_and}
use Rattle.byte_map.specs.Image.{Run}
use Rattle.byte_map.specs.Laying.{Lays, IsLayFault}
use Rattle.elf32.specs.Tables.{segment_part}
use Rattle.image_set.specs.Segments.{piece_at}
use Rattle.image_set.proofs.SegmentLemmas.{part_is, is_refused, lay_refused}
use Rattle.image_set.proofs.segments.lay_segment.Goals as goal

pub returns-clause-whole : goal.returns-clause-whole
returns-clause-whole c = c.in-Ok.ensures ∙ ap (λ (bytes : List ℕ). Ok bytes) (part_is c.args.elf.now c.args.index c.in-Ok.bytes.now c.in-Ok.ensures)

pub returns-clause-ok : goal.returns-clause-ok
returns-clause-ok c =
    let bytes_is = part_is c.args.elf.now c.args.index c.in-Ok.bytes.now c.in-Ok.ensures in
    let is : record { at = c.segment-at.result.paddr; bytes = c.in-Ok.bytes.now } ≡ piece_at c.args.elf.now c.args.index =
    rw (c.segment-at.ensures, bytes_is) refl in
    subst (λ (piece : Run). Lays piece c.args.map.now c.lay.new.self) is c.in_ok-lay.ensures.ok

pub returns-in_err-lay-clause-err : goal.returns-in_err-lay-clause-err
returns-in_err-lay-clause-err c =
    let bytes_is = part_is c.args.elf.now c.args.index c.in-Ok.bytes.now c.in-Ok.ensures in
    let is : record { at = c.segment-at.result.paddr; bytes = c.in-Ok.bytes.now } ≡ piece_at c.args.elf.now c.args.index =
    rw (c.segment-at.ensures, bytes_is) refl in
    let whole : segment_part c.args.elf.now c.args.index ≡ Ok (piece_at c.args.elf.now c.args.index).bytes = c.in-Ok.ensures ∙
    ap (λ (bytes : List ℕ). Ok bytes) bytes_is in
    let p = err_from_is_err_and c.from_residual.result c.from_residual.ensures.1 in
    rw (p.1, p.2) (lay_refused c.args.elf.now c.args.index c.args.map.now c.in_err-lay.field-0.0 whole
    (subst (λ (piece : Run). IsLayFault piece c.args.map.now c.in_err-lay.field-0.0) is c.in_err-lay.ensures.refused))

pub returns-in-Err-clause-err : goal.returns-in-Err-clause-err
returns-in-Err-clause-err c = is_refused c.args.elf.now c.args.index c.args.map.now c.in-Err.fault c.in-Err.ensures

pub returns-clause-size : goal.returns-clause-size
returns-clause-size c = omega (arith, ap length (part_is c.args.elf.now c.args.index c.in-Ok.bytes.now c.in-Ok.ensures))
