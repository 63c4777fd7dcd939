-- `read_elf`: its clause `err`, and that its loop keeps its invariant.
use Rattle.std.proofs.Common.{◌≡◌, ◌<◌, ◌+◌, ℕ, List, true, false, length, refl, sym, subst, arith}
use Rattle.std.proofs.lemmas.Bool.{eq-eqb, ne_eqb}
use Rattle.std.proofs.lemmas.Result.{err_from_is_err_and}
use Rattle.std.proofs.lemmas.Grind.{common_steps}
use Rattle.byte_map.specs.Laying.{Lays}
use Rattle.elf32.specs.Format.{e_phnum, segment_at}
use Rattle.image_set.specs.Segments.{is_loaded, piece_at, is_cut_at, IsImageBefore, IsSegmentFault}
use Rattle.image_set.proofs.SegmentLemmas.{no_segment, size_more, segment_more, segment_skipped, is_whole, elf_refused}
use Rattle.image_set.proofs.segments.read_elf.Goals as goal
use Rattle.image_set.proofs.segments.read_elf.Goals.{then-segment-eq-LOAD+in_ok-lay_segment, else-segment-eq-LOAD}

pub loop-index-init : goal.loop-index-init
loop-index-init c = (subst (IsImageBefore c.args.bytes.now 0) (sym c.new-map.ensures) (no_segment c.args.bytes.now), refl)

pub loop-index-preserved : goal.loop-index-preserved
loop-index-preserved c =
    let bytes = c.args.bytes.now in
    let index = c.loop-index.index in
    let before = c.loop-index.map in
    let same = c.in-Ok.ensures.ok in
    elim c.if-segment-eq-LOAD.branch [
      | then-segment-eq-LOAD+in_ok-lay_segment w ↦
          let loaded = subst (λ (b : List ℕ). is_loaded b index ≡ true) same
          (eq-eqb (segment_at c.in-Ok.elf index).kind 1 (rw c.segment.ensures at w.if-segment-eq-LOAD.true)) in
          let elf = c.in-Ok.elf in
          let ends = is_whole elf index (piece_at elf index).bytes w.in_ok-lay_segment.ensures.whole in
          let whole = subst (λ (b : List ℕ). is_cut_at b index ≡ false) same ends in
          let lays = subst (λ (b : List ℕ). Lays (piece_at b index) before w.lay_segment.new.map) same w.in_ok-lay_segment.ensures.ok in
          let size = subst (λ (b : List ℕ). w.lay_segment.new.room + length (piece_at b index).bytes ≡ c.loop-index.room) same
          w.in_ok-lay_segment.ensures.size in (
            subst (IsImageBefore bytes (index + 1)) (sym w.map-is)
                (segment_more bytes index before w.lay_segment.new.map c.loop-index.invariant.0 loaded whole lays),
            omega (arith, size, w.room-is, c.loop-index.invariant.1, size_more bytes index true loaded),
          )
      | else-segment-eq-LOAD w ↦
          let skipped = subst (λ (b : List ℕ). is_loaded b index ≡ false) same
          (ne_eqb (segment_at c.in-Ok.elf index).kind 1 (rw c.segment.ensures at w.if-segment-eq-LOAD.false)) in (
            subst (IsImageBefore bytes (index + 1)) (sym w.map-is) (segment_skipped bytes index before c.loop-index.invariant.0 skipped),
            omega (arith, w.room-is, c.loop-index.invariant.1, size_more bytes index false skipped),
          )
    ]

pub returns-in_err-lay_segment-clause-err : goal.returns-in_err-lay_segment-clause-err
returns-in_err-lay_segment-clause-err c =
    let bytes = c.args.bytes.now in
    let index = c.loop-index.index in
    let fault = c.in_err-lay_segment.field-0.0 in
    let same = c.in-Ok.ensures.ok in
    let loaded = subst (λ (b : List ℕ). is_loaded b index ≡ true) same
    (eq-eqb (segment_at c.in-Ok.elf index).kind 1 (rw c.segment.ensures at c.if-segment-eq-LOAD.true)) in
    let inside = subst (λ (b : List ℕ). index < e_phnum b) same (let lt : index < e_phnum c.in-Ok.elf = omega (arith, c.segments-index-end.ensures) in lt) in
    let refused = subst (λ (b : List ℕ). IsSegmentFault b index c.loop-index.map fault) same c.in_err-lay_segment.ensures.err in
    let p = err_from_is_err_and c.from_residual.result c.from_residual.ensures.1 in
    rw (p.1, p.2) (elf_refused bytes index c.loop-index.map fault c.in-Ok.ensures.good inside loaded c.loop-index.invariant.0 refused)

pub returns-in-Err : goal.returns-in-Err
returns-in-Err c = grind (arith, common_steps)
