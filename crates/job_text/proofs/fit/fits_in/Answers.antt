-- `fits_in`: the value that it answers.
use Rattle.std.proofs.Common.{◌≡◌, ◌∙◌, List, slice_get, Option, Some, None, sym, ap, subst}
use Rattle.std.proofs.lemmas.Bool.{le-ltb}
use Rattle.std.proofs.lemmas.Option.{slice_get-get_or, slice_get_past}
use Rattle.board_file.specs.declared.region.Region.{Region}
use Rattle.board_file.specs.Shown as board
use Rattle.flm_descriptor.specs.Shown as flm
use Rattle.job_text.specs.Reading.{fits_in}
use Rattle.job_text.proofs.fit.fits_in.Goals as goal

pub returns-then-index-regions : goal.returns-then-index-regions
returns-then-index-regions c =
    let r = c.index-regions-index.result in
    let got : slice_get c.as_slice-regions.result.now c.args.index ≡ Some r =
    slice_get-get_or c.as_slice-regions.result.now c.args.index r c.if-index-regions.true ∙ ap (λ (x : Region). Some x) (sym c.index-regions-index.is) in
    c.fits.ensures
    ∙ sym (ap (λ (o : Option Region). fits_in (board.shown c.args.board.now) o (flm.shown c.args.algorithm.now))
    (subst (λ (rs : List Region). slice_get rs c.args.index ≡ Some r) c.as_slice-regions.ensures got))

pub returns-else-index-regions : goal.returns-else-index-regions
returns-else-index-regions c =
    let none : slice_get c.as_slice-regions.result.now c.args.index ≡ None =
    slice_get_past c.as_slice-regions.result.now c.args.index c.if-index-regions.false in
    le-ltb _ _ c.if-index-regions.false
    ∙ sym (ap (λ (o : Option Region). fits_in (board.shown c.args.board.now) o (flm.shown c.args.algorithm.now))
    (subst (λ (rs : List Region). slice_get rs c.args.index ≡ None) c.as_slice-regions.ensures none))
