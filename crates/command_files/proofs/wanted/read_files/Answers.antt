-- `read_files`: its contract, `ReadsFiles`, that a slice ends within, and what five of its calls ask for.
use Rattle.std.proofs.Common.{◌≤◌, ◌∙◌, ap, subst, arith, ℕ, List, length, length-drop, map, take, drop}
use Rattle.std.proofs.lemmas.Result.{err_from_is_err_and}
use Rattle.std.proofs.lemmas.List.{length-take-le}
use Rattle.board_file.specs.declared.region.Region.{Region}
use Rattle.board_file.specs.Shown as board
use Rattle.board_file.specs.Text.{IsBoard}
use Rattle.flm_descriptor.specs.Shown as flm
use Rattle.report_text.specs.Shown.{shown}
use Rattle.command_words.specs.Names.{names_of}
use Rattle.command_words.specs.Requested.{files_of}
use Rattle.image_set.specs.Ranges.{LiesInside, IsPlaceFault}
use Rattle.command_files.specs.Files.{ranges_of}
use Rattle.command_files.specs.Steps.{bytes_of}
use Rattle.command_files.proofs.WantedLemmas.{names_refusal, algorithms_refusal, back_refusal, is_aim, is_misplaced}
use Rattle.command_files.proofs.wanted.read_files.Goals as goal

pub read_algorithms-requires : goal.read_algorithms-requires
read_algorithms-requires c =
    let images = c.as_slice-images.result.now in
    let others = c.in_ok-others.others in
    length-take-le others images (omega (arith, c.in_ok-others.ensures.inside, ap length c.as_slice-images.ensures.value)) ∙ c.in_ok-others.ensures.count

pub files_from-rest-requires : goal.files_from-rest-requires
files_from-rest-requires c = omega (arith, c.in_ok-others.ensures.inside, ap length c.as_slice-images.ensures.value)

pub names_from-image_names-requires : goal.names_from-image_names-requires
names_from-image_names-requires c = omega (arith, c.in_ok-others.ensures.inside, c.requires)

pub read_images-requires : goal.read_images-requires
read_images-requires c =
    let others = c.in_ok-others.others in
    omega (
      arith,
      ap length c.files_from-rest.ensures,
      length-drop others c.as_slice-images.result.now,
      ap length c.names_from-image_names.ensures,
      length-drop others (names_of c.args.names.now.images),
      ap length c.as_slice-images.ensures.value,
      c.requires,
    )

pub returns-in_err-others : goal.returns-in_err-others
returns-in_err-others c =
    let b = board.shown c.in_ok-board.board in
    let read = subst (λ (text : List ℕ). IsBoard text b) c.bytes.ensures c.in_ok-board.ensures in
    let p = err_from_is_err_and c.from_residual-in_err-others.result c.from_residual-in_err-others.ensures.1 in
    rw (p.1, p.2) (names_refusal (files_of c.args.names.now) (bytes_of c.args.files.now) b read (shown c.in_err-others.field-0.0) c.in_err-others.ensures.err
    c.in_err-others.ensures.none)

pub returns-in_err-algorithms : goal.returns-in_err-algorithms
returns-in_err-algorithms c =
    let b = board.shown c.in_ok-board.board in
    let images = c.as_slice-images.result.now in
    let others = c.in_ok-others.others in
    let read = subst (λ (text : List ℕ). IsBoard text b) c.bytes.ensures c.in_ok-board.ensures in
    let p = err_from_is_err_and c.from_residual-in_err-algorithms.result c.from_residual-in_err-algorithms.ensures.1 in
    rw (p.1, p.2) (algorithms_refusal (files_of c.args.names.now) (bytes_of c.args.files.now) b read others (take others images) (drop others images)
    c.in_ok-others.ensures.enough c.in_ok-others.ensures.count (ap (λ (l : List (List ℕ)). take others l) c.as_slice-images.ensures.value)
    (ap (λ (l : List (List ℕ)). drop others l) c.as_slice-images.ensures.value) (shown c.in_err-algorithms.field-0.0) c.in_err-algorithms.ensures)

pub returns-in_err-image : goal.returns-in_err-image
returns-in_err-image c =
    let b = board.shown c.in_ok-board.board in
    let images = c.as_slice-images.result.now in
    let others = c.in_ok-others.others in
    let read = subst (λ (text : List ℕ). IsBoard text b) c.bytes.ensures c.in_ok-board.ensures in
    let p = err_from_is_err_and c.from_residual-in_err-image.result c.from_residual-in_err-image.ensures.1 in
    rw (p.1, p.2) (back_refusal (files_of c.args.names.now) (bytes_of c.args.files.now) b read others (take others images) c.files_from-rest.result.now
    c.in_ok-others.ensures.enough c.in_ok-others.ensures.count (ap (λ (l : List (List ℕ)). take others l) c.as_slice-images.ensures.value)
    (c.files_from-rest.ensures ∙ ap (λ (l : List (List ℕ)). drop others l) c.as_slice-images.ensures.value) (map flm.shown c.in_ok-algorithms.algorithms.items)
    c.in_ok-algorithms.ensures
    (names_of c.names_from-image_names.result) (shown c.in_err-image.field-0.0) c.names_from-image_names.ensures c.in_err-image.ensures)

pub returns-in-Ok : goal.returns-in-Ok
returns-in-Ok c =
    let b = board.shown c.in_ok-board.board in
    let images = c.as_slice-images.result.now in
    let others = c.in_ok-others.others in
    let read = subst (λ (text : List ℕ). IsBoard text b) c.bytes.ensures c.in_ok-board.ensures in
    is_aim (files_of c.args.names.now) (bytes_of c.args.files.now) b read others (take others images) c.files_from-rest.result.now
    c.in_ok-others.ensures.enough c.in_ok-others.ensures.count (ap (λ (l : List (List ℕ)). take others l) c.as_slice-images.ensures.value)
    (c.files_from-rest.ensures ∙ ap (λ (l : List (List ℕ)). drop others l) c.as_slice-images.ensures.value) (map flm.shown c.in_ok-algorithms.algorithms.items)
    c.in_ok-algorithms.ensures
    c.in_ok-image.image c.in_ok-image.ensures
    (subst (λ (rs : List Region). LiesInside c.in_ok-image.image (ranges_of rs)) c.as_slice.ensures c.in-Ok.ensures.ok)

pub returns : goal.returns
returns c =
    let b = board.shown c.in_ok-board.board in
    let images = c.as_slice-images.result.now in
    let others = c.in_ok-others.others in
    let read = subst (λ (text : List ℕ). IsBoard text b) c.bytes.ensures c.in_ok-board.ensures in
    is_misplaced (files_of c.args.names.now) (bytes_of c.args.files.now) b read others (take others images) c.files_from-rest.result.now
    c.in_ok-others.ensures.enough c.in_ok-others.ensures.count (ap (λ (l : List (List ℕ)). take others l) c.as_slice-images.ensures.value)
    (c.files_from-rest.ensures ∙ ap (λ (l : List (List ℕ)). drop others l) c.as_slice-images.ensures.value) (map flm.shown c.in_ok-algorithms.algorithms.items)
    c.in_ok-algorithms.ensures
    c.in_ok-image.image c.in_ok-image.ensures c.in-Err.fault
    (subst (λ (rs : List Region). IsPlaceFault c.in_ok-image.image (ranges_of rs) c.in-Err.fault) c.as_slice.ensures c.in-Err.ensures.refused)

pub check_place-requires-clause-some : goal.check_place-requires-clause-some
check_place-requires-clause-some c = omega (arith, ap length c.as_slice.ensures, c.in_ok-board.board.some_region)

pub check_place-requires-clause-few : goal.check_place-requires-clause-few
check_place-requires-clause-few c = omega (arith, ap length c.as_slice.ensures, c.in_ok-board.board.few_regions)

pub slice_bounds-read_algorithms-end : goal.slice_bounds-read_algorithms-end
slice_bounds-read_algorithms-end c =
    let images = c.as_slice-images.result.now in
    let others = c.in_ok-others.others in
    let inside : others ≤ length images = omega (arith, c.in_ok-others.ensures.inside, ap length c.as_slice-images.ensures.value) in
    omega (arith, length-take-le others images inside)
