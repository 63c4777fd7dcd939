-- `read_rest`: that it keeps its contract, and that its result meets the clauses of its type.
use Rattle.std.proofs.Common.{◌≡◌, ◌∙◌, ◌-◌, ℕ, List, length, Ok, Err, sym, ap, subst, arith, IsTrue, Result}
use Rattle.std.proofs.lemmas.Result.{err_from_is_err_and}
use Rattle.board_file.specs.declared.region.Region.{Region}
use Rattle.board_file.specs.Limits.{size_of}
use Rattle.byte_map.specs.Image.{Run}
use Rattle.board_file.specs.Shown as board
use Rattle.board_file.specs.Shown.{shown}
use Rattle.flm_descriptor.specs.Shown as flm
use Rattle.job_text.specs.Fits.{LiesIn, all_fit}
use Rattle.job_text.specs.Heads.{texts_of}
use Rattle.job_text.specs.Reading.{texts_at, runs_at, rest_at, Seen, seen_of}
use Rattle.job_text.specs.Shown.{Fails}
use Rattle.job_text.specs.declared.head.Places.{Places}
use Rattle.job_text.proofs.RestLemmas.{AreRead, RunsAre, rest_unsized, rest_runless, rest_runs_fail, rest_ends, rest_found}
use Rattle.job_text.proofs.class.read_rest.Goals as goal

pub invariant_of-result-clause-inside : goal.invariant_of-result-clause-inside
invariant_of-result-clause-inside c = subst (λ (rs : List Region). LiesIn rs c.in_ok-image.image) c.as_slice.ensures c.in_ok-image.ensures.inside

pub invariant_of-result-clause-early : goal.invariant_of-result-clause-early
invariant_of-result-clause-early c =
    omega (
      arith,
      c.requires.early,
      c.in_ok-said.ensures.taken,
      c.in_ok-image.ensures.taken,
      ap (λ (rs : List Region). size_of rs) c.as_slice.ensures,
      c.in_ok-said.said.board.few_cells,
    )

pub returns-in_err-image : goal.returns-in_err-image
returns-in_err-image c =
    let d = c.args.whole in
    let format = c.args.format in
    let h = c.args.head in
    let bytes = c.args.bytes.now in
    let said = c.in_ok-said.said in
    let rest = c.in_ok-said.rest.now in
    let read : AreRead d format h bytes (texts_of said) rest =
    subst (λ (p : Places). texts_at d p h bytes ≡ Ok (texts_of said, rest)) c.places_in-places.ensures.value c.in_ok-said.ensures.gives in
    let e = c.in_err-image.field-0.0 in
    let p = err_from_is_err_and c.from_residual-in_err-image.result c.from_residual-in_err-image.ensures.1 in
    rw (p.1, p.2) (rest_runs_fail d format h bytes (texts_of said) rest e read (omega (arith, c.if-head-cells_in.false, c.cells_in.ensures))
    (omega (arith, c.if-head-eq0.false)) (subst (λ (rs : List Region). Fails e (runs_at d rs h.runs 0 rest)) c.as_slice.ensures c.in_err-image.ensures.gives))

pub returns-then-head-cells_in : goal.returns-then-head-cells_in
returns-then-head-cells_in c =
    let d = c.args.whole in
    let format = c.args.format in
    let h = c.args.head in
    let bytes = c.args.bytes.now in
    let said = c.in_ok-said.said in
    let rest = c.in_ok-said.rest.now in
    let read : AreRead d format h bytes (texts_of said) rest =
    subst (λ (p : Places). texts_at d p h bytes ≡ Ok (texts_of said, rest)) c.places_in-places.ensures.value c.in_ok-said.ensures.gives in
    subst (λ (p : Places). seen_of d (rest_at d format h bytes) ≡ Err p.cells) (sym c.places_in-places.ensures.value)
    (ap (seen_of d) (rest_unsized d format h bytes (texts_of said) rest read (λ is. c.if-head-cells_in.true (omega (arith, is, c.cells_in.ensures)))))

pub returns-then-head-eq0 : goal.returns-then-head-eq0
returns-then-head-eq0 c =
    let d = c.args.whole in
    let format = c.args.format in
    let h = c.args.head in
    let bytes = c.args.bytes.now in
    let said = c.in_ok-said.said in
    let rest = c.in_ok-said.rest.now in
    let read : AreRead d format h bytes (texts_of said) rest =
    subst (λ (p : Places). texts_at d p h bytes ≡ Ok (texts_of said, rest)) c.places_in-places.ensures.value c.in_ok-said.ensures.gives in
    subst (λ (p : Places). seen_of d (rest_at d format h bytes) ≡ Err p.runs) (sym c.places_in-places.ensures.value)
    (ap (seen_of d) (rest_runless d format h bytes (texts_of said) rest read (omega (arith, c.if-head-cells_in.false, c.cells_in.ensures))
    (omega (arith, c.if-head-eq0.true))))

pub returns-then-rest-head : goal.returns-then-rest-head
returns-then-rest-head c =
    let d = c.args.whole in
    let format = c.args.format in
    let h = c.args.head in
    let bytes = c.args.bytes.now in
    let said = c.in_ok-said.said in
    let rest = c.in_ok-said.rest.now in
    let read : AreRead d format h bytes (texts_of said) rest =
    subst (λ (p : Places). texts_at d p h bytes ≡ Ok (texts_of said, rest)) c.places_in-places.ensures.value c.in_ok-said.ensures.gives in
    let image = c.in_ok-image.image in
    let end = c.in_ok-image.rest.now in
    let runs : RunsAre d format h bytes (texts_of said) rest image end = record {
      read = read;
      sized = omega (arith, c.if-head-cells_in.false, c.cells_in.ensures);
      some = omega (arith, c.if-head-eq0.false);
      runs = subst (λ (rs : List Region). runs_at d rs h.runs 0 rest ≡ Ok (image, end)) c.as_slice.ensures c.in_ok-image.ensures.gives;
    } in
    ap (seen_of d) (rest_ends d format h bytes (texts_of said) rest image end runs (λ is. c.if-rest-head.true (omega (arith, is))))

abbrev seen_with : board.Shown → List flm.Shown → List Run → ℕ → Result Seen ℕ
seen_with b algorithms image at = Ok (record { board = b; algorithms = algorithms; image = image; snapshot_at = at })

pub returns : goal.returns
returns c =
    let d = c.args.whole in
    let format = c.args.format in
    let h = c.args.head in
    let bytes = c.args.bytes.now in
    let said = c.in_ok-said.said in
    let rest = c.in_ok-said.rest.now in
    let read : AreRead d format h bytes (texts_of said) rest =
    subst (λ (p : Places). texts_at d p h bytes ≡ Ok (texts_of said, rest)) c.places_in-places.ensures.value c.in_ok-said.ensures.gives in
    let image = c.in_ok-image.image in
    let end = c.in_ok-image.rest.now in
    let runs : RunsAre d format h bytes (texts_of said) rest image end = record {
      read = read;
      sized = omega (arith, c.if-head-cells_in.false, c.cells_in.ensures);
      some = omega (arith, c.if-head-eq0.false);
      runs = subst (λ (rs : List Region). runs_at d rs h.runs 0 rest ≡ Ok (image, end)) c.as_slice.ensures c.in_ok-image.ensures.gives;
    } in
    ap (seen_of d) (rest_found d format h bytes (texts_of said) rest image end runs (omega (arith, c.if-rest-head.false)))
    ∙ ap (λ (l : List flm.Shown). seen_with (shown said.board) l image (d - length end)) (sym c.in_ok-algorithms.ensures)

pub invariant_of-result-clause-fit : goal.invariant_of-result-clause-fit
invariant_of-result-clause-fit c =
    let said = c.in_ok-said.said in
    subst (λ (l : List flm.Shown). IsTrue (all_fit (shown said.board) said.board.regions l)) (sym c.in_ok-algorithms.ensures) c.in_ok-said.ensures.fit

pub overflow_sub-result : goal.overflow_sub-result
overflow_sub-result c = c.in_ok-image.ensures.shorter

pub invariant_of-result-clause-some : goal.invariant_of-result-clause-some
invariant_of-result-clause-some c = omega (arith, c.in_ok-image.ensures.count, c.if-head-eq0.false)

pub take_runs-requires : goal.take_runs-requires
take_runs-requires c = omega (arith, c.requires.inside, c.in_ok-said.ensures.shorter)
