-- `read_algorithms`: its contract, `ReadsAlgorithms`.
use Rattle.std.proofs.Common.{◌≡◌, ◌∙◌, sym, ap, subst, arith, ℕ, List, [], ◌∷◌, length, Option, Some, Vec, Global, ◌<◌, drop, get_or}
use Rattle.std.proofs.lemmas.Result.{err_from_is_err_and}
use Rattle.std.proofs.lemmas.Grind.{common_steps}
use Rattle.report_text.specs.Shown.{shown}
use Rattle.board_file.specs.declared.region.Region.{Region}
use Rattle.board_file.specs.Shown as board_shown
use Rattle.flm_descriptor.specs.Shown as flm_shown
use Rattle.flm_descriptor.specs.declared.algorithm.Algorithm.{Algorithm}
use Rattle.command_files.specs.Steps.{IsFlmRefusal, AreFlmRefusal}
use Rattle.command_files.specs.Files.{others_of, IsOneFor}
use Rattle.command_files.proofs.WantedLemmas.{gathered, two_are_for, exactly_one, exactly_two, second_refused, one_is_for, none_left, first_refused}
use Rattle.command_files.proofs.wanted.read_algorithms.Goals as goal

pub returns : goal.returns
returns c =
    let b = board_shown.shown c.args.board.now in
    let one = c.index-regions-0.result in
    let two = c.index-regions-1.result in
    let second = c.index-others-0.result in
    let many : length c.as_slice-regions.result.now ≡ 2 =
    omega (arith, ap length c.as_slice-regions.ensures, c.args.board.now.some_region, c.args.board.now.few_regions, c.if-regions-eq1.false) in
    let regions : c.args.board.now.regions ≡ one ∷ two ∷ [] =
    sym c.as_slice-regions.ensures ∙ exactly_two c.as_slice-regions.result.now one two many c.index-regions-0.is c.index-regions-1.is in
    let count : length c.args.others.now ≡ 1 =
    c.requires ∙ ap (λ (o : Option (List ℕ)). others_of o c.args.board.now.regions) c.in-Some.is
    ∙ ap (λ (rs : List Region). others_of (Some c.in-Some.first) rs) regions in
    let others : c.args.others.now ≡ second ∷ [] = exactly_one c.args.others.now second count c.index-others-0.is in
    let x = c.in_ok-one.one in
    let y = c.in_ok-other.other in
    let first_is = subst (λ (l : List ℕ). IsOneFor b one l (flm_shown.shown x)) c.bytes.ensures c.in_ok-one.ensures in
    let second_is = subst (λ (l : List ℕ). IsOneFor b two l (flm_shown.shown y)) c.bytes-2.ensures c.in_ok-other.ensures in
    rw c.in-Some.is (gathered (λ (v : Vec Algorithm Global). v.items) b (c.in-Some.first ∷ c.args.others.now) (x ∷ y ∷ []) c.gather-2.result
    c.gather-2.ensures.ok c.gather-2.ensures.err
    (two_are_for b one two c.in-Some.first c.args.others.now second (flm_shown.shown x) (flm_shown.shown y) regions others first_is second_is))

pub bounds-others-0 : goal.bounds-others-0
bounds-others-0 c = grind (arith, common_steps)

pub returns-in_err-other : goal.returns-in_err-other
returns-in_err-other c =
    let b = board_shown.shown c.args.board.now in
    let one = c.index-regions-0.result in
    let two = c.index-regions-1.result in
    let second = c.index-others-0.result in
    let many : length c.as_slice-regions.result.now ≡ 2 =
    omega (arith, ap length c.as_slice-regions.ensures, c.args.board.now.some_region, c.args.board.now.few_regions, c.if-regions-eq1.false) in
    let regions : c.args.board.now.regions ≡ one ∷ two ∷ [] =
    sym c.as_slice-regions.ensures ∙ exactly_two c.as_slice-regions.result.now one two many c.index-regions-0.is c.index-regions-1.is in
    let count : length c.args.others.now ≡ 1 =
    c.requires ∙ ap (λ (o : Option (List ℕ)). others_of o c.args.board.now.regions) c.in-Some.is
    ∙ ap (λ (rs : List Region). others_of (Some c.in-Some.first) rs) regions in
    let others : c.args.others.now ≡ second ∷ [] = exactly_one c.args.others.now second count c.index-others-0.is in
    let first_is = subst (λ (l : List ℕ). IsOneFor b one l (flm_shown.shown c.in_ok-one.one)) c.bytes.ensures c.in_ok-one.ensures in
    let refused = subst (λ (l : List ℕ). IsFlmRefusal b two l (shown c.in_err-other.field-0.0)) c.bytes-2.ensures c.in_err-other.ensures in
    let p = err_from_is_err_and c.from_residual-in_err-other.result c.from_residual-in_err-other.ensures.1 in
    rw (p.1, p.2, c.in-Some.is) (subst (λ (l : List (List ℕ)). AreFlmRefusal b (c.in-Some.first ∷ l) (shown c.in_err-other.field-0.0)) (sym others)
    (second_refused b one two c.in-Some.first second (flm_shown.shown c.in_ok-one.one) (shown c.in_err-other.field-0.0) regions first_is refused))

pub returns-then-regions-eq1 : goal.returns-then-regions-eq1
returns-then-regions-eq1 c =
    let b = board_shown.shown c.args.board.now in
    let one = c.index-regions-0.result in
    let x = c.in_ok-one.one in
    let only : length c.as_slice-regions.result.now ≡ 1 = omega (arith, c.if-regions-eq1.true) in
    let regions : c.args.board.now.regions ≡ one ∷ [] =
    sym c.as_slice-regions.ensures ∙ exactly_one c.as_slice-regions.result.now one only c.index-regions-0.is in
    let count : length c.args.others.now ≡ 0 =
    c.requires ∙ ap (λ (o : Option (List ℕ)). others_of o c.args.board.now.regions) c.in-Some.is
    ∙ ap (λ (rs : List Region). others_of (Some c.in-Some.first) rs) regions in
    let first_is = subst (λ (l : List ℕ). IsOneFor b one l (flm_shown.shown x)) c.bytes.ensures c.in_ok-one.ensures in
    rw c.in-Some.is (gathered (λ (v : Vec Algorithm Global). v.items) b (c.in-Some.first ∷ c.args.others.now) (x ∷ []) c.gather.result
    c.gather.ensures.ok c.gather.ensures.err
    (one_is_for b one c.in-Some.first c.args.others.now (flm_shown.shown x) regions (none_left c.args.others.now count) first_is))

begins : (regions : List Region) (one : Region) → 0 < length regions → one ≡ get_or regions 0 one → regions ≡ one ∷ drop 1 regions
begins [] one some is = absurd (omega (arith, some))
begins (region ∷ regions) one some is = ap (λ (r : Region). r ∷ regions) (sym is)

pub returns-in_err-one : goal.returns-in_err-one
returns-in_err-one c =
    let b = board_shown.shown c.args.board.now in
    let one = c.index-regions-0.result in
    let slice = c.as_slice-regions.result.now in
    let some : 0 < length slice = omega (arith, ap length c.as_slice-regions.ensures, c.args.board.now.some_region) in
    let regions : c.args.board.now.regions ≡ one ∷ drop 1 slice = sym c.as_slice-regions.ensures ∙ begins slice one some c.index-regions-0.is in
    let refused = subst (λ (l : List ℕ). IsFlmRefusal b one l (shown c.in_err-one.field-0.0)) c.bytes.ensures c.in_err-one.ensures in
    let p = err_from_is_err_and c.from_residual.result c.from_residual.ensures.1 in
    rw (p.1, p.2, c.in-Some.is)
    (first_refused b b.regions one (drop 1 slice) c.in-Some.first c.args.others.now (shown c.in_err-one.field-0.0) regions refused)
