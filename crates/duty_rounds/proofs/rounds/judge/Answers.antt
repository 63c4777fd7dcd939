-- `judge`: its clauses `says` and `proved`, and that its loop keeps its invariant.
use Rattle.std.proofs.Common.{◌≡◌, ◌+◌, sym, ap, ◌∙◌, refl, subst, arith, true, false, map}
use Rattle.std.proofs.lemmas.List.{length-map}
use Rattle.board_file.specs.Shown.{shown as board_of}
use Rattle.flm_descriptor.specs.Shown.{shown as algorithm_of}
use Rattle.duty_rounds.specs.declared.verdict.Verdict.{Verdict}
use Rattle.duty_rounds.specs.Verdicts.{IsBroken, IsTrueOf}
use Rattle.duty_rounds.proofs.RoundLemmas.{SoFar, broken_says, got_map, judged, proved_more, so_far_all, so_far_more, so_far_none}
use Rattle.duty_rounds.proofs.rounds.judge.Goals as goal

pub loop-region-init : goal.loop-region-init
loop-region-init g c = record { so_far = so_far_none (board_of c.args.board.now) (map algorithm_of c.args.algorithms.now); proved = λ a only on. refl }

pub new-requires : goal.new-requires
new-requires g c =
    c.requires.each c.loop-region.region (algorithm_of c.index-algorithms-region.result)
    (got_map algorithm_of c.args.algorithms.now c.loop-region.region c.index-algorithms-region.result (omega arith) c.index-algorithms-region.is)

pub loop-region-preserved : goal.loop-region-preserved
loop-region-preserved g c =
    let b = board_of c.args.board.now in
    let algorithms = map algorithm_of c.args.algorithms.now in
    let k = c.loop-region.region in
    let x = c.index-algorithms-region.result in
    let v = c.loop-region.verdict in
    let own = c.in_ok-one.one.verdict in
    let it = judged c.in_ok-subject.subject b c.args.algorithms.now k x own (omega arith) c.index-algorithms-region.is
    (ap (λ z. board_of z) c.in_ok-subject.ensures.board) (ap (λ z. algorithm_of z) c.in_ok-subject.ensures.algorithm) c.in_ok-subject.ensures.region
    c.in_ok-one.ensures.says c.in_ok-one.ensures.proved in
    record {
      so_far = subst (λ (z : Verdict). SoFar b algorithms (k + 1) z) (sym c.beside-verdict.ensures)
          (so_far_more b algorithms k (algorithm_of x) v own c.loop-region.invariant.so_far it.at it.says (λ broke.
          let wrong : false ≡ true = sym c.if-is_broken.false ∙
          c.is_broken.ensures.1 (subst (λ (z : Verdict). IsBroken z) (sym c.beside-verdict.ensures) broke) in
          absurd cc));
      proved = λ a only on.
          c.beside-verdict.ensures ∙ proved_more b algorithms k (algorithm_of x) v own it.less it.got it.proved c.loop-region.invariant.proved a only on;
    }

pub returns-then-is_broken-clause-says : goal.returns-then-is_broken-clause-says
returns-then-is_broken-clause-says g c =
    let b = board_of c.args.board.now in
    let algorithms = map algorithm_of c.args.algorithms.now in
    let k = c.loop-region.region in
    let x = c.index-algorithms-region.result in
    let v = c.loop-region.verdict in
    let own = c.in_ok-one.one.verdict in
    let it = judged c.in_ok-subject.subject b c.args.algorithms.now k x own (omega arith) c.index-algorithms-region.is
    (ap (λ z. board_of z) c.in_ok-subject.ensures.board) (ap (λ z. algorithm_of z) c.in_ok-subject.ensures.algorithm) c.in_ok-subject.ensures.region
    c.in_ok-one.ensures.says c.in_ok-one.ensures.proved in
    subst (λ (z : Verdict). IsTrueOf b algorithms z) (sym c.beside-verdict.ensures)
    (broken_says b algorithms k (algorithm_of x) v own c.loop-region.invariant.so_far it.got it.says
    (subst (λ (z : Verdict). IsBroken z) c.beside-verdict.ensures (c.is_broken.ensures.0 c.if-is_broken.true)))

pub returns-then-is_broken-clause-proved : goal.returns-then-is_broken-clause-proved
returns-then-is_broken-clause-proved g c =
    let b = board_of c.args.board.now in
    let algorithms = map algorithm_of c.args.algorithms.now in
    let k = c.loop-region.region in
    let x = c.index-algorithms-region.result in
    let v = c.loop-region.verdict in
    let own = c.in_ok-one.one.verdict in
    let it = judged c.in_ok-subject.subject b c.args.algorithms.now k x own (omega arith) c.index-algorithms-region.is
    (ap (λ z. board_of z) c.in_ok-subject.ensures.board) (ap (λ z. algorithm_of z) c.in_ok-subject.ensures.algorithm) c.in_ok-subject.ensures.region
    c.in_ok-one.ensures.says c.in_ok-one.ensures.proved in λ a only on.
    c.beside-verdict.ensures ∙ proved_more b algorithms k (algorithm_of x) v own it.less it.got it.proved c.loop-region.invariant.proved a only on

pub returns-clause-says : goal.returns-clause-says
returns-clause-says g c =
    so_far_all (board_of c.args.board.now) (map algorithm_of c.args.algorithms.now) c.loop-region.region c.loop-region.verdict
    (omega (arith, length-map c.args.algorithms.now algorithm_of)) c.loop-region.invariant.so_far

pub returns-clause-proved : goal.returns-clause-proved
returns-clause-proved g c = λ a only on. c.loop-region.invariant.proved a only on
