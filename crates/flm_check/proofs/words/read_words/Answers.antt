-- `read_words`: that it keeps its contract.
use Rattle.std.proofs.Common.{◌≡◌, ◌-◌, sym, subst, arith, ℕ, List, length, length-drop, take, drop}
use Rattle.std.proofs.lemmas.List.{take_all}
use Rattle.std.proofs.lemmas.Grind.{common_steps}
use Rattle.command_words.proofs.FitLemmas.{two_fronts}
use Rattle.flm_check.specs.Words.{AreOptions}
use Rattle.flm_check.proofs.WordLemmas.{words_few, words_apart, options_behind}
use Rattle.flm_check.proofs.words.read_words.Goals as goal

pub returns-in_default-clause-none : goal.returns-in_default-clause-none
returns-in_default-clause-none c = λ asked asks. words_few c.args.words.now (omega (arith, c.in_default.len_below)) asked asks

pub returns-in_err-rounds-clause-none : goal.returns-in_err-rounds-clause-none
returns-in_err-rounds-clause-none c =
    let words = c.args.words.now in
    let rest = take (length words - 2) (drop 2 words) in
    let k = c.count_names-others.result in
    let parts = two_fronts words c.board-item.result c.flm-item.result c.in-len2-up.len_at_least c.board-item.is c.flm-item.is in
    let behind : take (length rest - k) (drop k rest) ≡ drop k rest = take_all (length rest - k) (drop k rest) (omega (arith, length-drop k rest)) in
    rw c.from_residual.ensures (λ asked asks.
    let apart = words_apart words c.board-item.result c.flm-item.result rest parts asked asks in
    c.in_err-rounds.ensures.none asked.seed asked.rounds (subst (λ (o : List (List ℕ)). AreOptions o asked.seed asked.rounds) (sym behind)
    (options_behind k rest asked.files.images asks.options asked.seed asked.rounds c.count_names-others.ensures.few c.count_names-others.ensures.inside
    c.count_names-others.ensures.names c.count_names-others.ensures.all apart.rest_is asks.few apart.names asks.are_options)))

pub returns-clause-some : goal.returns-clause-some
returns-clause-some c = grind (arith, common_steps)
