-- `only_number`: its clause `none`.
use Rattle.std.proofs.Common.{sym, subst, ℕ, List, [], ◌∷◌}
use Rattle.command_words.specs.Words.{Positional}
use Rattle.command_words.proofs.FitLemmas.{no_one_number}
use Rattle.command_words.proofs.fit.only_number.Goals as goal

pub returns-in_err-word-clause-none : goal.returns-in_err-word-clause-none
returns-in_err-word-clause-none c = rw c.from_residual.ensures (λ others spells number has. c.in_err-word.ensures.none others spells has.word has.one)

pub returns-clause-none : goal.returns-clause-none
returns-clause-none c = no_one_number c.read_number.result c.text.result.now c.args.line.now c.read_number.ensures
    (λ others spells. subst (λ (w : List ℕ). Positional others (w ∷ [])) (sym c.text.ensures) (c.in_ok-word.ensures.some others spells))
