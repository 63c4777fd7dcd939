-- `symbol_of_word`: its clause `symbol`.
use Rattle.std.proofs.Common.{sym, None, ◌∙◌}
use Rattle.std.proofs.lemmas.Bool.{false≢true}
use Rattle.armv6m_asm.proofs.WordLemmas.{number_in-answer, register_of-none, special_of-none}
use Rattle.armv6m_asm.proofs.SymbolLemmas.{symbol_of_number, symbol_of_register, symbol_of_special, symbol_of_interrupts, symbol_of_other}
use Rattle.armv6m_asm.proofs.symbol.symbol_of_word.Goals as goal

pub returns-in-Some-clause-symbol : goal.returns-in-Some-clause-symbol
returns-in-Some-clause-symbol c = sym (symbol_of_number _ _ (number_in-answer c.args.bytes.now _ c.in-Some.ensures))

pub returns-in-Some-read_register-clause-symbol : goal.returns-in-Some-read_register-clause-symbol
returns-in-Some-read_register-clause-symbol c =
    sym (symbol_of_register _ _ c.in-Some-read_register.ensures.some c.in-Some-read_register.ensures.below)

pub returns-in-Some-read_special-clause-symbol : goal.returns-in-Some-read_special-clause-symbol
returns-in-Some-read_special-clause-symbol c = sym (symbol_of_special _ _ c.in-Some-read_special.ensures.some c.in-Some-read_special.ensures.known)

pub returns-then-is_interrupts-clause-symbol : goal.returns-then-is_interrupts-clause-symbol
returns-then-is_interrupts-clause-symbol c = sym (symbol_of_interrupts _ (c.is_interrupts.ensures.0 c.if-is_interrupts.true))

pub returns-else-is_interrupts-clause-symbol : goal.returns-else-is_interrupts-clause-symbol
returns-else-is_interrupts-clause-symbol c =
    sym (symbol_of_other _ (number_in-answer _ None c.in_default.ensures) (register_of-none _ c.in_default-read_register.ensures.none)
    (special_of-none _ c.in_default-read_special.ensures.none) (λ same. false≢true (sym c.if-is_interrupts.false ∙ c.is_interrupts.ensures.1 same)))
