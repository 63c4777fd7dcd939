-- `split_token`: that it keeps its contract.
use Rattle.std.proofs.Common.{◌∷◌, sym, ap, ◌∙◌, get_or, refl}
use Rattle.armv6m_asm.specs.Token.{mark, tokens_of}
use Rattle.armv6m_asm.proofs.TokenLemmas.{tokens_of-empty, first_of_word, first_is_mark, first_begins_comment, lent_rest}
use Rattle.armv6m_asm.proofs.token.split_token.Goals as goal

pub returns-in_default : goal.returns-in_default
returns-in_default c = sym c.without_blanks-text.ensures.same ∙ tokens_of-empty _ c.in_default.len_below

pub returns-then-byte-eq59 : goal.returns-then-byte-eq59
returns-then-byte-eq59 c = sym c.without_blanks-text.ensures.same ∙ first_begins_comment _ c.if-byte-eq59.true

pub returns-else-is_of_word : goal.returns-else-is_of_word
returns-else-is_of_word c =
    sym c.without_blanks-text.ensures.same
    ∙ first_is_mark c.without_blanks-text.result.now c.in-len1-up.len_at_least c.if-byte-eq59.false c.without_blanks-text.ensures.first
    (sym c.is_of_word.ensures ∙ c.if-is_of_word.false)
    ∙ ap (λ (rest : _). mark (get_or c.without_blanks-text.result.now 0 0) ∷ tokens_of rest) (sym (lent_rest c.without_blanks-text.result.now 1))

pub returns-then-is_of_word : goal.returns-then-is_of_word
returns-then-is_of_word c =
    sym c.without_blanks-text.ensures.same
    ∙ first_of_word c.without_blanks-text.result.now (sym c.is_of_word.ensures ∙ c.if-is_of_word.true)
    ∙ (rw (c.split_at.ensures.front, c.split_at.ensures.back, c.word_len.ensures.len) refl)
