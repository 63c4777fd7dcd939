-- `is_name`: the value that it answers.
use Rattle.std.proofs.Common.{sym, ◌∙◌, ◌&&◌, ◌||◌, ◌-◌, Bool, ap, length, take, drop}
use Rattle.std.specs.List.{list_all}
use Rattle.armv6m_asm.specs.Token.{is_letter, is_digit}
use Rattle.armv6m_asm.proofs.StatementLemmas.{is_name-first}
use Rattle.armv6m_asm.proofs.destination.is_name.Goals as goal

pub returns-then-is_letter : goal.returns-then-is_letter
returns-then-is_letter c =
    c.are_of_name.ensures
    ∙ ap (λ (first : Bool). first && list_all (λ byte. is_letter byte || is_digit byte) (take (length c.args.word.now - 1) (drop 1 c.args.word.now)))
    (sym (sym c.is_letter.ensures ∙ c.if-is_letter.true))
    ∙ sym (is_name-first c.args.word.now c.in-len1-up.len_at_least)
