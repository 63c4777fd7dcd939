-- `parse`: the value that it answers.
use Rattle.std.proofs.Common.{◌≡◌, ◌∙◌, ◌-◌, refl, ℕ, Bool, cond, List, [], ◌∷◌, length, get_or, take, drop, None, Ok, Err, sym, ap, arith}
use Rattle.std.proofs.lemmas.Bool.{eq-eqb, eqb-true}
use Rattle.std.proofs.lemmas.List.{take_all, length-drop}
use Rattle.image_hex.specs.declared.fault.HexKind.TheVariants.{NotRecord}
use Rattle.image_hex.specs.Record.{read_line, read_digits}
use Rattle.image_hex.proofs.record.parse.Goals as goal

behind_colon : (line : List ℕ) → get_or line 0 0 ≡ 58 → read_line line ≡ read_digits (drop 1 line)
behind_colon [] is = absurd (omega (arith, is))
behind_colon (first ∷ digits) is = ap (λ (b : Bool). cond b (read_digits digits) (Err NotRecord)) (eq-eqb first 58 is)

pub returns : goal.returns
returns c =
    let line = c.args.line.now in
    let rest : take (length line - 1) (drop 1 line) ≡ drop 1 line = take_all _ _ (omega (arith, length-drop 1 line)) in
    c.parse_digits.ensures ∙ ap read_digits rest ∙ sym (behind_colon line c.if-line-ne58.false)

of_nothing : (line : List ℕ) → length line ≡ 0 → Ok None ≡ read_line line
of_nothing [] is = refl
of_nothing (first ∷ digits) is = absurd (omega (arith, is))

pub returns-then-is_empty : goal.returns-then-is_empty
returns-then-is_empty c = of_nothing c.args.line.now (eqb-true (length c.args.line.now) 0 (sym c.is_empty.ensures ∙ c.if-is_empty.true))
