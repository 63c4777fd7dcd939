-- How many bytes the code of an instruction has.
use Rattle.std.proofs.Common.{◌≡◌, ℕ, Bool, true, false, cond, List, [], ◌∷◌, length, drop, Option, Some, None, refl, sym, ap, subst, ◌∙◌, inl, inr}
use Rattle.std.specs.Prelude.{nat_le, nat_eq, ◌/◌, ◌^◌}
use Rattle.armv6m_decode.specs.declared.instr.Instr.{Instr}
use Rattle.armv6m_decode.specs.declared.instr.Instr.TheVariants as instr
use Rattle.armv6m_decode.specs.declared.instr.Alu.TheVariants.{LslsImmediate}
use Rattle.armv6m_decode.specs.declared.instr.Memory.TheVariants.{LdrLiteral}
use Rattle.armv6m_decode.specs.declared.instr.Many.TheVariants.{Push}
use Rattle.armv6m_decode.specs.declared.instr.Branch.TheVariants.{Bcc, B, Bl}
use Rattle.armv6m_decode.specs.declared.instr.Other.TheVariants.{Adr}
use Rattle.armv6m_decode.specs.declared.instr.Decoded.TheVariants.{Op, NeedsSecond}
use Rattle.armv6m_decode.specs.Rows.{Row, fits, first_fit, PairRow, fits_pair, first_fit_pair}
use Rattle.armv6m_decode.specs.Table.{rows, pair_rows, op_or_undefined, decoded, decoded_pair}
use Rattle.armv6m_encode.specs.declared.code.Encoding.{Encoding}
use Rattle.armv6m_encode.specs.declared.code.Encoding.TheVariants.{Half, Pair}
use Rattle.armv6m_encode.specs.Encoding.{IsEncodedAs}
use Rattle.armv6m_forms.specs.declared.form.Aim.{Aim}
use Rattle.armv6m_forms.specs.declared.form.Form.{Form}
use Rattle.armv6m_forms.specs.declared.form.Operands.{Operands}
use Rattle.armv6m_forms.specs.declared.mnemonic.Mnemonic.{Mnemonic}
use Rattle.armv6m_forms.specs.declared.form.Form.TheVariants.{Plain, Aimed}
use Rattle.armv6m_forms.specs.Form.{form_of, IsReadToo, StandsFor}
use Rattle.armv6m_asm.specs.Assembly.{width, aim_width, code_of}

-- ---- rows

-- each row makes instructions of one halfword
abbrev AreNarrow : List Row → Type 0
AreNarrow [] = Unit {0}
AreNarrow (r ∷ rs) = ((half : ℕ) → width (r.form half) ≡ 2) × (AreNarrow rs)

abbrev AreWide : List PairRow → Type 0
AreWide [] = Unit {0}
AreWide (r ∷ rs) = ((first second : ℕ) → width (r.form first second) ≡ 4) × (AreWide rs)

last_narrow : AreNarrow (drop 39 rows)
unfolding rows
last_narrow = (
  λ h. refl,
  (
    λ h. refl,
    (
      λ h. refl,
      (
        λ h. refl,
        (
          λ h. refl,
          (
            λ h. refl,
            (
              λ h. refl,
              (
                λ h. refl,
                (
                  λ h. refl,
                  (
                    λ h. refl,
                    (
                      λ h. refl,
                      (
                        λ h. refl,
                        (
                          λ h. refl,
                          (
                            λ h. refl,
                            (
                              λ h. refl,
                              (
                                λ h. refl,
                                (
                                  λ h. refl,
                                  (
                                    λ h. refl,
                                    (
                                      λ h. refl,
                                      (
                                        λ h. refl,
                                        (
                                          λ h. refl,
                                          (
                                            λ h. refl,
                                            (
                                              λ h. refl,
                                              (
                                                λ h. refl,
                                                (
                                                  λ h. refl,
                                                  (
                                                    λ h. refl,
                                                    (
                                                      λ h. refl,
                                                      (
                                                        λ h. refl,
                                                        (
                                                          λ h. refl,
                                                          (
                                                            λ h. refl,
                                                            (
                                                              λ h. refl,
                                                              (
                                                                λ h. refl,
                                                                (
                                                                  λ h. refl,
                                                                  (
                                                                    λ h. refl,
                                                                    (
                                                                      λ h. refl,
                                                                      (λ h. refl, (λ h. refl, (λ h. refl, (λ h. refl, tt)))),
                                                                    ),
                                                                  ),
                                                                ),
                                                              ),
                                                            ),
                                                          ),
                                                        ),
                                                      ),
                                                    ),
                                                  ),
                                                ),
                                              ),
                                            ),
                                          ),
                                        ),
                                      ),
                                    ),
                                  ),
                                ),
                              ),
                            ),
                          ),
                        ),
                      ),
                    ),
                  ),
                ),
              ),
            ),
          ),
        ),
      ),
    ),
  ),
)

rows_narrow : AreNarrow rows
unfolding rows
rows_narrow = (
  λ h. refl,
  (
    λ h. refl,
    (
      λ h. refl,
      (
        λ h. refl,
        (
          λ h. refl,
          (
            λ h. refl,
            (
              λ h. refl,
              (
                λ h. refl,
                (
                  λ h. refl,
                  (
                    λ h. refl,
                    (
                      λ h. refl,
                      (
                        λ h. refl,
                        (
                          λ h. refl,
                          (
                            λ h. refl,
                            (
                              λ h. refl,
                              (
                                λ h. refl,
                                (
                                  λ h. refl,
                                  (
                                    λ h. refl,
                                    (
                                      λ h. refl,
                                      (
                                        λ h. refl,
                                        (
                                          λ h. refl,
                                          (
                                            λ h. refl,
                                            (
                                              λ h. refl,
                                              (
                                                λ h. refl,
                                                (
                                                  λ h. refl,
                                                  (
                                                    λ h. refl,
                                                    (
                                                      λ h. refl,
                                                      (
                                                        λ h. refl,
                                                        (
                                                          λ h. refl,
                                                          (
                                                            λ h. refl,
                                                            (
                                                              λ h. refl,
                                                              (
                                                                λ h. refl,
                                                                (
                                                                  λ h. refl,
                                                                  (
                                                                    λ h. refl,
                                                                    (
                                                                      λ h. refl,
                                                                      (λ h. refl, (λ h. refl, (λ h. refl, (λ h. refl, last_narrow)))),
                                                                    ),
                                                                  ),
                                                                ),
                                                              ),
                                                            ),
                                                          ),
                                                        ),
                                                      ),
                                                    ),
                                                  ),
                                                ),
                                              ),
                                            ),
                                          ),
                                        ),
                                      ),
                                    ),
                                  ),
                                ),
                              ),
                            ),
                          ),
                        ),
                      ),
                    ),
                  ),
                ),
              ),
            ),
          ),
        ),
      ),
    ),
  ),
)

pairs_wide : AreWide pair_rows
unfolding pair_rows
pairs_wide = (λ g h. refl, (λ g h. refl, (λ g h. refl, (λ g h. refl, (λ g h. refl, (λ g h. refl, tt))))))

fit_narrow : (rs : List Row) (half : ℕ) (i : Instr) → AreNarrow rs → first_fit rs half ≡ Some i → width i ≡ 2
fit_narrow [] half i narrow is = cc
fit_narrow (r ∷ rs) half i narrow is =
    elim (fits r half) as (λ (b : Bool). cond b (Some (r.form half)) (first_fit rs half) ≡ Some i → width i ≡ 2) [
      | true ↦ λ here. let same : r.form half ≡ i = cc in ap width (sym same) ∙ narrow.0 half
      | false ↦ λ later. fit_narrow rs half i narrow.1 later
    ] is

fit_wide : (rs : List PairRow) (first second : ℕ) (i : Instr) → AreWide rs → first_fit_pair rs first second ≡ Some i → width i ≡ 4
fit_wide [] first second i wide is = cc
fit_wide (r ∷ rs) first second i wide is =
    elim (fits_pair r first second) as (λ (b : Bool). cond b (Some (r.form first second)) (first_fit_pair rs first second) ≡ Some i → width i ≡ 4) [
      | true ↦ λ here. let same : r.form first second ≡ i = cc in ap width (sym same) ∙ wide.0 first second
      | false ↦ λ later. fit_wide rs first second i wide.1 later
    ] is

op_some : (o : Option Instr) (i : Instr) → op_or_undefined o ≡ Op i → o ≡ Some i
op_some None i is = cc
op_some (Some j) i is = let same : j ≡ i = cc in ap Some same

fit_of_op : (pair : Bool) (o : Option Instr) (i : Instr) → cond pair NeedsSecond (op_or_undefined o) ≡ Op i → o ≡ Some i
fit_of_op true o i is = cc
fit_of_op false o i is = op_some o i is

half_width : (half : ℕ) (i : Instr) → decoded half ≡ Op i → width i ≡ 2
unfolding decoded
half_width half i is = fit_narrow rows half i rows_narrow (fit_of_op (nat_le 29 (half / 2 ^ 11)) (first_fit rows half) i is)

pair_width : (first second : ℕ) (i : Instr) → decoded_pair first second ≡ Some i → width i ≡ 4
unfolding decoded_pair
pair_width first second i is = fit_wide pair_rows first second i pairs_wide is

-- the code is as long as the instruction is wide
pub length-code_of : (i : Instr) (encoding : Encoding) → IsEncodedAs i encoding → length (code_of encoding) ≡ width i
length-code_of i (Half half) is = sym (half_width half i is)
length-code_of i (Pair first second) is = sym (pair_width first second i is.1)

-- ---- forms

abbrev HasWidth : Form → ℕ → Type 0
HasWidth (Plain mnemonic operands) n = Unit {0}
HasWidth (Aimed aim destination) n = n ≡ aim_width aim

plain_width : (b : Bool) (first second : Form) (n : ℕ) → HasWidth first n → HasWidth second n → HasWidth (cond b first second) n
plain_width true first second n f s = f
plain_width false first second n f s = s

form_width : (i : Instr) (at : ℕ) → HasWidth (form_of i at) (width i)
unfolding form_of
form_width (instr.Alu (LslsImmediate d m immediate)) at = plain_width (nat_eq immediate 0) _ _ 2 tt tt
form_width (instr.Memory (LdrLiteral t immediate)) at = refl
form_width (instr.Other (Adr d immediate)) at = refl
form_width (instr.Many (Push lr list)) at = tt
form_width (instr.Branch (Bcc condition immediate)) at = refl
form_width (instr.Branch (B immediate)) at = refl
form_width (instr.Branch (Bl immediate)) at = refl
form_width i at = tt

clash : (a : Aim) (destination : ℕ) (m : Mnemonic) (operands : Operands) → Aimed a destination ≡ Plain m operands → ⊥
clash a destination m operands is = cc

-- an instruction that is written with a destination isn't read as another form
not_plain : (i : Instr) (a : Aim) (destination : ℕ) → IsReadToo i (Aimed a destination) → ⊥
not_plain (instr.Alu (LslsImmediate d m immediate)) a destination is = clash a destination _ _ is.1
not_plain i a destination is = is

-- an instruction with a destination is as wide as its mnemonic says
pub aimed_width : (i : Instr) (at : ℕ) (a : Aim) (destination : ℕ) → StandsFor i at (Aimed a destination) → width i ≡ aim_width a
aimed_width i at a destination stands =
    elim stands.written [
      | inl written ↦ subst (λ (f : Form). HasWidth f (width i)) written (form_width i at)
      | inr too ↦ absurd (not_plain i a destination too)
    ]
