-- Laws of the mnemonics and their texts.
use Rattle.std.proofs.Common.{◌≡◌, ◌∙◌, ◌<◌, ℕ, List, get_or, refl, sym, ap, lit<}
use Rattle.std.specs.List.{position_or_len}
use Rattle.std.specs.Prelude.{bytes_eq}
use Rattle.armv6m_forms.specs.Text.{text_of}
use Rattle.armv6m_forms.specs.declared.mnemonic.Mnemonic.{Mnemonic}
use Rattle.armv6m_forms.specs.declared.mnemonic.Mnemonic.TheVariants as mnemonic
use Rattle.armv6m_forms.specs.declared.word.TheConstants.{MNEMONICS}

pub record StandsIn (m : Mnemonic) : Type 0 where
  pub place : ℕ
  pub inside : place < 58
  pub there : get_or MNEMONICS place mnemonic.Lsls ≡ m

pub stands : (m : Mnemonic) → StandsIn m
stands mnemonic.Lsls = record { place = 0; inside = lit< tt; there = refl }
stands mnemonic.Lsrs = record { place = 1; inside = lit< tt; there = refl }
stands mnemonic.Asrs = record { place = 2; inside = lit< tt; there = refl }
stands mnemonic.Adds = record { place = 3; inside = lit< tt; there = refl }
stands mnemonic.Subs = record { place = 4; inside = lit< tt; there = refl }
stands mnemonic.Movs = record { place = 5; inside = lit< tt; there = refl }
stands mnemonic.Cmp = record { place = 6; inside = lit< tt; there = refl }
stands mnemonic.Ands = record { place = 7; inside = lit< tt; there = refl }
stands mnemonic.Eors = record { place = 8; inside = lit< tt; there = refl }
stands mnemonic.Adcs = record { place = 9; inside = lit< tt; there = refl }
stands mnemonic.Sbcs = record { place = 10; inside = lit< tt; there = refl }
stands mnemonic.Rors = record { place = 11; inside = lit< tt; there = refl }
stands mnemonic.Tst = record { place = 12; inside = lit< tt; there = refl }
stands mnemonic.Rsbs = record { place = 13; inside = lit< tt; there = refl }
stands mnemonic.Cmn = record { place = 14; inside = lit< tt; there = refl }
stands mnemonic.Orrs = record { place = 15; inside = lit< tt; there = refl }
stands mnemonic.Muls = record { place = 16; inside = lit< tt; there = refl }
stands mnemonic.Bics = record { place = 17; inside = lit< tt; there = refl }
stands mnemonic.Mvns = record { place = 18; inside = lit< tt; there = refl }
stands mnemonic.Add = record { place = 19; inside = lit< tt; there = refl }
stands mnemonic.Mov = record { place = 20; inside = lit< tt; there = refl }
stands mnemonic.Bx = record { place = 21; inside = lit< tt; there = refl }
stands mnemonic.Blx = record { place = 22; inside = lit< tt; there = refl }
stands mnemonic.Str = record { place = 23; inside = lit< tt; there = refl }
stands mnemonic.Strh = record { place = 24; inside = lit< tt; there = refl }
stands mnemonic.Strb = record { place = 25; inside = lit< tt; there = refl }
stands mnemonic.Ldrsb = record { place = 26; inside = lit< tt; there = refl }
stands mnemonic.Ldr = record { place = 27; inside = lit< tt; there = refl }
stands mnemonic.Ldrh = record { place = 28; inside = lit< tt; there = refl }
stands mnemonic.Ldrb = record { place = 29; inside = lit< tt; there = refl }
stands mnemonic.Ldrsh = record { place = 30; inside = lit< tt; there = refl }
stands mnemonic.Sub = record { place = 31; inside = lit< tt; there = refl }
stands mnemonic.Sxth = record { place = 32; inside = lit< tt; there = refl }
stands mnemonic.Sxtb = record { place = 33; inside = lit< tt; there = refl }
stands mnemonic.Uxth = record { place = 34; inside = lit< tt; there = refl }
stands mnemonic.Uxtb = record { place = 35; inside = lit< tt; there = refl }
stands mnemonic.Push = record { place = 36; inside = lit< tt; there = refl }
stands mnemonic.Pop = record { place = 37; inside = lit< tt; there = refl }
stands mnemonic.Cpsie = record { place = 38; inside = lit< tt; there = refl }
stands mnemonic.Cpsid = record { place = 39; inside = lit< tt; there = refl }
stands mnemonic.Rev = record { place = 40; inside = lit< tt; there = refl }
stands mnemonic.Rev16 = record { place = 41; inside = lit< tt; there = refl }
stands mnemonic.Revsh = record { place = 42; inside = lit< tt; there = refl }
stands mnemonic.Bkpt = record { place = 43; inside = lit< tt; there = refl }
stands mnemonic.Nop = record { place = 44; inside = lit< tt; there = refl }
stands mnemonic.Yield = record { place = 45; inside = lit< tt; there = refl }
stands mnemonic.Wfe = record { place = 46; inside = lit< tt; there = refl }
stands mnemonic.Wfi = record { place = 47; inside = lit< tt; there = refl }
stands mnemonic.Sev = record { place = 48; inside = lit< tt; there = refl }
stands mnemonic.Stm = record { place = 49; inside = lit< tt; there = refl }
stands mnemonic.Ldm = record { place = 50; inside = lit< tt; there = refl }
stands mnemonic.Udf = record { place = 51; inside = lit< tt; there = refl }
stands mnemonic.Svc = record { place = 52; inside = lit< tt; there = refl }
stands mnemonic.Mrs = record { place = 53; inside = lit< tt; there = refl }
stands mnemonic.Msr = record { place = 54; inside = lit< tt; there = refl }
stands mnemonic.Dsb = record { place = 55; inside = lit< tt; there = refl }
stands mnemonic.Dmb = record { place = 56; inside = lit< tt; there = refl }
stands mnemonic.Isb = record { place = 57; inside = lit< tt; there = refl }

-- ---- no two mnemonics have one text

-- the place of the first mnemonic with a text
place_of : List ℕ → ℕ
place_of text = position_or_len (λ m. bytes_eq (text_of m) text) MNEMONICS

its_place : (m : Mnemonic) → place_of (text_of m) ≡ (stands m).place
unfolding place_of text_of stands
its_place mnemonic.Lsls = refl
its_place m = refl

pub one_mnemonic : (a b : Mnemonic) → text_of a ≡ text_of b → a ≡ b
one_mnemonic a b same =
    let places : (stands a).place ≡ (stands b).place = sym (its_place a) ∙ ap place_of same ∙ its_place b in
    sym (stands a).there ∙ ap (λ k. get_or MNEMONICS k mnemonic.Lsls) places ∙ (stands b).there
