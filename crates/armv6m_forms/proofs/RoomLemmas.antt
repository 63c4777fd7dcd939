-- The text of each instruction's form has room in a line.
use Rattle.std.proofs.Common.{◌≡◌, ◌<◌, ◌+◌, ◌^◌, ◌∙◌, ℕ, Bool, true, false, length, get_or, refl, zero-add, add-zero, nat_eq, nat_le, if◌then◌else◌}
use Rattle.std.proofs.lemmas.Bool.{leb-true}
use Rattle.std.proofs.lemmas.List.Elements.{All-get_or}
use Rattle.std.proofs.lemmas.List.FromFn.{get_or-range_with_len}
use Rattle.std.proofs.lemmas.List.Sums.{AllPass-from_list_all}
use Rattle.std.specs.List.{list_all, range_with_len}
use Rattle.std.specs.Fmt.{digits}
use Rattle.armv6m_decode.specs.declared.instr.Instr.{Instr}
use Rattle.armv6m_decode.specs.declared.instr.Instr.TheVariants as instr
use Rattle.armv6m_decode.specs.declared.instr.Alu.TheVariants.{LslsImmediate}
use Rattle.armv6m_decode.specs.declared.instr.Memory.TheVariants.{LdrLiteral}
use Rattle.armv6m_decode.specs.declared.instr.Many.TheVariants.{Push, Pop, Stm, Ldm}
use Rattle.armv6m_decode.specs.declared.instr.Branch.TheVariants.{Bx}
use Rattle.armv6m_decode.specs.declared.instr.Other.TheVariants.{Adr}
use Rattle.armv6m_decode.specs.declared.registers.TheConstants.{LR, PC}
use Rattle.armv6m_forms.specs.declared.mnemonic.Mnemonic.TheVariants as mnemonic
use Rattle.armv6m_forms.specs.declared.form.Operands.TheVariants.{Two, TwoImmediate}
use Rattle.armv6m_forms.specs.declared.form.Form.TheVariants.{Plain}
use Rattle.armv6m_forms.specs.Form.{form_of, with_register}
use Rattle.armv6m_forms.specs.Room.{IsShort, HasRoom, low_list}
use Rattle.armv6m_forms.specs.Text.{register_text, list_text, listed_below}

-- ---- lists of low registers, alone and with LR or PC

has_room : ℕ → ℕ → Bool
has_room more list = nat_le (length (list_text (list + more))) 40

all_alone : list_all (has_room 0) (range_with_len 0 256) ≡ true
unfolding has_room list_text listed_below register_text digits
all_alone = refl

all_with_lr : list_all (has_room (2 ^ LR)) (range_with_len 0 256) ≡ true
unfolding has_room list_text listed_below register_text digits
all_with_lr = refl

all_with_pc : list_all (has_room (2 ^ PC)) (range_with_len 0 256) ≡ true
unfolding has_room list_text listed_below register_text digits
all_with_pc = refl

short_list : (more list : ℕ) → list_all (has_room more) (range_with_len 0 256) ≡ true → list < 256 → IsShort (list + more)
unfolding has_room
short_list more list all low =
    let pass = AllPass-from_list_all (has_room more) (range_with_len 0 256) all in
    let here = All-get_or (λ v. has_room more v ≡ true) (range_with_len 0 256) list 0 low pass in
    let there : get_or (range_with_len 0 256) list 0 ≡ list = get_or-range_with_len 0 256 list 0 low ∙ zero-add list in
    leb-true _ _ (rw there at here)

short_alone : (list : ℕ) → list < 256 → IsShort list
short_alone list low = rw add-zero at (short_list 0 list all_alone low)

short_with_lr : (lr : Bool) (list : ℕ) → list < 256 → IsShort (with_register lr LR list)
short_with_lr true list low = short_list (2 ^ LR) list all_with_lr low
short_with_lr false list low = short_alone list low

short_with_pc : (to_pc : Bool) (list : ℕ) → list < 256 → IsShort (with_register to_pc PC list)
short_with_pc true list low = short_list (2 ^ PC) list all_with_pc low
short_with_pc false list low = short_alone list low

-- ---- instructions

lsls : (zero_shift : Bool) (d m immediate : ℕ)
    → HasRoom (if zero_shift then Plain mnemonic.Movs (Two d m) else Plain mnemonic.Lsls (TwoImmediate d m immediate))
lsls true d m immediate = tt
lsls false d m immediate = tt

pub form_has_room : (i : Instr) (at : ℕ) → low_list i < 256 → HasRoom (form_of i at)
unfolding form_of
form_has_room (instr.Alu (LslsImmediate d m immediate)) at low = lsls (nat_eq immediate 0) d m immediate
form_has_room (instr.Branch (Bx m)) at low = tt
form_has_room (instr.Memory (LdrLiteral t immediate)) at low = tt
form_has_room (instr.Other (Adr d immediate)) at low = tt
form_has_room (instr.Many (Push lr list)) at low = short_with_lr lr list low
form_has_room (instr.Many (Pop to_pc list)) at low = short_with_pc to_pc list low
form_has_room (instr.Many (Stm n list)) at low = short_alone list low
form_has_room (instr.Many (Ldm n list)) at low = short_alone list low
form_has_room i at low = tt
