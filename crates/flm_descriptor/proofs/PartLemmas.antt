-- Laws of the sections of an FLM file.
use Rattle.std.proofs.Common.{◌≡◌, ℕ, ◌+◌, ◌==◌, Bool, true, false, List, Option, Some, None, Ok, Err, length, take, drop, cond, refl, sym, ap, ◌∙◌, arith}
use Rattle.std.proofs.Common.{zero, suc, ltb}
use Rattle.std.specs.Option.{option_or, option_map}
use Rattle.std.proofs.lemmas.Bool.{and_parts, eqb-true, ltb-false}
use Rattle.std.proofs.lemmas.List.{length-take, length-drop}
use Rattle.elf32.specs.declared.entries.Section.{Section}
use Rattle.elf32.specs.declared.fault.ElfFault.{ElfFault}
use Rattle.elf32.specs.declared.fault.ElfFault.TheVariants.{Truncated}
use Rattle.elf32.specs.declared.fault.Field.TheVariants as field
use Rattle.elf32.specs.Search.{first_below}
use Rattle.elf32.specs.Format.{section_at, e_shnum}
use Rattle.elf32.specs.Strings.{is_name}
use Rattle.elf32.specs.Checks.{section_name, whole_part}
use Rattle.elf32.specs.Tables.{section_of, section_part, is_section}
use Rattle.elf32.proofs.SearchLemmas.{first_below-more, first_below-zero}

passes_step : (b : Bool) (p : ℕ → Bool) (found : Option ℕ) (n i : ℕ) → p n ≡ b → option_or found (cond b (Some n) None) ≡ Some i
    → (found ≡ Some i → p i ≡ true) → p i ≡ true
passes_step b p (Some x) n i here all before = before all
passes_step true p None n i here all before = let e : n ≡ i = cc in rw (← e) here
passes_step false p None n i here all before = cc

-- the number that a search finds passes the test
pub first_below-passes : (p : ℕ → Bool) (n i : ℕ) → first_below p n ≡ Some i → p i ≡ true
first_below-passes p zero i found = let none = first_below-zero p in cc
first_below-passes p (suc n) i found =
    let e : n + 1 ≡ suc n = omega arith in
    let more : option_or (first_below p n) (cond (p n) (Some n) None) ≡ Some i = sym (first_below-more p n) ∙ ap (first_below p) e ∙ found in
    passes_step (p n) p (first_below p n) n i refl more (first_below-passes p n i)

kind_step : (bytes name : List ℕ) (kind : ℕ) (s : Section) (found : Option ℕ) → first_below (is_section bytes name kind) (e_shnum bytes) ≡ found
    → option_map (section_at bytes) found ≡ Some s → s.kind ≡ kind
kind_step bytes name kind s None none found = cc
kind_step bytes name kind s (Some i) some found =
    let parts = and_parts (is_name name (section_name bytes i)) (kind == (section_at bytes i).kind)
    (first_below-passes (is_section bytes name kind) (e_shnum bytes) i some) in
    let e : section_at bytes i ≡ s = cc in
    sym (eqb-true kind (section_at bytes i).kind parts.1 ∙ ap (λ (x : Section). x.kind) e)

-- a section that is found has the type that was searched for
pub section_of-kind : (bytes name : List ℕ) (kind : ℕ) (s : Section) → section_of bytes name kind ≡ Some s → s.kind ≡ kind
unfolding section_of
section_of-kind bytes name kind s found = kind_step bytes name kind s (first_below (is_section bytes name kind) (e_shnum bytes)) refl found

long_step : (b : Bool) (bytes part : List ℕ) (offset size : ℕ) (fault : ElfFault) → ltb (length bytes) (offset + size) ≡ b
    → cond b (Err fault) (Ok (take size (drop offset bytes))) ≡ Ok part → length part ≡ size
long_step true bytes part offset size fault cut found = cc
long_step false bytes part offset size fault whole found =
    let e : take size (drop offset bytes) ≡ part = cc in
    sym (ap length e) ∙ omega (arith, length-take size (drop offset bytes), length-drop offset bytes, ltb-false _ _ whole)

-- the bytes of a section of type 1 have its size
pub section_part-long : (bytes : List ℕ) (s : Section) (part : List ℕ) → s.kind ≡ 1 → section_part bytes s ≡ Ok part → length part ≡ s.size
unfolding section_part whole_part
section_part-long bytes s part kind found =
    let other : (s.kind == 8) ≡ false = rw kind refl in
    long_step (ltb (length bytes) (s.offset + s.size)) bytes part s.offset s.size (Truncated field.Section) refl (rw other at found)
