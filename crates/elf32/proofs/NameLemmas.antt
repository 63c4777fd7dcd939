-- Laws of section names and of the sections that are kept.
use Rattle.std.proofs.Common.{◌≡◌, ℕ, ◌+◌, ◌<◌, ◌≤◌, ◌==◌, ◌&&◌, Bool, true, false, List, [], ◌∷◌, ◌++◌, length, Option, Some, None, is_some, cond, refl, ap}
use Rattle.std.proofs.Common.{sym, ◌∙◌, arith}
use Rattle.std.specs.Prelude.{is_none, MatchOption}
use Rattle.std.specs.Option.{option_or}
use Rattle.std.specs.Result.{result_ok, result_err}
use Rattle.std.specs.Str.{bytes_eq}
use Rattle.std.specs.Borrow.{Bor}
use Rattle.std.proofs.lemmas.Bool.{ne_eqb, lt-leb, eqb-true, and_parts}
use Rattle.std.proofs.lemmas.Slice.Eq.{bytes_eq-Decides}
use Rattle.elf32.specs.declared.fault.ElfFault.TheVariants.{BadName}
use Rattle.elf32.specs.Search.{first_below}
use Rattle.elf32.specs.Format.{section_at, section_name_at, e_shnum, e_shstrndx}
use Rattle.elf32.specs.Strings.{is_name, IsLonger, IsWithin}
use Rattle.elf32.specs.Checks.{section_name, section_names, index_fault, name_fault, names_part}
use Rattle.elf32.specs.Places.{Placed, first_place, noted, AreKept, HasNoShortName}
use Rattle.elf32.specs.Tables.{is_section}
use Rattle.elf32.proofs.SearchLemmas.{first_below-first, first_below-more}

-- if there is a string table of names, its bytes decide whether the index is at fault
pub index_fault-part : (bytes : List ℕ) → (e_shnum bytes ≡ 0 → ⊥) → e_shstrndx bytes < e_shnum bytes → (e_shstrndx bytes ≡ 0 → ⊥)
    → index_fault bytes ≡ result_err (names_part bytes)
unfolding index_fault
index_fault-part bytes some low named =
    rw (ne_eqb (e_shnum bytes) 0 some, lt-leb (e_shnum bytes) (e_shstrndx bytes) low, ne_eqb (e_shstrndx bytes) 0 named) refl

pub section_names-part : (bytes : List ℕ) → (e_shnum bytes ≡ 0 → ⊥) → (e_shstrndx bytes ≡ 0 → ⊥) → section_names bytes ≡ result_ok (names_part bytes)
unfolding section_names
section_names-part bytes some named = rw (ne_eqb (e_shnum bytes) 0 some, ne_eqb (e_shstrndx bytes) 0 named) refl

some_stays : (o last : Option ℕ) → is_some o ≡ true → o ≡ option_or o last
some_stays None last some = cc
some_stays (Some x) last some = refl

-- the fault of the first bad name
pub name_fault-here : (bytes : List ℕ) (i : ℕ) → first_below (λ k. is_none (section_name bytes k)) i ≡ None → i < e_shnum bytes
    → section_name bytes i ≡ None → name_fault bytes ≡ Some (BadName (section_name_at bytes i))
unfolding name_fault
name_fault-here bytes i before inside bad =
    rw (first_below-first (λ k. is_none (section_name bytes k)) (e_shnum bytes) i inside before (rw bad refl)) refl

pub name_fault-none : (bytes : List ℕ) → first_below (λ k. is_none (section_name bytes k)) (e_shnum bytes) ≡ None → name_fault bytes ≡ None
unfolding name_fault
name_fault-none bytes none = rw none refl

step : (b : Bool) (x : ℕ) (more rest last : Option ℕ) → more ≡ option_or rest last → cond b (Some x) more ≡ option_or (cond b (Some x) rest) last
step true x more rest last h = refl
step false x more rest last h = h

-- what is found among some sections and one more after them
first_place-last : (name : List ℕ) (kind : ℕ) (ps : List Placed) (p : Placed)
    → first_place name kind (ps ++ p ∷ []) ≡ option_or (first_place name kind ps) (cond (bytes_eq name p.0 && (kind == p.1)) (Some p.2) None)
first_place-last name kind [] p = refl
first_place-last name kind (q ∷ ps) p =
    step (bytes_eq name q.0 && (kind == q.1)) q.2 (first_place name kind (ps ++ p ∷ [])) (first_place name kind ps)
    (cond (bytes_eq name p.0 && (kind == p.1)) (Some p.2) None) (first_place-last name kind ps p)

or_none : (o : Option ℕ) → option_or o None ≡ o
or_none None = refl
or_none (Some x) = refl

-- a name and type that are in the list already need no second place
same_place : (name text : List ℕ) (kind other i : ℕ) (places : List Placed) → is_some (first_place text other places) ≡ true
    → (b : Bool) → (bytes_eq name text && (kind == other)) ≡ b
    → first_place name kind places ≡ option_or (first_place name kind places) (cond b (Some i) None)
same_place name text kind other i places there false same = sym (or_none (first_place name kind places))
same_place name text kind other i places there true same =
    let parts = and_parts (bytes_eq name text) (kind == other) same in
    let names : name ≡ text = (bytes_eq-Decides name text).0 parts.0 in
    let kinds : kind ≡ other = eqb-true kind other parts.1 in
    let here : is_some (first_place name kind places) ≡ true = rw (names, kinds) there in
    some_stays (first_place name kind places) (Some i) here

-- the list after one more section is kept
kept_step : (bytes : List ℕ) (i : ℕ) (places : List Placed) (text name : List ℕ) (kind : ℕ) → section_name bytes i ≡ Some text
    → first_place name kind places ≡ first_below (is_section bytes name kind) i
    → (b : Bool) → is_some (first_place text (section_at bytes i).kind places) ≡ b
    → first_place name kind (cond b places (places ++ (text, (section_at bytes i).kind, i) ∷ [])) ≡ first_below (is_section bytes name kind) (i + 1)
kept_step bytes i places text name kind named kept true there =
    same_place name text kind (section_at bytes i).kind i places there (bytes_eq name text && (kind == (section_at bytes i).kind)) refl
    ∙ rw (first_below-more (is_section bytes name kind) i, named, kept) refl
kept_step bytes i places text name kind named kept false there =
    first_place-last name kind places (text, (section_at bytes i).kind, i)
    ∙ rw (first_below-more (is_section bytes name kind) i, named, kept) refl

pub kept-more : (bytes : List ℕ) (i : ℕ) (places : List Placed) (text : List ℕ) → section_name bytes i ≡ Some text
    → AreKept bytes i places → AreKept bytes (i + 1) (noted text (section_at bytes i).kind i places)
kept-more bytes i places text named kept name kind short =
    kept_step bytes i places text name kind named (kept name kind short) (is_some (first_place text (section_at bytes i).kind places)) refl

-- a short name isn't equal to a longer one
not_longer : (name : List ℕ) (found : Option (List ℕ)) → IsLonger 64 found → length name ≤ 64 → is_name name found ≡ false
not_longer name None long short = absurd long
not_longer name (Some text) long short = other (bytes_eq name text) refl
  where
    other : (b : Bool) → bytes_eq name text ≡ b → b ≡ false
    other false same = refl
    other true same = let names : name ≡ text = (bytes_eq-Decides name text).0 same in absurd (omega (arith, long, short, ap length names))

-- a section that has no short name needs no place
pub kept-other : (bytes : List ℕ) (i : ℕ) (places : List Placed) → HasNoShortName bytes i
    → AreKept bytes i places → AreKept bytes (i + 1) places
kept-other bytes i places other kept name kind short =
    rw (first_below-more (is_section bytes name kind) i, other name short, kept name kind short)
    (sym (or_none (first_below (is_section bytes name kind) i)))

-- if a name is lent, or is longer than the limit, there is a name
pub within_named : (limit : ℕ) (found : Option (List ℕ)) (lent : Option (Bor (List ℕ))) → IsWithin limit found lent → is_none found ≡ false
within_named limit found (Some text) within = rw within.0 refl
within_named limit None None within = absurd within
within_named limit (Some text) None within = refl

-- what is lent for a name of at most 64 bytes
pub short_lent : (bytes : List ℕ) (k : ℕ) (lent : Option (Bor (List ℕ))) → IsWithin 64 (section_name bytes k) lent
    → MatchOption lent (HasNoShortName bytes k) (λ text. section_name bytes k ≡ Some text.now)
short_lent bytes k (Some text) within = within.0
short_lent bytes k None longer = λ name short. not_longer name (section_name bytes k) longer short

-- a section without a name has no short name
pub none_short : (bytes : List ℕ) (k : ℕ) → section_name bytes k ≡ None → HasNoShortName bytes k
none_short bytes k none name short = rw none refl
