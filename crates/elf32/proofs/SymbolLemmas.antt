-- How the search for a symbol and for a symbol table ends.
use Rattle.std.proofs.Common.{◌≡◌, ℕ, ◌+◌, ◌*◌, ◌/◌, ◌<◌, ◌==◌, Bool, true, false, List, Option, Some, None, Ok, Err, refl}
use Rattle.std.specs.Prelude.{IsSome, is_none}
use Rattle.elf32.specs.declared.fault.ElfFault.TheVariants.{BadName}
use Rattle.elf32.specs.declared.entries.Section.{Section}
use Rattle.elf32.specs.Search.{first_below}
use Rattle.elf32.specs.Format.{section_at, symbol_at, symbol_name_at, e_shnum}
use Rattle.elf32.specs.Tables.{symbol_among, symbol_table, symbol_name, is_symbol, ends_search}
use Rattle.elf32.proofs.SearchLemmas.{first_below-first, first_below-none}

some_not_none : {A : Type 0} (o : Option A) → IsSome o → is_none o ≡ false
some_not_none None some = cc
some_not_none (Some x) some = refl

-- whether the search for a symbol ends at entry `k`
abbrev pub ends_at : List ℕ → List ℕ → Section → List ℕ → ℕ → Bool
ends_at bytes strings table name k = ends_search bytes strings name (table.offset + 16 * k)

-- the search ends at a bad name
pub symbol_among-bad : (bytes strings : List ℕ) (table : Section) (name : List ℕ) (i : ℕ)
    → first_below (ends_at bytes strings table name) i ≡ None → i < table.size / 16
    → symbol_name bytes strings (table.offset + 16 * i) ≡ None
    → symbol_among bytes strings table name ≡ Err (BadName (symbol_name_at bytes (table.offset + 16 * i)))
unfolding symbol_among
symbol_among-bad bytes strings table name i before inside bad =
    let here : ends_at bytes strings table name i ≡ true = rw bad refl in
    rw (first_below-first (ends_at bytes strings table name) (table.size / 16) i inside before here, bad) refl

-- the search ends at the symbol searched for
pub symbol_among-found : (bytes strings : List ℕ) (table : Section) (name : List ℕ) (i : ℕ)
    → first_below (ends_at bytes strings table name) i ≡ None → i < table.size / 16
    → IsSome (symbol_name bytes strings (table.offset + 16 * i)) → is_symbol bytes strings name (table.offset + 16 * i) ≡ true
    → symbol_among bytes strings table name ≡ Ok (Some (symbol_at bytes (table.offset + 16 * i)))
unfolding symbol_among
symbol_among-found bytes strings table name i before inside good same =
    let named = some_not_none (symbol_name bytes strings (table.offset + 16 * i)) good in
    let here : ends_at bytes strings table name i ≡ true = rw (named, same) refl in
    rw (first_below-first (ends_at bytes strings table name) (table.size / 16) i inside before here, named) refl

-- the search continues at any other symbol
pub ends_at-more : (bytes strings : List ℕ) (table : Section) (name : List ℕ) (i : ℕ)
    → first_below (ends_at bytes strings table name) i ≡ None
    → IsSome (symbol_name bytes strings (table.offset + 16 * i)) → is_symbol bytes strings name (table.offset + 16 * i) ≡ false
    → first_below (ends_at bytes strings table name) (i + 1) ≡ None
ends_at-more bytes strings table name i before good other =
    let named = some_not_none (symbol_name bytes strings (table.offset + 16 * i)) good in
    first_below-none (ends_at bytes strings table name) i before (rw (named, other) refl)

-- the search ends with the table
pub symbol_among-none : (bytes strings : List ℕ) (table : Section) (name : List ℕ)
    → first_below (ends_at bytes strings table name) (table.size / 16) ≡ None → symbol_among bytes strings table name ≡ Ok None
unfolding symbol_among
symbol_among-none bytes strings table name none = rw none refl

-- the first symbol table
pub symbol_table-found : (bytes : List ℕ) (i : ℕ) → first_below (λ k. (section_at bytes k).kind == 2) i ≡ None → i < e_shnum bytes
    → ((section_at bytes i).kind == 2) ≡ true → symbol_table bytes ≡ Some (section_at bytes i)
unfolding symbol_table
symbol_table-found bytes i before inside here =
    rw (first_below-first (λ k. (section_at bytes k).kind == 2) (e_shnum bytes) i inside before here) refl

pub symbol_table-none : (bytes : List ℕ) → first_below (λ k. (section_at bytes k).kind == 2) (e_shnum bytes) ≡ None → symbol_table bytes ≡ None
unfolding symbol_table
symbol_table-none bytes none = rw none refl
