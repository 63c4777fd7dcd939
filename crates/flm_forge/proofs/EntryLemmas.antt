-- The entries of a text and the labels that they are.
use Rattle.std.proofs.Common.{◌≡◌, ◌≢◌, ℕ, suc, ◌+◌, ◌%◌, ◌<◌, ◌≤◌, ◌^◌, Bool, true, false, cond, List, [], ◌∷◌, ◌++◌, length, Option, Some, None, refl, sym}
use Rattle.std.proofs.Common.{subst, ap, ◌∙◌, arith}
use Rattle.std.specs.Prelude.{All, Contains, MatchOption, IfSome}
use Rattle.std.specs.Str.{bytes_eq}
use Rattle.std.proofs.lemmas.Slice.Eq.{bytes_eq-Decides}
use Rattle.std.proofs.lemmas.List.Elements.{All-cons, All-get_or, All-nil}
use Rattle.armv6m_asm.specs.declared.code.Code.{Code}
use Rattle.armv6m_asm.specs.declared.labels.Label.{Label}
use Rattle.armv6m_asm.specs.Assembly.{IsAssembled}
use Rattle.armv6m_asm.specs.Label.{names_of, IsFirstNamed}
use Rattle.armv6m_asm.proofs.Even.{label_even, label_within}
use Rattle.flm_descriptor.specs.declared.algorithm.Entries.{Entries}
use Rattle.flm_descriptor.specs.declared.fault.Name.{Name}
use Rattle.flm_descriptor.specs.declared.fault.Name.TheVariants as name
use Rattle.flm_descriptor.specs.Parts.{text_of}
use Rattle.flm_forge.specs.declared.source.Listing.{Listing}
use Rattle.flm_forge.specs.declared.symbol.SymbolEntry.{SymbolEntry}
use Rattle.flm_forge.specs.Entries.{AreEntries, is_hidden, place_named, shown_place}
use Rattle.flm_forge.specs.File.{sizes_of, symbols}
use Rattle.flm_forge.specs.Places.{descriptor_addr, end_of}
use Rattle.flm_forge.specs.Symbols.{device_symbol, entry_symbol, entry_symbols, name_at, no_symbol, symbol_if}
use Rattle.flm_forge.proofs.SectionLemmas.{SymbolFits}
use Rattle.flm_forge.proofs.PartLemmas.{AreEven}

-- ---- labels by name

differs : (b : Bool) → (b ≡ true → ⊥) → b ≡ false
differs true never = absurd (never refl)
differs false never = refl

passes : (label : Label) (labels : List Label) (text : List ℕ) → label.name ≢ text → place_named (label ∷ labels) text ≡ place_named labels text
unfolding place_named
passes label labels text other =
    ap (λ b. cond b (Some label.place) (place_named labels text))
    (differs (bytes_eq label.name text) (λ same. other ((bytes_eq-Decides label.name text).0 same)))

named_none : (labels : List Label) (text : List ℕ) → (Contains (names_of labels) text → ⊥) → place_named labels text ≡ None
unfolding place_named
named_none [] text missing = refl
named_none (label ∷ labels) text missing =
    passes label labels text (λ same. missing (0, omega arith, same))
    ∙ named_none labels text (λ here. missing (suc here.0, omega (arith, here.1), here.2))

named_first : (before after : List Label) (text : List ℕ) (place : ℕ) → (Contains (names_of before) text → ⊥)
    → place_named (before ++ record { name = text; place = place } ∷ after) text ≡ Some place
unfolding place_named
named_first [] after text place new =
    ap (λ b. cond b (Some place) (place_named after text)) ((bytes_eq-Decides text text).1 refl)
named_first (label ∷ before) after text place new =
    passes label (before ++ record { name = text; place = place } ∷ after) text (λ same. new (0, omega arith, same))
    ∙ named_first before after text place (λ here. new (suc here.0, omega (arith, here.1), here.2))

pub named_is : (labels : List Label) (text : List ℕ) (o : Option ℕ)
    → MatchOption o (Contains (names_of labels) text → ⊥) (λ place. Contains labels (record { name = text; place = place }))
    → IfSome o (IsFirstNamed labels text) → o ≡ place_named labels text
named_is labels text None cases first = sym (named_none labels text cases)
named_is labels text (Some place) cases first =
    sym (ap (λ (ls : List Label). place_named ls text) first.labels_are ∙ named_first first.before first.after text place first.first)

-- ---- properties of labels

-- a property of the place of each label holds of a place that is found
named_step : (P : ℕ → Type 0) (b : Bool) (place : ℕ) (later : Option ℕ) (p : ℕ) → P place → (later ≡ Some p → P p) → cond b (Some place) later ≡ Some p → P p
named_step P true place later p here behind found = let e : place ≡ p = cc in subst P e here
named_step P false place later p here behind found = behind found

named_holds : (P : ℕ → Type 0) (labels : List Label) (text : List ℕ) (p : ℕ) → All (λ (label : Label). P label.place) labels
    → place_named labels text ≡ Some p → P p
unfolding place_named
named_holds P [] text p all found = cc
named_holds P (label ∷ labels) text p all found =
    named_step P (bytes_eq label.name text) label.place (place_named labels text) p
    (All-get_or (λ (l : Label). P l.place) (label ∷ labels) 0 label (omega arith) all)
    (λ later. named_holds P labels text p (λ k d less. all (suc k) d (omega (arith, less))) later) found

shown_step : (b : Bool) (o : Option ℕ) (p : ℕ) → cond b None o ≡ Some p → o ≡ Some p
shown_step true o p found = cc
shown_step false o p found = found

shown_holds : (P : ℕ → Type 0) (labels : List Label) (hidden : List Name) (n : Name) (p : ℕ) → All (λ (label : Label). P label.place) labels
    → shown_place labels hidden n ≡ Some p → P p
unfolding shown_place
shown_holds P labels hidden n p all found =
    named_holds P labels (text_of n) p all (shown_step (is_hidden hidden n) (place_named labels (text_of n)) p found)

-- the entries of a text are at even places
pub entries_even : (text : List ℕ) (code : Code) (hidden : List Name) (e : Entries) → IsAssembled text code → AreEntries code.labels hidden e → AreEven e
entries_even text code hidden e assembled are =
    let all : All (λ (label : Label). label.place % 2 ≡ 0) code.labels = label_even text code assembled in
    let even = shown_holds (λ place. place % 2 ≡ 0) code.labels hidden in
    record {
      init = even name.Init e.init all are.init;
      uninit = even name.UnInit e.uninit all are.uninit;
      erase_sector = even name.EraseSector e.erase_sector all are.erase_sector;
      program_page = even name.ProgramPage e.program_page all are.program_page;
      erase_chip = λ place is. even name.EraseChip place all (are.erase_chip ∙ is);
      verify = λ place is. even name.Verify place all (are.verify ∙ is);
    }

-- the numbers of the symbols fit their fields
symbol_fits : (n : Name) (o : Option ℕ) (rest : List SymbolEntry) → name_at n < 100 → ((p : ℕ) → o ≡ Some p → p + 1 < 2 ^ 32) → All SymbolFits rest
    → All SymbolFits (symbol_if n o ++ rest)
symbol_fits n None rest low small fit = fit
symbol_fits n (Some p) rest low small fit =
    All-cons SymbolFits (entry_symbol n p) rest
    (record { name = omega arith; value = omega (arith, small p refl); size = omega arith; section = omega arith }) fit

pub symbols_fit : (l : Listing) (code : Code) → IsAssembled l.text code → end_of (sizes_of l code) < 2 ^ 32 → All SymbolFits (symbols l code)
unfolding entry_symbols
symbols_fit l code assembled ends =
    let labels = code.labels in
    let within : All (λ (label : Label). label.place ≤ length code.bytes) labels = label_within l.text code assembled in
    let small : (n : Name) (p : ℕ) → shown_place labels l.hidden n ≡ Some p → p + 1 < 2 ^ 32 = λ n p is.
    omega (arith, shown_holds (λ place. place ≤ length code.bytes) labels l.hidden n p within is, ends) in
    let address : descriptor_addr (sizes_of l code) < 2 ^ 32 = omega arith in
    let device = device_symbol (descriptor_addr (sizes_of l code)) (sizes_of l code).descriptor in
    let rest5 = symbol_if name.Verify (shown_place labels l.hidden name.Verify) ++ [] in
    let rest4 = symbol_if name.EraseChip (shown_place labels l.hidden name.EraseChip) ++ rest5 in
    let rest3 = symbol_if name.ProgramPage (shown_place labels l.hidden name.ProgramPage) ++ rest4 in
    let rest2 = symbol_if name.EraseSector (shown_place labels l.hidden name.EraseSector) ++ rest3 in
    let rest1 = symbol_if name.UnInit (shown_place labels l.hidden name.UnInit) ++ rest2 in
    let rest = symbol_if name.Init (shown_place labels l.hidden name.Init) ++ rest1 in
    All-cons SymbolFits no_symbol (device ∷ rest) (record { name = omega arith; value = omega arith; size = omega arith; section = omega arith })
    (All-cons SymbolFits device rest
    (record { name = omega arith; value = address; size = omega (arith, ends); section = omega arith })
    (symbol_fits name.Init (shown_place labels l.hidden name.Init) rest1 (omega arith) (small name.Init)
    (symbol_fits name.UnInit (shown_place labels l.hidden name.UnInit) rest2 (omega arith) (small name.UnInit)
    (symbol_fits name.EraseSector (shown_place labels l.hidden name.EraseSector) rest3 (omega arith) (small name.EraseSector)
    (symbol_fits name.ProgramPage (shown_place labels l.hidden name.ProgramPage) rest4 (omega arith) (small name.ProgramPage)
    (symbol_fits name.EraseChip (shown_place labels l.hidden name.EraseChip) rest5 (omega arith) (small name.EraseChip)
    (symbol_fits name.Verify (shown_place labels l.hidden name.Verify) [] (omega arith) (small name.Verify) (All-nil SymbolFits))))))))
