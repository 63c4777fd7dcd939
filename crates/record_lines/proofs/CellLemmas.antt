-- Cells at rising addresses compared with a run of a map. Code adds a data record as a run, and its definition adds cell by cell.
use Rattle.std.proofs.Common.{◌≡◌, ◌≢◌, ⊎_elim, ◌≤◌, ◌<◌, ◌+◌, ◌-◌, ℕ, zero, suc, List, [], ◌∷◌, ◌++◌, length, get_or, Option, Some, None, refl, sym, ap}
use Rattle.std.proofs.Common.{◌∙◌, cond, Bool, true, false, subst, arith}
use Rattle.std.specs.List.{All}
use Rattle.std.proofs.lemmas.List.Elements.{All-nil, All-cons}
use Rattle.std.specs.Prelude.{◌==◌}
use Rattle.byte_map.specs.declared.fault.LayFault.TheVariants.{Conflict}
use Rattle.std.proofs.lemmas.Bool.{cases_lt}
use Rattle.std.proofs.lemmas.Bool.Decides.{nat_tests}
use Rattle.byte_map.specs.Image.{Run, holds, byte_of, byte_at}
use Rattle.byte_map.specs.Laying.{IsFirstClash, Lays, IsLayFault}
use Rattle.byte_map.proofs.Runs.{holds_between, holds_no_lower, holds_no_higher, held_from, held_to, or_else}
use Rattle.record_lines.specs.Cells.{Cell, held, AreConsistent, cells_from, Clash, clash_with, first_clash, IsImageOf}

pub same_number : (a b : ℕ) → a ≡ b → (a == b) ≡ true
same_number a b is = grind (arith, nat_tests)

pub other_number : (a b : ℕ) → a ≢ b → (a == b) ≡ false
other_number a b not = grind (arith, nat_tests)

pub held-append : (xs ys : List Cell) (a : ℕ) → held (xs ++ ys) a ≡ or_else (held xs a) (held ys a)
held-append [] ys a = refl
held-append (x ∷ xs) ys a =
    elim (a == x.at) as (λ (b : Bool). cond b (Some x.byte) (held (xs ++ ys) a) ≡ or_else (cond b (Some x.byte) (held xs a)) (held ys a))
    [ true ↦ refl | false ↦ held-append xs ys a ]

-- cells at rising addresses hold what a run of their bytes holds
pub held-none_below : (at : ℕ) (bytes : List ℕ) (a : ℕ) → a < at → held (cells_from at bytes) a ≡ None
held-none_below at [] a lt = refl
held-none_below at (byte ∷ bytes) a lt =
    ap (λ (b : Bool). cond b (Some byte) (held (cells_from (at + 1) bytes) a)) (other_number a at (omega arith)) ∙
    held-none_below (at + 1) bytes a (omega arith)

pub held-none_above : (at : ℕ) (bytes : List ℕ) (a : ℕ) → at + length bytes ≤ a → held (cells_from at bytes) a ≡ None
held-none_above at [] a le = refl
held-none_above at (byte ∷ bytes) a le =
    ap (λ (b : Bool). cond b (Some byte) (held (cells_from (at + 1) bytes) a)) (other_number a at (omega arith)) ∙
    held-none_above (at + 1) bytes a (omega arith)

pub held-within : (at : ℕ) (bytes : List ℕ) (k : ℕ) → k < length bytes → held (cells_from at bytes) (at + k) ≡ Some (get_or bytes k 0)
held-within at [] k lt = absurd (omega arith)
held-within at (byte ∷ bytes) zero lt = ap (λ (b : Bool). cond b (Some byte) (held (cells_from (at + 1) bytes) (at + 0)))
    (same_number (at + 0) at (omega arith))
held-within at (byte ∷ bytes) (suc k) lt =
    ap (λ (b : Bool). cond b (Some byte) (held (cells_from (at + 1) bytes) (at + suc k))) (other_number (at + suc k) at (omega arith))
    ∙ ap (held (cells_from (at + 1) bytes)) (let is : at + suc k ≡ at + 1 + k = omega arith in is)
    ∙ held-within (at + 1) bytes k (omega arith)

-- what holds for each byte at its address holds for all cells
all_from : (P : Cell → Type 0) (at : ℕ) (bytes : List ℕ) → ((k : ℕ) → k < length bytes → P (record { at = at + k; byte = get_or bytes k 0 })) →
    All P (cells_from at bytes)
all_from P at [] each = All-nil P
all_from P at (byte ∷ bytes) each =
    All-cons P (record { at = at; byte = byte }) (cells_from (at + 1) bytes)
    (subst (λ (a : ℕ). P (record { at = a; byte = byte })) (let z : at + 0 ≡ at = omega arith in z) (each 0 (omega arith)))
    (all_from P (at + 1) bytes (λ k lt. subst (λ (a : ℕ). P (record { at = a; byte = get_or bytes k 0 })) (let z : at + suc k ≡ at + 1 + k = omega arith in z)
    (each (suc k) (omega arith))))

pub consistent_from : (at : ℕ) (bytes : List ℕ) → AreConsistent (cells_from at bytes)
consistent_from at bytes = all_from (λ (cell : Cell). held (cells_from at bytes) cell.at ≡ Some cell.byte) at bytes (λ k lt. held-within at bytes k lt)

pub held-run : (at : ℕ) (bytes : List ℕ) (a : ℕ) → held (cells_from at bytes) a ≡ byte_at (record { at = at; bytes = bytes } ∷ []) a
held-run at bytes a =
    let run : Run = record { at = at; bytes = bytes } in
    let no_run : holds run a ≡ false → byte_at (run ∷ []) a ≡ None = λ h. ap (λ (b : Bool). cond b (Some (byte_of run a)) None) h in
    ⊎_elim
    (λ (below : a < at). held-none_below at bytes a below ∙ sym (no_run (holds_no_lower run a below)))
    (λ (from : at ≤ a). ⊎_elim
    (λ (within : a < at + length bytes).
    let k = a - at in
    let is : at + k ≡ a = omega arith in
    ap (held (cells_from at bytes)) (sym is) ∙ held-within at bytes k (omega arith) ∙
    sym (ap (λ (b : Bool). cond b (Some (byte_of run a)) None) (holds_between run a from within)))
    (λ (above : at + length bytes ≤ a). held-none_above at bytes a above ∙ sym (no_run (holds_no_higher run a above)))
    (cases_lt a (at + length bytes)))
    (cases_lt a at)

or_else-cond : (b : Bool) (byte : ℕ) (o : Option ℕ) → cond b (Some byte) o ≡ or_else (cond b (Some byte) None) o
or_else-cond true byte o = refl
or_else-cond false byte o = refl

-- a map to which a piece was added has the piece's cells besides its own
pub held-laid : (at : ℕ) (bytes : List ℕ) (old new : List Run) (before : List Cell) → Lays (record { at = at; bytes = bytes }) old new →
    ((a : ℕ) → byte_at old a ≡ held before a) → (a : ℕ) → byte_at new a ≡ held (cells_from at bytes ++ before) a
held-laid at bytes old new before lays same a =
    let run : Run = record { at = at; bytes = bytes } in
    lays.union a
    ∙ or_else-cond (holds run a) (byte_of run a) (byte_at old a)
    ∙ ap (λ (o : Option ℕ). or_else o (byte_at old a)) (sym (held-run at bytes a))
    ∙ ap (or_else (held (cells_from at bytes) a)) (same a)
    ∙ sym (held-append (cells_from at bytes) before a)

-- cells that agree with those before them clash nowhere
pub clash-agreed : (o : Option ℕ) (cell : Cell) (later : Option Clash) → ((old : ℕ) → o ≡ Some old → old ≡ cell.byte) → clash_with o cell later ≡ later
clash-agreed None cell later agrees = refl
clash-agreed (Some old) cell later agrees = ap (λ (b : Bool). cond b later (Some (record { at = cell.at; old = old; new = cell.byte })))
    (same_number old cell.byte (agrees old refl))

pub no_clash : (at : ℕ) (bytes : List ℕ) (before : List Cell) → ((k old : ℕ) → k < length bytes → held before (at + k) ≡ Some old → old ≡ get_or bytes k 0) →
    first_clash before (cells_from at bytes) ≡ None
no_clash at [] before agrees = refl
no_clash at (byte ∷ bytes) before agrees =
    clash-agreed (held before at) (record { at = at; byte = byte }) (first_clash before (cells_from (at + 1) bytes))
    (λ old is. agrees 0 old (omega arith) (ap (held before) (let z : at + 0 ≡ at = omega arith in z) ∙ is))
    ∙ no_clash (at + 1) bytes before (λ k old lt is. agrees (suc k) old (omega arith)
    (ap (held before) (let z : at + suc k ≡ at + 1 + k = omega arith in z) ∙ is))

clash-unequal : (o : Option ℕ) (cell : Cell) (later : Option Clash) (old : ℕ) → o ≡ Some old → old ≢ cell.byte →
    clash_with o cell later ≡ Some (record { at = cell.at; old = old; new = cell.byte })
clash-unequal o cell later old is unequal =
    ap (λ (p : Option ℕ). clash_with p cell later) is ∙ ap (λ (b : Bool). cond b later (Some (record { at = cell.at; old = old; new = cell.byte })))
    (other_number old cell.byte unequal)

-- the clash of some cells is the first of them that doesn't agree
pub clash_at : (at : ℕ) (bytes : List ℕ) (before : List Cell) (n old : ℕ) → n < length bytes → held before (at + n) ≡ Some old → old ≢ get_or bytes n 0 →
    ((k other : ℕ) → k < n → held before (at + k) ≡ Some other → other ≡ get_or bytes k 0)
    → first_clash before (cells_from at bytes) ≡ Some (record { at = at + n; old = old; new = get_or bytes n 0 })
clash_at at [] before n old lt is unequal earlier = absurd (omega arith)
clash_at at (byte ∷ bytes) before zero old lt is unequal earlier =
    let z : at + 0 ≡ at = omega arith in
    clash-unequal (held before at) (record { at = at; byte = byte }) (first_clash before (cells_from (at + 1) bytes)) old (ap (held before) (sym z) ∙ is)
    unequal
    ∙ ap (λ (a : ℕ). Some (record { at = a; old = old; new = byte })) (sym z)
clash_at at (byte ∷ bytes) before (suc n) old lt is unequal earlier =
    let z : at + suc n ≡ at + 1 + n = omega arith in
    clash-agreed (held before at) (record { at = at; byte = byte }) (first_clash before (cells_from (at + 1) bytes))
    (λ other there. earlier 0 other (omega arith) (ap (held before) (let y : at + 0 ≡ at = omega arith in y) ∙ there))
    ∙ clash_at (at + 1) bytes before n old (omega arith) (ap (held before) (sym z) ∙ is) unequal
    (λ k other less there. earlier (suc k) other (omega arith) (ap (held before) (let y : at + suc k ≡ at + 1 + k = omega arith in y) ∙ there))
    ∙ ap (λ (a : ℕ). Some (record { at = a; old = old; new = get_or bytes n 0 })) (sym z)

-- what `lay` answers, in terms of cells
pub no_clash_laid : (at : ℕ) (bytes : List ℕ) (old new : List Run) (before : List Cell) → Lays (record { at = at; bytes = bytes }) old new →
    ((a : ℕ) → byte_at old a ≡ held before a) → first_clash before (cells_from at bytes) ≡ None
no_clash_laid at bytes old new before lays same =
    no_clash at bytes before (λ k byte lt is.
    let run : Run = record { at = at; bytes = bytes } in
    let back : at + k - at ≡ k = omega arith in
    lays.agrees (at + k) byte (omega (arith, lays.fits)) (holds_between run (at + k) (omega arith) (omega arith)) (same (at + k) ∙ is)
    ∙ ap (λ (n : ℕ). get_or bytes n 0) back)

pub clash_refused : (at : ℕ) (bytes : List ℕ) (image : List Run) (before : List Cell) (a old new : ℕ) →
    IsFirstClash (record { at = at; bytes = bytes }) image a old new → ((b : ℕ) → byte_at image b ≡ held before b)
    → first_clash before (cells_from at bytes) ≡ Some (record { at = a; old = old; new = new })
clash_refused at bytes image before a old new clash same =
    let run : Run = record { at = at; bytes = bytes } in
    let from = held_from run a clash.held in
    let to = held_to run a clash.held in
    let n = a - at in
    let there : at + n ≡ a = omega arith in
    let byte : get_or bytes n 0 ≡ new = clash.new_is in
    clash_at at bytes before n old (omega arith) (ap (held before) there ∙ sym (same a) ∙ clash.old_is)
    (λ e. clash.unequal (e ∙ byte))
    (λ k other less is.
    let back : at + k - at ≡ k = omega arith in
    clash.first (at + k) other (omega arith) (holds_between run (at + k) (omega arith) (omega arith)) (same (at + k) ∙ is) ∙
    ap (λ (m : ℕ). get_or bytes m 0) back)
    ∙ (λ i. Some (record { at = there i; old = old; new = byte i }))

first_clash-append_at : (before : List Cell) (o : Option ℕ) (x : Cell) (xs ys : List Cell) → clash_with o x (first_clash before xs) ≡ None →
    (first_clash before xs ≡ None → first_clash before (xs ++ ys) ≡ first_clash before ys) →
    clash_with o x (first_clash before (xs ++ ys)) ≡ first_clash before ys
first_clash-append_at before None x xs ys none later = later none
first_clash-append_at before (Some old) x xs ys none later =
    elim (old == x.byte) as (λ (b : Bool). cond b (first_clash before xs) (Some (record { at = x.at; old = old; new = x.byte })) ≡ None →
    cond b (first_clash before (xs ++ ys)) (Some (record { at = x.at; old = old; new = x.byte })) ≡ first_clash before ys)
    [ true ↦ later | false ↦ λ not_none. absurd (cc) ] none

pub first_clash-append : (before xs ys : List Cell) → first_clash before xs ≡ None → first_clash before (xs ++ ys) ≡ first_clash before ys
first_clash-append before [] ys none = refl
first_clash-append before (x ∷ xs) ys none = first_clash-append_at before (held before x.at) x xs ys none (λ later. first_clash-append before xs ys later)

-- what `lay` answers, for the cells of the old image
pub laid_ok : (at : ℕ) (bytes : List ℕ) (old new : List Run) → Lays (record { at = at; bytes = bytes }) old new
    → (before : List Cell) → IsImageOf before old → (first_clash before (cells_from at bytes) ≡ None) × IsImageOf (cells_from at bytes ++ before) new
laid_ok at bytes old new lays before image =
    (no_clash_laid at bytes old new before lays image.same, record { maximal = lays.maximal; same = held-laid at bytes old new before lays image.same })

pub laid_clash : (at : ℕ) (bytes : List ℕ) (old : List Run) (a o n : ℕ) → IsLayFault (record { at = at; bytes = bytes }) old (Conflict a o n)
    → (before : List Cell) → IsImageOf before old → first_clash before (cells_from at bytes) ≡ Some (record { at = a; old = o; new = n })
laid_clash at bytes old a o n is before image = clash_refused at bytes old before a o n is.1 image.same

first_clash-some_at : (before : List Cell) (o : Option ℕ) (x : Cell) (xs ys : List Cell) (c : Clash) → clash_with o x (first_clash before xs) ≡ Some c →
    (first_clash before xs ≡ Some c → first_clash before (xs ++ ys) ≡ Some c) → clash_with o x (first_clash before (xs ++ ys)) ≡ Some c
first_clash-some_at before None x xs ys c is later = later is
first_clash-some_at before (Some old) x xs ys c is later =
    elim (old == x.byte) as (λ (b : Bool). cond b (first_clash before xs) (Some (record { at = x.at; old = old; new = x.byte })) ≡ Some c →
    cond b (first_clash before (xs ++ ys)) (Some (record { at = x.at; old = old; new = x.byte })) ≡ Some c) [ true ↦ later | false ↦ λ there. there ] is

-- a clash of the first cells is a clash of all
pub first_clash-some : (before xs ys : List Cell) (c : Clash) → first_clash before xs ≡ Some c → first_clash before (xs ++ ys) ≡ Some c
first_clash-some before [] ys c is = let nothing : None ≡ Some c = is in absurd (cc)
first_clash-some before (x ∷ xs) ys c is = first_clash-some_at before (held before x.at) x xs ys c is (λ later. first_clash-some before xs ys c later)
