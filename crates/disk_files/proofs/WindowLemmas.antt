-- Windows of cells: a window that was read answers as the file does.
use Rattle.std.proofs.Common.{◌≡◌, ◌≤◌, ◌+◌, ◌-◌, ◌∙◌, ⊎_elim, ap, sym, subst, refl, ℕ, List, ◌++◌, length, take, drop, arith, append_assoc, length-take}
use Rattle.std.proofs.Common.{length-drop, length-append}
use Rattle.std.proofs.Math.Seq.{take-add}
use Rattle.std.proofs.lemmas.Bool.{cases_lt}
use Rattle.std.proofs.lemmas.List.{take-take, drop-drop, drop-take, take-append-drop, take_all, take_at, drop_at}
use Rattle.bench_model.specs.Calls.{written, Torn}
use Rattle.disk_files.specs.Window.{IsCopy}

-- a window with no cells is a copy
pub copy_none : (at len : ℕ) (bytes held : List ℕ) → len ≡ 0 → IsCopy at len bytes held
copy_none at len bytes held none = subst (λ (n : ℕ). IsCopy at n bytes held) (sym none) refl

-- some cells of a window are those of the file
pub copied : (at len place index n : ℕ) (bytes held : List ℕ) → IsCopy at len bytes held → index + n ≤ len → at + index ≡ place
    → take n (drop index bytes) ≡ take n (drop place held)
copied at len place index n bytes held copy inside is =
    piece bytes ∙ ap (λ (l : List ℕ). take n (drop index l)) copy ∙ sym (piece (drop at held)) ∙ ap (λ (l : List ℕ). take n l) (drop-drop index at held)
    ∙ ap (λ (k : ℕ). take n (drop k held)) is
  where
    piece : (xs : List ℕ) → take n (drop index xs) ≡ take n (drop index (take len xs))
    piece xs =
        let m = len - index in
        let less : n ≤ m = omega (arith, inside) in
        let whole : index + m ≡ len = omega (arith, inside) in
        sym (take-take n m (drop index xs) less) ∙ ap (λ (l : List ℕ). take n l) (sym (drop-take index m xs))
        ∙ ap (λ (k : ℕ). take n (drop index (take k xs))) whole

-- bytes written over the first cells of a row
laid : (i L : ℕ) (part xs : List ℕ) → i + length part ≤ L → L ≤ length xs → take L (written i part xs) ≡ written i part (take L xs)
laid i L part xs inside long =
    let k = i + length part in
    let m = L - k in
    let whole : k + m ≡ L = omega (arith, inside) in
    let front : i ≤ L = omega (arith, inside) in
    let head : length (take i xs ++ part) ≡ k = omega (arith, length-append (take i xs) part, length-take i xs, inside, long) in
    ap (λ (n : ℕ). take n (written i part xs)) (sym whole)
    ∙ take-add k m (written i part xs)
    ∙ ap (λ (l : List ℕ). l ++ take m (drop k (written i part xs))) (take_at (take i xs ++ part) (drop k xs) k head)
    ∙ ap (λ (l : List ℕ). (take i xs ++ part) ++ take m l) (drop_at (take i xs ++ part) (drop k xs) k head)
    ∙ ap (λ (l : List ℕ). (take i xs ++ part) ++ l) (sym (drop-take k m xs))
    ∙ ap (λ (n : ℕ). (take i xs ++ part) ++ drop k (take n xs)) whole
    ∙ ap (λ (l : List ℕ). (l ++ part) ++ drop k (take L xs)) (sym (take-take i L xs front))

-- a row written at a later place, seen from an earlier one
moved : (at i : ℕ) (part held : List ℕ) → at + i ≤ length held → drop at (written (at + i) part held) ≡ written i part (drop at held)
moved at i part held inside =
    let A = take at held in
    let B = take i (drop at held) in
    let n = at + i + length part in
    let D = drop n held in
    let long : length A ≡ at = omega (arith, length-take at held, inside) in
    let further : at + (i + length part) ≡ n = omega arith in
    ap (λ (l : List ℕ). drop at ((l ++ part) ++ D)) (take-add at i held)
    ∙ ap (λ (l : List ℕ). drop at l) (append_assoc (A ++ B) part D ∙ append_assoc A B (part ++ D))
    ∙ drop_at A (B ++ (part ++ D)) at long
    ∙ sym (append_assoc B part D)
    ∙ ap (λ (m : ℕ). (B ++ part) ++ drop m held) (sym further)
    ∙ ap (λ (l : List ℕ). (B ++ part) ++ l) (sym (drop-drop (i + length part) at held))

-- a window that follows a write
pub followed : (at len place index : ℕ) (part bytes held : List ℕ) → IsCopy at len bytes held → index + length part ≤ len → len ≤ length bytes →
    at + index ≡ place
    → IsCopy at len (written index part bytes) (written place part held)
followed at len place index part bytes held copy inside fits is = ⊎_elim
    (λ some.
    let reach : len ≤ length (drop at held) = omega (arith, ap length copy, length-take len bytes, length-take len (drop at held), fits) in
    let within : at + index ≤ length held = omega (arith, reach, length-drop at held, inside, some) in
    laid index len part bytes inside fits
    ∙ ap (λ (l : List ℕ). written index part l) copy
    ∙ sym (laid index len part (drop at held) inside reach)
    ∙ ap (λ (l : List ℕ). take len l) (sym (moved at index part held within))
    ∙ ap (λ (p : ℕ). take len (drop at (written p part held))) is)
    (λ none. let e : len ≡ 0 = omega (arith, none) in copy_none at len (written index part bytes) (written place part held) e)
    (cases_lt 0 len)

-- a window that was read
pub filled : (at n : ℕ) (before after held : List ℕ) → after ≡ take n (drop at held) ++ drop n before → length after ≡ length before → n ≤ length before →
    IsCopy at n after held
filled at n before after held is long fits =
    let piece : length (take n (drop at held)) ≡ n = omega (
      arith,
      ap length is,
      length-append (take n (drop at held)) (drop n before),
      length-drop n before,
      long,
      fits,
    ) in
    ap (λ (l : List ℕ). take n l) is ∙ take_at (take n (drop at held)) (drop n before) n piece

-- a write of all bytes
pub wrote : (at n : ℕ) (bytes old new : List ℕ) → n ≡ length bytes → take (at + n) new ≡ take at old ++ take n bytes → Torn at (length bytes) old new
    → new ≡ written at bytes old
wrote at n bytes old new is some torn =
    let whole : take (at + length bytes) new ≡ take at old ++ bytes
    = ap (λ (m : ℕ). take (at + m) new) (sym is) ∙ some ∙ ap (λ (l : List ℕ). take at old ++ l) (take_all n bytes (omega (arith, is))) in
    sym (take-append-drop (at + length bytes) new)
    ∙ ap (λ (l : List ℕ). l ++ drop (at + length bytes) new) whole
    ∙ ap (λ (l : List ℕ). (take at old ++ bytes) ++ l) torn.after

-- a window that follows what a write left
pub follows : (at len place index n : ℕ) (part bytes after old new : List ℕ) → after ≡ written index part bytes → n ≡ length part → IsCopy at len bytes old
    → index + length part ≤ len → len ≤ length bytes → at + index ≡ place → take (place + n) new ≡ take place old ++ take n part →
    Torn place (length part) old new
    → IsCopy at len after new
follows at len place index n part bytes after old new laid_is is copy inside fits there some torn =
    subst (λ (l : List ℕ). IsCopy at len l new) (sym laid_is)
    (subst (λ (l : List ℕ). IsCopy at len (written index part bytes) l) (sym (wrote place n part old new is some torn))
    (followed at len place index part bytes old copy inside fits there))
