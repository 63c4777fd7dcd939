-- Where a piece and a map have unequal bytes. `add` refuses a piece at the least such place.
use Rattle.std.proofs.Common.{◌≡◌, ⊎_elim, ◌≤◌, ◌<◌, ◌^◌, ℕ, List, length, Some, None, sym, ap, subst, ◌∙◌, cond, Bool, true, false, arith}
use Rattle.std.specs.Prelude.{IsTrue}
use Rattle.std.proofs.lemmas.Bool.{cases_lt}
use Rattle.byte_map.specs.Image.{Run, run_at, end_of, holds, byte_of, byte_at, AreMaximal}
use Rattle.byte_map.specs.Laying.{AgreesBelow, AgreesWithRun, ClashesWithRun, IsFirstClash, Lays}
use Rattle.byte_map.proofs.Runs.{holds_no_lower, holds_no_higher, held_from, held_to, rising, none_of, found_in, holder}

-- a piece that agrees with each run agrees with the map
pub agrees_all : (piece : Run) (runs : List Run) → ((k : ℕ) → k < length runs → AgreesWithRun piece (run_at runs k) (2 ^ 32)) → AgreesBelow piece runs (2 ^ 32)
agrees_all piece runs each a byte lt held is =
    let (k, within, in_run, byte_is) = holder runs a byte is in byte_is ∙ each k within a lt held in_run

earlier_agrees : (piece : Run) (runs : List Run) (k at old new : ℕ) → AreMaximal 0 (2 ^ 32) runs → end_of piece ≤ 2 ^ 32 → k < length runs →
    ((j : ℕ) → j < k → AgreesWithRun piece (run_at runs j) (2 ^ 32)) → ClashesWithRun piece (run_at runs k) at old new
    → (a j : ℕ) → a < at → IsTrue (holds piece a) → j < length runs → holds (run_at runs j) a ≡ true → byte_of (run_at runs j) a ≡ byte_of piece a
earlier_agrees piece runs k at old new m fits lt earlier clash a j below held within in_run =
    let from = held_from (run_at runs j) a in_run in
    let to = held_to (run_at runs k) at clash.run_held in
    let inside = held_to piece a held in
    ⊎_elim (λ (less : j < k). earlier j less a (omega arith) held in_run)
    (λ (ge : k ≤ j). ⊎_elim
    (λ (more : k < j). let up = rising 0 (2 ^ 32) runs k j m more within in absurd (omega (arith, up)))
    (λ (le : j ≤ k). let is : k ≡ j = omega arith in subst (λ (n : ℕ). holds (run_at runs n) a ≡ true → byte_of (run_at runs n) a ≡ byte_of piece a) is
    (clash.first a below held) in_run)
    (cases_lt k j))
    (cases_lt j k)

-- the first clash with a run is the first with the map, where the piece agrees with all earlier runs
pub first_of : (piece : Run) (runs : List Run) (k at old new : ℕ) → AreMaximal 0 (2 ^ 32) runs → end_of piece ≤ 2 ^ 32 → k < length runs →
    ((j : ℕ) → j < k → AgreesWithRun piece (run_at runs j) (2 ^ 32)) → ClashesWithRun piece (run_at runs k) at old new → IsFirstClash piece runs at old new
first_of piece runs k at old new m fits lt earlier clash =
    record {
      held = clash.held;
      old_is = found_in 0 (2 ^ 32) runs k at m lt clash.run_held ∙ ap (λ (n : ℕ). Some n) clash.old_is;
      new_is = clash.new_is;
      unequal = clash.unequal;
      first = λ a byte below held is.
          let (j, within, in_run, byte_is) = holder runs a byte is in
          byte_is ∙ earlier_agrees piece runs k at old new m fits lt earlier clash a j below held within in_run;
    }

-- the map has no byte between two runs
pub none_between : (runs : List Run) (index a : ℕ) → ((k : ℕ) → k < index → end_of (run_at runs k) ≤ a) →
    ((k : ℕ) → index ≤ k → k < length runs → a < (run_at runs k).at) → byte_at runs a ≡ None
none_between runs index a low high =
    none_of runs a (λ k lt. ⊎_elim (λ (less : k < index). holds_no_higher (run_at runs k) a (low k less))
    (λ (ge : index ≤ k). holds_no_lower (run_at runs k) a (high k ge lt)) (cases_lt k index))

-- a piece has no address in common with a run that ends below it, or begins above it
pub agrees_above : (piece run : Run) (limit : ℕ) → end_of run < piece.at → AgreesWithRun piece run limit
agrees_above piece run limit above a lt held in_run = let from = held_from piece a held in let to = held_to run a in_run in absurd (omega arith)

pub agrees_below : (piece run : Run) (limit : ℕ) → end_of piece < run.at → AgreesWithRun piece run limit
agrees_below piece run limit below a lt held in_run = let from = held_from run a in_run in let to = held_to piece a held in absurd (omega arith)

nowhere : (piece : Run) (a : ℕ) → length piece.bytes ≡ 0 → holds piece a ≡ false
nowhere piece a empty =
    ⊎_elim (λ (below : a < piece.at). holds_no_lower piece a below) (λ (from : piece.at ≤ a). holds_no_higher piece a (omega arith)) (cases_lt a piece.at)

-- a piece without a byte adds nothing
pub lays_empty : (piece : Run) (runs : List Run) → end_of piece ≤ 2 ^ 32 → length piece.bytes ≡ 0 → AreMaximal 0 (2 ^ 32) runs → Lays piece runs runs
lays_empty piece runs fits empty m =
    record {
      fits = fits;
      agrees = λ a byte lt held is. let from = held_from piece a held in let to = held_to piece a held in absurd (omega arith);
      union = λ a. sym (ap (λ (b : Bool). cond b (Some (byte_of piece a)) (byte_at runs a)) (nowhere piece a empty));
      maximal = m;
    }
