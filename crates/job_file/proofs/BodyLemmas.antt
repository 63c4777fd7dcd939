-- The parts of a body are appended one after the other, as `put_body` and its parts write them.
use Rattle.std.proofs.Common.{◌≡◌, ◌≤◌, ◌<◌, ◌+◌, ◌-◌, ◌*◌, ◌^◌, ◌∙◌, ℕ, Bool, IsTrue, List, [], ◌∷◌, ◌++◌, length, take, drop, Result, Ok, Err, refl, sym, ap}
use Rattle.std.proofs.Common.{arith, append_assoc, length-append}
use Rattle.std.specs.List.{flat_map}
use Rattle.std.specs.Prelude.{slice_get, Some}
use Rattle.std.proofs.lemmas.Result.{on_ok_weaker}
use Rattle.std.proofs.lemmas.List.{append-nil, take_all, drop_all, length-take}
use Rattle.std.proofs.lemmas.List.Concat.{flat_map-cons}
use Rattle.bench_model.specs.History.{Leaves, LeftOnly}
use Rattle.bench_model.specs.State.{BenchState, file_half}
use Rattle.bench_model.specs.Calls.{written, Torn, Follows}
use Rattle.bench_model.specs.Does.{WritesFile}
use Rattle.bench_model.specs.declared.bench_fault.StoreFault.{StoreFault}
use Rattle.bench_model.proofs.Moments.{leaves_as, leaves_then, leaves_left, leaves_step, cells_stay_then}
use Rattle.faults.proofs.CountLemmas.{Rose-after}
use Rattle.byte_map.specs.Image.{Run, AreMaximal, end_of}
use Rattle.byte_map.proofs.Runs.{maximal_take}
use Rattle.job_text.specs.Body.{run_text}
use Rattle.job_text.proofs.PartLemmas.{more_runs}
use Rattle.job_file.specs.Stops.{IsShut, KeepsGate, Appends}
use Rattle.job_file.proofs.PutLemmas.{gate_kept}

abbrev pub well : {E : Type 0} → Result (Unit {0}) E
well = Ok tt

-- two parts are appended, one after the other
pub appends_then : {T U : Type 0} (tells : Bool) (a b c : BenchState) (x y : List ℕ) (u : T) (r : Result U StoreFault) → Appends {T = T} tells a b x (Ok u)
    → Appends tells b c y r → Appends tells a c (x ++ y) r
appends_then tells a b c x y u r one two = record {
  ok = λ told. on_ok_weaker r (λ (is : c.file ≡ b.file ++ y). is ∙ ap (λ (l : List ℕ). l ++ y) (one.ok told) ∙ append_assoc a.file x y) (two.ok told);
  moments = leaves_then (Follows KeepsGate (file_half a)) one.moments
      (leaves_as (Follows KeepsGate (file_half b)) (Follows KeepsGate (file_half a))
      (λ f (d, was, kept). let (d0, was0, kept0) = leaves_left (Follows KeepsGate (file_half a)) one.moments d was in (d0, was0, kept ∙ kept0))
      two.moments);
  cells = cells_stay_then one.cells two.cells;
  cause = record {
    later = omega (arith, one.cause.later, two.cause.later);
    on_fault = λ fault. Rose-after a.store_faults b.store_faults c.store_faults one.cause.later (two.cause.on_fault fault);
    on_ok = λ ok. two.cause.on_ok ok ∙ one.cause.on_ok refl;
  };
}

-- where the append of a part fails, the append of the whole fails
pub appends_fails : {T U : Type 0} (tells : Bool) (a b : BenchState) (x z : List ℕ) (e : StoreFault) → Appends {T = T} tells a b x (Err e)
    → Appends {T = U} tells a b z (Err e)
appends_fails tells a b x z e one = record {
  ok = λ told. tt;
  moments = one.moments;
  cells = one.cells;
  cause = record { later = one.cause.later; on_fault = λ fault. one.cause.on_fault refl; on_ok = λ ok. absurd cc };
}

-- no byte is appended
pub appends_nothing : (tells : Bool) (s : BenchState) → Appends tells s s [] well
appends_nothing tells s = record {
  ok = λ told. sym (append-nil s.file);
  moments = Rattle.bench_model.proofs.Moments.leaves_here (file_half s) (Follows KeepsGate (file_half s)) (λ f was. (f, was, refl));
  cells = Rattle.bench_model.proofs.Moments.cells_stay_here s;
  cause = record { later = omega arith; on_fault = λ fault. absurd cc; on_ok = λ ok. refl };
}

-- the append of equal bytes, with another value in its Ok
pub appends_as : {T U : Type 0} (tells : Bool) (a b : BenchState) (x y : List ℕ) (t : T) (u : U) → x ≡ y → Appends {T = T} tells a b x (Ok t)
    → Appends {T = U} tells a b y (Ok u)
appends_as tells a b x y t u is one = record {
  ok = λ told. one.ok told ∙ ap (λ (l : List ℕ). a.file ++ l) is;
  moments = one.moments;
  cells = one.cells;
  cause = record { later = one.cause.later; on_fault = λ fault. absurd cc; on_ok = λ ok. one.cause.on_ok refl };
}

-- where the file ends after an append
pub appended_end : {T : Type 0} (tells : Bool) (a b : BenchState) (x : List ℕ) (t : T) (at next : ℕ) → Appends {T = T} tells a b x (Ok t)
    → (IsTrue tells → length a.file ≡ at) → next ≡ at + length x → IsTrue tells → length b.file ≡ next
appended_end tells a b x t at next one ends is told = ap (λ (l : List ℕ). length l) (one.ok told) ∙ length-append a.file x ∙ omega (arith, ends told, is)

-- a write from byte 1 on keeps the gate at each moment
pub part_moments : (s t : BenchState) (at n : ℕ) → 1 ≤ at → Leaves (file_half s) (file_half t) (Follows (Torn at n) (file_half s))
    → Leaves (file_half s) (file_half t) (Follows KeepsGate (file_half s))
part_moments s t at n some moments = leaves_as (Follows (Torn at n) (file_half s)) (Follows KeepsGate (file_half s))
    (λ f (d, was, torn). (d, was, gate_kept at n d f some torn)) moments

-- a closed gate stays closed while calls keep it
pub shut_by_parts : (s t : BenchState) → LeftOnly (0 ∷ []) (file_half s) → Leaves (file_half s) (file_half t) (Follows KeepsGate (file_half s))
    → Leaves (file_half s) (file_half t) IsShut
shut_by_parts s t only moments = leaves_step KeepsGate IsShut (0 ∷ []) (0 ∷ []) only refl (λ f kept. kept) moments

-- ---- the runs of an image

-- the text of maximal runs between `low` and `end` is at most five times as long as that range with one address more
pub short_text : (low end : ℕ) (rs : List Run) → AreMaximal low end rs → length (flat_map run_text rs) ≤ 5 * (end + 1 - low)
short_text low end [] m = omega arith
short_text low end (r ∷ rs) m =
    let rest = short_text (end_of r + 1) end rs m.3 in
    let split : length (flat_map run_text (r ∷ rs)) ≡ length (run_text r) + length (flat_map run_text rs) =
    ap (λ (l : List ℕ). length l) (flat_map-cons run_text r rs) ∙ length-append (run_text r) (flat_map run_text rs) in
    let one : length (run_text r) ≡ 8 + length r.bytes = omega arith in
    omega (arith, rest, split, one, m.0, m.1, m.2)

pub short_front : (rs : List Run) (n : ℕ) → AreMaximal 0 (2 ^ 32) rs → length (flat_map run_text (take n rs)) ≤ 5 * (2 ^ 32 + 1)
short_front rs n m = short_text 0 (2 ^ 32) (take n rs) (maximal_take 0 (2 ^ 32) rs n m)

-- the first `put` runs of the image are written
pub record RunsPut (tells : Bool) (start now : BenchState) (from at : ℕ) (image : List Run) (put : ℕ) : Type 0 where
  pub appends : Appends tells start now (flat_map run_text (take put image)) well
  pub ends : at ≡ from + length (flat_map run_text (take put image))
  pub bound : at ≤ from + 5 * (2 ^ 32 + 1)

-- one more run is written
pub run_put : (tells : Bool) (start now then : BenchState) (from at : ℕ) (image : List Run) (put : ℕ) (r : Run) (next : ℕ) → AreMaximal 0 (2 ^ 32) image
    → put < length image → slice_get image put ≡ Some r → RunsPut tells start now from at image put
    → Appends tells now then (run_text r) well → next ≡ at + (8 + length r.bytes) → RunsPut tells start then from next image (put + 1)
run_put tells start now then from at image put r next m lt is so_far one next_is =
    let text = flat_map run_text (take put image) in
    let more : text ++ run_text r ≡ flat_map run_text (take (put + 1) image) = more_runs image put r [] text (text ++ run_text r) lt is refl refl in
    let ends : next ≡ from + length (flat_map run_text (take (put + 1) image)) =
    omega (arith, next_is, so_far.ends, ap (λ (l : List ℕ). length l) more, length-append text (run_text r)) in
    record {
      appends = appends_as tells start then (text ++ run_text r) (flat_map run_text (take (put + 1) image)) tt tt more
          (appends_then tells start now then text (run_text r) tt well so_far.appends one);
      ends = ends;
      bound = omega (arith, ends, short_front image (put + 1) m);
    }

-- bytes that are written at the end of a file are appended
pub written_end : (at : ℕ) (bytes old : List ℕ) → length old ≡ at → written at bytes old ≡ old ++ bytes
written_end at bytes old end =
    let rest : drop (at + length bytes) old ≡ [] = drop_all (at + length bytes) old (omega (arith, end)) in
    ap (λ (l : List ℕ). l ++ bytes ++ drop (at + length bytes) old) (take_all at old (omega (arith, end))) ∙ ap (λ (l : List ℕ). old ++ bytes ++ l) rest
    ∙ append-nil (old ++ bytes)

-- a write at the end of the file is an append
pub written_part : {T : Type 0} (tells : Bool) (s t : BenchState) (at : ℕ) (bytes : List ℕ) (r : Result T StoreFault)
    → 1 ≤ at → (IsTrue tells → length s.file ≡ at) → WritesFile tells s t at bytes r → Appends tells s t bytes r
written_part tells s t at bytes r some end does = record {
  ok = λ told. on_ok_weaker r (λ (is : t.file ≡ written at bytes s.file). is ∙ written_end at bytes s.file (end told)) (does.ok told);
  moments = part_moments s t at (length bytes) some does.moments;
  cells = does.cells;
  cause = does.cause;
}

-- the lengths of the four parts before the snapshot
pub four_parts : (a b c d : List ℕ) → length (a ++ b ++ c ++ d) ≡ length a + length b + length c + length d
four_parts a b c d = omega (arith, length-append (a ++ b ++ c) d, length-append (a ++ b) c, length-append a b)

-- where the file ends once `at` cells are written after the front
pub body_end : (front cells file : List ℕ) (at behind : ℕ) → file ≡ 0 ∷ (front ++ take at cells) → behind ≡ 1 + length front → at ≤ length cells
    → length file ≡ behind + at
body_end front cells file at behind is begins le = omega (
  arith,
  ap (λ (l : List ℕ). length l) is,
  length-append front (take at cells),
  length-take at cells,
  begins,
  le,
)
