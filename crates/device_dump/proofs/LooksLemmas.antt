-- An operation is broken off, and then the cells are read.
use Rattle.std.proofs.Common.{◌≡◌, ◌∙◌, sym, subst, refl, arith, inl, inr, ℕ, Bool, IsTrue, OnOk, List, length, take, drop, Result, Ok, Err}
use Rattle.std.proofs.lemmas.List.{take_all}
use Rattle.faults.specs.Counts.{Rose, HasCause}
use Rattle.bench_model.specs.State.{BenchState, SameOutside}
use Rattle.bench_model.specs.Does.{DropsCells, ReadsCells}
use Rattle.bench_model.specs.declared.bench_fault.DeviceFault.{DeviceFault}
use Rattle.bench_model.proofs.Moments.{adds_nothing_then, file_stays_then}
use Rattle.readback.specs.Readback.{OnlyReadsCells}
use Rattle.command_files.specs.Call.{bench_call}
use Rattle.device_dump.specs.Looks.{IsBrokenOff, LooksAtCells}

-- the break-off of the operation failed
pub looks_dropped : {A T : Type 0} {tells : Bool} {a b : BenchState} (fault : DeviceFault) → DropsCells {T = T} tells a b (Err fault)
    → LooksAtCells {A = A} (bench_call tells a b) (Err fault)
looks_dropped fault drops = record {
  ok = tt;
  err = inr (record { operation = λ told. (drops.err told).operation; cells = λ told. (drops.err told).cells });
  file = drops.file;
  count = drops.count;
  stops = drops.moments;
  cause = record { later = drops.cause.later; on_fault = λ is. drops.cause.on_fault refl; on_ok = λ is. absurd (cc) };
}

module _ {T : Type 0} {tells : Bool} {a b c : BenchState} (done : T) (drops : DropsCells {T = T} tells a b (Ok done)) (reads : OnlyReadsCells tells b c) where
  broken_off : IsBrokenOff (bench_call tells a c)
  broken_off = record {
    idle = λ told. reads.operation told ∙ (drops.ok told).operation;
    outside = λ told. subst (λ (cells : List ℕ). SameOutside a.operation a.cells cells) (sym (reads.cells told)) (drops.ok told).cells;
  }

  pub looks_by : {A : Type 0} (result : Result A DeviceFault) → HasCause b.device_faults c.device_faults result → LooksAtCells (bench_call tells a c) result
  looks_by (Ok x) cause = record {
    ok = broken_off;
    err = tt;
    file = file_stays_then drops.file reads.file;
    count = reads.count ∙ drops.count;
    stops = adds_nothing_then drops.moments reads.moments;
    cause = record {
      later = omega (arith, cause.later, drops.cause.later);
      on_fault = λ is. absurd (cc);
      on_ok = λ is. cause.on_ok refl ∙ drops.cause.on_ok refl;
    };
  }
  looks_by (Err e) cause = record {
    ok = tt;
    err = inl broken_off;
    file = file_stays_then drops.file reads.file;
    count = reads.count ∙ drops.count;
    stops = adds_nothing_then drops.moments reads.moments;
    cause = record {
      later = omega (arith, cause.later, drops.cause.later);
      on_fault = λ is. subst (λ (n : ℕ). Rose n c.device_faults) (drops.cause.on_ok refl) (cause.on_fault refl);
      on_ok = λ is. absurd (cc);
    };
  }

-- all cells that were read are the cells

pub only_reads : {T : Type 0} {tells : Bool} {a b : BenchState} {at : ℕ} {before after : List ℕ} {result : Result T DeviceFault}
    → ReadsCells {T = T} tells a b at before after result → OnlyReadsCells tells a b
only_reads reads = record { cells = reads.cells; operation = reads.operation; count = reads.count; moments = reads.moments; file = reads.file }

pub all_read : {T : Type 0} {tells : Bool} {a b : BenchState} (before after : List ℕ) (result : Result T DeviceFault)
    → ReadsCells {T = T} tells a b 0 before after result → (IsTrue tells → length a.cells ≡ length before) → IsTrue tells → OnOk result (b.cells ≡ after)
all_read {a = a} {b = b} before after (Ok u) reads all told =
    let same : take (length before) (drop 0 a.cells) ≡ a.cells = take_all (length before) a.cells (omega (arith, all told)) in
    reads.cells told ∙ sym same ∙ sym (reads.ok told)
all_read before after (Err e) reads all told = tt
