-- A call that syncs the job file first, and what comes after it.
use Rattle.std.proofs.Common.{◌≡◌, ◌∙◌, Bool, true, IsTrue, Ok, Err, refl}
use Rattle.std.proofs.lemmas.Bool.{false≢true}
use Rattle.std.proofs.lemmas.Result.{on_ok_weaker, on_err_weaker}
use Rattle.bench_model.specs.Act.{Act, FileSync}
use Rattle.bench_model.specs.Does.{SyncsFile}
use Rattle.bench_model.specs.History.{GoesOn}
use Rattle.bench_model.specs.State.{BenchState, file_half}
use Rattle.bench_model.specs.declared.bench_fault.StoreFault.{StoreFault}
use Rattle.bench_model.proofs.Moments.{goes_then}
use Rattle.bench_model.specs.Counted.{is_store_fault}
use Rattle.job_file.specs.declared.fault.LookFault.{LookFault}
use Rattle.job_file.specs.declared.fault.LookFault.TheVariants as look
use Rattle.job_file.specs.declared.fault.OpenFault.{OpenFault}
use Rattle.job_file.specs.declared.fault.OpenFault.TheVariants as opening
use Rattle.job_file.specs.Counted.{look_fault, open_fault, begin_fault}
use Rattle.job_file.specs.Faults.{open_of, begin_of}
use Rattle.job_file.specs.First.{SyncsFirst}

-- the sync failed, and nothing else was called
pub syncs_alone : {B : Type 0} {tells : Bool} {state : B → BenchState} {acts : B → Act → B → Type 0} {a b : B} {e : StoreFault} {F : Type 0}
    → acts a (FileSync (Err e)) b → SyncsFile {T = Unit {0}} tells (state a) (state b) (Err e) → F → SyncsFirst tells state acts a b F
syncs_alone {b = b} {e = e} acted does fault = record {
  result = Err e;
  synced = b;
  acted = acted;
  does = does;
  failed = (refl, fault);
  goes_on = λ told. tt;
}

-- the sync went through, and other calls come after it
pub syncs_on : {B : Type 0} {tells : Bool} {state : B → BenchState} {acts : B → Act → B → Type 0} {a c : B} {u : Unit {0}} {F : Type 0} (b : B)
    → acts a (FileSync (Ok u)) b → SyncsFile tells (state a) (state b) (Ok u) → (IsTrue tells → GoesOn (file_half (state b)) (file_half (state c)))
    → SyncsFirst tells state acts a c F
syncs_on {u = u} b acted does more = record {
  result = Ok u;
  synced = b;
  acted = acted;
  does = does;
  failed = tt;
  goes_on = more;
}

-- more calls come after the first one, unless its sync failed
pub syncs_then : {B : Type 0} {tells : Bool} {state : B → BenchState} {acts : B → Act → B → Type 0} {a b c : B} {F G : Type 0}
    → SyncsFirst tells state acts a b F → (F → (c ≡ b) × G) → (IsTrue tells → GoesOn (file_half (state b)) (file_half (state c)))
    → SyncsFirst tells state acts a c G
syncs_then one ends more = record {
  result = one.result;
  synced = one.synced;
  acted = one.acted;
  does = one.does;
  failed = on_err_weaker one.result (λ p. let q = ends p.1 in (q.0 ∙ p.0, q.1)) one.failed;
  goes_on = λ told. on_ok_weaker one.result (λ on. goes_then on (more told)) (one.goes_on told);
}

-- the fault of the job file, under another name
pub syncs_as : {B : Type 0} {tells : Bool} {state : B → BenchState} {acts : B → Act → B → Type 0} {a b : B} {F G : Type 0}
    → SyncsFirst tells state acts a b F → (F → G) → SyncsFirst tells state acts a b G
syncs_as one ends = record {
  result = one.result;
  synced = one.synced;
  acted = one.acted;
  does = one.does;
  failed = on_err_weaker one.result (λ p. (p.0, ends p.1)) one.failed;
  goes_on = one.goes_on;
}

-- The fault of the job file, and no other, by its names.

pub open_file_fault : (fault : LookFault) → is_store_fault (look_fault fault) ≡ true → is_store_fault (open_fault (open_of fault)) ≡ true
open_file_fault look.OutOfMemory is = absurd (false≢true is)
open_file_fault look.StoreFault is = refl

pub begin_file_fault : (fault : LookFault) → is_store_fault (look_fault fault) ≡ true → is_store_fault (begin_fault (begin_of fault)) ≡ true
begin_file_fault look.OutOfMemory is = absurd (false≢true is)
begin_file_fault look.StoreFault is = refl

pub is_open_fault : (fault : OpenFault) → is_store_fault (open_fault fault) ≡ true → fault ≡ opening.StoreFault
is_open_fault opening.StoreFault is = refl
is_open_fault fault is = absurd (false≢true is)
