-- Accesses of a bench one after another, and the access or tick that each call of the bench is.
use Rattle.std.proofs.Common.{◌≡◌, ◌+◌, ◌↔◌, ℕ, Bool, false, IsTrue, List, length, take, drop, Option, Some, None, Result, refl, sym, ap, subst, arith, ◌∙◌}
use Rattle.std.proofs.Common.{◌⊎◌, inl, inr, ⊎_elim, true, Ok, Err}
use Rattle.std.proofs.lemmas.Bool.{false≢true}
use Rattle.faults.specs.Counts.{Rose, HasCause}
use Rattle.bench_model.specs.declared.bench_fault.BusEnd.{BusEnd}
use Rattle.bench_model.specs.declared.bench_fault.BusEnd.TheVariants as bus
use Rattle.bench_model.specs.declared.bench_fault.DeviceFault.{DeviceFault}
use Rattle.bench_model.specs.Counted.{IsCounted}
use Rattle.bench_model.specs.Device.{is_device}
use Rattle.bench_model.specs.Does.{ReadsCells, OpensCells}
use Rattle.bench_model.specs.History.{left}
use Rattle.bench_model.specs.State.{BenchState, cells_half, SameOutside}
use Rattle.bench_model.proofs.Moments.{leaves_here, leaves_then, leaves_as, file_stays_here, file_stays_then}
use Rattle.flash_layout.specs.declared.work.Operation.{Operation}
use Rattle.flash_layout.specs.Areas.{cells_in}
use Rattle.flash_layout.specs.Bench.{Accesses, Agrees, Ticks, Touches}
use Rattle.flash_layout.specs.Maps.{FlashMap}
use Rattle.flash_layout.specs.Work.{range_of, work_len}
use Rattle.flash_driver.specs.declared.state.Effect.{Effect}
use Rattle.flash_driver.specs.declared.state.Effect.TheVariants as effect
use Rattle.flash_driver.specs.Table.{MayBegin}

-- what a stop leaves while no operation is open, it may also leave while one is open
none_in_any : (o : Option (ℕ × ℕ)) (cells c : List ℕ) → c ≡ cells → SameOutside o cells c
none_in_any None cells c same = same
none_in_any (Some range) cells c same = (ap length same, ap (λ (l : List ℕ). take range.0 l) same, ap (λ (l : List ℕ). drop (range.0 + range.1) l) same)

as_none : (o : Option (ℕ × ℕ)) (cells c : List ℕ) → o ≡ None → SameOutside o cells c → c ≡ cells
as_none o cells c none same = subst (λ (x : Option (ℕ × ℕ)). SameOutside x cells c) none same

-- what a stop leaves with an operation or none, it may leave if that operation stays or another one opens
wider : (o p : Option (ℕ × ℕ)) (cells new c : List ℕ) → new ≡ cells → (p ≡ o) ⊎ (o ≡ None) → SameOutside o cells c → SameOutside p new c
wider o p cells new c same step at =
    subst (λ (l : List ℕ). SameOutside p l c) (sym same) (⊎_elim
    (λ (stays : p ≡ o). subst (λ (x : Option (ℕ × ℕ)). SameOutside x cells c) (sym stays) at)
    (λ (none : o ≡ None). none_in_any p cells c (as_none o cells c none at))
    step)

pub accesses_then : (tells : Bool) (s m t : BenchState) → Accesses tells s m → Accesses tells m t → Accesses tells s t
accesses_then tells s m t one two = record {
  cells = λ told. two.cells told ∙ one.cells told;
  operation = λ told. ⊎_elim
      (λ (late : t.operation ≡ m.operation). ⊎_elim (λ (soon : m.operation ≡ s.operation). inl (late ∙ soon)) (λ (none : s.operation ≡ None). inr none)
      (one.operation told))
      (λ (none : m.operation ≡ None). ⊎_elim (λ (soon : m.operation ≡ s.operation). inr (sym soon ∙ none)) (λ (idle : s.operation ≡ None). inr idle)
      (one.operation told))
      (two.operation told);
  count = two.count ∙ one.count;
  moments = λ told. leaves_then (SameOutside t.operation t.cells)
      (leaves_as (SameOutside m.operation m.cells) (SameOutside t.operation t.cells)
      (λ c at. wider m.operation t.operation m.cells t.cells c (two.cells told) (two.operation told) at) (one.moments told))
      (two.moments told);
  file = file_stays_then one.file two.file;
}

pub accesses_here : (tells : Bool) (s : BenchState) → ((c : List ℕ) → IsTrue tells → left (cells_half s) c ↔ SameOutside s.operation s.cells c) →
    Accesses tells s s
accesses_here tells s law = record {
  cells = λ told. refl;
  operation = λ told. inl refl;
  count = refl;
  moments = λ told. leaves_here (cells_half s) (SameOutside s.operation s.cells) (λ c at. (law c told).0 at);
  file = file_stays_here s;
}

-- a look at cells without a fault, and then an access
pub look_then : {A : Type 0} (tells : Bool) (map : FlashMap) (range : Option (ℕ × ℕ)) (s m t : BenchState) (result : Result A BusEnd)
    → (IsTrue tells → s.operation ≡ None) → Accesses tells s m → IsCounted s.device_faults m.device_faults false → Touches tells map range m t result
    → Touches tells map range s t result
look_then tells map range s m t result idle one cause two = record {
  bench = accesses_then tells s m t one two.bench;
  agrees = two.agrees;
  cause = record {
    later = let same : m.device_faults ≡ s.device_faults = cause.on_other refl in omega (arith, same, two.cause.later);
    on_fault = λ is. subst (λ (n : ℕ). Rose n t.device_faults) (cause.on_other refl) (two.cause.on_fault is);
    on_other = λ is. two.cause.on_other is ∙ cause.on_other refl;
  };
  idle = λ told is. record { before = idle told; after = (two.idle told is).after };
}

-- what a stop leaves is known, where the bench tells its contents
abbrev pub Told : Bool → BenchState → Type 0
Told tells s = (c : List ℕ) → IsTrue tells → left (cells_half s) c ↔ SameOutside s.operation s.cells c

-- an access that calls no bench and is no fault
pub touches_here : {A : Type 0} (tells : Bool) (map : FlashMap) (range : Option (ℕ × ℕ)) (s : BenchState) (result : Result A BusEnd) → Told tells s →
    Agrees tells map range s → is_device result ≡ false → Touches tells map range s s result
touches_here tells map range s result law agrees fine = record {
  bench = accesses_here tells s law;
  agrees = agrees;
  cause = record { later = omega arith; on_fault = λ fault. absurd (false≢true (sym fine ∙ fault)); on_other = λ other. refl };
  idle = λ told fault. absurd (false≢true (sym fine ∙ fault));
}

-- a fault of the bus that is answered with a value instead
pub quiet_then : {A : Type 0} (tells : Bool) (map : FlashMap) (range : Option (ℕ × ℕ)) (s t : BenchState) (e : BusEnd) (value : A) → e ≡ bus.Fault →
    Touches {A = A} tells map range s t (Err e) → Touches {A = A} tells map range s t (Ok value)
quiet_then {A} tells map range s t e value is touch =
    let fine : is_device {A = A} (Err e) ≡ false = ap (λ (x : BusEnd). is_device {A = A} (Err x)) is in
    record {
      bench = touch.bench;
      agrees = touch.agrees;
      cause = subst (λ (b : Bool). IsCounted s.device_faults t.device_faults b) fine touch.cause;
      idle = λ told fault. absurd (false≢true fault);
    }

-- an access that looks at cells while no operation runs
pub touches_look : {A : Type 0} (tells : Bool) (map : FlashMap) (range : Option (ℕ × ℕ)) (s t : BenchState) (result : Result A BusEnd)
    → range ≡ None → Agrees tells map range s → Accesses tells s t → (IsTrue tells → t.operation ≡ s.operation)
    → IsCounted s.device_faults t.device_faults (is_device result) → Touches tells map range s t result
touches_look tells map range s t result idle agrees bench same cause = record {
  bench = bench;
  agrees = record { count = bench.count ∙ agrees.count; operation = λ told. same told ∙ agrees.operation told };
  cause = cause;
  idle = λ told fault. record { before = agrees.operation told ∙ idle; after = same told ∙ agrees.operation told ∙ idle };
}

-- The counts of a call of the bench.

pub count_ok : {T E : Type 0} (before now : ℕ) (value : T) → HasCause {T = T} {E = E} before now (Ok value) → IsCounted before now false
count_ok before now value cause = record { later = cause.later; on_fault = λ fault. absurd (false≢true fault); on_other = λ other. cause.on_ok refl }

pub count_err : {T E : Type 0} (before now : ℕ) (refusal : E) → HasCause {T = T} {E = E} before now (Err refusal) → IsCounted before now true
count_err before now refusal cause = record {
  later = cause.later;
  on_fault = λ fault. cause.on_fault refl;
  on_other = λ other. absurd (false≢true (sym other));
}

-- The calls of the bench.

pub reads_access : {T : Type 0} (tells : Bool) (s t : BenchState) (at : ℕ) (before after : List ℕ) (result : Result T DeviceFault) → Told tells s →
    ReadsCells tells s t at before after result → Accesses tells s t
reads_access tells s t at before after result law does = record {
  cells = does.cells;
  operation = λ told. inl (does.operation told);
  count = does.count;
  moments = λ told. leaves_as (left (cells_half s)) (SameOutside t.operation t.cells)
      (λ c at. wider s.operation t.operation s.cells t.cells c (does.cells told) (inl (does.operation told)) ((law c told).0 at)) does.moments;
  file = does.file;
}

pub opens_access : {T : Type 0} (tells : Bool) (s t : BenchState) (at len : ℕ) (result : Result T DeviceFault) → Told tells t →
    (IsTrue tells → s.operation ≡ None) → OpensCells tells s t at len result → Accesses tells s t
opens_access tells s t at len result law idle does = record {
  cells = does.cells;
  operation = λ told. inr (idle told);
  count = does.count;
  moments = λ told. leaves_as (left (cells_half t)) (SameOutside t.operation t.cells) (λ c at. (law c told).0 at) does.moments;
  file = does.file;
}

-- a tick that calls no bench
pub ticks_here : (tells : Bool) (map : FlashMap) (range : Option (ℕ × ℕ)) (s : BenchState) → Told tells s → Agrees tells map range s →
    Ticks tells map range s s (Ok tt)
ticks_here tells map range s law agrees = record {
  bench = record {
    count = refl;
    moments = λ told. leaves_here (cells_half s) (SameOutside s.operation s.cells) (λ c at. (law c told).0 at);
    file = file_stays_here s;
  };
  agrees = agrees;
  err = λ told. tt;
  cause = record { later = omega arith; on_fault = λ fault. absurd (false≢true fault); on_ok = λ ok. refl };
}

-- the opening of the operation that a store begins
pub opens_touch : (tells : Bool) (map : FlashMap) (runs : Option Operation) (e : Effect) (o : Operation) (len : ℕ) (s t : BenchState) (value : Unit {0})
    → e ≡ effect.Begins o → MayBegin (cells_in map.areas) runs e → len ≡ work_len o.work → Told tells t → Agrees tells map (range_of runs) s
    → OpensCells {T = Unit {0}} tells s t o.place len (Ok value) → Touches {A = Unit {0}} tells map (range_of (Some o)) s t (Ok tt)
opens_touch tells map runs e o len s t value is may long law agrees does =
    let none : runs ≡ None = (subst (λ (x : Effect). MayBegin (cells_in map.areas) runs x) is may).0 in
    record {
      bench = opens_access tells s t o.place len _ law (λ told. agrees.operation told ∙ ap range_of none) does;
      agrees = record {
        count = does.count ∙ agrees.count;
        operation = λ told. does.ok told ∙ ap (λ (n : ℕ). let r : Option (ℕ × ℕ) = Some (o.place, n) in r) long;
      };
      cause = count_ok _ _ _ does.cause;
      idle = λ told fault. absurd (false≢true fault);
    }

-- an effect of a store that failed
pub fails_touch : (tells : Bool) (map : FlashMap) (runs : Option Operation) (e : Effect) (o : Operation) (len : ℕ) (s t : BenchState) (fault : DeviceFault)
    → e ≡ effect.Begins o → MayBegin (cells_in map.areas) runs e → Told tells t → Agrees tells map (range_of runs) s
    → OpensCells {T = Unit {0}} tells s t o.place len (Err fault) → Touches {A = Unit {0}} tells map (range_of runs) s t (Err bus.Device)
fails_touch tells map runs e o len s t fault is may law agrees does =
    let none : runs ≡ None = (subst (λ (x : Effect). MayBegin (cells_in map.areas) runs x) is may).0 in
    record {
      bench = opens_access tells s t o.place len _ law (λ told. agrees.operation told ∙ ap range_of none) does;
      agrees = record { count = does.count ∙ agrees.count; operation = λ told. does.err told ∙ sym (ap range_of none) };
      cause = count_err _ _ _ does.cause;
      idle = λ told is. record { before = agrees.operation told ∙ ap range_of none; after = does.err told };
    }
