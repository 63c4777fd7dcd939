-- The cells of a region against an image, run by run, as `find_in_region` and `find_in_run` compare them.
use Rattle.std.proofs.Common.{◌≡◌, ◌≢◌, ◌<◌, ◌≤◌, ◌+◌, ◌^◌, ◌++◌, ◌∙◌, sym, ap, subst, refl, arith, inl, inr, ◌⊎◌, ⊎_elim, ℕ, Bool, true, false, IsTrue, List}
use Rattle.std.proofs.Common.{[], ◌∷◌, ◌-◌, max, min, length, length-drop, take, drop, get_or, slice_get, slice_index, Option, Some, None, is_some, Ok}
use Rattle.std.proofs.lemmas.List.{take_more, take_all, length-take-le, length-take, get_or-take, get_or-drop}
use Rattle.std.proofs.Math.Seq.{take-length}
use Rattle.std.proofs.lemmas.Option.{get_or_from_slice_get}
use Rattle.std.proofs.lemmas.Bool.{cases_lt}
use Rattle.faults.specs.Counts.{HasCause}
use Rattle.bench_model.specs.State.{BenchState}
use Rattle.bench_model.specs.declared.bench_fault.DeviceFault.{DeviceFault}
use Rattle.byte_map.specs.Image.{Run, run_at, end_of, holds, byte_of, byte_at, AreMaximal}
use Rattle.byte_map.proofs.Runs.{each_run, rising, held_from, held_to, holds_between, found_in, holder, byte_at-append, or_else, maximal_take}
use Rattle.byte_map.proofs.Joined.{one_run, run_at-take}
use Rattle.readback.specs.Readback.{OnlyReadsCells, Finds}
use Rattle.flm_cli.specs.Steps.{RegionAgreesBelow, FindsInRegion}
use Rattle.readback.specs.declared.compare.Difference.{Difference}
use Rattle.readback.proofs.ReadbackLemmas.{only_reads_cells_here, only_reads_cells_then}

-- One run.

-- where one run has a byte
pub record IsInRun (run : Run) (a byte : ℕ) : Type 0 where
  pub from : run.at ≤ a
  pub to : a < end_of run
  pub is : byte_of run a ≡ byte

pub in_run : (run : Run) (a byte : ℕ) → byte_at (run ∷ []) a ≡ Some byte → IsInRun run a byte
in_run run a byte is =
    let (k, less, held, byte_is) = holder (run ∷ []) a byte is in
    at_zero k less held byte_is where
      at_zero : (k : ℕ) → k < length (run ∷ []) → holds (run_at (run ∷ []) k) a ≡ true → byte ≡ byte_of (run_at (run ∷ []) k) a → IsInRun run a byte
      at_zero k less held byte_is =
          let zero : k ≡ 0 = omega (arith, less) in
          let held' : holds run a ≡ true = subst (λ (n : ℕ). holds (run_at (run ∷ []) n) a ≡ true) zero held in
          record {
            from = held_from run a held';
            to = held_to run a held';
            is = sym (byte_is ∙ ap (λ (n : ℕ). byte_of (run_at (run ∷ []) n) a) zero);
          }

-- The part of a run in a region, from one offset of the run to another.

module _ (tells : Bool) (cells : List ℕ) (start base size at : ℕ) (bytes : List ℕ) (low high : ℕ) (part : List ℕ)
    (part_is : part ≡ take (high - low) (drop low bytes)) (many : length part ≡ high - low) (order : low < high) (within : high ≤ length bytes)
    (from_base : base ≤ at + low) (to_end : at + high ≤ base + size) (first : (a : ℕ) → at ≤ a → base ≤ a → at + low ≤ a)
    (last : (a : ℕ) → a < at + length bytes → a < base + size → a < at + high) where
  abbrev whole_run : Run
  whole_run = record { at = at; bytes = bytes }

  abbrev first_place : ℕ
  first_place = start + ((at + low) - base)

  part_byte : (i : ℕ) → i < length part → get_or part i 0 ≡ get_or bytes (low + i) 0
  part_byte i less =
      ap (λ (l : List ℕ). get_or l i 0) part_is ∙ get_or-take (high - low) (drop low bytes) i 0 (omega (arith, less, many)) ∙ get_or-drop low bytes i 0

  -- where the first cells are the first bytes of the part, the cells agree with the run
  part_agrees : (n : ℕ) → n ≤ length part → take n (drop first_place cells) ≡ take n part → (offset byte : ℕ) → base + offset < at + low + n
      → byte_at (whole_run ∷ []) (base + offset) ≡ Some byte → slice_index cells (start + offset) ≡ byte
  part_agrees n all same offset byte below held =
      let in_it = in_run whole_run (base + offset) byte held in
      let up : at + low ≤ base + offset = first (base + offset) in_it.from (omega arith) in
      let i = (base + offset) - (at + low) in
      let sum : first_place + i ≡ start + offset = omega (arith, up, from_base) in
      let less : i < n = omega (arith, up, below) in
      let index : low + i ≡ (base + offset) - at = omega (arith, up) in
      sym (ap (λ (p : ℕ). get_or cells p 0) sum) ∙ sym (get_or-drop first_place cells i 0) ∙ sym (get_or-take n (drop first_place cells) i 0 less)
      ∙ ap (λ (l : List ℕ). get_or l i 0) same ∙ get_or-take n part i 0 less ∙ part_byte i (omega (arith, less, all))
      ∙ ap (λ (k : ℕ). get_or bytes k 0) index ∙ in_it.is

  pub part_same : Finds tells cells first_place part None → FindsInRegion tells cells start base size (whole_run ∷ []) None
  part_same finds = λ told offset byte inside held.
      let in_it = in_run whole_run (base + offset) byte held in
      let below : base + offset < at + high = last (base + offset) in_it.to (omega (arith, inside)) in
      part_agrees (length part) (omega arith) (finds told ∙ sym (take-length part)) offset byte (omega (arith, below, many, order)) held

  pub part_differs : (d e : Difference) → Finds tells cells first_place part (Some d) → e.at ≡ (d.at - start) + base → e.want ≡ d.want → e.got ≡ d.got
      → FindsInRegion tells cells start base size (whole_run ∷ []) (Some e)
  part_differs d e finds at_is want_is got_is =
      let i = finds.offset in
      let less : i < length part = finds.first.within in
      let offset = ((at + low) - base) + i in
      let address : base + offset ≡ at + (low + i) = omega (arith, from_base) in
      let index : (base + offset) - at ≡ low + i = omega (arith, address) in
      let up : at ≤ base + offset = omega (arith, address) in
      let down : base + offset < end_of whole_run = omega (arith, address, less, many, order, within) in
      let its : first_place + i ≡ start + offset = omega arith in
      record {
        offset = offset;
        inside = omega (arith, less, many, order, to_end, from_base);
        address = at_is ∙ omega (arith, finds.place, its);
        is_wanted = one_run whole_run (base + offset) e.want (holds_between whole_run (base + offset) up down)
            (ap (λ (k : ℕ). get_or bytes k 0) index ∙ sym (part_byte i less) ∙ finds.first.is_wanted ∙ sym want_is);
        unequal = subst (λ (w : ℕ). w ≢ e.got) (sym want_is) (subst (λ (g : ℕ). d.want ≢ g) (sym got_is) finds.first.unequal);
        is_found = λ told. ap (λ (p : ℕ). slice_index cells p) (sym its) ∙ finds.first.is_found told ∙ sym got_is;
        least = λ told k byte below held. part_agrees i (omega (arith, less)) (finds.first.least told) k byte (omega (arith, below, address)) held;
      }

-- a run without an address in the region shows no difference there
pub apart_same : (tells : Bool) (cells : List ℕ) (start base size at : ℕ) (bytes : List ℕ)
    → ((a : ℕ) → at ≤ a → a < at + length bytes → base ≤ a → a < base + size → ⊥)
    → FindsInRegion tells cells start base size (record { at = at; bytes = bytes } ∷ []) None
apart_same tells cells start base size at bytes apart = λ told offset byte inside held.
    let in_it = in_run (record { at = at; bytes = bytes }) (base + offset) byte held in
    absurd (apart (base + offset) in_it.from in_it.to (omega arith) (omega (arith, inside)))

-- The part of a run in a region: the addresses that the run and the region share.

module _ (tells : Bool) (cells : List ℕ) (start base size at : ℕ) (bytes : List ℕ) (from end : ℕ) (from_is : from ≡ max at base)
    (end_is : end ≡ min (at + length bytes) (base + size)) where
  pub clip_none : end ≤ from → FindsInRegion tells cells start base size (record { at = at; bytes = bytes } ∷ []) None
  clip_none none = apart_same tells cells start base size at bytes (λ a up down low high. omega (arith, from_is, end_is, none, up, down, low, high))

  module _ (some : from < end) (part : List ℕ) (part_is : part ≡ take ((end - at) - (from - at)) (drop (from - at) bytes)) where
    up_to : at + (end - at) ≡ end
    up_to = omega (arith, from_is, end_is, some)

    up_from : at + (from - at) ≡ from
    up_from = omega (arith, from_is)

    many : length part ≡ (end - at) - (from - at)
    many = omega (
      arith,
      ap length part_is,
      length-take ((end - at) - (from - at)) (drop (from - at) bytes),
      length-drop (from - at) bytes,
      from_is,
      end_is,
      some,
    )

    its_place : start + (from - base) ≡ start + ((at + (from - at)) - base)
    its_place = ap (λ (n : ℕ). start + (n - base)) (sym up_from)

    pub clip_same : Finds tells cells (start + (from - base)) part None
        → FindsInRegion tells cells start base size (record { at = at; bytes = bytes } ∷ []) None
    clip_same finds = part_same tells cells start base size at bytes (from - at) (end - at) part part_is many (omega (arith, from_is, end_is, some))
        (omega (arith, end_is, some, from_is)) (omega (arith, from_is)) (omega (arith, up_to, end_is))
        (λ a low high. omega (arith, up_from, from_is, low, high))
        (λ a low high. omega (arith, up_to, end_is, low, high)) (subst (λ (n : ℕ). Finds tells cells n part None) its_place finds)

    pub clip_differs : (d e : Difference) → Finds tells cells (start + (from - base)) part (Some d) → e.at ≡ (d.at - start) + base → e.want ≡ d.want
        → e.got ≡ d.got
        → FindsInRegion tells cells start base size (record { at = at; bytes = bytes } ∷ []) (Some e)
    clip_differs d e finds at_is want_is got_is =
        part_differs tells cells start base size at bytes (from - at) (end - at) part part_is many (omega (arith, from_is, end_is, some))
        (omega (arith, end_is, some, from_is)) (omega (arith, from_is)) (omega (arith, up_to, end_is))
        (λ a low high. omega (arith, up_from, from_is, low, high))
        (λ a low high. omega (arith, up_to, end_is, low, high)) d e (subst (λ (n : ℕ). Finds tells cells n part (Some d)) its_place finds) at_is want_is got_is

-- Runs in turn.

-- the cells agree with the first `done` runs, and the bench was only read so far
pub record RunsSoFar (tells : Bool) (start now : BenchState) (first base size : ℕ) (image : List Run) (done : ℕ) : Type 0 where
  pub agree : IsTrue tells → RegionAgreesBelow start.cells first base (take done image) size
  pub bench : OnlyReadsCells tells start now
  pub faults : now.device_faults ≡ start.device_faults

pub runs_here : (tells : Bool) (s : BenchState) (first base size : ℕ) (image : List Run) → RunsSoFar tells s s first base size image 0
runs_here tells s first base size image = record { agree = λ told offset byte inside is. absurd (cc); bench = only_reads_cells_here tells s; faults = refl }

-- what was found, where no fault was counted
pub uncaused : {T : Type 0} (found : T) (before now : ℕ) → now ≡ before → HasCause {T = T} {E = DeviceFault} before now (Ok found)
uncaused {T} found before now same = record { later = omega (arith, same); on_fault = λ e. cc; on_ok = λ e. same }

-- the run at a place of an image
pub run_is : (image : List Run) (k : ℕ) (run : Run) → slice_get image k ≡ Some run → run_at image k ≡ run
run_is image k run is = get_or_from_slice_get image k run (record { at = 0; bytes = [] }) is

pub run_ends : (image : List Run) (k : ℕ) (run : Run) → AreMaximal 0 (2 ^ 32) image → k < length image → slice_get image k ≡ Some run → end_of run ≤ 2 ^ 32
run_ends image k run maximal less is =
    subst (λ (r : Run). end_of r ≤ 2 ^ 32) (run_is image k run is) (each_run 0 (2 ^ 32) image k maximal less).2

-- a byte that the first or else the second of two lists of runs has
either : (one two : Option ℕ) (byte : ℕ) → or_else one two ≡ Some byte → (one ≡ Some byte) ⊎ (two ≡ Some byte)
either None two byte is = inr is
either (Some x) two byte is = inl is

module _ (tells : Bool) (start mid : BenchState) (first base size : ℕ) (image : List Run) (done : ℕ) (run : Run)
    (so_far : RunsSoFar tells start mid first base size image done) (less : done < length image) (is : slice_get image done ≡ Some run) where
  one_more : take (done + 1) image ≡ take done image ++ run ∷ []
  one_more = take_more image done run less ∙ ap (λ (r : Run). take done image ++ r ∷ []) (get_or_from_slice_get image done run run is)

  agree_more : RegionAgreesBelow start.cells first base (run ∷ []) size → IsTrue tells → RegionAgreesBelow start.cells first base (take (done + 1) image) size
  agree_more agree told offset byte inside at =
      let a = base + offset in
      ⊎_elim (λ early. so_far.agree told offset byte inside early) (λ here. agree offset byte inside here)
      (either (byte_at (take done image) a) (byte_at (run ∷ []) a) byte
      (sym (byte_at-append (take done image) (run ∷ []) a) ∙ ap (λ (rs : List Run). byte_at rs a) (sym one_more) ∙ at))

  -- a run that agrees
  pub runs_then : (now : BenchState) (found : Option Difference) → FindsInRegion tells mid.cells first base size (run ∷ []) found → is_some found ≡ false
      → OnlyReadsCells tells mid now → now.device_faults ≡ mid.device_faults → RunsSoFar tells start now first base size image (done + 1)
  runs_then now None finds none reads faults = record {
    agree = λ told. agree_more (subst (λ (cells : List ℕ). RegionAgreesBelow cells first base (run ∷ []) size) (so_far.bench.cells told) (finds told)) told;
    bench = only_reads_cells_then so_far.bench reads;
    faults = faults ∙ so_far.faults;
  }
  runs_then now (Some d) finds none reads faults = absurd (cc)

  -- a byte of the image below the end of this run is a byte of an earlier run or of this one
  where_held : (maximal : AreMaximal 0 (2 ^ 32) image) (at : ℕ) → at < end_of run → (a byte : ℕ) → a < at → byte_at image a ≡ Some byte
      → (byte_at (take done image) a ≡ Some byte) ⊎ (byte_at (run ∷ []) a ≡ Some byte)
  where_held maximal at inside a byte below held =
      let (k, within, holds_a, byte_is) = holder image a byte held in
      let this = run_is image done run is in
      ⊎_elim
      (λ (earlier : k < done). inl (found_in 0 (2 ^ 32) (take done image) k a (maximal_take 0 (2 ^ 32) image done maximal)
      (omega (arith, earlier, length-take-le done image (omega (arith, less)))) (ap (λ (r : Run). holds r a) (run_at-take image done k earlier) ∙ holds_a)
      ∙ ap (λ (n : ℕ). Some n) (ap (λ (r : Run). byte_of r a) (run_at-take image done k earlier) ∙ sym byte_is)))
      (λ (later : done ≤ k). ⊎_elim
      (λ (after : done < k).
      let up : end_of (run_at image done) < (run_at image k).at = rising 0 (2 ^ 32) image done k maximal after within in
      let from = held_from (run_at image k) a holds_a in
      absurd (omega (arith, up, from, below, inside, ap end_of this)))
      (λ (same : k ≤ done).
      let here : k ≡ done = omega (arith, later, same) in
      let its : run_at image k ≡ run = ap (λ (n : ℕ). run_at image n) here ∙ this in
      inr (one_run run a byte (ap (λ (r : Run). holds r a) (sym its) ∙ holds_a) (ap (λ (r : Run). byte_of r a) (sym its) ∙ sym byte_is)))
      (cases_lt done k))
      (cases_lt k done)

  -- a run that differs
  pub runs_differ : (maximal : AreMaximal 0 (2 ^ 32) image) (found : Option Difference) → FindsInRegion tells mid.cells first base size (run ∷ []) found
      → is_some found ≡ true → FindsInRegion tells start.cells first base size image found
  runs_differ maximal None finds some = absurd (cc)
  runs_differ maximal (Some d) finds some =
      let at = base + finds.offset in
      let in_it = in_run run at d.want finds.is_wanted in
      let this = run_is image done run is in
      record {
        offset = finds.offset;
        inside = finds.inside;
        address = finds.address;
        is_wanted = found_in 0 (2 ^ 32) image done at maximal less
            (ap (λ (r : Run). holds r at) this ∙ holds_between run at in_it.from in_it.to)
            ∙ ap (λ (n : ℕ). Some n) (ap (λ (r : Run). byte_of r at) this ∙ in_it.is);
        unequal = finds.unequal;
        is_found = λ told. ap (λ (cells : List ℕ). slice_index cells (first + finds.offset)) (sym (so_far.bench.cells told)) ∙ finds.is_found told;
        least = λ told offset byte below held. ⊎_elim (λ early. so_far.agree told offset byte (omega (arith, below, finds.inside)) early)
            (λ here. ap (λ (cells : List ℕ). slice_index cells (first + offset)) (sym (so_far.bench.cells told)) ∙ finds.least told offset byte below here)
            (where_held maximal at in_it.to (base + offset) byte (omega (arith, below)) held);
      }

-- all runs agree
pub all_agree : (tells : Bool) (start now : BenchState) (first base size : ℕ) (image : List Run) (done : ℕ)
    → RunsSoFar tells start now first base size image done
    → length image ≤ done → IsTrue tells → RegionAgreesBelow start.cells first base image size
all_agree tells start now first base size image done so_far all told =
    subst (λ (rs : List Run). RegionAgreesBelow start.cells first base rs size) (take_all done image all) (so_far.agree told)
