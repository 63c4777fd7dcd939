-- An image is read run by run, and a run window by window.
use Rattle.std.proofs.Common.{◌≡◌, ◌≤◌, ◌<◌, ◌+◌, ◌-◌, ◌*◌, ◌^◌, ◌∙◌, ℕ, Bool, IsTrue, List, [], ◌∷◌, ◌++◌, length, take, drop, Result, Ok, Err, refl, sym, ap}
use Rattle.std.proofs.Common.{subst, arith, append_assoc, length-append}
use Rattle.std.proofs.Math.Seq.{take-add}
use Rattle.std.specs.List.{flat_map}
use Rattle.std.proofs.lemmas.List.{drop-drop, take-append-drop, append-nil}
use Rattle.std.proofs.lemmas.List.Concat.{flat_map-cons}
use Rattle.std.proofs.lemmas.Grind.{flat_map-append}
use Rattle.bench_model.specs.State.{BenchState}
use Rattle.bench_model.specs.Calls.{OnlyReads}
use Rattle.bench_model.proofs.Moments.{only_reads_then, only_reads_here}
use Rattle.byte_map.specs.Image.{Run, addresses, AreMaximal}
use Rattle.byte_map.specs.Laying.{Lays}
use Rattle.board_file.specs.declared.region.Region.{Region}
use Rattle.job_text.specs.Fits.{AreCovered}
use Rattle.job_text.specs.Body.{field, run_text}
use Rattle.job_text.specs.Reading.{covers, run_at, runs_at}
use Rattle.job_text.specs.Runs.{EndBelow, EndBy, run_of, with_run}
use Rattle.job_text.proofs.CoverLemmas.{covers_each, cells_under, under_grows, covers_under}
use Rattle.job_text.proofs.LoopLemmas.{with_front, goes_on, covered_behind}
use Rattle.job_text.proofs.RunLemmas.{maximal_behind, end_below_more, laid_more, with_run_ends}
use Rattle.job_file.specs.declared.fault.ReadFault.{ReadFault}
use Rattle.job_file.specs.declared.fault.ReadFault.TheVariants.{OutOfMemory, StoreFault, NotAJob}
use Rattle.job_file.specs.Readers.{Fails, IsNoVerdict, IsPlaced, IsLaid, AddsRun}

-- ---- a run

-- the first `at` of the `len` bytes of a run are added to the image
pub record LaidSoFar (tells : Bool) (start now : BenchState) (from place len at : ℕ) (old new : List Run) (window : List ℕ) : Type 0 where
  pub within : at ≤ len
  pub room : length window ≡ 4096
  pub bytes : List ℕ
  pub long : length bytes ≡ at
  pub stand : IsTrue tells → bytes ≡ take at (drop from start.file)
  pub laid : new ≡ with_run old place bytes
  pub reads : OnlyReads tells start now
  pub faults : now.store_faults ≡ start.store_faults

-- one more window of a run is added
pub window_more : (old now new : List Run) (place at len : ℕ) (bytes piece : List ℕ) → AreMaximal 0 (2 ^ 32) old → EndBelow place old → 1 ≤ length piece
    → length bytes ≡ at → at + length piece ≤ len → place + len ≤ 2 ^ 32
    → now ≡ with_run old place bytes → Lays (run_of (place + at) piece) now new → new ≡ with_run old place (bytes ++ piece)
window_more old now new place at len bytes piece m below some long within fits is lays =
    laid_more old new place bytes piece m below some (omega (arith, long, within, fits))
    (subst (λ (n : ℕ). Lays (run_of (place + n) piece) (with_run old place bytes) new) (sym long)
    (subst (λ (rs : List Run). Lays (run_of (place + at) piece) rs new) is lays))

pub stands_more : (from at end : ℕ) (bytes piece file now : List ℕ) → at ≤ end → bytes ≡ take at (drop from file) → now ≡ file
    → piece ≡ take (end - at) (drop (from + at) now) → bytes ++ piece ≡ take end (drop from file)
stands_more from at end bytes piece file now le is same more =
    let rest = drop from file in
    let m : at + (end - at) ≡ end = omega (arith, le) in
    ap (λ (l : List ℕ). l ++ piece) is
    ∙ ap (λ (l : List ℕ). take at rest ++ l) (more ∙ ap (λ (l : List ℕ). take (end - at) (drop (from + at) l)) same
    ∙ ap (λ (l : List ℕ). take (end - at) l) (sym (drop-drop at from file)))
    ∙ sym (take-add at (end - at) rest) ∙ ap (λ (k : ℕ). take k rest) m

-- with the bytes of a window added, the image ends at the address after them
pub behind_window : (old now : List Run) (place at : ℕ) (bytes : List ℕ) → EndBelow place old → length bytes ≡ at → now ≡ with_run old place bytes
    → EndBy (place + at) now
behind_window old now place at bytes below long is =
    subst (λ (rs : List Run). EndBy (place + at) rs) (sym is)
    (subst (λ (n : ℕ). EndBy (place + n) (with_run old place bytes)) long (with_run_ends old place bytes below))

-- bytes that aren't empty are a run
run_there : (old : List Run) (place : ℕ) (bytes : List ℕ) → 1 ≤ length bytes → with_run old place bytes ≡ old ++ run_of place bytes ∷ []
run_there old place [] some = absurd (omega arith)
run_there old place (b ∷ bs) some = refl

pub all_laid : (tells : Bool) (start now : BenchState) (from place len at : ℕ) (old new : List Run) (window : List ℕ)
    → LaidSoFar tells start now from place len at old new window → len ≤ at → 1 ≤ len → IsLaid tells start.file from place len old new
all_laid tells start now from place len at old new window so_far done some =
    let is : at ≡ len = omega (arith, so_far.within, done) in
    record {
      bytes = so_far.bytes;
      long = so_far.long ∙ is;
      stand = λ told. so_far.stand told ∙ ap (λ (n : ℕ). take n (drop from start.file)) is;
      added = so_far.laid ∙ run_there old place so_far.bytes (omega (arith, so_far.long, is, some));
    }

-- the text of a run: its address, its length, and that number of bytes
run_parts : (file : List ℕ) (at place len : ℕ) (bytes : List ℕ) → take 8 (drop at file) ≡ field place ++ field len → bytes ≡ take len (drop (at + 8) file)
    → length bytes ≡ len
    → drop at file ≡ run_text (run_of place bytes) ++ drop (at + 8 + len) file
run_parts file at place len bytes head is long =
    let behind = drop (at + 8) file in
    sym (take-append-drop 8 (drop at file))
    ∙ ap (λ (l : List ℕ). l ++ drop 8 (drop at file)) head
    ∙ ap (λ (l : List ℕ). (field place ++ field len) ++ l) (drop-drop 8 at file ∙ sym (take-append-drop len behind)
    ∙ ap (λ (l : List ℕ). l ++ drop len behind) (sym is) ∙ ap (λ (l : List ℕ). bytes ++ l) (drop-drop len (at + 8) file))
    ∙ ap (λ (n : ℕ). (field place ++ field n) ++ (bytes ++ drop (at + 8 + len) file)) (sym long)

-- a run was read and added to the image
pub run_added : (tells : Bool) (start now : BenchState) (whole : ℕ) (regions : List Region) (low at place len : ℕ) (old new : List Run)
    → (IsTrue tells → now.file ≡ start.file)
    → (IsTrue tells → run_at whole regions low (drop at start.file) ≡ Ok (run_of place (take len (drop (at + 8) start.file)), drop (at + 8 + len) start.file))
    → (IsTrue tells → take 8 (drop at start.file) ≡ field place ++ field len) → IsPlaced whole regions low at place len
    → IsLaid tells now.file (at + 8) place len old new
    → AddsRun tells start.file whole regions low at old new place len
run_added tells start now whole regions low at place len old new same found head placed laid = record {
  bytes = laid.bytes;
  long = laid.long;
  said = λ told. found told ∙ ap (λ (l : List ℕ). Ok (run_of place l, drop (at + 8 + len) start.file)) (sym (stand told));
  text = λ told. run_parts start.file at place len laid.bytes (head told) (stand told) laid.long;
  added = laid.added;
  placed = placed;
}
  where
    stand : IsTrue tells → laid.bytes ≡ take len (drop (at + 8) start.file)
    stand told = laid.stand told ∙ ap (λ (f : List ℕ). take len (drop (at + 8) f)) (same told)

-- a fault that says nothing of the file agrees with every reading
pub no_verdict : {Y : Type 0} (e : ReadFault) (read : Result Y ℕ) → IsNoVerdict e → Fails e read
no_verdict OutOfMemory read none = tt
no_verdict StoreFault read none = tt
no_verdict (NotAJob at) read none = absurd none

-- ---- the runs

pub record RunsSoFar (tells : Bool) (start now : BenchState) (whole : ℕ) (regions : List Region) (from count begin at : ℕ) (image : List Run) (window : List ℕ)
    (taken : ℕ) : Type 0 where
  pub said : IsTrue tells → with_front image (runs_at whole regions (count - taken) from (drop at start.file)) ≡ runs_at whole regions count 0
      (drop begin start.file)
  pub text : IsTrue tells → drop begin start.file ≡ flat_map run_text image ++ drop at start.file
  pub within : at ≤ whole
  pub many : length image ≡ taken
  pub maximal : AreMaximal 0 addresses image
  pub covered : AreCovered regions image
  pub behind : EndBelow from image
  pub used : at ≤ begin + 9 * cells_under regions from
  pub room : length window ≡ 4096
  pub reads : OnlyReads tells start now
  pub faults : now.store_faults ≡ start.store_faults

-- a run that is read from the same file
pub run_of_same : (tells : Bool) (file now : List ℕ) (whole : ℕ) (regions : List Region) (low at : ℕ) (old new : List Run) (place len : ℕ)
    → (IsTrue tells → now ≡ file) → AddsRun tells now whole regions low at old new place len → AddsRun tells file whole regions low at old new place len
run_of_same tells file now whole regions low at old new place len same r = record {
  bytes = r.bytes;
  long = r.long;
  said = λ told. subst (λ (f : List ℕ). run_at whole regions low (drop at f) ≡ Ok (run_of place r.bytes, drop (at + 8 + len) f)) (same told) (r.said told);
  text = λ told. subst (λ (f : List ℕ). drop at f ≡ run_text (run_of place r.bytes) ++ drop (at + 8 + len) f) (same told) (r.text told);
  added = r.added;
  placed = r.placed;
}

-- the text of one more run
text_more : (image new : List Run) (run : Run) (whole rest behind : List ℕ) → new ≡ image ++ run ∷ [] → whole ≡ flat_map run_text image ++ rest
    → rest ≡ run_text run ++ behind → whole ≡ flat_map run_text new ++ behind
text_more image new run whole rest behind is so_far one =
    let last : flat_map run_text (run ∷ []) ≡ run_text run = flat_map-cons run_text run [] ∙ append-nil (run_text run) in
    let all : flat_map run_text new ≡ flat_map run_text image ++ run_text run = ap (flat_map run_text) is ∙ flat_map-append run_text image (run ∷ [])
    ∙ ap (λ (l : List ℕ). flat_map run_text image ++ l) last in
    so_far ∙ ap (λ (l : List ℕ). flat_map run_text image ++ l) one ∙ sym (append_assoc (flat_map run_text image) (run_text run) behind)
    ∙ ap (λ (l : List ℕ). l ++ behind) (sym all)

-- no run is taken yet
pub front_nil : (read : Result (List Run × List ℕ) ℕ) → with_front [] read ≡ read
front_nil (Ok x) = refl
front_nil (Err at) = refl

pub no_runs_yet : (tells : Bool) (s : BenchState) (whole : ℕ) (regions : List Region) (count begin : ℕ) (window : List ℕ) → begin ≤ whole → length window ≡ 4096
    → RunsSoFar tells s s whole regions 0 count begin begin [] window 0
no_runs_yet tells s whole regions count begin window within room =
    let all : count - 0 ≡ count = omega arith in
    record {
      said = λ told. front_nil (runs_at whole regions (count - 0) 0 (drop begin s.file)) ∙ ap (λ (n : ℕ). runs_at whole regions n 0 (drop begin s.file)) all;
      text = λ told. refl;
      within = within;
      many = refl;
      maximal = tt;
      covered = tt;
      behind = λ k lt. absurd (omega (arith, lt));
      used = omega arith;
      room = room;
      reads = only_reads_here tells s;
      faults = refl;
    }

-- one more run is read
pub run_more : (tells : Bool) (start now then : BenchState) (whole : ℕ) (regions : List Region) (from count begin at : ℕ) (image new : List Run)
    (window window' : List ℕ) (taken place len next behind : ℕ)
    → RunsSoFar tells start now whole regions from count begin at image window taken → taken < count
    → AddsRun tells start.file whole regions from at image new place len
    → OnlyReads tells now then → then.store_faults ≡ now.store_faults → length window' ≡ length window → next ≡ place + len + 1 → behind ≡ at + (8 + len)
    → RunsSoFar tells start then whole regions next count begin behind new window' (taken + 1)
run_more tells start now then whole regions from count begin at image new window window' taken place len next behind so_far lt r reads faults long next_is
    behind_is =
    let p = r.placed in
    let run = run_of place r.bytes in
    let ends : place + length r.bytes + 1 ≡ next = omega (arith, r.long, next_is) in
    let there : at + 8 + len ≡ behind = omega (arith, behind_is) in
    let grown : EndBelow (place + length r.bytes + 1) (image ++ run ∷ []) = end_below_more image run from (place + length r.bytes + 1) so_far.behind p.rises
    (omega arith) in
    record {
      said = λ told.
          subst (λ (n : ℕ). with_front new (runs_at whole regions (count - (taken + 1)) n (drop behind start.file)) ≡ runs_at whole regions count 0
          (drop begin start.file)) ends
          (subst (λ (n : ℕ). with_front new (runs_at whole regions (count - (taken + 1)) (place + length r.bytes + 1) (drop n start.file)) ≡ runs_at whole
          regions count 0 (drop begin start.file)) there
          (subst (λ (rs : List Run). with_front rs (runs_at whole regions (count - (taken + 1)) (place + length r.bytes + 1) (drop (at + 8 + len) start.file)) ≡
          runs_at whole regions count 0 (drop begin start.file)) (sym r.added)
          (goes_on whole regions from image count taken (drop at start.file) run (drop (at + 8 + len) start.file)
          (runs_at whole regions count 0 (drop begin start.file)) lt (r.said told) (so_far.said told))));
      text = λ told. text_more image new run (drop begin start.file) (drop at start.file) (drop behind start.file) r.added (so_far.text told)
          (r.text told ∙ ap (λ (n : ℕ). run_text run ++ drop n start.file) there);
      within = omega (arith, p.within, there);
      many = omega (arith, so_far.many, ap (λ (rs : List Run). length rs) r.added, length-append image (run ∷ []));
      maximal = subst (λ (rs : List Run). AreMaximal 0 addresses rs) (sym r.added)
          (maximal_behind 0 addresses image run so_far.maximal (omega arith) (λ k l. let b = so_far.behind k l in omega (arith, b, p.rises))
          (omega (arith, r.long, p.some)) (omega (arith, r.long, p.inside)));
      covered = subst (λ (rs : List Run). AreCovered regions rs) (sym r.added)
          (covered_behind regions image run so_far.covered (covers_each regions place (place + length r.bytes)
          (subst (λ (n : ℕ). IsTrue (covers regions place (place + n))) (sym r.long) p.covered)));
      behind = subst (λ (rs : List Run). EndBelow next rs) (sym r.added) (subst (λ (n : ℕ). EndBelow n (image ++ run ∷ [])) ends grown);
      used = omega (
        arith,
        so_far.used,
        p.some,
        next_is,
        behind_is,
        under_grows regions from place p.rises,
        covers_under regions place (place + len) (omega arith) p.covered,
        under_grows regions (place + len) next (omega (arith, next_is)),
      );
      room = long ∙ so_far.room;
      reads = only_reads_then so_far.reads reads;
      faults = faults ∙ so_far.faults;
    }

-- where a run fails, the reading of all runs fails
pub run_fails : (tells : Bool) (start now : BenchState) (whole : ℕ) (regions : List Region) (from count begin at : ℕ) (image : List Run) (window : List ℕ)
    (taken : ℕ) (e : ReadFault)
    → RunsSoFar tells start now whole regions from count begin at image window taken → taken < count
    → (IsTrue tells → Fails e (run_at whole regions from (drop at now.file))) → IsTrue tells
    → Fails e (runs_at whole regions count 0 (drop begin start.file))
run_fails tells start now whole regions from count begin at image window taken OutOfMemory so_far lt is told = tt
run_fails tells start now whole regions from count begin at image window taken StoreFault so_far lt is told = tt
run_fails tells start now whole regions from count begin at image window taken (NotAJob offset) so_far lt is told =
    Rattle.job_text.proofs.LoopLemmas.ends whole regions from (Rattle.job_text.specs.declared.fault.JobFault.TheVariants.NotAJob offset) image count taken
    (drop at start.file) (runs_at whole regions count 0 (drop begin start.file)) lt
    (subst (λ (f : List ℕ). run_at whole regions from (drop at f) ≡ Err offset) (so_far.reads.file told) (is told)) (so_far.said told)
