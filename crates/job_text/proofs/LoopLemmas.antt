-- Runs taken one after the other, as the loops of `take_runs` and of `read_runs` take them.
use Rattle.std.proofs.Common.{◌≡◌, IsTrue, ℕ, suc, ◌-◌, ◌+◌, ◌*◌, ◌≤◌, ◌<◌, List, [], ◌∷◌, ◌++◌, length, Result, Ok, Err, refl, sym, ap, subst, ◌∙◌}
use Rattle.std.proofs.Common.{append_assoc, arith}
use Rattle.std.proofs.lemmas.List.{append-nil, length-append}
use Rattle.faults.specs.Results.{◌>>=◌}
use Rattle.byte_map.specs.Image.{Run, addresses, end_of, AreMaximal}
use Rattle.board_file.specs.declared.region.Region.{Region}
use Rattle.job_text.specs.declared.fault.JobFault.{JobFault}
use Rattle.job_text.specs.declared.fault.JobFault.TheVariants.{OutOfMemory, NotAJob}
use Rattle.job_text.specs.Fits.{AreCovered, Covers}
use Rattle.job_text.specs.Reading.{covers, run_at, runs_at}
use Rattle.job_text.specs.Runs.{EndBelow}
use Rattle.job_text.specs.Shown.{Fails}
use Rattle.job_text.proofs.CoverLemmas.{covers_each, cells_under, under_grows, covers_under}
use Rattle.job_text.proofs.RunLemmas.{maximal_behind, end_below_more}

-- the runs taken before, followed by the runs still to be taken
abbrev pub with_front : List Run → Result (List Run × List ℕ) ℕ → Result (List Run × List ℕ) ℕ
with_front front read = read >>= λ x. Ok (front ++ x.0, x.1)

-- the first `taken` runs were taken
pub record SoFar (whole : ℕ) (regions : List Region) (from count : ℕ) (image : List Run) (rest bytes : List ℕ) (taken : ℕ) : Type 0 where
  pub said : with_front image (runs_at whole regions (count - taken) from rest) ≡ runs_at whole regions count 0 bytes
  pub inside : length rest ≤ whole
  pub many : length image ≡ taken
  pub maximal : AreMaximal 0 addresses image
  pub covered : AreCovered regions image
  pub behind : EndBelow from image
  pub used : length bytes ≤ length rest + 9 * cells_under regions from

pub covered_behind : (regions : List Region) (image : List Run) (r : Run) → AreCovered regions image → Covers regions r.at (end_of r) →
    AreCovered regions (image ++ r ∷ [])
covered_behind regions [] r covered one = (one, tt)
covered_behind regions (x ∷ xs) r covered one = (covered.0, covered_behind regions xs r covered.1 one)

regroup : (front : List Run) (n : Run) (read : Result (List Run × List ℕ) ℕ) → with_front front (read >>= λ x. Ok (n ∷ x.0, x.1)) ≡ with_front
    (front ++ n ∷ []) read
regroup front n (Ok x) = ap (λ (ns : List Run). Ok (ns, x.1)) (simp append_assoc)
regroup front n (Err f) = refl

pub goes_on : (d : ℕ) (regions : List Region) (low : ℕ) (front : List Run) (count i : ℕ) (bytes : List ℕ) (n : Run) (after : List ℕ)
    (total : Result (List Run × List ℕ) ℕ) → i < count → run_at d regions low bytes ≡ Ok (n, after)
    → with_front front (runs_at d regions (count - i) low bytes) ≡ total →
    with_front (front ++ n ∷ []) (runs_at d regions (count - (i + 1)) (n.at + length n.bytes + 1) after) ≡ total
unfolding runs_at
goes_on d regions low front count i bytes n after total lt h so_far =
    let k : count - i ≡ suc (count - (i + 1)) = omega arith in
    let one : with_front front (runs_at d regions (count - i) low bytes) ≡ with_front (front ++ n ∷ [])
    (runs_at d regions (count - (i + 1)) (n.at + length n.bytes + 1) after) =
    rw (k, h) (regroup front n (runs_at d regions (count - (i + 1)) (n.at + length n.bytes + 1) after)) in
    sym one ∙ so_far

-- one more run
pub more : (whole : ℕ) (regions : List Region) (from count : ℕ) (image : List Run) (rest bytes : List ℕ) (taken : ℕ) (r : Run) (after : List ℕ) (new : List Run)
    (next : ℕ)
    → SoFar whole regions from count image rest bytes taken → taken < count → run_at whole regions from rest ≡ Ok (r, after) → length after ≤ length rest
    → length rest ≤ length after + length r.bytes + 8
    → from ≤ r.at → 1 ≤ length r.bytes → end_of r ≤ addresses → IsTrue (covers regions r.at (end_of r)) → new ≡ image ++ r ∷ [] → next ≡ end_of r + 1
    → SoFar whole regions next count new after bytes (taken + 1)
more whole regions from count image rest bytes taken r after new next so_far lt is shorter longer le some ends covered new-is next-is =
    let grown : SoFar whole regions (end_of r + 1) count (image ++ r ∷ []) after bytes (taken + 1) = record {
      said = goes_on whole regions from image count taken rest r after (runs_at whole regions count 0 bytes) lt is so_far.said;
      inside = omega (arith, so_far.inside, shorter);
      many = omega (arith, so_far.many, length-append image (r ∷ []));
      maximal = maximal_behind 0 addresses image r so_far.maximal (omega arith) (λ k l. let b = so_far.behind k l in omega (arith, b, le)) some ends;
      covered = covered_behind regions image r so_far.covered (covers_each regions r.at (end_of r) covered);
      behind = end_below_more image r from (end_of r + 1) so_far.behind le (omega arith);
      used = omega (
        arith,
        so_far.used,
        longer,
        some,
        under_grows regions from r.at le,
        covers_under regions r.at (end_of r) (omega arith) covered,
        under_grows regions (end_of r) (end_of r + 1) (omega arith),
      );
    } in
    subst (λ (n : ℕ). SoFar whole regions n count new after bytes (taken + 1)) (sym next-is)
    (subst (λ (rs : List Run). SoFar whole regions (end_of r + 1) count rs after bytes (taken + 1)) (sym new-is) grown)

pub ends : (d : ℕ) (regions : List Region) (low : ℕ) (e : JobFault) (front : List Run) (count i : ℕ) (bytes : List ℕ) (total : Result (List Run × List ℕ) ℕ) →
    i < count → Fails e (run_at d regions low bytes)
    → with_front front (runs_at d regions (count - i) low bytes) ≡ total → Fails e total
unfolding runs_at
ends d regions low OutOfMemory front count i bytes total lt h so_far = tt
ends d regions low (NotAJob at) front count i bytes total lt h so_far =
    let k : count - i ≡ suc (count - (i + 1)) = omega arith in
    let one : with_front front (runs_at d regions (count - i) low bytes) ≡ Err at = rw (k, h) refl in
    sym so_far ∙ one

pub is_done : (d : ℕ) (regions : List Region) (low : ℕ) (front : List Run) (count i : ℕ) (bytes : List ℕ) (total : Result (List Run × List ℕ) ℕ) → count ≤ i →
    with_front front (runs_at d regions (count - i) low bytes) ≡ total → total ≡ Ok (front, bytes)
unfolding runs_at
is_done d regions low front count i bytes total le so_far =
    let k : count - i ≡ 0 = omega arith in
    let one : with_front front (runs_at d regions (count - i) low bytes) ≡ Ok (front, bytes) =
    rw k (ap (λ (ns : List Run). Ok (ns, bytes)) (append-nil front)) in
    sym so_far ∙ one
