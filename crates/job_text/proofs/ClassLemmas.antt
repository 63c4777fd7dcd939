-- What a file is, in terms of the format, case by case. `class_of_file` and all other judges of a file use these.
use Rattle.std.proofs.Common.{◌≡◌, ◌≢◌, if◌then◌else◌, ◌⊎◌, ⊎_elim, inl, inr, ℕ, suc, ◌+◌, ◌-◌, ◌<◌, ◌≤◌, Bool, true, false, not, ◌&&◌, cond, leb, List, []}
use Rattle.std.proofs.Common.{◌∷◌, ◌++◌, length, get_or, take, drop, Result, Ok, Err, refl, sym, ap, subst, ◌∙◌, arith}
use Rattle.std.specs.Prelude.{bytes_eq}
use Rattle.std.specs.Cmp.Lexicographic.{same_text, bytes_decides}
use Rattle.std.proofs.lemmas.Bool.{cases_eq, cases_lt, eq-eqb, ne_eqb, leb-true, le-leb, and_parts, and_from}
use Rattle.std.proofs.lemmas.List.{take_at, drop_at, take-append-drop, length-append, length-drop, drop-drop}
use Rattle.sha2.specs.Sha256.{sha256}
use Rattle.sha2.proofs.Facts256.{length-sha256}
use Rattle.board_file.specs.Shown as board
use Rattle.flm_descriptor.specs.Shown as flm
use Rattle.job_text.specs.declared.format.Format.{Format}
use Rattle.job_text.specs.declared.format.Format.TheVariants.{First, Second}
use Rattle.job_text.specs.declared.job.Class.{Class}
use Rattle.job_text.specs.declared.job.Class.TheVariants.{Free, Stands, Damaged, NotAJob}
use Rattle.job_text.specs.declared.job.Job as code
use Rattle.job_text.specs.Files.{IsFree, IsWhole}
use Rattle.job_text.specs.Said.{algorithms_shown}
use Rattle.job_text.specs.Body.{Job, second_mark, hashed_of, body_in, body_of}
use Rattle.job_text.specs.Jobs.{IsJob}
use Rattle.job_text.specs.Reading as reading
use Rattle.job_text.specs.Reading.{Found, places_of, is_second, format_in, job_as, job_at, kept_in, found_in, is_damaged, class_behind, class_of, class_from}
use Rattle.job_text.specs.Reading.{free, stands, damaged, not_a_job, seen_of}
use Rattle.job_text.specs.Shown.{IsClass}
use Rattle.job_text.specs.Stands.{StandsFor, IsSomeJob, IsNoJob, IsDamaged, IsFoundDamaged, IsNotAJob, IsClassOf}
use Rattle.job_text.proofs.Steps.{ok_is}
use Rattle.job_text.proofs.TakeLemmas.{IsBytes}
use Rattle.job_text.proofs.BodyLemmas.{BodyIs, IsJobIn, job_takes, job_again, long_body, found_for, front_text, ends_in_snapshot}

-- ---- the hash

-- the bodies of jobs aren't damaged
intact_as : (format : Format) (j : Job) → is_damaged (body_in format j) ≡ false
intact_as First j = no_right (leb 63 (length (body_in First j)))
  where
    no_right : (a : Bool) → (a && false && not (bytes_eq (kept_in (body_in First j)) (found_in (body_in First j)))) ≡ false
    no_right true = refl
    no_right false = refl
intact_as Second j =
    let m = hashed_of j in
    let kept : kept_in (body_in Second j) ≡ sha256 m = take_at (sha256 m) m 32 (length-sha256 m) in
    let found : found_in (body_in Second j) ≡ sha256 m = ap sha256 (drop_at (sha256 m) m 32 (length-sha256 m)) in
    let same : bytes_eq (kept_in (body_in Second j)) (found_in (body_in Second j)) ≡ true = (bytes_decides _ _).1 (kept ∙ sym found) in
    no_left (leb 63 (length (body_in Second j)) && is_second (body_in Second j)) (bytes_eq (kept_in (body_in Second j)) (found_in (body_in Second j))) same
  where
    no_left : (a b : Bool) → b ≡ true → (a && not b) ≡ false
    no_left true b is = rw is refl
    no_left false b is = refl

-- with the mark of the second format, a hash that fits, and the hashed part of a job, a body is that of the job
whole_second : (body : List ℕ) (j : Job) → is_second body ≡ true → kept_in body ≡ found_in body → drop 39 body ≡ hashed_of j → body ≡ body_in Second j
whole_second body j marked kept rest =
    let mark : second_mark ≡ take 7 body = same_text second_mark (take 7 body) (sym marked) in
    let hash : take 32 (drop 7 body) ≡ sha256 (hashed_of j) = kept ∙ ap sha256 rest in
    let tail : drop 7 body ≡ sha256 (hashed_of j) ++ hashed_of j =
    sym (take-append-drop 32 (drop 7 body)) ∙ ap (λ (l : List ℕ). l ++ drop 32 (drop 7 body)) hash ∙
    ap (λ (l : List ℕ). sha256 (hashed_of j) ++ l) (drop-drop 32 7 body ∙ rest) in
    sym (take-append-drop 7 body) ∙ ap (λ (l : List ℕ). l ++ drop 7 body) (sym mark) ∙ ap (λ (l : List ℕ). second_mark ++ l) tail

-- ---- the classes

record IsShut (gate next : ℕ) (rest : List ℕ) : Type 0 where
  is : class_of (gate ∷ next ∷ rest) ≡ free
  shut : gate ≢ 165

record IsOpen (gate next : ℕ) (rest : List ℕ) : Type 0 where
  is : class_of (gate ∷ next ∷ rest) ≡ class_behind (length rest + 2) (next ∷ rest)
  opened : gate ≡ 165

long : (gate next : ℕ) (rest : List ℕ) → IsShut gate next rest ⊎ IsOpen gate next rest
unfolding class_of
long gate next rest = ⊎_elim
    (λ (is : gate ≡ 165). inr (record { is = ap (λ (b : Bool). cond b (class_behind (length rest + 2) (next ∷ rest)) free) (eq-eqb gate 165 is); opened = is }))
    (λ (shut : gate ≢ 165). inl (record {
      is = ap (λ (b : Bool). cond b (class_behind (length rest + 2) (next ∷ rest)) free) (ne_eqb gate 165 shut);
      shut =
          shut;
    }))
    (cases_eq gate 165)

record IsBroken (whole : ℕ) (body : List ℕ) : Type 0 where
  is : class_behind whole body ≡ damaged (kept_in body) (found_in body)
  broken : is_damaged body ≡ true

record IsIntact (whole : ℕ) (body : List ℕ) : Type 0 where
  is : class_behind whole body ≡ class_from (job_at whole body)
  intact : is_damaged body ≡ false

behind : (whole : ℕ) (body : List ℕ) → IsBroken whole body ⊎ IsIntact whole body
unfolding class_behind
behind whole body = by_test (is_damaged body) refl
  where
    by_test : (b : Bool) → is_damaged body ≡ b → IsBroken whole body ⊎ IsIntact whole body
    by_test true broken = inl (record {
      is = ap (λ (b : Bool). cond b (damaged (kept_in body) (found_in body)) (class_from (job_at whole body))) broken;
      broken = broken;
    })
    by_test false intact = inr (record {
      is = ap (λ (b : Bool). cond b (damaged (kept_in body) (found_in body)) (class_from (job_at whole body))) intact;
      intact = intact;
    })

never_free : (r : Result Found ℕ) → class_from r ≡ free → ⊥
never_free (Ok x) e = cc
never_free (Err at) e = cc

never_damaged : (r : Result Found ℕ) (kept found : List ℕ) → class_from r ≡ damaged kept found → ⊥
never_damaged (Ok x) kept found e = cc
never_damaged (Err at) kept found e = cc

found_is : (r : Result Found ℕ) (x : Found) → class_from r ≡ stands x → r ≡ Ok x
found_is (Ok y) x e = let same : y ≡ x = cc in ap (λ (z : Found). Ok z) same
found_is (Err at) x e = absurd cc

pub free_class : (file : List ℕ) → class_of file ≡ free → IsFree file
unfolding class_of
free_class [] e = tt
free_class (gate ∷ []) e = tt
free_class (gate ∷ next ∷ rest) e = ⊎_elim
    (λ (s : IsShut gate next rest). s.shut)
    (λ (o : IsOpen gate next rest). ⊎_elim
    (λ (k : IsBroken (length rest + 2) (next ∷ rest)). let both : damaged (kept_in (next ∷ rest)) (found_in (next ∷ rest)) ≡ free = sym k.is ∙ sym o.is ∙ e in
    absurd cc)
    (λ (k : IsIntact (length rest + 2) (next ∷ rest)). absurd (never_free (job_at (length rest + 2) (next ∷ rest)) (sym k.is ∙ sym o.is ∙ e)))
    (behind (length rest + 2) (next ∷ rest)))
    (long gate next rest)

rest_bytes : (b : ℕ) (bytes : List ℕ) → IsBytes (b ∷ bytes) → IsBytes bytes
rest_bytes b bytes h i = h (suc i)

pub record IsFoundIn (x : Found) (file : List ℕ) : Type 0 where
  pub whole : IsWhole (body_of x.job) file
  pub is : IsJob x.job x.board x.algorithms

-- the hash of a body that isn't damaged fits
hash_fits : (body : List ℕ) → is_damaged body ≡ false → is_second body ≡ true → 63 ≤ length body → kept_in body ≡ found_in body
hash_fits body intact second enough = by_hash (bytes_eq (kept_in body) (found_in body)) refl
  where
    by_hash : (b : Bool) → bytes_eq (kept_in body) (found_in body) ≡ b → kept_in body ≡ found_in body
    by_hash true same = (bytes_decides _ _).0 same
    by_hash false other =
        let broken : is_damaged body ≡ true = and_from _ _ (and_from _ _ (le-leb _ _ enough) second) (ap not other) in
        let both : true ≡ false = sym broken ∙ intact in absurd cc

-- an undamaged body of the second format, with the hashed part of a job, is the body of that job
pub second_whole : (body : List ℕ) (j : Job) → format_in body ≡ Second → is_damaged body ≡ false → j.format ≡ Second → drop 39 body ≡ hashed_of j →
    body ≡ body_of j
second_whole body j format intact format_is rest =
    let second : is_second body ≡ true = of_mark (is_second body) format in
    let enough : 63 ≤ length body = omega (arith, ap (λ (l : List ℕ). length l) rest, length-drop 39 body) in
    whole_second body j second (hash_fits body intact second enough) rest ∙ ap (λ (k : Format). body_in k j) (sym format_is)
  where
    of_mark : (b : Bool) → (if b then Second else First) ≡ Second → b ≡ true
    of_mark true is = refl
    of_mark false is = absurd cc

-- an undamaged body that is read as a job is the body of that job
body_is : (whole : ℕ) (body : List ℕ) (x : Found) → IsBytes body → (63 ≤ length body) ⊎ (length body < 63) → is_damaged body ≡ false →
    job_at whole body ≡ Ok x → (body ≡ body_of x.job) × IsJob x.job x.board x.algorithms
body_is whole body x fits size intact r = by_test (is_second body) refl
  where
    of_first : IsJobIn First body x → (body ≡ body_of x.job) × IsJob x.job x.board x.algorithms
    of_first f = (f.parts, f.is)

    of_second : is_second body ≡ true → IsJobIn Second body x → (body ≡ body_of x.job) × IsJob x.job x.board x.algorithms
    of_second second f = ⊎_elim
        (λ (enough : 63 ≤ length body). (
          whole_second body x.job second (hash_fits body intact second enough) f.parts.0 ∙ ap (λ (k : Format). body_in k x.job) (sym f.format_is),
          f.is,
        ))
        (λ (short : length body < 63). absurd (too_short f.parts short))
        size
      where
        too_short : BodyIs Second body x.job → length body < 63 → ⊥
        too_short parts short =
            omega (arith, parts.1, short, ap (λ (l : List ℕ). length l) parts.0, length-drop 39 body)

    by_test : (b : Bool) → is_second body ≡ b → (body ≡ body_of x.job) × IsJob x.job x.board x.algorithms
    by_test true second = of_second second (job_takes whole Second body x fits
        (sym (ap (λ (b : Bool). job_as whole (if b then Second else First) body) second) ∙ r))
    by_test false first = of_first (job_takes whole First body x fits (sym (ap (λ (b : Bool). job_as whole (if b then Second else First) body) first) ∙ r))

sizes : (n : ℕ) → (63 ≤ n) ⊎ (n < 63)
sizes n = ⊎_elim (λ (less : n < 63). inr less) (λ (le : 63 ≤ n). inl le) (cases_lt n 63)

pub stands_class : (file : List ℕ) (x : Found) → IsBytes file → class_of file ≡ stands x → IsFoundIn x file
unfolding class_of
stands_class [] x fits e = absurd cc
stands_class (gate ∷ []) x fits e = absurd cc
stands_class (gate ∷ next ∷ rest) x fits e = ⊎_elim
    (λ (s : IsShut gate next rest). let both : free ≡ stands x = sym s.is ∙ e in absurd cc)
    (λ (o : IsOpen gate next rest). ⊎_elim
    (λ (k : IsBroken (length rest + 2) (next ∷ rest)). let both : damaged (kept_in (next ∷ rest)) (found_in (next ∷ rest)) ≡ stands x = sym k.is ∙ sym o.is ∙
    e in absurd cc)
    (λ (k : IsIntact (length rest + 2) (next ∷ rest)).
    let r = found_is (job_at (length rest + 2) (next ∷ rest)) x (sym k.is ∙ sym o.is ∙ e) in
    let t = body_is (length rest + 2) (next ∷ rest) x (rest_bytes gate (next ∷ rest) fits) (sizes (length (next ∷ rest))) k.intact r in
    record { whole = ap (λ (b : ℕ). b ∷ next ∷ rest) o.opened ∙ ap (λ (l : List ℕ). 165 ∷ l) t.0; is = t.1 })
    (behind (length rest + 2) (next ∷ rest)))
    (long gate next rest)

-- a file with an open gate stands for no job, if its body isn't read as one
no_job_behind : (gate next : ℕ) (rest : List ℕ) (c : reading.Class) → gate ≡ 165 → class_behind (length rest + 2) (next ∷ rest) ≡ c →
    ((x : Found) → c ≡ stands x → ⊥) → IsNoJob (gate ∷ next ∷ rest)
no_job_behind gate next rest c opened is never = record {
  not_free = λ shut. shut opened;
  no_job = λ j b algorithms is_job whole.
      let body : next ∷ rest ≡ body_of j = cc in
      let len : (places_of j.format).front ≤ length rest + 2 = omega (arith, long_body j, ap (λ (l : List ℕ). length l) body) in
      let r : job_at (length rest + 2) (next ∷ rest) ≡ Ok (found_for j b algorithms) = ap (job_at (length rest + 2)) body ∙
      job_again (length rest + 2) j b algorithms len is_job in
      let intact : is_damaged (next ∷ rest) ≡ false = ap is_damaged body ∙ intact_as j.format j in
      ⊎_elim
      (λ (k : IsBroken (length rest + 2) (next ∷ rest)). let both : true ≡ false = sym k.broken ∙ intact in absurd cc)
      (λ (k : IsIntact (length rest + 2) (next ∷ rest)). never (found_for j b algorithms) (sym is ∙ k.is ∙ ap class_from r))
      (behind (length rest + 2) (next ∷ rest));
}

-- a damaged body, in terms of the format
broken_is : (gate next : ℕ) (rest : List ℕ) → gate ≡ 165 → is_damaged (next ∷ rest) ≡ true →
    IsDamaged (kept_in (next ∷ rest)) (found_in (next ∷ rest)) (gate ∷ next ∷ rest)
broken_is gate next rest opened broken =
    let body : List ℕ = next ∷ rest in
    let p = and_parts (leb 63 (length body) && is_second body) (not (bytes_eq (kept_in body) (found_in body))) broken in
    let q = and_parts (leb 63 (length body)) (is_second body) p.0 in
    let enough : 63 ≤ length body = leb-true _ _ q.0 in
    record {
      gate = ap (λ (b : ℕ). b ∷ []) opened;
      mark = sym (same_text second_mark (take 7 body) (sym q.1));
      long = omega (arith, enough);
      kept_is = refl;
      found_is = refl;
      differ = λ same. let both : not (bytes_eq (kept_in body) (found_in body)) ≡ false = ap not ((bytes_decides _ _).1 same) in
          let one : true ≡ false = sym p.1 ∙ both in cc;
    }

is_broken : (gate next : ℕ) (rest kept found : List ℕ) → IsDamaged kept found (gate ∷ next ∷ rest) → is_damaged (next ∷ rest) ≡ true
is_broken gate next rest kept found d =
    let body : List ℕ = next ∷ rest in
    let marked : is_second body ≡ true = (bytes_decides _ _).1 (sym d.mark) in
    let differ : bytes_eq (kept_in body) (found_in body) ≡ false = by_hash (bytes_eq (kept_in body) (found_in body)) refl in
    and_from _ _ (and_from _ _ (le-leb _ _ (omega (arith, d.long))) marked) (ap not differ)
  where
    by_hash : (b : Bool) → bytes_eq (kept_in (next ∷ rest)) (found_in (next ∷ rest)) ≡ b → bytes_eq (kept_in (next ∷ rest)) (found_in (next ∷ rest)) ≡ false
    by_hash true same = absurd (d.differ (d.kept_is ∙ (bytes_decides _ _).0 same ∙ sym d.found_is))
    by_hash false other = other

pub damaged_class : (file kept found : List ℕ) → class_of file ≡ damaged kept found → IsFoundDamaged kept found file
unfolding class_of
damaged_class [] kept found e = absurd cc
damaged_class (gate ∷ []) kept found e = absurd cc
damaged_class (gate ∷ next ∷ rest) kept found e = ⊎_elim
    (λ (s : IsShut gate next rest). let both : free ≡ damaged kept found = sym s.is ∙ e in absurd cc)
    (λ (o : IsOpen gate next rest). ⊎_elim
    (λ (k : IsBroken (length rest + 2) (next ∷ rest)).
    let both : damaged (kept_in (next ∷ rest)) (found_in (next ∷ rest)) ≡ damaged kept found = sym k.is ∙ sym o.is ∙ e in
    let kept_same : kept_in (next ∷ rest) ≡ kept = cc in
    let found_same : found_in (next ∷ rest) ≡ found = cc in
    record {
      damaged = subst (λ (l : List ℕ). IsDamaged l found (gate ∷ next ∷ rest)) kept_same
          (subst (λ (l : List ℕ). IsDamaged (kept_in (next ∷ rest)) l (gate ∷ next ∷ rest)) found_same
          (broken_is gate next rest o.opened k.broken));
      none = no_job_behind gate next rest (damaged kept found) o.opened (sym o.is ∙ e) (λ x both_. cc);
    })
    (λ (k : IsIntact (length rest + 2) (next ∷ rest)). absurd (never_damaged (job_at (length rest + 2) (next ∷ rest)) kept found (sym k.is ∙ sym o.is ∙ e)))
    (behind (length rest + 2) (next ∷ rest)))
    (long gate next rest)

-- a damaged file stands for no job
pub never_jobs : (file kept found : List ℕ) → IsDamaged kept found file → (j : Job) (b : board.Shown) (algorithms : List flm.Shown) → IsJob j b algorithms →
    IsWhole (body_of j) file → ⊥
never_jobs [] kept found d j b algorithms is whole = absurd (omega (arith, d.long))
never_jobs (gate ∷ []) kept found d j b algorithms is whole = absurd (omega (arith, d.long))
never_jobs (gate ∷ next ∷ rest) kept found d j b algorithms is whole =
    let body : next ∷ rest ≡ body_of j = cc in
    let intact : is_damaged (next ∷ rest) ≡ false = ap is_damaged body ∙ intact_as j.format j in
    let both : true ≡ false = sym (is_broken gate next rest kept found d) ∙ intact in
    absurd cc

pub not_class : (file : List ℕ) (at : ℕ) → class_of file ≡ not_a_job at → IsNotAJob at file
unfolding class_of
not_class [] at e = absurd cc
not_class (gate ∷ []) at e = absurd cc
not_class (gate ∷ next ∷ rest) at e = ⊎_elim
    (λ (s : IsShut gate next rest). let both : free ≡ not_a_job at = sym s.is ∙ e in absurd cc)
    (λ (o : IsOpen gate next rest). record {
      shows = e;
      none = no_job_behind gate next rest (not_a_job at) o.opened (sym o.is ∙ e) (λ x both_. cc);
      whole = λ kept found d.
          ⊎_elim
          (λ (k : IsBroken (length rest + 2) (next ∷ rest)). let both : damaged (kept_in (next ∷ rest)) (found_in (next ∷ rest)) ≡ not_a_job at = sym k.is ∙
          sym o.is ∙ e in cc)
          (λ (k : IsIntact (length rest + 2) (next ∷ rest)). let both : true ≡ false = sym (is_broken gate next rest kept found d) ∙ k.intact in cc)
          (behind (length rest + 2) (next ∷ rest));
    })
    (long gate next rest)

-- the snapshot is the end of the file
snapshot_from : (j : Job) (file : List ℕ) → IsWhole (body_of j) file → j.snapshot ≡ drop (length file - length j.snapshot) file
snapshot_from j file whole =
    let front : List ℕ = 165 ∷ front_text j.format j in
    let parts : file ≡ front ++ j.snapshot = whole ∙ ap (λ (l : List ℕ). 165 ∷ l) (sym (ends_in_snapshot j.format j)) in
    let long : length file ≡ length front + length j.snapshot = ap (λ (l : List ℕ). length l) parts ∙ length-append front j.snapshot in
    let at : length front ≡ length file - length j.snapshot = omega (arith, long) in
    sym (ap (λ (l : List ℕ). drop (length file - length j.snapshot) l) parts ∙ drop_at front j.snapshot (length file - length j.snapshot) at)

pub classes : (c : Class) (file : List ℕ) → IsBytes file → IsClass (length file) c (class_of file) → IsClassOf c file
classes Free file fits is = free_class file is
classes (Stands job) file fits (x, e, same) =
    let f = stands_class file x fits e in
    let b : x.board ≡ board.shown job.board = ap (λ (s : reading.Seen). s.board) same in
    let a : x.algorithms ≡ algorithms_shown job.algorithms = ap (λ (s : reading.Seen). s.algorithms) same in
    record {
      text = x.job;
      is = subst (λ (y : board.Shown). IsJob x.job y (algorithms_shown job.algorithms)) b (subst (λ (y : List flm.Shown). IsJob x.job x.board y) a f.is);
      whole = f.whole;
      image = ap (λ (s : reading.Seen). s.image) same;
      snapshot = snapshot_from x.job file f.whole ∙ ap (λ (n : ℕ). drop n file) (ap (λ (s : reading.Seen). s.snapshot_at) same);
    }
classes (Damaged damage) file fits is = damaged_class file damage.kept damage.found is
classes (NotAJob at) file fits is = not_class file at is

-- what was seen of a job was found
was_seen : (whole : ℕ) (r : Result Found ℕ) (s : reading.Seen) → seen_of whole r ≡ Ok s → (x : Found) × (r ≡ Ok x) × (reading.seen whole x ≡ s)
was_seen whole (Ok x) s e = (x, refl, ok_is {E = ℕ} (reading.seen whole x) s e)
was_seen whole (Err at) s e = absurd cc

-- an undamaged body that is read as a job has the class of that job
pub stands_behind : (whole : ℕ) (body : List ℕ) (s : reading.Seen) → is_damaged body ≡ false → seen_of whole (job_at whole body) ≡ Ok s
    → (x : Found) × (class_behind whole body ≡ stands x) × (reading.seen whole x ≡ s)
unfolding class_behind
stands_behind whole body s intact is =
    let (x, found, same) = was_seen whole (job_at whole body) s is in
    (x, ap (λ (b : Bool). cond b (damaged (kept_in body) (found_in body)) (class_from (job_at whole body))) intact ∙ ap class_from found, same)

-- the class of a file with an open gate is decided by its body
pub class_opened : (file : List ℕ) → 1 < length file → get_or file 0 0 ≡ 165 → class_of file ≡ class_behind (length file) (drop 1 file)
unfolding class_of
class_opened [] enough opened = absurd (omega arith)
class_opened (gate ∷ []) enough opened = absurd (omega arith)
class_opened (gate ∷ next ∷ rest) enough opened =
    let len : length rest + 2 ≡ length (gate ∷ next ∷ rest) = omega arith in
    ap (λ (b : Bool). cond b (class_behind (length rest + 2) (next ∷ rest)) free) (eq-eqb gate 165 opened) ∙ ap (λ (n : ℕ). class_behind n (next ∷ rest)) len

-- a file with an open gate and a hash that fits is no job where the reading fails
pub not_as : (file : List ℕ) (at : ℕ) → 1 < length file → get_or file 0 0 ≡ 165 → is_damaged (drop 1 file) ≡ false →
    job_at (length file) (drop 1 file) ≡ Err at → IsNotAJob at file
unfolding class_behind
not_as file at enough opened intact is =
    let body = drop 1 file in
    not_class file at (class_opened file enough opened
    ∙ ap (λ (b : Bool). cond b (damaged (kept_in body) (found_in body)) (class_from (job_at (length file) body))) intact ∙ ap class_from is)

-- a file with an open gate and a hash that doesn't fit is damaged
pub damaged_as : (file : List ℕ) → 1 < length file → get_or file 0 0 ≡ 165 → is_damaged (drop 1 file) ≡ true →
    IsFoundDamaged (kept_in (drop 1 file)) (found_in (drop 1 file)) file
unfolding class_behind
damaged_as file enough opened broken =
    let body = drop 1 file in
    damaged_class file (kept_in body) (found_in body) (class_opened file enough opened
    ∙ ap (λ (b : Bool). cond b (damaged (kept_in body) (found_in body)) (class_from (job_at (length file) body))) broken)

-- a file that stands for a job in memory stands for a job
abbrev pub some_job : (job : code.Job) (file : List ℕ) → StandsFor job file → IsSomeJob file
some_job job file stands_for = record {
  job = stands_for.text;
  board = board.shown job.board;
  algorithms = algorithms_shown job.algorithms;
  is = stands_for.is;
  whole = stands_for.whole;
}
