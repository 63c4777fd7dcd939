-- A file is hashed window by window, as `put_hashed` and `find_damage` do it.
use Rattle.std.proofs.Common.{◌≡◌, ◌≤◌, ◌<◌, ◌+◌, ◌-◌, ◌++◌, ◌∙◌, ℕ, List, Bool, true, false, not, ◌&&◌, nat_eq, leb, IsTrue, if◌then◌else◌, length, take, drop}
use Rattle.std.proofs.Common.{Option, Some, None, Bor, refl, sym, ap, subst, arith}
use Rattle.std.specs.Prelude.{bytes_eq, option_copied}
use Rattle.std.specs.List.{concat}
use Rattle.std.specs.Cmp.Lexicographic.{pointwise, same_text, bytes_decides}
use Rattle.std.proofs.lemmas.Bool.{le-leb, lt-leb}
use Rattle.std.proofs.Math.Seq.{take-add}
use Rattle.std.proofs.lemmas.List.{drop-drop, take-take, length-take, append-nil}
use Rattle.bench_model.specs.State.{BenchState}
use Rattle.bench_model.specs.Calls.{OnlyReads}
use Rattle.sha2.specs.Hashers.{Holds256}
use Rattle.sha2.specs.declared.Sha256.{Sha256}
use Rattle.job_text.specs.declared.format.Format.TheVariants.{First, Second}
use Rattle.job_text.specs.declared.damage.Damage.{Damage}
use Rattle.job_text.specs.declared.parts.JobParts.{JobParts}
use Rattle.job_text.specs.Body.{second_mark, flm_len}
use Rattle.job_text.specs.Parts.{files_with, flms_of}
use Rattle.job_text.specs.Reading.{is_second, format_in, kept_in, found_in, is_damaged}
use Rattle.job_text.specs.Shown.{IsDamage}
use Rattle.job_file.specs.Readers.{AreHashes, Differs}

-- the first `at` of the `count` bytes from 40 on are hashed
pub record HashedSoFar (tells : Bool) (start now : BenchState) (count at : ℕ) (window : List ℕ) (hasher : Sha256) : Type 0 where
  pub within : at ≤ count
  pub room : length window ≡ 4096
  pub hash : IsTrue tells → Holds256 hasher (take at (drop 40 start.file))
  pub reads : OnlyReads tells start now
  pub faults : now.store_faults ≡ start.store_faults

-- one more window is hashed
pub window_hashed : (file now : List ℕ) (old new : Sha256) (at end n : ℕ) → at ≤ end → n ≡ end - at → now ≡ file → Holds256 old (take at (drop 40 file))
    → ((m : List ℕ) → Holds256 old m → Holds256 new (m ++ take n (drop (40 + at) now))) → Holds256 new (take end (drop 40 file))
window_hashed file now old new at end n le size same holds more =
    let rest = drop 40 file in
    let m : at + (end - at) ≡ end = omega (arith, le) in
    let is : take at rest ++ take n (drop (40 + at) now) ≡ take end rest =
    ap (λ (k : ℕ). take at rest ++ take k (drop (40 + at) now)) size
    ∙ ap (λ (l : List ℕ). take at rest ++ take (end - at) (drop (40 + at) l)) same
    ∙ ap (λ (l : List ℕ). take at rest ++ take (end - at) l) (sym (drop-drop at 40 file))
    ∙ sym (take-add at (end - at) rest) ∙ ap (λ (k : ℕ). take k rest) m in
    subst (λ (l : List ℕ). Holds256 new l) is (more (take at rest) holds)

-- ---- the format by its mark

-- a body too short for a mark is read as the first format
pub short_format : (body : List ℕ) → length body < 7 → format_in body ≡ First
short_format body short = by_mark (is_second body) refl
  where
    by_mark : (b : Bool) → is_second body ≡ b → (if is_second body then Second else First) ≡ First
    by_mark true is =
        let same : second_mark ≡ take 7 body = same_text second_mark (take 7 body) (sym is) in
        absurd (omega (arith, short, ap (λ (l : List ℕ). length l) same, length-take 7 body))
    by_mark false is = ap (λ (b : Bool). if b then Second else First) is

-- the first seven bytes of a body decide its format
pub front_format : (body : List ℕ) → format_in (take 7 body) ≡ format_in body
front_format body = ap (λ (l : List ℕ). if pointwise nat_eq second_mark l then Second else First) (take-take 7 7 body (omega arith))

pub second_by : (body : List ℕ) → format_in body ≡ Second → is_second body ≡ true
second_by body is = by_mark (is_second body) is
  where
    by_mark : (b : Bool) → (if b then Second else First) ≡ Second → b ≡ true
    by_mark true e = refl
    by_mark false e = absurd cc

-- ---- damage

-- a body of the first format isn't damaged, and a body too short for a head isn't either
pub first_intact : (body : List ℕ) → format_in body ≡ First → is_damaged body ≡ false
first_intact body is = by_length (leb 63 (length body)) (by_mark (is_second body) is)
  where
    by_mark : (b : Bool) → (if b then Second else First) ≡ First → b ≡ false
    by_mark true e = absurd cc
    by_mark false e = refl

    rest : Bool
    rest = not (bytes_eq (kept_in body) (found_in body))

    by_length : (a : Bool) → is_second body ≡ false → ((a && is_second body) && rest) ≡ false
    by_length true e = ap (λ (b : Bool). b && rest) e
    by_length false e = refl

pub short_intact : (body : List ℕ) → length body < 63 → is_damaged body ≡ false
short_intact body short = ap (λ (b : Bool). (b && is_second body) && not (bytes_eq (kept_in body) (found_in body))) (lt-leb 63 (length body) short)

-- a body of the second format with a whole head is damaged exactly if its two hashes differ
hashes_say : (body kept found : List ℕ) (b : Bool) → 63 ≤ length body → is_second body ≡ true → kept ≡ kept_in body → found ≡ found_in body
    → bytes_eq kept found ≡ b → is_damaged body ≡ not b
hashes_say body kept found b long second kept_is found_is is =
    let enough : leb 63 (length body) ≡ true = le-leb _ _ long in
    let same : bytes_eq (kept_in body) (found_in body) ≡ b = (λ i. bytes_eq (sym kept_is i) (sym found_is i)) ∙ is in
    λ i. (enough i && second i) && not (same i)

pub damage_is : (body kept found : List ℕ) (o : Option Damage) → 63 ≤ length body → is_second body ≡ true → kept ≡ kept_in body → found ≡ found_in body
    → AreHashes kept found o → IsDamage o body
damage_is body kept found None long second kept_is found_is is = hashes_say body kept found true long second kept_is found_is is
damage_is body kept found (Some damage) long second kept_is found_is (same_kept, same_found, is) =
    (hashes_say body kept found false long second kept_is found_is is, same_kept ∙ kept_is, same_found ∙ found_is)

pub they_differ : (kept found : List ℕ) (o : Option Damage) → AreHashes kept found o → Differs o
they_differ kept found None is = tt
they_differ kept found (Some damage) (same_kept, same_found, is) = λ same.
    let both : true ≡ false = sym ((bytes_decides kept found).1 (sym same_kept ∙ same ∙ same_found)) ∙ is in cc

-- ---- the FLM files of parts

pub concat_none : (p : JobParts) → p.second ≡ None → p.flm.now ≡ concat (flms_of p)
concat_none p is = sym (append-nil p.flm.now) ∙ ap (λ (o : Option (Bor (List ℕ))). concat (files_with p.flm.now (option_copied o))) (sym is)

pub concat_some : (p : JobParts) (s : Bor (List ℕ)) → p.second ≡ Some s → p.flm.now ++ s.now ≡ concat (flms_of p)
concat_some p s is = ap (λ (l : List ℕ). p.flm.now ++ l) (sym (append-nil s.now))
    ∙ ap (λ (o : Option (Bor (List ℕ))). concat (files_with p.flm.now (option_copied o))) (sym is)

pub second_len : (p : JobParts) (s : Bor (List ℕ)) → p.second ≡ Some s → flm_len (flms_of p) 1 ≡ length s.now
second_len p s is = ap (λ (o : Option (Bor (List ℕ))). flm_len (files_with p.flm.now (option_copied o)) 1) is
