-- A field that is taken is the field that was put, and what was put is taken again.
use Rattle.std.proofs.Common.{◌≡◌, ℕ, ◌+◌, ◌^◌, ◌<◌, ◌≤◌, Bool, false, cond, ltb, List, ◌++◌, length, get_or, take, drop, Ok, Err, refl, sym, ap, subst, ◌∙◌}
use Rattle.std.proofs.Common.{append_assoc, arith, inl, inr}
use Rattle.std.specs.Prelude.{nat_eq}
use Rattle.std.specs.List.{starts_with}
use Rattle.std.specs.Int.{w32, from_le_bytes}
use Rattle.std.specs.Cmp.Lexicographic.{same_text}
use Rattle.std.proofs.lemmas.Bool.{cases_lt, ltb-false, le-ltb}
use Rattle.std.proofs.lemmas.List.{take_at, drop_at, take-append-drop, length-append, length-take, get_or-drop, get_or-take, get_or_past}
use Rattle.std.proofs.lemmas.Nat.{le_bytes_4, from_le_bytes-to_le_bytes_4}
use Rattle.job_text.specs.Body.{first_mark, field}
use Rattle.job_text.specs.Reading.{number_at, text_at, mark_at}
use Rattle.job_text.proofs.Steps.{done, guard_ok, then_ok}

abbrev pub IsBytes : List ℕ → Type 0
IsBytes bytes = (i : ℕ) → get_or bytes i 0 < 256

pub IsBytes-drop : (n : ℕ) (bytes : List ℕ) → IsBytes bytes → IsBytes (drop n bytes)
IsBytes-drop n bytes h i = rw get_or-drop (h (n + i))

pub IsBytes-take : (n : ℕ) (bytes : List ℕ) → IsBytes bytes → IsBytes (take n bytes)
IsBytes-take n bytes h i =
    elim (cases_lt i n) [
      | inl lt ↦ rw (get_or-take n bytes i 0 lt) (h i)
      | inr le ↦ rw (get_or_past (take n bytes) i 0 (omega (arith, length-take n bytes))) (omega arith)
    ]

-- what follows the front of a list of bytes is a list of bytes
pub behind_fits : (front rest bytes : List ℕ) → bytes ≡ front ++ rest → IsBytes bytes → IsBytes rest
behind_fits front rest bytes is fits = subst IsBytes (ap (λ (l : List ℕ). drop (length front) l) is ∙ drop_at front rest (length front) refl)
    (IsBytes-drop (length front) bytes fits)

-- a text was taken from the front
pub record Takes (bytes text rest : List ℕ) : Type 0 where
  pub parts : bytes ≡ text ++ rest
  pub rest_fits : IsBytes rest

pub Takes-then : (a x b y c : List ℕ) → Takes a x b → Takes b y c → Takes a (x ++ y) c
Takes-then a x b y c p q = record { parts = p.parts ∙ ap (λ (t : List ℕ). x ++ t) q.parts ∙ sym (append_assoc x y c); rest_fits = q.rest_fits }

below : (bytes : List ℕ) → IsBytes bytes → from_le_bytes w32 (take 4 bytes) < 2 ^ 32
below bytes fits = let h = IsBytes-take 4 bytes fits in omega (arith, h 0, h 1, h 2, h 3)

pub number_takes : (d : ℕ) (bytes : List ℕ) (n : ℕ) (rest : List ℕ) → IsBytes bytes → number_at d bytes ≡ Ok (n, rest) → Takes bytes (field n) rest ×
    (n < 2 ^ 32)
number_takes d bytes n rest fits e =
    let g = guard_ok (ltb (length bytes) 4) d (from_le_bytes w32 (take 4 bytes), drop 4 bytes) (n, rest) e in
    let long : 4 ≤ length bytes = ltb-false _ _ g.0 in
    let n-is : from_le_bytes w32 (take 4 bytes) ≡ n = ap (λ (p : ℕ × List ℕ). p.0) g.1 in
    let rest-is : drop 4 bytes ≡ rest = ap (λ (p : ℕ × List ℕ). p.1) g.1 in
    let front : field n ≡ take 4 bytes = le_bytes_4 (take 4 bytes) n (omega (arith, length-take 4 bytes)) (IsBytes-take 4 bytes fits) (sym n-is) in (
      record {
        parts = sym (ap (λ (l : List ℕ). l ++ rest) front ∙ ap (λ (l : List ℕ). take 4 bytes ++ l) (sym rest-is) ∙ take-append-drop 4 bytes);
        rest_fits =
            subst IsBytes rest-is (IsBytes-drop 4 bytes fits);
      },
      subst (λ (k : ℕ). k < 2 ^ 32) n-is (below bytes fits),
    )

pub number_again : (d n : ℕ) (rest : List ℕ) → n < 2 ^ 32 → number_at d (field n ++ rest) ≡ Ok (n, rest)
number_again d n rest lt =
    let long : ltb (length (field n ++ rest)) 4 ≡ false = le-ltb _ _ (omega (arith, length-append (field n) rest)) in
    ap (λ (b : Bool). cond b (Err d) (done (from_le_bytes w32 (take 4 (field n ++ rest)), drop 4 (field n ++ rest)))) long ∙
    ap (λ (k : ℕ). done (k, rest)) (from_le_bytes-to_le_bytes_4 n lt)

pub text_parts : (d n : ℕ) (bytes text rest : List ℕ) → text_at d n bytes ≡ Ok (text, rest) → (bytes ≡ text ++ rest) × (length text ≡ n)
text_parts d n bytes text rest e =
    let g = guard_ok (ltb (length bytes) n) d (take n bytes, drop n bytes) (text, rest) e in
    let long : n ≤ length bytes = ltb-false _ _ g.0 in
    subst (λ (p : List ℕ × List ℕ). (bytes ≡ p.0 ++ p.1) × (length p.0 ≡ n)) g.1 (sym (take-append-drop n bytes), omega (arith, length-take n bytes))

pub text_takes : (d n : ℕ) (bytes text rest : List ℕ) → IsBytes bytes → text_at d n bytes ≡ Ok (text, rest) → Takes bytes text rest × (length text ≡ n)
text_takes d n bytes text rest fits e = let p = text_parts d n bytes text rest e in
    (record { parts = p.0; rest_fits = behind_fits text rest bytes p.0 fits }, p.1)

pub text_again : (d : ℕ) (text rest : List ℕ) → text_at d (length text) (text ++ rest) ≡ Ok (text, rest)
text_again d text rest =
    let long : ltb (length (text ++ rest)) (length text) ≡ false = le-ltb _ _ (omega (arith, length-append text rest)) in
    rw (long, take_at text rest (length text) refl, drop_at text rest (length text) refl) refl

pub mark_takes : (bytes rest : List ℕ) → IsBytes bytes → mark_at bytes ≡ Ok rest → Takes bytes first_mark rest
mark_takes bytes rest fits e =
    let g = then_ok (starts_with nat_eq bytes first_mark) 1 (drop 7 bytes) rest e in
    let same : first_mark ≡ take 7 bytes = same_text first_mark (take 7 bytes) (sym g.0) in
    record {
      parts = sym (ap (λ (l : List ℕ). l ++ rest) same ∙ ap (λ (l : List ℕ). take 7 bytes ++ l) (sym g.1) ∙ take-append-drop 7 bytes);
      rest_fits =
          subst IsBytes g.1 (IsBytes-drop 7 bytes fits);
    }

pub mark_again : (rest : List ℕ) → mark_at (first_mark ++ rest) ≡ Ok rest
mark_again rest = refl
