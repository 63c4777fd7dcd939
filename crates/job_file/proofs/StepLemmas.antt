-- The steps of a reader that goes through a file from place to place.
use Rattle.std.proofs.Common.{◌≡◌, ◌≤◌, ◌<◌, ◌+◌, ◌-◌, ◌∙◌, ℕ, Bool, true, false, ◌&&◌, cond, ltb, leb, IsTrue, List, ◌++◌, length, get_or, take, drop, Result}
use Rattle.std.proofs.Common.{Ok, Err, refl, sym, ap, ⊎_elim, arith}
use Rattle.std.specs.Prelude.{nat_eq}
use Rattle.std.specs.Int.{w32, from_le_bytes}
use Rattle.std.specs.List.{starts_with}
use Rattle.std.specs.Cmp.Lexicographic.{pointwise}
use Rattle.std.proofs.lemmas.Bool.{cases_lt, le-ltb, lt-ltb, leb-true, ltb-true, and_parts}
use Rattle.std.proofs.lemmas.Nat.{le_bytes_4}
use Rattle.std.proofs.lemmas.List.{length-take, length-drop, drop-drop, take-take, drop-take, take_all, take-append-drop}
use Rattle.octets.specs.Field.{field32}
use Rattle.faults.specs.Results.{◌>>=◌}
use Rattle.byte_map.specs.Image.{Run, addresses}
use Rattle.board_file.specs.declared.region.Region.{Region}
use Rattle.job_text.specs.declared.format.Format.{Format}
use Rattle.job_text.specs.declared.format.Format.TheVariants.{First, Second}
use Rattle.job_text.specs.declared.head.Head.{Head}
use Rattle.job_text.specs.Body.{first_mark, field}
use Rattle.job_text.specs.Runs.{run_of}
use Rattle.job_text.specs.Reading.{number_at, text_at, holds_or, covers, is_placed, first_head, second_head, head_at, run_at}
use Rattle.job_text.proofs.Steps.{bind_is, holds}
use Rattle.job_text.proofs.TakeLemmas.{IsBytes-take, IsBytes-drop}
use Rattle.job_file.specs.Readers.{head_len}

-- ---- a field and a text, where there are enough bytes

pub number_here : (d : ℕ) (bytes : List ℕ) → 4 ≤ length bytes → number_at d bytes ≡ Ok (field32 bytes 0, drop 4 bytes)
number_here d bytes long = ap (λ (b : Bool). cond b (Err d) (Ok (field32 bytes 0, drop 4 bytes))) (le-ltb (length bytes) 4 long)

pub number_cut : (d : ℕ) (bytes : List ℕ) → length bytes < 4 → number_at d bytes ≡ Err d
number_cut d bytes short = ap (λ (b : Bool). cond b (Err d) (Ok (field32 bytes 0, drop 4 bytes))) (lt-ltb (length bytes) 4 short)

pub text_here : (d n : ℕ) (bytes : List ℕ) → n ≤ length bytes → text_at d n bytes ≡ Ok (take n bytes, drop n bytes)
text_here d n bytes long = ap (λ (b : Bool). cond b (Err d) (Ok (take n bytes, drop n bytes))) (le-ltb (length bytes) n long)

pub text_cut : (d n : ℕ) (bytes : List ℕ) → length bytes < n → text_at d n bytes ≡ Err d
text_cut d n bytes short = ap (λ (b : Bool). cond b (Err d) (Ok (take n bytes, drop n bytes))) (lt-ltb (length bytes) n short)

pub fails : (d : ℕ) (b : Bool) → b ≡ false → holds_or d b ≡ Err d
fails d b e = ap (holds_or d) e

-- a step that fails makes the steps around it fail
pub err_through : {A B C E : Type 0} (r : Result A E) (q : A → Result B E) (k : A → B → Result C E) (e : E) → (r >>= q) ≡ Err e
    → (r >>= λ a. q a >>= k a) ≡ Err e
err_through (Ok x) q k e is = ap (λ (s : Result _ _). s >>= k x) is
err_through (Err d) q k e is = let same : d ≡ e = cc in ap (λ (x : _). Err x) same

pub bind_err : {A B E : Type 0} (r : Result A E) (k : A → Result B E) (e : E) → r ≡ Err e → (r >>= k) ≡ Err e
bind_err r k e is = ap (λ (s : Result _ _). s >>= k) is

-- ---- the head

at_place : (n k : ℕ) (bytes : List ℕ) → drop n (drop k bytes) ≡ drop (k + n) bytes
at_place n k bytes = drop-drop n k bytes

abbrev head_done : Head → List ℕ → Result (Head × List ℕ) ℕ
head_done h rest = Ok (h, rest)

-- a field at a place is read, and the reading continues after it
number_step : {A : Type 0} (d at : ℕ) (bytes rest : List ℕ) (k : ℕ × List ℕ → Result A ℕ) → rest ≡ drop at bytes → at + 4 ≤ length bytes
    → (number_at d rest >>= k) ≡ k (field32 bytes at, drop (at + 4) bytes)
number_step d at bytes rest k is long =
    ap (λ (l : List ℕ). number_at d l >>= k) is
    ∙ bind_is (number_at d (drop at bytes)) k (field32 (drop at bytes) 0, drop 4 (drop at bytes))
    (number_here d (drop at bytes) (omega (arith, long, length-drop at bytes)))
    ∙ ap (λ (l : List ℕ). k (field32 bytes at, l)) (at_place 4 at bytes)

-- the lengths in a head of the first format, from 7 on
abbrev first_in : List ℕ → Head
first_in bytes = record { board = field32 bytes 7; files = 1; first = field32 bytes 11; second = 0; runs = field32 bytes 15; cells = field32 bytes 19 }

abbrev first_numbers : ℕ → List ℕ → Result (Head × List ℕ) ℕ
first_numbers d m = number_at d m >>= λ b. number_at d b.1 >>= λ f. number_at d f.1 >>= λ r. number_at d r.1 >>= λ n. Ok
    (record { board = b.0; files = 1; first = f.0; second = 0; runs = r.0; cells = n.0 }, n.1)

first_here : (d : ℕ) (bytes : List ℕ) → 23 ≤ length bytes → first_numbers d (drop 7 bytes) ≡ head_done (first_in bytes) (drop 23 bytes)
first_here d bytes long =
    number_step d 7 bytes (drop 7 bytes) (λ b. number_at d b.1 >>= λ f. number_at d f.1 >>= λ r. number_at d r.1 >>= λ n. head_done
    (record { board = b.0; files = 1; first = f.0; second = 0; runs = r.0; cells = n.0 }) n.1) refl (omega (arith, long))
    ∙ number_step d 11 bytes (drop 11 bytes) (λ f. number_at d f.1 >>= λ r. number_at d r.1 >>= λ n. head_done
    (record { board = field32 bytes 7; files = 1; first = f.0; second = 0; runs = r.0; cells = n.0 }) n.1) refl (omega (arith, long))
    ∙ number_step d 15 bytes (drop 15 bytes) (λ r. number_at d r.1 >>= λ n. head_done
    (record { board = field32 bytes 7; files = 1; first = field32 bytes 11; second = 0; runs = r.0; cells = n.0 }) n.1) refl (omega (arith, long))
    ∙ number_step d 19 bytes (drop 19 bytes) (λ n. head_done
    (record { board = field32 bytes 7; files = 1; first = field32 bytes 11; second = 0; runs = field32 bytes 15; cells = n.0 }) n.1) refl (omega (arith, long))

-- the lengths in a head of the second format, from 39 on
abbrev second_in : List ℕ → Head
second_in bytes = record {
  board = field32 bytes 39;
  files = field32 bytes 43;
  first = field32 bytes 47;
  second = field32 bytes 51;
  runs = field32 bytes 55;
  cells = field32 bytes 59;
}

abbrev second_numbers : ℕ → List ℕ → Result (Head × List ℕ) ℕ
second_numbers d m = number_at d m >>= λ b. number_at d b.1 >>= λ q. number_at d q.1 >>= λ f. number_at d f.1 >>= λ s. number_at d s.1 >>= λ r. number_at d r.1
    >>= λ n. Ok (record { board = b.0; files = q.0; first = f.0; second = s.0; runs = r.0; cells = n.0 }, n.1)

second_here : (d : ℕ) (bytes : List ℕ) → 63 ≤ length bytes → second_numbers d (drop 39 bytes) ≡ head_done (second_in bytes) (drop 63 bytes)
second_here d bytes long =
    number_step d 39 bytes (drop 39 bytes) (λ b. number_at d b.1 >>= λ q. number_at d q.1 >>= λ f. number_at d f.1 >>= λ s. number_at d s.1 >>= λ r. number_at d
    r.1 >>= λ n. head_done (record { board = b.0; files = q.0; first = f.0; second = s.0; runs = r.0; cells = n.0 }) n.1) refl (omega (arith, long))
    ∙ number_step d 43 bytes (drop 43 bytes) (λ q. number_at d q.1 >>= λ f. number_at d f.1 >>= λ s. number_at d s.1 >>= λ r. number_at d r.1 >>= λ n. head_done
    (record { board = field32 bytes 39; files = q.0; first = f.0; second = s.0; runs = r.0; cells = n.0 }) n.1) refl (omega (arith, long))
    ∙ number_step d 47 bytes (drop 47 bytes) (λ f. number_at d f.1 >>= λ s. number_at d s.1 >>= λ r. number_at d r.1 >>= λ n. head_done
    (record { board = field32 bytes 39; files = field32 bytes 43; first = f.0; second = s.0; runs = r.0; cells = n.0 }) n.1) refl (omega (arith, long))
    ∙ number_step d 51 bytes (drop 51 bytes) (λ s. number_at d s.1 >>= λ r. number_at d r.1 >>= λ n. head_done
    (record { board = field32 bytes 39; files = field32 bytes 43; first = field32 bytes 47; second = s.0; runs = r.0; cells = n.0 }) n.1) refl
    (omega (arith, long))
    ∙ number_step d 55 bytes (drop 55 bytes) (λ r. number_at d r.1 >>= λ n. head_done
    (record { board = field32 bytes 39; files = field32 bytes 43; first = field32 bytes 47; second = field32 bytes 51; runs = r.0; cells = n.0 }) n.1) refl
    (omega (arith, long))
    ∙ number_step d 59 bytes (drop 59 bytes) (λ n. head_done
    (record { board = field32 bytes 39; files = field32 bytes 43; first = field32 bytes 47; second = field32 bytes 51; runs = field32 bytes 55; cells = n.0 })
    n.1) refl (omega (arith, long))

-- a head is at least as long as a mark
pub head_long : (format : Format) → 7 ≤ head_len format
head_long First = omega arith
head_long Second = omega arith

-- the head of a format
abbrev head_in : Format → List ℕ → Head
head_in First bytes = first_in bytes
head_in Second bytes = second_in bytes

-- the mark is checked in the first format only
abbrev is_marked : Format → List ℕ → Bool
is_marked First bytes = starts_with nat_eq bytes first_mark
is_marked Second bytes = true

abbrev marked : Bool → Format → List ℕ → Result (Head × List ℕ) ℕ
marked b format bytes = cond b (head_done (head_in format bytes) (drop (head_len format) bytes)) (Err 1)

abbrev mark_if : Bool → List ℕ → Result (List ℕ) ℕ
mark_if b bytes = cond b (Ok (drop 7 bytes)) (Err 1)

by_mark : (d : ℕ) (bytes : List ℕ) (b : Bool) → 23 ≤ length bytes → (mark_if b bytes >>= first_numbers d) ≡ marked b First bytes
by_mark d bytes true long = first_here d bytes long
by_mark d bytes false long = refl

head_here : (d : ℕ) (format : Format) (bytes : List ℕ) → head_len format ≤ length bytes → head_at d format bytes ≡ marked (is_marked format bytes) format bytes
unfolding first_head second_head
head_here d First bytes long = by_mark d bytes (starts_with nat_eq bytes first_mark) long
head_here d Second bytes long =
    bind_is (text_at d 39 bytes) (λ m. second_numbers d m.1) (take 39 bytes, drop 39 bytes) (text_here d 39 bytes (omega (arith, long)))
    ∙ second_here d bytes long

-- a field in the first bytes is the same field of all bytes
field_front : (at n : ℕ) (bytes : List ℕ) → at + 4 ≤ n → field32 (take n bytes) at ≡ field32 bytes at
field_front at n bytes le =
    let m = n - at in
    let split : at + m ≡ n = omega arith in
    let part : drop at (take n bytes) ≡ take m (drop at bytes) = ap (λ (k : ℕ). drop at (take k bytes)) (sym split) ∙ drop-take at m bytes in
    ap (λ (l : List ℕ). from_le_bytes w32 (take 4 l)) part ∙ ap (from_le_bytes w32) (take-take 4 m (drop at bytes) (omega (arith, le)))

head_front : (format : Format) (bytes : List ℕ) → head_in format (take (head_len format) bytes) ≡ head_in format bytes
head_front First bytes = λ i. record {
  board = field_front 7 23 bytes (omega arith) i;
  files = 1;
  first = field_front 11 23 bytes (omega arith) i;
  second = 0;
  runs = field_front 15 23 bytes (omega arith) i;
  cells = field_front 19 23 bytes (omega arith) i;
}
head_front Second bytes = λ i. record {
  board = field_front 39 63 bytes (omega arith) i;
  files = field_front 43 63 bytes (omega arith) i;
  first = field_front 47 63 bytes (omega arith) i;
  second = field_front 51 63 bytes (omega arith) i;
  runs = field_front 55 63 bytes (omega arith) i;
  cells = field_front 59 63 bytes (omega arith) i;
}

mark_front : (format : Format) (bytes : List ℕ) → is_marked format (take (head_len format) bytes) ≡ is_marked format bytes
mark_front First bytes = ap (λ (l : List ℕ). pointwise nat_eq first_mark l) (take-take 7 23 bytes (omega arith))
mark_front Second bytes = refl

-- the head in the first bytes, after the check of its mark
front_here : (d : ℕ) (format : Format) (bytes : List ℕ) → head_len format ≤ length bytes
    → head_at d format (take (head_len format) bytes) ≡ marked (is_marked format bytes) format (take (head_len format) bytes)
front_here d format bytes long =
    let n = head_len format in
    head_here d format (take n bytes) (omega (arith, long, length-take n bytes)) ∙ ap (λ (b : Bool). marked b format (take n bytes)) (mark_front format bytes)

-- the head of the file is in its first bytes
pub head_from : (d : ℕ) (format : Format) (bytes : List ℕ) (h : Head) (rest : List ℕ) → head_len format ≤ length bytes
    → head_at d format (take (head_len format) bytes) ≡ Ok (h, rest)
    → head_at d format bytes ≡ Ok (h, drop (head_len format) bytes)
head_from d format bytes h rest long is = by_start (is_marked format bytes) (sym (front_here d format bytes long) ∙ is) (head_here d format bytes long)
  where
    by_start : (b : Bool) → marked b format (take (head_len format) bytes) ≡ Ok (h, rest) → head_at d format bytes ≡ marked b format bytes
        → head_at d format bytes ≡ Ok (h, drop (head_len format) bytes)
    by_start true found here =
        let same : head_in format (take (head_len format) bytes) ≡ h = ap (λ (r : Result (Head × List ℕ) ℕ). head_or r h) found in
        here ∙ ap (λ (x : Head). head_done x (drop (head_len format) bytes)) (sym (head_front format bytes) ∙ same)
      where
        head_or : Result (Head × List ℕ) ℕ → Head → Head
        head_or (Ok x) other = x.0
        head_or (Err e) other = other
    by_start false found here = absurd cc

pub head_fails : (d : ℕ) (format : Format) (bytes : List ℕ) (e : ℕ) → head_len format ≤ length bytes → head_at d format (take (head_len format) bytes) ≡ Err e
    → head_at d format bytes ≡ Err e
head_fails d format bytes e long is = by_start (is_marked format bytes) (sym (front_here d format bytes long) ∙ is) (head_here d format bytes long)
  where
    by_start : (b : Bool) → marked b format (take (head_len format) bytes) ≡ Err e → head_at d format bytes ≡ marked b format bytes
        → head_at d format bytes ≡ Err e
    by_start true found here = absurd cc
    by_start false found here = here ∙ found

-- ---- a run

abbrev run_behind : ℕ → List Region → ℕ → List ℕ → ℕ → List ℕ → Result (Run × List ℕ) ℕ
run_behind d regions low bytes place rest = number_at d rest >>= λ len. text_at d len.0 len.1 >>= λ text. holds_or (d - length bytes)
    (is_placed regions low place len.0) >>= λ u. Ok (run_of place text.0, text.1)

run_from : (d : ℕ) (regions : List Region) (low : ℕ) (bytes : List ℕ)
    → run_at d regions low bytes ≡ (number_at d bytes >>= λ at. run_behind d regions low bytes at.0 at.1)
unfolding run_at
run_from d regions low bytes = refl

-- a run of fewer than eight bytes fails at the file's length
pub run_short : (d : ℕ) (regions : List Region) (low : ℕ) (bytes : List ℕ) → length bytes < 8 → run_at d regions low bytes ≡ Err d
run_short d regions low bytes short = run_from d regions low bytes ∙ ⊎_elim
    (λ (less : length bytes < 4). bind_err (number_at d bytes) (λ at. run_behind d regions low bytes at.0 at.1) d (number_cut d bytes less))
    (λ (some : 4 ≤ length bytes). bind_is (number_at d bytes) (λ at. run_behind d regions low bytes at.0 at.1) (field32 bytes 0, drop 4 bytes)
    (number_here d bytes some)
    ∙ bind_err (number_at d (drop 4 bytes)) (λ len. text_at d len.0 len.1 >>= λ text. holds_or (d - length bytes)
    (is_placed regions low (field32 bytes 0) len.0) >>= λ u. Ok (run_of (field32 bytes 0) text.0, text.1)) d
    (number_cut d (drop 4 bytes) (omega (arith, short, length-drop 4 bytes))))
    (cases_lt (length bytes) 4)

abbrev run_text_at : ℕ → List Region → ℕ → List ℕ → Result (Run × List ℕ) ℕ
run_text_at d regions low bytes = text_at d (field32 bytes 4) (drop 8 bytes) >>= λ text. holds_or (d - length bytes)
    (is_placed regions low (field32 bytes 0) (field32 bytes 4)) >>= λ u. Ok (run_of (field32 bytes 0) text.0, text.1)

run_numbers : (d : ℕ) (regions : List Region) (low : ℕ) (bytes : List ℕ) → 8 ≤ length bytes → run_at d regions low bytes ≡ run_text_at d regions low bytes
run_numbers d regions low bytes long =
    let rest = drop 4 bytes in
    run_from d regions low bytes
    ∙ bind_is (number_at d bytes) (λ at. run_behind d regions low bytes at.0 at.1) (field32 bytes 0, rest) (number_here d bytes (omega (arith, long)))
    ∙ bind_is (number_at d rest) (λ len. text_at d len.0 len.1 >>= λ text. holds_or (d - length bytes) (is_placed regions low (field32 bytes 0) len.0) >>= λ u.
    Ok (run_of (field32 bytes 0) text.0, text.1))
    (field32 rest 0, drop 4 rest) (number_here d rest (omega (arith, long, length-drop 4 bytes)))
    ∙ ap (λ (l : List ℕ). text_at d (field32 bytes 4) l >>= λ text. holds_or (d - length bytes) (is_placed regions low (field32 bytes 0) (field32 bytes 4)) >>=
    λ u. Ok (run_of (field32 bytes 0) text.0, text.1)) (drop-drop 4 4 bytes)

-- a run that ends after the end of the file fails at the file's length
pub run_cut : (d : ℕ) (regions : List Region) (low : ℕ) (bytes : List ℕ) → 8 ≤ length bytes → length bytes - 8 < field32 bytes 4
    → run_at d regions low bytes ≡ Err d
run_cut d regions low bytes long short =
    run_numbers d regions low bytes long
    ∙ bind_err (text_at d (field32 bytes 4) (drop 8 bytes)) (λ text. holds_or (d - length bytes) (is_placed regions low (field32 bytes 0) (field32 bytes 4)) >>=
    λ u. Ok (run_of (field32 bytes 0) text.0, text.1)) d
    (text_cut d (field32 bytes 4) (drop 8 bytes) (omega (arith, short, length-drop 8 bytes)))

run_placed : (d : ℕ) (regions : List Region) (low : ℕ) (bytes : List ℕ) → 8 ≤ length bytes → field32 bytes 4 ≤ length bytes - 8
    → run_at d regions low bytes ≡ (holds_or (d - length bytes) (is_placed regions low (field32 bytes 0) (field32 bytes 4)) >>= λ u. Ok
    (run_of (field32 bytes 0) (take (field32 bytes 4) (drop 8 bytes)), drop (field32 bytes 4) (drop 8 bytes)))
run_placed d regions low bytes long fits =
    run_numbers d regions low bytes long
    ∙ bind_is (text_at d (field32 bytes 4) (drop 8 bytes)) (λ text. holds_or (d - length bytes) (is_placed regions low (field32 bytes 0) (field32 bytes 4)) >>=
    λ u. Ok (run_of (field32 bytes 0) text.0, text.1))
    (take (field32 bytes 4) (drop 8 bytes), drop (field32 bytes 4) (drop 8 bytes))
    (text_here d (field32 bytes 4) (drop 8 bytes) (omega (arith, fits, length-drop 8 bytes)))

pub run_misplaced : (d : ℕ) (regions : List Region) (low : ℕ) (bytes : List ℕ) → 8 ≤ length bytes → field32 bytes 4 ≤ length bytes - 8
    → is_placed regions low (field32 bytes 0) (field32 bytes 4) ≡ false → run_at d regions low bytes ≡ Err (d - length bytes)
run_misplaced d regions low bytes long fits wrong =
    run_placed d regions low bytes long fits
    ∙ bind_err (holds_or (d - length bytes) (is_placed regions low (field32 bytes 0) (field32 bytes 4)))
    (λ u. Ok (run_of (field32 bytes 0) (take (field32 bytes 4) (drop 8 bytes)), drop (field32 bytes 4) (drop 8 bytes))) (d - length bytes)
    (fails (d - length bytes) (is_placed regions low (field32 bytes 0) (field32 bytes 4)) wrong)

pub run_here : (d : ℕ) (regions : List Region) (low : ℕ) (bytes : List ℕ) → 8 ≤ length bytes → field32 bytes 4 ≤ length bytes - 8
    → is_placed regions low (field32 bytes 0) (field32 bytes 4) ≡ true
    → run_at d regions low bytes ≡ Ok (run_of (field32 bytes 0) (take (field32 bytes 4) (drop 8 bytes)), drop (field32 bytes 4) (drop 8 bytes))
run_here d regions low bytes long fits right =
    run_placed d regions low bytes long fits
    ∙ bind_is (holds_or (d - length bytes) (is_placed regions low (field32 bytes 0) (field32 bytes 4)))
    (λ u. Ok (run_of (field32 bytes 0) (take (field32 bytes 4) (drop 8 bytes)), drop (field32 bytes 4) (drop 8 bytes))) tt
    (holds (d - length bytes) (is_placed regions low (field32 bytes 0) (field32 bytes 4)) right)

-- ---- a run, from the bytes before it

-- the head of a run is the eight bytes at offset `at` of the file
pub record IsRunHead (head file : List ℕ) (whole at : ℕ) : Type 0 where
  pub long : length file ≡ whole
  pub within : at + 8 ≤ whole
  pub front : head ≡ take 8 (drop at file)

place_in : (head file : List ℕ) (whole at : ℕ) → IsRunHead head file whole at → field32 head 0 ≡ field32 (drop at file) 0
place_in head file whole at h = ap (λ (l : List ℕ). field32 l 0) h.front ∙ field_front 0 8 (drop at file) (omega arith)

len_in : (head file : List ℕ) (whole at : ℕ) → IsRunHead head file whole at → field32 head 4 ≡ field32 (drop at file) 4
len_in head file whole at h = ap (λ (l : List ℕ). field32 l 4) h.front ∙ field_front 4 8 (drop at file) (omega arith)

pub judged_cut : (head file : List ℕ) (whole : ℕ) (regions : List Region) (low at len : ℕ) → IsRunHead head file whole at → len ≡ field32 head 4
    → whole - at - 8 < len → run_at whole regions low (drop at file) ≡ Err whole
judged_cut head file whole regions low at len h is short =
    run_cut whole regions low (drop at file) (omega (arith, h.long, h.within, length-drop at file))
    (omega (arith, h.long, h.within, length-drop at file, is, len_in head file whole at h, short))

pub judged_misplaced : (head file : List ℕ) (whole : ℕ) (regions : List Region) (low at place len : ℕ) → IsRunHead head file whole at → place ≡ field32 head 0
    → len ≡ field32 head 4 → len ≤ whole - at - 8 → is_placed regions low place len ≡ false
    → run_at whole regions low (drop at file) ≡ Err at
judged_misplaced head file whole regions low at place len h place_is len_is fits wrong =
    let p : place ≡ field32 (drop at file) 0 = place_is ∙ place_in head file whole at h in
    let n : len ≡ field32 (drop at file) 4 = len_is ∙ len_in head file whole at h in
    let there : whole - length (drop at file) ≡ at = omega (arith, h.long, h.within, length-drop at file) in
    run_misplaced whole regions low (drop at file) (omega (arith, h.long, h.within, length-drop at file))
    (omega (arith, h.long, h.within, length-drop at file, n, fits))
    (ap (λ (x : ℕ). is_placed regions low x (field32 (drop at file) 4)) (sym p) ∙ ap (λ (x : ℕ). is_placed regions low place x) (sym n) ∙ wrong)
    ∙ ap (λ (x : ℕ). Err x) there

pub judged : (head file : List ℕ) (whole : ℕ) (regions : List Region) (low at place len : ℕ) → IsRunHead head file whole at → place ≡ field32 head 0
    → len ≡ field32 head 4 → len ≤ whole - at - 8 → is_placed regions low place len ≡ true
    → run_at whole regions low (drop at file) ≡ Ok (run_of place (take len (drop (at + 8) file)), drop (at + 8 + len) file)
judged head file whole regions low at place len h place_is len_is fits right =
    let p : field32 (drop at file) 0 ≡ place = sym (place_is ∙ place_in head file whole at h) in
    let n : field32 (drop at file) 4 ≡ len = sym (len_is ∙ len_in head file whole at h) in
    run_here whole regions low (drop at file) (omega (arith, h.long, h.within, length-drop at file))
    (omega (arith, h.long, h.within, length-drop at file, n, fits))
    (ap (λ (x : ℕ). is_placed regions low x (field32 (drop at file) 4)) p ∙ ap (λ (x : ℕ). is_placed regions low place x) n ∙ right)
    ∙ (λ i. Ok (run_of (p i) (take (n i) (drop-drop 8 at file i)), drop (n i) (drop-drop 8 at file i)))
    ∙ ap (λ (l : List ℕ). Ok (run_of place (take len (drop (at + 8) file)), l)) (drop-drop len (at + 8) file)

-- a run keeps each condition on its place
pub record ArePlaced (regions : List Region) (low place len : ℕ) : Type 0 where
  pub rises : low ≤ place
  pub some : 0 < len
  pub inside : place + len ≤ addresses
  pub covered : IsTrue (covers regions place (place + len))

pub placed_parts : (regions : List Region) (low place len : ℕ) → is_placed regions low place len ≡ true → ArePlaced regions low place len
placed_parts regions low place len is =
    let p = and_parts (leb low place && ltb 0 len && leb (place + len) addresses) (covers regions place (place + len)) is in
    let q = and_parts (leb low place && ltb 0 len) (leb (place + len) addresses) p.0 in
    let r = and_parts (leb low place) (ltb 0 len) q.0 in
    record { rises = leb-true _ _ r.0; some = ltb-true _ _ r.1; inside = leb-true _ _ q.1; covered = p.1 }

-- the eight bytes are the two fields
pub head_fields : (head : List ℕ) (place len : ℕ) → length head ≡ 8 → ((i : ℕ) → get_or head i 0 < 256) → place ≡ field32 head 0 → len ≡ field32 head 4
    → head ≡ field place ++ field len
head_fields head place len long bytes place_is len_is =
    let behind : take 4 (drop 4 head) ≡ drop 4 head = take_all 4 (drop 4 head) (omega (arith, long, length-drop 4 head)) in
    let one : field place ≡ take 4 head = le_bytes_4 (take 4 head) place (omega (arith, long, length-take 4 head)) (IsBytes-take 4 head bytes) place_is in
    let two : field len ≡ drop 4 head = le_bytes_4 (drop 4 head) len (omega (arith, long, length-drop 4 head)) (IsBytes-drop 4 head bytes)
    (len_is ∙ ap (from_le_bytes w32) behind) in
    sym (take-append-drop 4 head) ∙ ap (λ (l : List ℕ). l ++ drop 4 head) (sym one) ∙ ap (λ (l : List ℕ). field place ++ l) (sym two)
