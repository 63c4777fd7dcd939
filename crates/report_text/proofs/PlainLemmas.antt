-- What is said of a target is one line: none of its bytes is a line feed.
use Rattle.std.proofs.Common.{◌≡◌, ◌≢◌, ◌+◌, ◌/◌, ◌%◌, ◌^◌, ◌==◌, refl, subst, arith, not, cond, Bool, true, false, ℕ, zero, suc, List, [], ◌∷◌, ◌++◌}
use Rattle.std.proofs.Common.{All, Option, Some, None, codes, decimal, nat_lt, slice_index}
use Rattle.std.specs.Fmt.{digit_glyph, digits, digits_onto}
use Rattle.std.specs.List.{concat, list_all}
use Rattle.std.proofs.lemmas.Bool.{and_parts, false≢true}
use Rattle.octets.specs.Digit.{hex_text, upper_digits}
use Rattle.flm_descriptor.specs.Parts.{text_of}
use Rattle.flm_descriptor.specs.declared.fault.Name.{Name}
use Rattle.flm_descriptor.specs.declared.fault.Name.TheVariants as name
use Rattle.target_core.specs.declared.run.FaultKind.{FaultKind}
use Rattle.target_core.specs.declared.run.FaultKind.TheVariants as fault
use Rattle.target_core.specs.declared.run.RunEnd.{RunEnd}
use Rattle.target_core.specs.declared.run.RunEnd.TheVariants as run
use Rattle.algo_calls.specs.declared.call.Call.{Call}
use Rattle.algo_calls.specs.declared.call.CallEnd.{CallEnd}
use Rattle.algo_calls.specs.declared.call.CallEnd.TheVariants as ends
use Rattle.report_text.specs.Calls.{function_of, answer_text, place_text, access_text, fault_text, run_text, end_text, failed_text}
use Rattle.report_text.specs.DoneLine.{target_head}
use Rattle.report_text.specs.Lines.{difference_text, hash_text, reason_of}
use Rattle.report_text.specs.Refusal.{Refusal, out_of_memory, usage, no_job, not_a_job, damaged, cells_differ, store_fault, device_fault, call_failed}
use Rattle.report_text.specs.Refusal.{mismatch}
use Rattle.report_text.specs.Target.{target_line}

-- none of these bytes is a line feed
abbrev IsPlain : List ℕ → Type 0
IsPlain [] = Unit {0}
IsPlain (byte ∷ rest) = (byte ≢ 10) × IsPlain rest

abbrev ArePlain : List (List ℕ) → Type 0
ArePlain [] = Unit {0}
ArePlain (text ∷ rest) = IsPlain text × ArePlain rest

each_byte : (text : List ℕ) → IsPlain text → All (λ (byte : ℕ). byte ≢ 10) text
each_byte [] all k d less = absurd (omega (arith, less))
each_byte (x ∷ xs) all zero d less = all.0
each_byte (x ∷ xs) all (suc k) d less = each_byte xs all.1 k d (omega (arith, less))

not_feed : (byte : ℕ) → not (byte == 10) ≡ true → byte ≢ 10
not_feed byte is = λ feed. false≢true (subst (λ (n : ℕ). not (n == 10) ≡ true) feed is)

by_test : (text : List ℕ) → list_all (λ (byte : ℕ). not (byte == 10)) text ≡ true → IsPlain text
by_test [] is = tt
by_test (x ∷ xs) is =
    let both = and_parts (not (x == 10)) (list_all (λ (byte : ℕ). not (byte == 10)) xs) is in
    (not_feed x both.0, by_test xs both.1)

both_of : (a b : List ℕ) → IsPlain a → IsPlain b → IsPlain (a ++ b)
both_of [] b one two = two
both_of (x ∷ xs) b one two = (one.0, both_of xs b one.1 two)

all_of : (pieces : List (List ℕ)) → ArePlain pieces → IsPlain (concat pieces)
all_of [] all = tt
all_of (x ∷ xs) all = both_of x (concat xs) all.0 (all_of xs all.1)

-- ---- numbers

either : (b : Bool) (x y : List ℕ) → IsPlain x → IsPlain y → IsPlain (cond b x y)
either true x y one two = one
either false x y one two = two

glyph_by : (b : Bool) (d : ℕ) → cond b (48 + d) (87 + d) ≢ 10
glyph_by true d = λ is. omega (arith, is)
glyph_by false d = λ is. omega (arith, is)

glyph : (d : ℕ) → digit_glyph false d ≢ 10
glyph d = glyph_by (nat_lt d 10) d

onto : (k base n : ℕ) (acc : List ℕ) → IsPlain acc → IsPlain (digits_onto k base false n acc)
onto zero base n acc all = all
onto (suc k) base n acc all =
    let now = digit_glyph false (n % base) ∷ acc in
    either (n / base == 0) now (digits_onto k base false (n / base) now) (glyph (n % base), all) (onto k base (n / base) now (glyph (n % base), all))

of_decimal : (n : ℕ) → IsPlain (decimal n)
unfolding digits
of_decimal n = onto 64 10 n [] tt

place_in : (xs : List ℕ) (v : ℕ) → IsPlain xs → slice_index xs v ≢ 10
place_in [] zero all = λ is. omega (arith, is)
place_in [] (suc v) all = λ is. omega (arith, is)
place_in (x ∷ xs) zero all = all.0
place_in (x ∷ xs) (suc v) all = place_in xs v all.1

of_hex : (k n : ℕ) → IsPlain (hex_text k n)
of_hex zero n = tt
of_hex (suc k) n = (place_in upper_digits (n / 16 ^ k % 16) (by_test upper_digits refl), of_hex k n)

of_hash : (hash : List ℕ) → IsPlain (hash_text hash)
of_hash [] = tt
of_hash (x ∷ xs) = both_of (hex_text 2 x) (hash_text xs) (of_hex 2 x) (of_hash xs)

-- ---- a call that failed

of_name : (n : Name) → IsPlain (text_of n)
unfolding text_of
of_name name.PrgCode = by_test (codes "PrgCode") refl
of_name name.DevDscr = by_test (codes "DevDscr") refl
of_name name.Init = by_test (codes "Init") refl
of_name name.UnInit = by_test (codes "UnInit") refl
of_name name.EraseSector = by_test (codes "EraseSector") refl
of_name name.ProgramPage = by_test (codes "ProgramPage") refl
of_name name.EraseChip = by_test (codes "EraseChip") refl
of_name name.Verify = by_test (codes "Verify") refl
of_name name.FlashDevice = by_test (codes "FlashDevice") refl

of_answer : (r0 : ℕ) → IsPlain (answer_text r0)
unfolding answer_text
of_answer r0 = all_of (codes "answered " ∷ hex_text 8 r0 ∷ []) (by_test (codes "answered ") refl, (of_hex 8 r0, tt))

of_place : (what : List ℕ) (pc : ℕ) → IsPlain what → IsPlain (place_text what pc)
unfolding place_text
of_place what pc plain = all_of (what ∷ codes " at " ∷ hex_text 8 pc ∷ []) (plain, (by_test (codes " at ") refl, (of_hex 8 pc, tt)))

of_access : (what : List ℕ) (pc at : ℕ) → IsPlain what → IsPlain (access_text what pc at)
unfolding access_text
of_access what pc at plain = all_of (what ∷ codes " at " ∷ hex_text 8 pc ∷ codes " address " ∷ hex_text 8 at ∷ [])
    (plain, (by_test (codes " at ") refl, (of_hex 8 pc, (by_test (codes " address ") refl, (of_hex 8 at, tt)))))

of_fault : (kind : FaultKind) (pc : ℕ) → IsPlain (fault_text kind pc)
unfolding fault_text
of_fault fault.Undefined pc = of_place (codes "undefined") pc (by_test (codes "undefined") refl)
of_fault (fault.BusFault at) pc = of_access (codes "bus fault") pc at (by_test (codes "bus fault") refl)
of_fault (fault.Unaligned at) pc = of_access (codes "unaligned") pc at (by_test (codes "unaligned") refl)
of_fault fault.BadState pc = of_place (codes "bad state") pc (by_test (codes "bad state") refl)

of_run : (end : RunEnd) → IsPlain (run_text end)
unfolding run_text
of_run (run.Returned r0) = of_answer r0
of_run (run.NoFuel pc) = of_place (codes "no fuel") pc (by_test (codes "no fuel") refl)
of_run (run.StrayBreak pc) = of_place (codes "stray break") pc (by_test (codes "stray break") refl)
of_run (run.Faulted kind pc) = of_fault kind pc
of_run run.DeviceFault = by_test (codes "device fault") refl

of_end : (end : CallEnd) → IsPlain (end_text end)
unfolding end_text
of_end ends.Done = by_test (codes "done") refl
of_end (ends.Refused r0) = of_answer r0
of_end (ends.Ended end) = of_run end
of_end ends.DeviceFault = by_test (codes "device fault") refl

of_failed : (number : ℕ) (called : Call) (end : CallEnd) → IsPlain (failed_text number called end)
unfolding failed_text
of_failed number called end =
    let pieces = codes "call " ∷ decimal number ∷ codes " " ∷ text_of (function_of called) ∷ codes ": " ∷ [] in
    both_of (concat pieces) (end_text end)
    (all_of pieces
    (by_test (codes "call ") refl, (of_decimal number, (by_test (codes " ") refl, (of_name (function_of called), (by_test (codes ": ") refl, tt))))))
    (of_end end)

-- ---- reasons

of_difference : (what : List ℕ) (at wanted found : ℕ) → IsPlain what → IsPlain (difference_text what at wanted found)
unfolding difference_text
of_difference what at wanted found plain =
    all_of (what ∷ codes " at " ∷ hex_text 8 at ∷ codes " wanted " ∷ hex_text 2 wanted ∷ codes " found " ∷ hex_text 2 found ∷ []) (
      plain,
      (
        by_test (codes " at ") refl,
        (
          of_hex 8 at,
          (
            by_test (codes " wanted ") refl,
            (
              of_hex 2 wanted,
              (by_test (codes " found ") refl, (of_hex 2 found, tt)),
            ),
          ),
        ),
      ),
    )

-- the refusals of a call for several benches: none of them names a file
abbrev pub is_of_gang : Refusal → Bool
is_of_gang out_of_memory = true
is_of_gang usage = true
is_of_gang no_job = true
is_of_gang (not_a_job at) = true
is_of_gang (damaged kept found) = true
is_of_gang (cells_differ wanted found) = true
is_of_gang store_fault = true
is_of_gang device_fault = true
is_of_gang (call_failed number call end) = true
is_of_gang (mismatch at wanted found) = true
is_of_gang _ = false

plain_reason : (r : Refusal) → is_of_gang r ≡ true → IsPlain (reason_of r)
unfolding reason_of
plain_reason out_of_memory is = by_test (codes "out of memory") refl
plain_reason usage is = by_test (codes "usage: flm_tool JOB CELLS COMMAND [WORDS]") refl
plain_reason no_job is = by_test (codes "job: none") refl
plain_reason (not_a_job at) is = all_of (codes "job: not a job at " ∷ decimal at ∷ []) (by_test (codes "job: not a job at ") refl, (of_decimal at, tt))
plain_reason (damaged kept found) is =
    let head = codes "job: damaged " in
    let kept_is = both_of head (hash_text kept) (by_test head refl) (of_hash kept) in
    both_of (head ++ hash_text kept ++ codes " ") (hash_text found)
    (both_of (head ++ hash_text kept) (codes " ") kept_is (by_test (codes " ") refl)) (of_hash found)
plain_reason (cells_differ wanted found) is =
    all_of (codes "job: " ∷ decimal wanted ∷ codes " cells wanted, " ∷ decimal found ∷ codes " found" ∷ [])
    (by_test (codes "job: ") refl, (of_decimal wanted, (by_test (codes " cells wanted, ") refl, (of_decimal found, (by_test (codes " found") refl, tt)))))
plain_reason store_fault is = by_test (codes "store fault") refl
plain_reason device_fault is = by_test (codes "device fault") refl
plain_reason (call_failed number call end) is = of_failed number call end
plain_reason (mismatch at wanted found) is = of_difference (codes "mismatch") at wanted found (by_test (codes "mismatch") refl)
plain_reason r is = absurd (false≢true is)

-- ---- lines

-- what a target's line says after its number
abbrev pub said_of : Option Refusal → List ℕ
said_of None = codes "done"
said_of (Some r) = reason_of r

abbrev pub IsOfGang : Option Refusal → Type 0
IsOfGang None = Unit {0}
IsOfGang (Some r) = is_of_gang r ≡ true

pub line_is : (index : ℕ) (r : Option Refusal) → target_line index r ≡ target_head index ++ (said_of r ++ codes "\n")
line_is index None = refl
line_is index (Some r) = refl

pub one_line : (r : Option Refusal) → IsOfGang r → All (λ (byte : ℕ). byte ≢ 10) (said_of r)
one_line None is = each_byte (codes "done") (by_test (codes "done") refl)
one_line (Some r) is = each_byte (reason_of r) (plain_reason r is)
