-- Writes over bytes and cells in memory, for `end_range`, which writes a range so.
use Rattle.std.proofs.Common.{◌≡◌, ◌≤◌, ◌+◌, ◌-◌, ◌∙◌, ap, sym, subst, refl, ℕ, List, ◌++◌, length, take, drop, arith, append_assoc, append-nil, length-take}
use Rattle.std.proofs.Common.{length-drop, length-append, Option, Some, None}
use Rattle.std.proofs.Math.Seq.{take-add}
use Rattle.std.proofs.lemmas.List.{take_at, drop_at, take_all, drop_all, take-take, drop-drop, take-append-drop}
use Rattle.bench_model.specs.Calls.{written, Torn}
use Rattle.bench_model.specs.State.{SameOutside}
use Rattle.disk_files.specs.DiskDoes.{InRange}
use Rattle.disk_files.specs.Memory.{DiffersInside, differs_inside, outside_of}

-- bytes written over others, and past their end
module _ (at : ℕ) (bytes old : List ℕ) (le : at ≤ length old) where
  front-long : length (take at old) ≡ at
  front-long = omega (arith, length-take at old, le)

  head-long : length (take at old ++ bytes) ≡ at + length bytes
  head-long = omega (arith, length-append (take at old) bytes, front-long)

  whole-long : length (written at bytes old) ≡ at + length bytes + (length old - (at + length bytes))
  whole-long = omega (arith, length-append (take at old ++ bytes) (drop (at + length bytes) old), head-long, length-drop (at + length bytes) old)

  pub written_torn : Torn at (length bytes) old (written at bytes old)
  written_torn = record {
    before = ap (λ (l : List ℕ). take at l) (append_assoc (take at old) bytes (drop (at + length bytes) old))
        ∙ take_at (take at old) (bytes ++ drop (at + length bytes) old) at front-long;
    after = drop_at (take at old ++ bytes) (drop (at + length bytes) old) (at + length bytes) head-long;
    no_shorter = omega (arith, whole-long);
    no_longer = omega (arith, whole-long);
  }

  pub written_front : take (at + length bytes) (written at bytes old) ≡ take at old ++ take (length bytes) bytes
  written_front = take_at (take at old ++ bytes) (drop (at + length bytes) old) (at + length bytes) head-long
      ∙ ap (λ (l : List ℕ). take at old ++ l) (sym (take_all (length bytes) bytes (omega arith)))

  pub written_long : at + length bytes ≤ length old → length (written at bytes old) ≡ length old
  written_long inside = omega (arith, whole-long, inside)

-- a whole read of a buffer
pub read_whole : (n : ℕ) (after before held : List ℕ) → n ≡ length before → after ≡ take (length before) held → after ≡ take n held ++ drop n before
read_whole n after before held is read =
    read ∙ ap (λ (m : ℕ). take m held) (sym is) ∙ sym (append-nil (take n held))
    ∙ ap (λ (l : List ℕ). take n held ++ l) (sym (drop_all n before (omega (arith, is))))

-- a write in the open range changes nothing outside it
pub outside_then : (operation : Option (ℕ × ℕ)) (cells x y : List ℕ) (at n : ℕ) → InRange at n operation → SameOutside operation cells x → Torn at n x y
    → length y ≡ length x → SameOutside operation cells y
outside_then None cells x y at n inside out torn long = absurd inside
outside_then (Some range) cells x y at n inside out torn long =
    let more = range.0 + range.1 - (at + n) in
    let rest : at + n + more ≡ range.0 + range.1 = omega (arith, inside.1) in (
      long ∙ out.0,
      sym (take-take range.0 at y inside.0) ∙ ap (λ (l : List ℕ). take range.0 l) torn.before ∙ take-take range.0 at x inside.0 ∙ out.1,
      ap (λ (m : ℕ). drop m y) (sym rest) ∙ sym (drop-drop more (at + n) y) ∙ ap (λ (l : List ℕ). drop more l) torn.after ∙ drop-drop more (at + n) x
          ∙ ap (λ (m : ℕ). drop m x) rest ∙ out.2,
    )

-- the bytes of a range, written over cells that are the same outside it, give all the bytes
pub range_written : (at n : ℕ) (cells x part : List ℕ) → SameOutside (Some (at, n)) cells x → at + n ≤ length x → part ≡ take n (drop at x) →
    written at part cells ≡ x
range_written at n cells x part out inside is =
    let long : length part ≡ n = omega (arith, ap length is, length-take n (drop at x), length-drop at x, inside) in
    ap (λ (l : List ℕ). (take at cells ++ l) ++ drop (at + length part) cells) is
    ∙ ap (λ (l : List ℕ). (l ++ take n (drop at x)) ++ drop (at + length part) cells) (sym out.1)
    ∙ ap (λ (m : ℕ). (take at x ++ take n (drop at x)) ++ drop (at + m) cells) long
    ∙ ap (λ (l : List ℕ). (take at x ++ take n (drop at x)) ++ l) (sym out.2)
    ∙ ap (λ (l : List ℕ). l ++ drop (at + n) x) (sym (take-add at n x))
    ∙ take-append-drop (at + n) x

-- the cells of a disk in memory still differ only inside the open range after a write that was torn there
pub differs_then : (operation : Option (ℕ × ℕ)) (cells x y : List ℕ) (at n : ℕ) → InRange at n operation → DiffersInside operation cells x → Torn at n x y
    → length y ≡ length x → DiffersInside operation cells y
differs_then operation cells x y at n inside out torn long =
    differs_inside operation cells y (outside_then operation cells x y at n inside (outside_of operation cells x out) torn long)

pub differs_written : {told operation : Option (ℕ × ℕ)} {cells x y : List ℕ} (at : ℕ) (bytes : List ℕ) → told ≡ operation → InRange at (length bytes) told
    → DiffersInside operation cells x → at + length bytes ≤ length x → y ≡ written at bytes x → DiffersInside operation cells y
differs_written {operation = operation} {cells = cells} {x = x} at bytes same inside out fits is =
    let before : at ≤ length x = omega (arith, fits) in
    subst (λ (l : List ℕ). DiffersInside operation cells l) (sym is)
    (differs_then operation cells x (written at bytes x) at (length bytes) (subst (λ (o : Option (ℕ × ℕ)). InRange at (length bytes) o) same inside) out
    (written_torn at bytes x before) (written_long at bytes x before fits))

-- a range is opened over the cells that are there
pub differs_opened : (at n : ℕ) (cells bytes : List ℕ) → DiffersInside None cells bytes → DiffersInside (Some (at, n)) cells bytes
differs_opened at n cells bytes out =
    let is : bytes ≡ cells = out.idle refl in
    differs_inside (Some (at, n)) cells bytes (ap length is, ap (λ (l : List ℕ). take at l) is, ap (λ (l : List ℕ). drop (at + n) l) is)

pub differs_closed : (cells bytes : List ℕ) → bytes ≡ cells → DiffersInside None cells bytes
differs_closed cells bytes is = differs_inside None cells bytes is
