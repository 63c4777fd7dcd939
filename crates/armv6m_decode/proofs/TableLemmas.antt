-- The laws of the instruction table.
use Rattle.std.proofs.Common.{◌≡◌, ℕ, ◌/◌, ◌<◌, ◌≤◌, ◌^◌, true, false, cond, leb, None, refl, ap, ◌∙◌, arith, le-leb}
use Rattle.std.proofs.lemmas.Bool.Decides.{nat_tests}
use Rattle.armv6m_decode.specs.declared.instr.Decoded.TheVariants.{NeedsSecond}
use Rattle.armv6m_decode.specs.Rows.{first_fit}
use Rattle.armv6m_decode.specs.Table.{rows, pair_rows, decoded, op_or_undefined, OneRowForEach, OneRowForEachPair, NoRowBeginsPair}
use Rattle.armv6m_decode.proofs.RowsLemmas.{near, masks_fit, narrow, all_apart, one_fits, all_pairs_apart, one_pair_fits}

rows_apart : all_apart rows ≡ true
unfolding rows
rows_apart = refl

pub one_row_for_each : OneRowForEach
one_row_for_each = one_fits rows rows_apart

pairs_apart : all_pairs_apart pair_rows ≡ true
unfolding pair_rows
pairs_apart = refl

pub one_row_for_each_pair : OneRowForEachPair
one_row_for_each_pair = one_pair_fits pair_rows pairs_apart

row_masks_fit : masks_fit rows ≡ true
unfolding rows
row_masks_fit = refl

-- for a halfword in a range only the rows near the range matter
row_near : (low high half : ℕ) → half < 2 ^ 16 → low ≤ half → half ≤ high → first_fit rows half ≡ first_fit (near low high rows) half
row_near low high half within above below = narrow low high rows half row_masks_fit within above below

none_near_pairs : (half : ℕ) → first_fit (near 0xE800 0xFFFF rows) half ≡ None
unfolding rows
none_near_pairs half = refl

pub no_row_begins_pair : NoRowBeginsPair
no_row_begins_pair half within first = row_near 0xE800 0xFFFF half within (omega arith) (omega arith) ∙ none_near_pairs half

pub decoded_near : (low high half : ℕ) → half < 2 ^ 16 → low ≤ half → half ≤ high → high < 0xE800 →
    decoded half ≡ op_or_undefined (first_fit (near low high rows) half)
unfolding decoded
decoded_near low high half within above below short =
    let no_pair : leb 29 (half / 2048) ≡ false = grind (arith, nat_tests) in
    ap (λ b. cond b NeedsSecond (op_or_undefined (first_fit rows half))) no_pair ∙ ap op_or_undefined (row_near low high half within above below)

pub begins_pair : (half : ℕ) → 29 ≤ half / 2048 → decoded half ≡ NeedsSecond
unfolding decoded
begins_pair half first = ap (λ b. cond b NeedsSecond (op_or_undefined (first_fit rows half))) (le-leb _ _ first)
