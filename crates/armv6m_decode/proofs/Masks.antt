-- The bits of a halfword under each mask of the table, as arithmetic.
use Rattle.std.proofs.Common.{◌≡◌, ℕ, ◌+◌, ◌%◌, ◌*◌, ◌/◌, ◌<◌, ◌^◌, ap, ◌∙◌, arith, bit_and, add-zero}
use Rattle.std.proofs.lemmas.Bool.Decides.{nat_tests}
use Rattle.std.proofs.lemmas.Nat.Bits.{and_high_mask}
use Rattle.std.specs.Int.Bits.{and_mask, and_block, and_zero_r}

pub under_f000 : (half : ℕ) → half < 2 ^ 16 → bit_and half 0xF000 ≡ half / 4096 * 4096
under_f000 half h = and_high_mask 16 12 (omega arith) half h

pub under_f800 : (half : ℕ) → half < 2 ^ 16 → bit_and half 0xF800 ≡ half / 2048 * 2048
under_f800 half h = and_high_mask 16 11 (omega arith) half h

pub under_fc00 : (half : ℕ) → half < 2 ^ 16 → bit_and half 0xFC00 ≡ half / 1024 * 1024
under_fc00 half h = and_high_mask 16 10 (omega arith) half h

pub under_fe00 : (half : ℕ) → half < 2 ^ 16 → bit_and half 0xFE00 ≡ half / 512 * 512
under_fe00 half h = and_high_mask 16 9 (omega arith) half h

pub under_ff00 : (half : ℕ) → half < 2 ^ 16 → bit_and half 0xFF00 ≡ half / 256 * 256
under_ff00 half h = and_high_mask 16 8 (omega arith) half h

pub under_ff80 : (half : ℕ) → half < 2 ^ 16 → bit_and half 0xFF80 ≡ half / 128 * 128
under_ff80 half h = and_high_mask 16 7 (omega arith) half h

pub under_ffc0 : (half : ℕ) → half < 2 ^ 16 → bit_and half 0xFFC0 ≡ half / 64 * 64
under_ffc0 half h = and_high_mask 16 6 (omega arith) half h

pub under_ffff : (half : ℕ) → half < 2 ^ 16 → bit_and half 0xFFFF ≡ half
under_ffff half h = let e : half / 1 * 1 ≡ half = omega arith in and_high_mask 16 0 (omega arith) half h ∙ e

pub under_ff87 : (half : ℕ) → half < 2 ^ 16 → bit_and half 0xFF87 ≡ half / 128 * 128 + half % 8
under_ff87 half h =
    let split : half ≡ half / 128 * 2 ^ 7 + half % 128 = omega arith in
    let low : bit_and (half % 128) 7 ≡ half % 8 = (let e : half % 128 % 8 ≡ half % 8 = omega arith in and_mask (half % 128) 3 ∙ e) in
    let high : bit_and (half / 128) 0x1FF ≡ half / 128 = (let e : half / 128 % 512 ≡ half / 128 = omega arith in and_mask (half / 128) 9 ∙ e) in
    ap (λ (x : ℕ). bit_and x 0xFF87) split ∙ and_block 7 (half / 128) 0x1FF (half % 128) 7 (omega arith) (omega arith) ∙
    ap (λ (x : ℕ). x * 128 + bit_and (half % 128) 7) high ∙ ap (λ (x : ℕ). half / 128 * 128 + x) low

-- the lemmas on the masks of all rows and pair rows, and on tests of numbers
pub ruleset masks = (nat_tests, under_ff87, under_f000, under_f800, under_fc00, under_fe00, under_ff00, under_ff80, under_ffc0, under_ffff)

-- the bits under a mask without bit 13 and without the bits below bit 12
pub under_d000 : (half : ℕ) → half < 2 ^ 16 → bit_and half 0xD000 ≡ half / 16384 * 16384 + half / 4096 % 2 * 4096
under_d000 half h =
    let split : half ≡ half / 16384 * 2 ^ 14 + half % 16384 = omega arith in
    let split2 : half % 16384 ≡ half % 16384 / 4096 * 2 ^ 12 + half % 4096 = omega arith in
    let e1 : half / 16384 % 4 ≡ half / 16384 = omega arith in
    let e2 : half % 16384 / 4096 % 2 ≡ half / 4096 % 2 = omega arith in
    ap (λ (x : ℕ). bit_and x 0xD000) split ∙ and_block 14 (half / 16384) 3 (half % 16384) 4096 (omega arith) (omega arith)
    ∙ ap (λ (x : ℕ). x * 16384 + bit_and (half % 16384) 4096) (and_mask (half / 16384) 2 ∙ e1)
    ∙ ap (λ (x : ℕ). half / 16384 * 16384 + bit_and x 4096) split2
    ∙ ap (λ (x : ℕ). half / 16384 * 16384 + x) (and_block 12 (half % 16384 / 4096) 1 (half % 4096) 0 (omega arith) (omega arith))
    ∙ ap (λ (x : ℕ). half / 16384 * 16384 + (bit_and (half % 16384 / 4096) 1 * 4096 + x)) (and_zero_r (half % 4096))
    ∙ ap (λ (x : ℕ). half / 16384 * 16384 + (x * 4096 + 0)) (and_mask (half % 16384 / 4096) 1 ∙ e2)
    ∙ ap (λ (x : ℕ). half / 16384 * 16384 + x) (add-zero _)

pub under_fff0 : (half : ℕ) → half < 2 ^ 16 → bit_and half 0xFFF0 ≡ half / 16 * 16
under_fff0 half h = and_high_mask 16 4 (omega arith) half h

pub ruleset pair_masks = (nat_tests, under_d000, under_f000, under_f800, under_ff00, under_fff0, under_ffff)
