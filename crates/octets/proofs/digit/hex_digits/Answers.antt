-- `hex_digits`: the value that it answers, and that its loop keeps its invariant.
use Rattle.std.proofs.Common.{◌≡◌, ◌-◌, ◌/◌, ◌%◌, ◌∙◌, ℕ, drop, sym, ap, arith}
use Rattle.std.proofs.lemmas.Grind.{common_steps}
use Rattle.octets.specs.Digit.{hex_text, upper_digit}
use Rattle.octets.proofs.DigitLemmas.{digits_left, digits_more}
use Rattle.octets.proofs.digit.hex_digits.Goals as goal

pub loop-place-init : goal.loop-place-init
loop-place-init g c = record { long = grind (arith, common_steps); written = grind (arith, common_steps); left = grind (arith, common_steps) }

pub loop-place-preserved : goal.loop-place-preserved
loop-place-preserved g c =
    let before = c.loop-place.invariant in
    let place = c.loop-place.place in
    record {
      long = grind (arith, common_steps);
      written = digits_more c.loop-place.text g.row.N place c.args.number c.hex_upper.result c.loop-place-test.true before.long
          (c.hex_upper.ensures.digit ∙ ap (λ (n : ℕ). upper_digit (n % 16)) before.left) before.written;
      left = ap (λ (n : ℕ). n / 16) before.left ∙ digits_left c.args.number place;
    }

pub returns : goal.returns
returns g c =
    let text = c.loop-place.text in
    let place = c.loop-place.place in
    let whole : place ≡ g.row.N = omega arith in
    let none : g.row.N - place ≡ 0 = omega (arith, whole) in
    ap (λ (k : ℕ). drop k text) (sym none) ∙ c.loop-place.invariant.written ∙ ap (λ (k : ℕ). hex_text k c.args.number) whole
