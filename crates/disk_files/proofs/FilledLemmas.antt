-- A buffer that is filled from a list in several pieces: how far it equals the list after one more piece.
use Rattle.std.proofs.Common.{◌≡◌, ◌≤◌, ◌+◌, ◌-◌, ◌∙◌, ap, sym, refl, ℕ, List, ◌++◌, length, take, drop, arith, append_assoc, length-take, length-drop}
use Rattle.std.proofs.Common.{length-append}
use Rattle.std.proofs.Math.Seq.{take-add}
use borrow.Rule.Slice.PartMut.{put_mid}
use Rattle.std.proofs.lemmas.Slice.{take-put_mid, take-put_mid_below, drop-put_mid}
use Rattle.std.proofs.lemmas.List.{take-take, drop-drop, take_at}

-- a buffer with other bytes from a place on
abbrev pub filled : List ℕ → ℕ → List ℕ → List ℕ
filled now done after = put_mid done (length now - done) now after

module _ (now : List ℕ) (done : ℕ) (after : List ℕ) (inside : done ≤ length now) (long : length after ≡ length now - done) where
  abbrev out : List ℕ
  out = filled now done after

  pub filled-long : length (filled now done after) ≡ length now
  filled-long =
      let n = done + length after in
      let end : done + (length now - done) ≤ n = omega (arith, long) in
      omega (
        arith,
        ap length (take-put_mid done (length now - done) now after n refl inside),
        length-take n out,
        length-append (take done now) after,
        length-take done now,
        ap length (drop-put_mid done (length now - done) now after n end inside long),
        length-drop n out,
        length-drop n now,
        long,
        inside,
      )

  pub filled-below : take done (filled now done after) ≡ take done now
  filled-below = take-put_mid_below done (length now - done) now after done (omega arith) inside

  pub filled-more : (all : List ℕ) (at n : ℕ) (rest : List ℕ) → n ≤ length now - done → at + length now ≤ length all
      → take done now ≡ take done (drop at all) → after ≡ take n (drop (at + done) all) ++ drop n rest
      → take (done + n) (filled now done after) ≡ take (done + n) (drop at all)
  filled-more all at n rest le fits so_far some =
      let D = drop (at + done) all in
      let N = done + length after in
      let shorter : done + n ≤ N = omega (arith, le, long) in
      let piece : length (take n D) ≡ n = omega (arith, length-take n D, length-drop (at + done) all, fits, le, inside) in
      let here : length (take done now ++ take n D) ≡ done + n =
      omega (arith, length-append (take done now) (take n D), length-take done now, inside, piece) in
      sym (take-take (done + n) N out shorter)
      ∙ ap (λ (l : List ℕ). take (done + n) l) (take-put_mid done (length now - done) now after N refl inside)
      ∙ ap (λ (l : List ℕ). take (done + n) (take done now ++ l)) some
      ∙ ap (λ (l : List ℕ). take (done + n) l) (sym (append_assoc (take done now) (take n D) (drop n rest)))
      ∙ take_at (take done now ++ take n D) (drop n rest) (done + n) here
      ∙ ap (λ (l : List ℕ). l ++ take n D) so_far
      ∙ ap (λ (l : List ℕ). take done (drop at all) ++ take n l) (sym (drop-drop done at all))
      ∙ sym (take-add done n (drop at all))
