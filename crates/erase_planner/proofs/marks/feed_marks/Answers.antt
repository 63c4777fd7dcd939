-- `feed_marks`: that it keeps its contract, and that its loop keeps its invariant.
use Rattle.std.proofs.Common.{◌≡◌, ℕ, ◌+◌, ◌<◌, List, [], ◌∷◌, ◌++◌, length, take, get_or, arith, sym, subst, ap, ◌∙◌, set, ◌≤◌}
use Rattle.std.proofs.Math.ListN.{length-set}
use Rattle.std.proofs.lemmas.List.{take_all, take_more, append_assoc, length-append, length-take-le}
use Rattle.erase_planner.specs.Marks.{AreMarks, with_byte, mark_at}
use Rattle.erase_planner.proofs.FeedLemmas.{marks_more}
use Rattle.erase_planner.proofs.marks.feed_marks.Goals as goal

more : (o old : List ℕ) (k : ℕ) → k < length old → (o ++ take k old) ++ get_or old k 0 ∷ [] ≡ o ++ take (k + 1) old
more o old k h = append_assoc o (take k old) (get_or old k 0 ∷ []) ∙ ap (λ (t : List ℕ). o ++ t) (sym (take_more old k 0 h))

long : (o old : List ℕ) (at k : ℕ) → length o ≡ at → k < length old → length (o ++ take k old) ≡ at + k
long o old at k e h = length-append o (take k old) ∙ omega (arith, e, length-take-le k old (omega (arith, h)))

pub loop-index-preserved : goal.loop-index-preserved
loop-index-preserved c =
    let k : ℕ = c.loop-index.index in
    let h : k < length c.args.old.now = omega arith in
    let h2 : k < length c.args.want.now = omega (arith, c.requires.same) in
    let inside = c.page_from-here.ensures.inside in
    record {
      place = omega arith;
      long = length-set c.loop-index.marks c.page_from-here.result.0 c.with_byte-marked.result ∙ c.loop-index.invariant.long;
      order = omega (arith, inside, c.page_from-here.ensures.end);
      page = λ less. record {
        number = c.page_from-here.ensures.number;
        inside = (omega (arith, inside.0), omega (arith, less, c.page_from-here.ensures.end));
        end = c.page_from-here.ensures.end;
      };
      fed = λ o w lo lw m.
          let before = c.loop-index.invariant.fed o w lo lw m in
          let here : AreMarks c.args.geometry.now c.args.empty ((o ++ take k c.args.old.now) ++ get_or c.args.old.now k 0 ∷ [])
          ((w ++ take k c.args.want.now) ++ get_or c.args.want.now k 0 ∷ [])
          (set c.loop-index.marks c.page_from-here.result.0
          (with_byte c.args.empty (get_or c.args.old.now k 0) (get_or c.args.want.now k 0) (mark_at c.loop-index.marks c.page_from-here.result.0))) =
          marks_more c.args.geometry.now c.args.empty (o ++ take k c.args.old.now) (w ++ take k c.args.want.now) c.loop-index.place (get_or c.args.old.now k 0)
          (get_or c.args.want.now k 0)
          (long o c.args.old.now c.args.at k lo h ∙ sym c.loop-index.invariant.place)
          (long w c.args.want.now c.args.at k lw h2 ∙ sym c.loop-index.invariant.place)
          c.pages-pages.ensures.lawful c.loop-index.marks before c.page_from-here.result.0 c.page_from-here.ensures.number inside in
          rw (c.with_byte-marked.ensures, ← more o c.args.old.now k h, ← more w c.args.want.now k h2) here;
    }

pub returns-clause-marked : goal.returns-clause-marked
returns-clause-marked c = λ o w lo lw m.
    let l = c.loop-index in
    let old = c.args.old.now in
    let want = c.args.want.now in
    let marked = AreMarks c.args.geometry.now c.args.empty in
    let ends : length old ≤ l.index = omega (arith, c.loop-index-test.false) in
    subst (λ (b : List ℕ). marked (o ++ b) (w ++ want) l.marks) (take_all l.index old ends)
    (subst (λ (b : List ℕ). marked (o ++ take l.index old) (w ++ b) l.marks) (take_all l.index want (omega (arith, ends, c.requires.same)))
    (l.invariant.fed o w lo lw m))
