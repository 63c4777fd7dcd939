-- `put_front`: its clauses `appends` and `end`, and what `put_texts` and `put_runs` require.
use Rattle.std.proofs.Common.{◌≡◌, ◌+◌, ◌++◌, ◌∙◌, ℕ, List, Result, Err, length, sym, ap, subst, arith, length-append}
use Rattle.std.specs.List.{concat, flat_map}
use Rattle.std.proofs.lemmas.Result.{IfOk-weaker}
use Rattle.bench_model.specs.declared.bench_fault.StoreFault.{StoreFault}
use Rattle.job_text.specs.Body.{run_text}
use Rattle.job_text.specs.Parts.{flms_of, head_of_parts, front_of}
use Rattle.job_text.proofs.PartLemmas.{short_parts}
use Rattle.job_file.specs.Stops.{Appends}
use Rattle.job_file.proofs.BodyLemmas.{well, appends_then, appends_fails, appended_end, four_parts}
use Rattle.job_file.proofs.body.put_front.Goals as goal

pub put_texts-requires-clause-end : goal.put_texts-requires-clause-end
put_texts-requires-clause-end g c =
    appended_end g.B.Bench.tells (g.B.Bench.state c.args.bench.now) (g.B.Bench.state c.append.new.bench) c.args.head.now tt 1 _ c.in-Ok.ensures c.requires.end
    (omega arith)

pub put_texts-requires-clause-bound : goal.put_texts-requires-clause-bound
put_texts-requires-clause-bound g c =
    let head : length c.args.head.now ≡ 63 = ap (λ (l : List ℕ). length l) c.requires.head in
    omega (arith, head)

pub put_runs-requires-clause-end : goal.put_runs-requires-clause-end
put_runs-requires-clause-end g c =
    let p = c.args.parts.now in
    let s = g.B.Bench.state c.args.bench.now in
    let m = g.B.Bench.state c.append.new.bench in
    let n = g.B.Bench.state c.put_texts.new.bench in
    let texts = p.board.now ++ concat (flms_of p) in
    appended_end g.B.Bench.tells s n (c.args.head.now ++ texts) tt 1 _
    (appends_then g.B.Bench.tells s m n c.args.head.now texts tt well c.in-Ok.ensures c.in-Ok-put_texts.ensures) c.requires.end
    (omega (arith, length-append c.args.head.now texts, length-append p.board.now (concat (flms_of p)), c.files_len.ensures.value))

pub put_runs-requires-clause-bound : goal.put_runs-requires-clause-bound
put_runs-requires-clause-bound g c =
    let head : length c.args.head.now ≡ 63 = ap (λ (l : List ℕ). length l) c.requires.head in
    omega (arith, head, c.requires.parts.short_board, c.files_len.ensures.bound)

pub put_runs-requires-clause-short : goal.put_runs-requires-clause-short
put_runs-requires-clause-short g c = short_parts c.args.parts.now c.requires.parts

pub returns-in-Err-clause-appends : goal.returns-in-Err-clause-appends
returns-in-Err-clause-appends g c =
    appends_fails g.B.Bench.tells (g.B.Bench.state c.args.bench.now) (g.B.Bench.state c.append.new.bench) c.args.head.now
    (front_of c.args.parts.now) c.in-Err.fault c.in-Err.ensures

pub returns-in-Err-put_texts-clause-appends : goal.returns-in-Err-put_texts-clause-appends
returns-in-Err-put_texts-clause-appends g c =
    let p = c.args.parts.now in
    let s = g.B.Bench.state c.args.bench.now in
    let m = g.B.Bench.state c.append.new.bench in
    let n = g.B.Bench.state c.put_texts.new.bench in
    let texts = p.board.now ++ concat (flms_of p) in
    let failed : Result (Unit {0}) StoreFault = Err c.in-Err-put_texts.fault in
    appends_fails g.B.Bench.tells s n (c.args.head.now ++ texts) (front_of p) c.in-Err-put_texts.fault
    (appends_then g.B.Bench.tells s m n c.args.head.now texts tt failed c.in-Ok.ensures c.in-Err-put_texts.ensures)

pub returns-in-Ok-put_texts-clause-appends : goal.returns-in-Ok-put_texts-clause-appends
returns-in-Ok-put_texts-clause-appends g c =
    let p = c.args.parts.now in
    let s = g.B.Bench.state c.args.bench.now in
    let m = g.B.Bench.state c.append.new.bench in
    let n = g.B.Bench.state c.put_texts.new.bench in
    let t = g.B.Bench.state c.put_runs.new.bench in
    let texts = p.board.now ++ concat (flms_of p) in
    let runs = flat_map run_text p.image.now in
    let all = appends_then g.B.Bench.tells s n t (c.args.head.now ++ texts) runs tt c.put_runs.result
    (appends_then g.B.Bench.tells s m n c.args.head.now texts tt well c.in-Ok.ensures c.in-Ok-put_texts.ensures) c.put_runs.ensures.appends in
    subst (λ (l : List ℕ). Appends g.B.Bench.tells s t (l ++ texts ++ runs) c.put_runs.result) c.requires.head all

pub returns-in-Ok-put_texts-clause-end : goal.returns-in-Ok-put_texts-clause-end
returns-in-Ok-put_texts-clause-end g c =
    let p = c.args.parts.now in
    let runs = flat_map run_text p.image.now in
    let front : length (front_of p) ≡ length c.args.head.now + length p.board.now + length (concat (flms_of p)) + length runs =
    four_parts (head_of_parts p) p.board.now (concat (flms_of p)) runs
    ∙ ap (λ (l : List ℕ). length l + length p.board.now + length (concat (flms_of p)) + length runs) (sym c.requires.head) in
    IfOk-weaker c.put_runs.result _ _ (λ at is. omega (arith, is, front, c.files_len.ensures.value)) c.put_runs.ensures.end
