-- `read_head_into`: its clauses `said` and `text`.
use Rattle.std.proofs.Common.{◌∙◌, ℕ, List, take, drop, ap, subst, arith}
use Rattle.std.proofs.lemmas.List.{length-drop}
use Rattle.std.proofs.lemmas.Result.{IfOk-weaker}
use Rattle.job_file.specs.Readers.{IsHeadOf}
use Rattle.job_file.proofs.CountLemmas.{caused, none_more, stayed}
use Rattle.job_file.proofs.class.read_head_into.Goals as goal

pub returns-in-Ok-clause-said : goal.returns-in-Ok-clause-said
returns-in-Ok-clause-said g c = λ told.
    let body = drop 1 (g.B.Bench.state c.args.bench.now).file in
    c.judge_head.ensures.said body (omega (arith, c.requires.long, c.requires.told told, length-drop 1 (g.B.Bench.state c.args.bench.now).file))
    (c.in-Ok.ensures.does.ok told ∙ ap (λ (n : ℕ). take n body) c.requires.room)

pub returns-in-Ok-clause-text : goal.returns-in-Ok-clause-text
returns-in-Ok-clause-text g c = λ told.
    let body = drop 1 (g.B.Bench.state c.args.bench.now).file in
    IfOk-weaker c.judge_head.result _ _ (λ h is. subst (λ (l : List ℕ). IsHeadOf c.args.format h l)
    (c.in-Ok.ensures.does.ok told ∙ ap (λ (n : ℕ). take n body) c.requires.room) is) c.judge_head.ensures.text

pub returns-in-Err-clause-counted : goal.returns-in-Err-clause-counted
returns-in-Err-clause-counted g c = caused c.in-Err.ensures.does.cause

pub returns-in-Ok-clause-counted : goal.returns-in-Ok-clause-counted
returns-in-Ok-clause-counted g c = none_more _ _ _ c.judge_head.ensures.no_store (stayed c.in-Ok.ensures.does.cause)
