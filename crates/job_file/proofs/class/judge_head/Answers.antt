-- `judge_head`: its clauses `said` and `text`, and what `take_head` requires.
use Rattle.std.proofs.Common.{◌≡◌, ℕ, List, Ok, take, subst, arith}
use Rattle.job_text.specs.Reading.{head_at}
use Rattle.job_text.specs.Shown.{Fails}
use Rattle.job_text.specs.declared.fault.JobFault.{JobFault}
use Rattle.job_file.specs.Readers.{head_len}
use Rattle.job_file.proofs.StepLemmas.{head_from, head_fails, head_long}
use Rattle.job_file.proofs.JobLemmas.{head_is}
use Rattle.job_file.proofs.class.judge_head.Goals as goal

pub take_head-requires : goal.take_head-requires
take_head-requires c = omega (arith, c.requires, head_long c.args.format)

pub returns-in-Ok-clause-said : goal.returns-in-Ok-clause-said
returns-in-Ok-clause-said c = λ body long front.
    let rest = c.in-Ok.field-0-1.now in
    head_from c.args.whole c.args.format body c.in-Ok.head rest long
    (subst (λ (l : List ℕ). head_at c.args.whole c.args.format l ≡ Ok (c.in-Ok.head, rest)) front c.in-Ok.ensures.gives)

pub returns-in-Ok-clause-text : goal.returns-in-Ok-clause-text
returns-in-Ok-clause-text c = head_is c.args.whole c.args.format c.args.bytes.now c.in-Ok.head c.in-Ok.field-0-1.now c.requires
    (λ i. omega (arith, c.type_inv.bytes i)) c.in-Ok.ensures.gives

pub returns-in-Err-NotAJob-clause-said : goal.returns-in-Err-NotAJob-clause-said
returns-in-Err-NotAJob-clause-said c = λ body long front.
    let fault = c.in-Err-NotAJob in
    let n = head_len c.args.format in
    head_fails c.args.whole c.args.format body fault.at long
    (subst (λ (f : JobFault). Fails f (head_at c.args.whole c.args.format (take n body))) fault.field-0-is
    (subst (λ (l : List ℕ). Fails fault.field-0 (head_at c.args.whole c.args.format l)) front fault.ensures.gives))
