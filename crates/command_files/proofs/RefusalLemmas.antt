-- What a refusal leaves, whether it is answered or another answer yields.
use Rattle.std.proofs.Common.{◌≡◌, ⊎_elim, ◌∙◌, sym, ap, subst, true}
use Rattle.report_text.specs.Refusal.{Refusal}
use Rattle.command_files.specs.Call.{BenchCall, SinkCall, Answer, done, refused}
use Rattle.command_files.specs.Answered.{yields, Refuses, OnlyLooked, StandsEarly, on_job_file}

-- A refusal of a job file only reads the file, whether it is answered or another answer yields.
pub looks : (bench : BenchCall) (out : SinkCall) (answer : Answer) (refusal : Refusal)
    → (StandsEarly on_job_file bench out (refused refusal) → OnlyLooked bench out)
    → StandsEarly on_job_file bench out answer → Refuses (OnlyLooked bench out) answer refusal → OnlyLooked bench out
looks bench out answer refusal early stands either = ⊎_elim
    (λ (is : answer ≡ refused refusal). early (subst (λ (a : Answer). StandsEarly on_job_file bench out a) is stands))
    (λ (yield : (yields answer ≡ true) × OnlyLooked bench out). yield.1)
    either

-- A call that is refused, or that yields, isn't done.
pub not_done : (Did : Type 0) (answer : Answer) (refusal : Refusal) → Refuses Did answer refusal → answer ≡ done → ⊥
not_done Did answer refusal either is = ⊎_elim
    (λ (other : answer ≡ refused refusal). let e : done ≡ refused refusal = sym is ∙ other in cc)
    (λ (yield : (yields answer ≡ true) × Did). let e : yields done ≡ true = ap yields (sym is) ∙ yield.0 in cc)
    either
