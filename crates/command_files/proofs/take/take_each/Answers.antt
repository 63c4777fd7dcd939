-- `take_each`: its clauses `takes` and `short`, that its loop keeps its invariant, and what `take_one` requires.
use Rattle.std.proofs.Common.{◌≡◌, ◌≤◌, ◌+◌, ◌∙◌, sym, ap, subst, arith, ℕ, Bool, All, List, ◌∷◌, [], ◌++◌, length, cond}
use Rattle.std.proofs.lemmas.Grind.{common_steps}
use Rattle.std.proofs.lemmas.Result.{err_from_is_err_and}
use Rattle.std.proofs.lemmas.List.{take_all}
use Rattle.std.proofs.lemmas.List.Elements.{All-nil, All-cons, All-append}
use Rattle.std.proofs.lemmas.Option.{get_or_from_slice_get}
use Rattle.report_text.specs.Shown.{shown}
use Rattle.command_words.specs.Names.{names_of}
use Rattle.command_files.specs.Inputs.{inputs_call, AreEach}
use Rattle.command_files.specs.Steps.{IsTakeFault}
use Rattle.command_files.proofs.TakeLemmas.{TakenSoFar, taken_then, untaken_then, none_failed_then}
use Rattle.command_files.proofs.take.take_each.Goals as goal

pub take_one-requires : goal.take_one-requires
take_one-requires g c =
    let name = get_or_from_slice_get (names_of c.args.names.now) c.loop-index.index c.name.result.now [] c.name.ensures in
    c.loop-index.invariant.may_take c.name.result.now
    (subst (λ (n : List ℕ). g.I.Inputs.may_take c.args.inputs.now n) name (c.requires c.loop-index.index [] (omega arith)))

pub returns-in_err-bytes-clause-takes : goal.returns-in_err-bytes-clause-takes
returns-in_err-bytes-clause-takes g c =
    let name = sym (get_or_from_slice_get (names_of c.args.names.now) c.loop-index.index c.name.result.now [] c.name.ensures) in
    let fault = subst (λ (n : List ℕ). IsTakeFault (inputs_call g.I.Inputs.tells (g.I.Inputs.state c.loop-index.inputs)
    (g.I.Inputs.state c.take_one.new.inputs))
    (n ∷ []) (shown c.in_err-bytes.field-0.0)) name c.in_err-bytes.ensures.takes in
    let p = err_from_is_err_and c.from_residual.result c.from_residual.ensures.1 in
    rw (p.1, p.2) (untaken_then (g.I.Inputs.state c.take_one.new.inputs) (shown c.in_err-bytes.field-0.0) c.loop-index.invariant.so_far (omega arith) fault)

pub loop-index-preserved : goal.loop-index-preserved
loop-index-preserved g c =
    let names = names_of c.args.names.now in
    let index = c.loop-index.index in
    let bytes = c.in_ok-bytes.bytes in
    let name = sym (get_or_from_slice_get names index c.name.result.now [] c.name.ensures) in
    let files : c.push.new.self.items ≡ c.loop-index.files.items ++ bytes ∷ [] =
    c.push.ensures.items ∙ ap (λ (b : Bool). cond b (c.loop-index.files.items ++ bytes ∷ []) c.loop-index.files.items) c.if-is_err.ensures.negation in
    let then_ = taken_then bytes c.loop-index.invariant.so_far (omega arith)
    (λ told. ap (λ (n : List ℕ). (g.I.Inputs.state c.loop-index.inputs).stands n) (sym name) ∙ c.in_ok-bytes.ensures.takes.0.each 0 (omega arith) told)
    c.in_ok-bytes.ensures.stands c.in_ok-bytes.ensures.takes.1 in
    record {
      so_far = subst (λ (f : List (List ℕ)). TakenSoFar g.I.Inputs.tells (g.I.Inputs.state c.args.inputs.now) (g.I.Inputs.state c.take_one.new.inputs) names f
          (index + 1))
          (sym files) then_;
      short = subst (λ (f : List (List ℕ)). All (λ (file : List ℕ). length file ≤ 67108864) f) (sym files)
          (All-append (λ (file : List ℕ). length file ≤ 67108864) c.loop-index.files.items (bytes ∷ []) c.loop-index.invariant.short
          (All-cons (λ (file : List ℕ). length file ≤ 67108864) bytes [] c.in_ok-bytes.ensures.short (All-nil (λ (file : List ℕ). length file ≤ 67108864))));
      may_take = λ other may. (c.in_ok-bytes.ensures.leave other).1 (c.loop-index.invariant.may_take other may);
    }

pub returns-clause-takes : goal.returns-clause-takes
returns-clause-takes g c =
    let all : c.loop-index.index ≡ length (names_of c.args.names.now) = omega arith in (
      subst (λ (n : List (List ℕ)). AreEach (inputs_call g.I.Inputs.tells (g.I.Inputs.state c.args.inputs.now) (g.I.Inputs.state c.loop-index.inputs)) n
          c.loop-index.files.items)
          (take_all c.loop-index.index (names_of c.args.names.now) (omega (arith, all))) c.loop-index.invariant.so_far.each,
      c.loop-index.invariant.so_far.none_failed,
    )

pub returns-clause-short : goal.returns-clause-short
returns-clause-short g c = c.loop-index.invariant.short

pub loop-index-init : goal.loop-index-init
loop-index-init g c = grind (arith, common_steps)

pub returns-then-is_err-clause-takes : goal.returns-then-is_err-clause-takes
returns-then-is_err-clause-takes g c = none_failed_then c.loop-index.invariant.so_far.none_failed c.in_ok-bytes.ensures.takes.1
