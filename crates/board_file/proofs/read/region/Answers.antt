-- `region`: that it keeps its contract, that its result meets the clauses of its type, and that no number overflows.
use Rattle.std.proofs.Common.{◌≡◌, ◌∙◌, sym, Option, Some, option_map, Ok, refl, arith}
use Rattle.std.proofs.lemmas.Result.{err_from_is_err_and}
use Rattle.toml.specs.View.{view}
use Rattle.board_file.specs.declared.key.Key.{Key}
use Rattle.board_file.specs.Written.{region_shown}
use Rattle.board_file.proofs.Reading.{gives_fault, fails_within, then_ok, then_err}
use Rattle.board_file.specs.Text.{region, needed, valid}
use Rattle.std.proofs.lemmas.Grind.{common_steps}
use Rattle.board_file.proofs.read.region.Goals as goal

-- the view of a value that is there
some_said : {A B : Type 0} (view : A → B) (o : Option A) (x : A) (said : Option B) → option_map view o ≡ said → o ≡ Some x → said ≡ Some (view x)
some_said view o x said a b = let there : option_map view o ≡ Some (view x) = rw b refl in sym a ∙ there

needed_said : {A : Type 0} (x : A) (said : Option A) (k : Key) → said ≡ Some x → needed k said ≡ Ok x
needed_said x said k is = rw is refl

valid_said : {A : Type 0} (x : A) (said : Option A) (k : Key) → said ≡ Some x → valid k said ≡ Ok x
valid_said x said k is = rw is refl

pub returns-in_err-unit-clause-said : goal.returns-in_err-unit-clause-said
unfolding region
returns-in_err-unit-clause-said c =
    let p = err_from_is_err_and c.from_residual-in_err-unit.result c.from_residual-in_err-unit.ensures.1 in
    let list = needed_said _ _ _ (some_said _ _ _ _ c.found_in.ensures c.in_ok-list.ensures.ok_part) in
    let sectors = valid_said _ _ _ (some_said _ _ _ _ c.in_ok-runs.ensures.said c.in_ok-sectors.ensures.ok_part) in
    gives_fault region_shown _ (region c.args.kind (view c.args.table.now)) _ _ p.1 p.2 (fails_within _ _ _ c.in_err-unit.ensures.said
    (λ is.
    (then_ok _ _ _ _ c.in_ok-base.ensures.said
    (then_ok _ _ _ _ list
    (then_ok _ _ _ _ sectors
    (then_ok _ _ _ _ c.in_ok-byte.ensures.said
    (then_ok _ _ _ _ c.in_ok-empty.ensures.said
    (then_ok _ _ _ _ c.in_ok-width.ensures.said
    (then_err _ _ _ is)))))))))

pub invariant_of-result : goal.invariant_of-result
invariant_of-result c = grind (arith, common_steps)

pub overflow_cast-result : goal.overflow_cast-result
overflow_cast-result c = grind (arith, common_steps)

pub returns-clause-said : goal.returns-clause-said
unfolding region
returns-clause-said c =
    let list = needed_said _ _ _ (some_said _ _ _ _ c.found_in.ensures c.in_ok-list.ensures.ok_part) in
    let sectors = valid_said _ _ _ (some_said _ _ _ _ c.in_ok-runs.ensures.said c.in_ok-sectors.ensures.ok_part) in
    then_ok _ _ _ _ c.in_ok-base.ensures.said
    (then_ok _ _ _ _ list
    (then_ok _ _ _ _ sectors
    (then_ok _ _ _ _ c.in_ok-byte.ensures.said
    (then_ok _ _ _ _ c.in_ok-empty.ensures.said
    (then_ok _ _ _ _ c.in_ok-width.ensures.said
    (then_ok _ _ _ _ c.in_ok-unit.ensures.said
    refl))))))

pub returns-in_err-empty-clause-said : goal.returns-in_err-empty-clause-said
unfolding region
returns-in_err-empty-clause-said c =
    let p = err_from_is_err_and c.from_residual-in_err-empty.result c.from_residual-in_err-empty.ensures.1 in
    let list = needed_said _ _ _ (some_said _ _ _ _ c.found_in.ensures c.in_ok-list.ensures.ok_part) in
    let sectors = valid_said _ _ _ (some_said _ _ _ _ c.in_ok-runs.ensures.said c.in_ok-sectors.ensures.ok_part) in
    gives_fault region_shown _ (region c.args.kind (view c.args.table.now)) _ _ p.1 p.2 (fails_within _ _ _ c.in_err-empty.ensures.said
    (λ is.
    (then_ok _ _ _ _ c.in_ok-base.ensures.said
    (then_ok _ _ _ _ list
    (then_ok _ _ _ _ sectors
    (then_ok _ _ _ _ c.in_ok-byte.ensures.said
    (then_err _ _ _ is)))))))

pub returns-in_err-width-clause-said : goal.returns-in_err-width-clause-said
unfolding region
returns-in_err-width-clause-said c =
    let p = err_from_is_err_and c.from_residual-in_err-width.result c.from_residual-in_err-width.ensures.1 in
    let list = needed_said _ _ _ (some_said _ _ _ _ c.found_in.ensures c.in_ok-list.ensures.ok_part) in
    let sectors = valid_said _ _ _ (some_said _ _ _ _ c.in_ok-runs.ensures.said c.in_ok-sectors.ensures.ok_part) in
    gives_fault region_shown _ (region c.args.kind (view c.args.table.now)) _ _ p.1 p.2 (fails_within _ _ _ c.in_err-width.ensures.said
    (λ is.
    (then_ok _ _ _ _ c.in_ok-base.ensures.said
    (then_ok _ _ _ _ list
    (then_ok _ _ _ _ sectors
    (then_ok _ _ _ _ c.in_ok-byte.ensures.said
    (then_ok _ _ _ _ c.in_ok-empty.ensures.said
    (then_err _ _ _ is))))))))

pub returns-in_err-byte-clause-said : goal.returns-in_err-byte-clause-said
unfolding region
returns-in_err-byte-clause-said c =
    let p = err_from_is_err_and c.from_residual-in_err-byte.result c.from_residual-in_err-byte.ensures.1 in
    let list = needed_said _ _ _ (some_said _ _ _ _ c.found_in.ensures c.in_ok-list.ensures.ok_part) in
    let sectors = valid_said _ _ _ (some_said _ _ _ _ c.in_ok-runs.ensures.said c.in_ok-sectors.ensures.ok_part) in
    gives_fault region_shown _ (region c.args.kind (view c.args.table.now)) _ _ p.1 p.2 (fails_within _ _ _ c.in_err-byte.ensures.said
    (λ is.
    (then_ok _ _ _ _ c.in_ok-base.ensures.said
    (then_ok _ _ _ _ list
    (then_ok _ _ _ _ sectors
    (then_err _ _ _ is))))))
