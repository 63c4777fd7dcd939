-- `board_in`: that it keeps its contract, that its result meets the clauses of its type, what `limited` requires, and that no number overflows.
use Rattle.std.proofs.Common.{◌≡◌, refl, inr, ◌∙◌, ℕ, List, Result, Ok, IsTrue, map, ap, sym, subst, arith}
use Rattle.std.specs.List.{list_all}
use Rattle.board_file.specs.declared.fault.BoardFault.{BoardFault}
use Rattle.board_file.specs.declared.kind.ControllerKind.{ControllerKind}
use Rattle.board_file.specs.declared.quiet.QuietRange.{QuietRange}
use Rattle.board_file.specs.declared.region.Region.{Region}
use Rattle.board_file.specs.declared.written.WrittenRegion.{WrittenRegion}
use Rattle.board_file.specs.Kinds.{takes}
use Rattle.board_file.specs.Limits.{suits}
use Rattle.board_file.specs.Written.{region_shown, quiets_shown}
use Rattle.board_file.specs.declared.key.Key.TheVariants.{ControllerBase}
use Rattle.board_file.specs.Shown.{shown}
use Rattle.board_file.specs.Table.{IsFor}
use Rattle.board_file.specs.Text as Text
use Rattle.board_file.specs.Text.{board_in, suiting}
use Rattle.toml.specs.declared.value.Value.{Value}
use Rattle.toml.specs.View.{items_view, table_view}
use Rattle.board_file.proofs.Reading.{gives_fault, fails_within, then_ok, then_err}
use Rattle.std.proofs.lemmas.Result.{err_from_is_err_and}
use Rattle.board_file.specs.declared.written.WrittenQuiet.{WrittenQuiet}
use Rattle.std.proofs.lemmas.Grind.{common_steps}
use Rattle.board_file.proofs.read.board_in.Goals as goal

-- what the calls answered, with the kind of controller that the text writes
rows_said : (kind named : Result ControllerKind BoardFault) (suits : ControllerKind) (list same : List Value) (said : Result (List Region) BoardFault)
    → named ≡ kind → suits ≡ suiting named → same ≡ list → Text.regions suits (items_view same) ≡ said → Text.regions (suiting kind) (items_view list) ≡ said
rows_said kind named suits list same said a b d e = rw (← a, ← b, ← d) e

base_said : (kind named : Result ControllerKind BoardFault) (suits : ControllerKind) (base : ℕ) (said : Result ℕ BoardFault)
    → named ≡ kind → suits ≡ suiting named → Text.suited suits ControllerBase base ≡ said → Text.suited (suiting kind) ControllerBase base ≡ said
base_said kind named suits base said a b e = rw (← a, ← b) e

quiet_said : (quiet : List QuietRange) (rows same : List WrittenQuiet) (said : Result (List QuietRange) BoardFault) → said ≡ Ok (quiets_shown rows)
    → same ≡ rows → quiet ≡ quiets_shown same → said ≡ Ok quiet
quiet_said quiet rows same said a b e = rw (e, b) a

limits_said : (ram_base ram_size controller_base : ℕ) (kind : ControllerKind) (quiet : List QuietRange) (same_quiet : List WrittenQuiet)
    (rows same_rows : List WrittenRegion) (said : Result (List Region) BoardFault) → quiets_shown same_quiet ≡ quiet → same_rows ≡ rows
    → Text.limited ram_base ram_size kind controller_base (quiets_shown same_quiet) (map region_shown same_rows) ≡ said
    → Text.limited ram_base ram_size kind controller_base quiet (map region_shown rows) ≡ said
limits_said ram_base ram_size controller_base kind quiet same_quiet rows same_rows said a b e = rw (← a, ← b) e

pub returns-in_err-limited : goal.returns-in_err-limited
unfolding board_in
returns-in_err-limited c =
    let p = err_from_is_err_and c.from_residual-in_err-limited.result c.from_residual-in_err-limited.ensures.1 in
    let rows = rows_said _ _ _ _ _ _ c.kind_at-named.ensures c.suiting-suits.ensures c.deref.ensures.value c.in_ok-written.ensures.said in
    let base = base_said _ _ _ _ _ c.kind_at-named.ensures c.suiting-suits.ensures c.in_ok-controller_base.ensures.said in
    let quiet = ap (λ (l : List WrittenQuiet). quiets_shown l) c.deref-2.ensures.value in
    gives_fault shown _ (board_in (table_view c.args.root.now)) _ _ p.1 p.2 (fails_within _ _ _ c.in_err-limited.ensures.said
    (λ is.
    (then_ok _ _ _ _ c.in_ok-ram_base.ensures.said
    (then_ok _ _ _ _ c.in_ok-ram_size.ensures.said
    (then_ok _ _ _ _ c.in_ok-stack.ensures.said
    (then_ok _ _ _ _ c.in_ok-tables.ensures.said
    (then_ok _ _ _ _ rows
    (then_ok _ _ _ _ c.in_ok-base.ensures.said
    (then_ok _ _ _ _ base
    (then_ok _ _ _ _ (sym c.kind_at-named.ensures ∙ c.in_ok-kind.was)
    (then_ok _ _ _ _ c.in_ok-rates.ensures
    (then_ok _ _ _ _ c.in_ok-quiet.ensures
    (then_err _ _ _ (limits_said _ _ _ _ _ _ _ _ _ quiet c.deref-3.ensures.value is))))))))))))))

pub returns-in_err-quiet : goal.returns-in_err-quiet
unfolding board_in
returns-in_err-quiet c =
    let p = err_from_is_err_and c.from_residual-in_err-quiet.result c.from_residual-in_err-quiet.ensures.1 in
    let rows = rows_said _ _ _ _ _ _ c.kind_at-named.ensures c.suiting-suits.ensures c.deref.ensures.value c.in_ok-written.ensures.said in
    let base = base_said _ _ _ _ _ c.kind_at-named.ensures c.suiting-suits.ensures c.in_ok-controller_base.ensures.said in
    gives_fault shown _ (board_in (table_view c.args.root.now)) _ _ p.1 p.2 (fails_within _ _ _ c.in_err-quiet.ensures
    (λ is.
    (then_ok _ _ _ _ c.in_ok-ram_base.ensures.said
    (then_ok _ _ _ _ c.in_ok-ram_size.ensures.said
    (then_ok _ _ _ _ c.in_ok-stack.ensures.said
    (then_ok _ _ _ _ c.in_ok-tables.ensures.said
    (then_ok _ _ _ _ rows
    (then_ok _ _ _ _ c.in_ok-base.ensures.said
    (then_ok _ _ _ _ base
    (then_ok _ _ _ _ (sym c.kind_at-named.ensures ∙ c.in_ok-kind.was)
    (then_ok _ _ _ _ c.in_ok-rates.ensures
    (then_err _ _ _ is))))))))))))

pub returns-in_err-rates : goal.returns-in_err-rates
unfolding board_in
returns-in_err-rates c =
    let p = err_from_is_err_and c.from_residual-in_err-rates.result c.from_residual-in_err-rates.ensures.1 in
    let rows = rows_said _ _ _ _ _ _ c.kind_at-named.ensures c.suiting-suits.ensures c.deref.ensures.value c.in_ok-written.ensures.said in
    let base = base_said _ _ _ _ _ c.kind_at-named.ensures c.suiting-suits.ensures c.in_ok-controller_base.ensures.said in
    gives_fault shown _ (board_in (table_view c.args.root.now)) _ _ p.1 p.2 (fails_within _ _ _ c.in_err-rates.ensures
    (λ is.
    (then_ok _ _ _ _ c.in_ok-ram_base.ensures.said
    (then_ok _ _ _ _ c.in_ok-ram_size.ensures.said
    (then_ok _ _ _ _ c.in_ok-stack.ensures.said
    (then_ok _ _ _ _ c.in_ok-tables.ensures.said
    (then_ok _ _ _ _ rows
    (then_ok _ _ _ _ c.in_ok-base.ensures.said
    (then_ok _ _ _ _ base
    (then_ok _ _ _ _ (sym c.kind_at-named.ensures ∙ c.in_ok-kind.was)
    (then_err _ _ _ is)))))))))))

pub limited-requires-clause-ram : goal.limited-requires-clause-ram
limited-requires-clause-ram c = grind (arith, common_steps)

pub limited-requires-clause-some : goal.limited-requires-clause-some
limited-requires-clause-some c = grind (arith, common_steps)

pub invariant_of-result : goal.invariant_of-result
invariant_of-result c =
    let rates = c.in_ok-rates.rates in
    let limits = c.in_ok-limited.ensures in
    let kind = c.in_ok-kind.kind in
    let same = c.suiting-suits.ensures ∙ ap (λ (r : Result ControllerKind BoardFault). suiting r) c.in_ok-kind.was in
    let regions = limits.same ∙ ap (λ (l : List WrittenRegion). map region_shown l) c.deref-3.ensures.value in
    record {
      ram_base_fits = c.in_ok-ram_base.ensures.fits;
      ram_size_fits = c.in_ok-ram_size.ensures.fits;
      stack_fits = c.in_ok-stack.ensures.fits;
      controller_base_fits = subst (λ (n : ℕ). IsFor ControllerBase n) (sym c.in_ok-controller_base.ensures.same) c.in_ok-base.ensures.fits;
      program_ticks_fit = rates.program_ticks_fit;
      erase_ticks_fit = rates.erase_ticks_fit;
      chip_ticks_fit = rates.chip_ticks_fit;
      hz_fits = rates.hz_fits;
      steps_per_ms_fit = rates.steps_per_ms_fit;
      sector_fits = rates.sector_fits;
      page_fits = rates.page_fits;
      chip_fits = rates.chip_fits;
      ram_is_small = limits.ram_is_small;
      ram_ends = limits.ram_ends;
      some_region = limits.some_region;
      regions_fit = limits.regions_fit;
      few_regions = limits.few_regions;
      few_cells = limits.few_cells;
      few_sectors = limits.few_sectors;
      kind_takes_base = subst (λ (k : ControllerKind). IsTrue (takes k ControllerBase c.in_ok-controller_base.controller_base)) same
          c.in_ok-controller_base.ensures.takes;
      regions_suit = subst (λ (l : List Region). IsTrue (list_all (suits kind) l)) (sym regions)
          (subst (λ (k : ControllerKind). IsTrue (list_all (suits k) (map region_shown c.in_ok-written.written.items))) same c.in_ok-written.ensures.suit);
      quiet_is_small = limits.quiet_is_small;
      apart = limits.apart;
    }

pub overflow_cast-result : goal.overflow_cast-result
overflow_cast-result c = grind (arith, common_steps)

pub returns-in_err-base : goal.returns-in_err-base
unfolding board_in
returns-in_err-base c =
    let p = err_from_is_err_and c.from_residual-in_err-base.result c.from_residual-in_err-base.ensures.1 in
    let rows = rows_said _ _ _ _ _ _ c.kind_at-named.ensures c.suiting-suits.ensures c.deref.ensures.value c.in_ok-written.ensures.said in
    gives_fault shown _ (board_in (table_view c.args.root.now)) _ _ p.1 p.2 (fails_within _ _ _ c.in_err-base.ensures.said
    (λ is.
    (then_ok _ _ _ _ c.in_ok-ram_base.ensures.said
    (then_ok _ _ _ _ c.in_ok-ram_size.ensures.said
    (then_ok _ _ _ _ c.in_ok-stack.ensures.said
    (then_ok _ _ _ _ c.in_ok-tables.ensures.said
    (then_ok _ _ _ _ rows
    (then_err _ _ _ is))))))))

pub returns-in_err-controller_base : goal.returns-in_err-controller_base
unfolding board_in
returns-in_err-controller_base c =
    let p = err_from_is_err_and c.from_residual-in_err-controller_base.result c.from_residual-in_err-controller_base.ensures.1 in
    let rows = rows_said _ _ _ _ _ _ c.kind_at-named.ensures c.suiting-suits.ensures c.deref.ensures.value c.in_ok-written.ensures.said in
    gives_fault shown _ (board_in (table_view c.args.root.now)) _ _ p.1 p.2 (fails_within _ _ _ c.in_err-controller_base.ensures.said
    (λ is.
    (then_ok _ _ _ _ c.in_ok-ram_base.ensures.said
    (then_ok _ _ _ _ c.in_ok-ram_size.ensures.said
    (then_ok _ _ _ _ c.in_ok-stack.ensures.said
    (then_ok _ _ _ _ c.in_ok-tables.ensures.said
    (then_ok _ _ _ _ rows
    (then_ok _ _ _ _ c.in_ok-base.ensures.said
    (then_err _ _ _ (base_said _ _ _ _ _ c.kind_at-named.ensures c.suiting-suits.ensures is))))))))))

pub returns-in_err-kind : goal.returns-in_err-kind
unfolding board_in
returns-in_err-kind c =
    let p = err_from_is_err_and c.from_residual-in_err-kind.result c.from_residual-in_err-kind.ensures.1 in
    let rows = rows_said _ _ _ _ _ _ c.kind_at-named.ensures c.suiting-suits.ensures c.deref.ensures.value c.in_ok-written.ensures.said in
    let base = base_said _ _ _ _ _ c.kind_at-named.ensures c.suiting-suits.ensures c.in_ok-controller_base.ensures.said in
    gives_fault shown _ (board_in (table_view c.args.root.now)) _ _ p.1 p.2 (inr
    (then_ok _ _ _ _ c.in_ok-ram_base.ensures.said
    (then_ok _ _ _ _ c.in_ok-ram_size.ensures.said
    (then_ok _ _ _ _ c.in_ok-stack.ensures.said
    (then_ok _ _ _ _ c.in_ok-tables.ensures.said
    (then_ok _ _ _ _ rows
    (then_ok _ _ _ _ c.in_ok-base.ensures.said
    (then_ok _ _ _ _ base
    (then_err _ _ _ (sym c.kind_at-named.ensures ∙ c.in_err-kind.was))))))))))

pub returns : goal.returns
unfolding board_in
returns c =
    let rows = rows_said _ _ _ _ _ _ c.kind_at-named.ensures c.suiting-suits.ensures c.deref.ensures.value c.in_ok-written.ensures.said in
    let base = base_said _ _ _ _ _ c.kind_at-named.ensures c.suiting-suits.ensures c.in_ok-controller_base.ensures.said in
    let quiet = quiet_said _ _ _ _ c.in_ok-quiet.ensures c.deref-2.ensures.value c.in_ok-limited.ensures.quiet in
    let limits = limits_said _ _ _ _ _ _ _ _ _ (sym c.in_ok-limited.ensures.quiet) c.deref-3.ensures.value c.in_ok-limited.ensures.said in
    then_ok _ _ _ _ c.in_ok-ram_base.ensures.said
    (then_ok _ _ _ _ c.in_ok-ram_size.ensures.said
    (then_ok _ _ _ _ c.in_ok-stack.ensures.said
    (then_ok _ _ _ _ c.in_ok-tables.ensures.said
    (then_ok _ _ _ _ rows
    (then_ok _ _ _ _ c.in_ok-base.ensures.said
    (then_ok _ _ _ _ base
    (then_ok _ _ _ _ (sym c.kind_at-named.ensures ∙ c.in_ok-kind.was)
    (then_ok _ _ _ _ c.in_ok-rates.ensures
    (then_ok _ _ _ _ quiet
    (then_ok _ _ _ _ limits
    refl))))))))))

pub returns-in_err-stack : goal.returns-in_err-stack
unfolding board_in
returns-in_err-stack c =
    let p = err_from_is_err_and c.from_residual-in_err-stack.result c.from_residual-in_err-stack.ensures.1 in
    gives_fault shown _ (board_in (table_view c.args.root.now)) _ _ p.1 p.2 (fails_within _ _ _ c.in_err-stack.ensures.said
    (λ is.
    (then_ok _ _ _ _ c.in_ok-ram_base.ensures.said
    (then_ok _ _ _ _ c.in_ok-ram_size.ensures.said
    (then_err _ _ _ is)))))

pub returns-in_err-tables : goal.returns-in_err-tables
unfolding board_in
returns-in_err-tables c =
    let p = err_from_is_err_and c.from_residual-in_err-tables.result c.from_residual-in_err-tables.ensures.1 in
    gives_fault shown _ (board_in (table_view c.args.root.now)) _ _ p.1 p.2 (fails_within _ _ _ c.in_err-tables.ensures.said
    (λ is.
    (then_ok _ _ _ _ c.in_ok-ram_base.ensures.said
    (then_ok _ _ _ _ c.in_ok-ram_size.ensures.said
    (then_ok _ _ _ _ c.in_ok-stack.ensures.said
    (then_err _ _ _ is))))))

pub returns-in_err-written : goal.returns-in_err-written
unfolding board_in
returns-in_err-written c =
    let p = err_from_is_err_and c.from_residual-in_err-written.result c.from_residual-in_err-written.ensures.1 in
    gives_fault shown _ (board_in (table_view c.args.root.now)) _ _ p.1 p.2 (fails_within _ _ _ c.in_err-written.ensures.said
    (λ is.
    (then_ok _ _ _ _ c.in_ok-ram_base.ensures.said
    (then_ok _ _ _ _ c.in_ok-ram_size.ensures.said
    (then_ok _ _ _ _ c.in_ok-stack.ensures.said
    (then_ok _ _ _ _ c.in_ok-tables.ensures.said
    (then_err _ _ _ (rows_said _ _ _ _ _ _ c.kind_at-named.ensures c.suiting-suits.ensures c.deref.ensures.value is))))))))
