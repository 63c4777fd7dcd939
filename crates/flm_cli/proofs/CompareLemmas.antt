-- From the steps of `compare` to its end, with a lemma for each step that may end it.
use Rattle.std.proofs.Common.{◌≡◌, ◌<◌, ◌≤◌, ◌+◌, ◌∙◌, ⊎_elim, sym, ap, subst, refl, arith, inl, inr, ℕ, Bool, true, IsTrue, List, [], ◌∷◌, length, take}
use Rattle.std.proofs.Common.{get_or, zero-add}
use Rattle.std.proofs.Math.Seq.{take-length}
use Rattle.std.proofs.lemmas.List.{get_or-take}
use Rattle.std.proofs.lemmas.Bool.{cases_lt}
use Rattle.bench_model.specs.State.{BenchState}
use Rattle.outside_io.specs.State.{SinkState}
use Rattle.report_text.specs.Refusal.{Refusal, out_of_memory, input_fault, image_too_long, differs}
use Rattle.readback.specs.Difference.{IsFirstDifference}
use Rattle.command_files.specs.Inputs.{InputsCall, IsFile, NoneFailed}
use Rattle.command_files.specs.Steps.{IsTakeFault}
use Rattle.command_files.specs.Call.{BenchCall, SinkCall, Answer, refused, bench_call, sink_call}
use Rattle.command_files.specs.Answered.{yields, DidNothing, IsOf, on_files}
use Rattle.flm_cli.specs.Comparison.{Compares}
use Rattle.flm_cli.specs.Comparison as comparison
use Rattle.flm_cli.specs.Compare.{CellsAre, DiffersFrom, IsComparedWithFile, OfFile, ComesOfFile, IsDueForFile, CompareEnds, has_compare}
use Rattle.command_files.proofs.AnswerLemmas.{did_nothing, plain_lawful, untaken_lawful, one_file}
use Rattle.flm_cli.proofs.FoundLemmas.{leaves_early, found_cases, compared_lawful, is_due, due_yielding}

-- The cells and the bytes of a file.

-- cells with a difference aren't the bytes
never_both : (cells bytes : List ℕ) (place wanted found : ℕ) → IsFirstDifference true cells 0 bytes place wanted found
    → (n : ℕ) → place < n → take n cells ≡ take n bytes → ⊥
never_both cells bytes place wanted found first n less same =
    first.unequal (sym first.is_wanted ∙ sym (get_or-take n bytes place 0 less) ∙ ap (λ (l : List ℕ). get_or l place 0) (sym same)
    ∙ get_or-take n cells place 0 less ∙ ap (λ (i : ℕ). get_or cells i 0) (sym (zero-add place)) ∙ first.is_found refl)

-- there is only one first difference
one_place : (cells bytes : List ℕ) (p w f q x g : ℕ) → IsFirstDifference true cells 0 bytes p w f → IsFirstDifference true cells 0 bytes q x g → p ≡ q
one_place cells bytes p w f q x g one two = ⊎_elim
    (λ (less : p < q). absurd (never_both cells bytes p w f one q less (two.least refl)))
    (λ (least : q ≤ p). ⊎_elim
    (λ (less : q < p). absurd (never_both cells bytes q x g two p less (one.least refl)))
    (λ (least' : p ≤ q). omega (arith, least, least'))
    (cases_lt q p))
    (cases_lt p q)

one_difference : (cells bytes : List ℕ) (p w f q x g : ℕ) → IsFirstDifference true cells 0 bytes p w f → IsFirstDifference true cells 0 bytes q x g
    → differs p w f ≡ differs q x g
one_difference cells bytes p w f q x g one two =
    let place = one_place cells bytes p w f q x g one two in
    let wanted : w ≡ x = sym one.is_wanted ∙ ap (λ (i : ℕ). get_or bytes i 0) place ∙ two.is_wanted in
    let found : f ≡ g = sym (one.is_found refl) ∙ ap (λ (i : ℕ). get_or cells (0 + i) 0) place ∙ two.is_found refl in
    cc

module _ (bench : BenchCall) (bytes : List ℕ) where
  as_told : (place wanted found : ℕ) → IsTrue bench.tells → DiffersFrom bench bytes place wanted found
      → IsFirstDifference true bench.after.cells 0 bytes place wanted found
  as_told place wanted found told is = subst (λ (t : Bool). IsFirstDifference t bench.after.cells 0 bytes place wanted found) told is

  agree_or_differ : IsTrue bench.tells → (place wanted found : ℕ) → CellsAre bench bytes → DiffersFrom bench bytes place wanted found → ⊥
  agree_or_differ told place wanted found agree differ =
      never_both bench.after.cells bytes place wanted found (as_told place wanted found told differ)
      (length bytes) differ.within (agree told ∙ sym (take-length bytes))

  differ_once : IsTrue bench.tells → (p w f q x g : ℕ) → DiffersFrom bench bytes p w f → DiffersFrom bench bytes q x g → differs p w f ≡ differs q x g
  differ_once told p w f q x g one two = one_difference bench.after.cells bytes p w f q x g (as_told p w f told one) (as_told q x g told two)

  -- the difference is given by its place
  pub at_place : (place wanted found : ℕ) → DiffersFrom bench bytes place wanted found → DiffersFrom bench bytes (0 + place) wanted found
  at_place place wanted found is = subst (λ (p : ℕ). DiffersFrom bench bytes p wanted found) (sym (zero-add place)) is

-- The exits.

due_yielding_for : (bench : BenchCall) (out : SinkCall) (answer : Answer) (bytes : List ℕ) → yields answer ≡ true → DidNothing bench out
    → comparison.IsCompared answer → IsDueForFile bench out answer bytes
due_yielding_for bench out answer bytes yields did complete = record {
  too_long = λ more. inr (yields, did);
  compared = λ fits. due_yielding bench (CellsAre bench bytes) (DiffersFrom bench bytes) answer yields complete;
}

module _ (tells told : Bool) (b : BenchState) (o : SinkState) (inputs : InputsCall) (image : List ℕ) where
  pub ends_untaken : (r : Refusal) → IsTakeFault inputs (image ∷ []) r → CompareEnds image (bench_call tells b b) inputs (sink_call told o o) (refused r)
  ends_untaken out_of_memory is = record {
    lawful = untaken_lawful tells told b o inputs on_files has_compare (image ∷ []) out_of_memory (did_nothing tells told b o) refl (λ name. refl) is;
    leaves = leaves_early tells told b o out_of_memory refl;
    comes = tt;
    due = λ bytes tells' stands. due_yielding_for _ _ (refused out_of_memory) bytes refl (did_nothing tells told b o) refl;
  }
  ends_untaken (input_fault name) is = record {
    lawful = untaken_lawful tells told b o inputs on_files has_compare (image ∷ []) (input_fault name) (did_nothing tells told b o) refl (λ name. refl) is;
    leaves = leaves_early tells told b o (input_fault name) refl;
    comes = tt;
    due = λ bytes tells' stands. due_yielding_for _ _ (refused (input_fault name)) bytes refl (did_nothing tells told b o) refl;
  }
  ends_untaken r is = absurd is

  pub ends_too_long : (bytes : List ℕ) → IsFile inputs image bytes → NoneFailed inputs → b.cell_count < length bytes
      → CompareEnds image (bench_call tells b b) inputs (sink_call told o o) (refused (image_too_long (length bytes) b.cell_count))
  ends_too_long bytes file same more = record {
    lawful = plain_lawful tells told b o inputs on_files has_compare (image ∷ []) (image_too_long (length bytes) b.cell_count) (did_nothing tells told b o) refl
        same refl;
    leaves = leaves_early tells told b o (image_too_long (length bytes) b.cell_count) refl;
    comes = record { bytes = bytes; file = file; holds = record { count_is = refl; cells_are = refl; more = more } };
    due = λ other tells' stands.
        let is = one_file inputs image other bytes tells' stands file in
        record {
          too_long = λ long. inl (ap (λ (n : List ℕ). refused (image_too_long (length n) b.cell_count)) is);
          compared = λ fits. absurd (omega (arith, fits, more, ap length is));
        };
  }

comes_compared : (bench : BenchCall) (inputs : InputsCall) (image : List ℕ) (answer : Answer)
    → OfFile inputs image (λ bytes. IsComparedWithFile bench bytes answer)
    → ComesOfFile bench inputs image answer
comes_compared bench inputs image (refused out_of_memory) given = tt
comes_compared bench inputs image (refused (input_fault name)) given = tt
comes_compared bench inputs image (refused (image_too_long count cells)) given = absurd given.holds.found
comes_compared bench inputs image answer given = given

pub ends_compared : (bench : BenchCall) (inputs : InputsCall) (out : SinkCall) (image bytes : List ℕ) → IsFile inputs image bytes
    → NoneFailed inputs → length bytes ≤ bench.before.cell_count → (answer : Answer)
    → Compares bench out (CellsAre bench bytes) (DiffersFrom bench bytes) answer → CompareEnds image bench inputs out answer
ends_compared bench inputs out image bytes file same fits answer compares = record {
  lawful = compared_lawful bench inputs out has_compare (image ∷ []) (CellsAre bench bytes) (DiffersFrom bench bytes) answer refl
      (found_cases (CellsAre bench bytes) (DiffersFrom bench bytes) (λ a. IsOf has_compare a) tt refl refl (λ at wanted byte. refl) answer compares.found) same
      compares;
  leaves = compares.leaves;
  comes = comes_compared bench inputs image answer (record { bytes = bytes; file = file; holds = record { fits = fits; found = compares.found } });
  due = λ other told stands.
      let is = one_file inputs image other bytes told stands file in
      subst (λ (n : List ℕ). IsDueForFile bench out answer n) is (record {
        too_long = λ more. absurd (omega (arith, more, fits));
        compared = λ fits'. is_due bench (CellsAre bench bytes) (DiffersFrom bench bytes) (agree_or_differ bench bytes) (differ_once bench bytes) answer
            compares.found;
      });
}
