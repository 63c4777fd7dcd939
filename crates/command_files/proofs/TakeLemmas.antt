-- Taking the files of some names, one after another.
use Rattle.std.proofs.Common.{◌≡◌, ◌<◌, ◌≤◌, ◌+◌, ◌∙◌, sym, ap, subst, refl, arith, ⊎_elim, ℕ, zero, suc, Bool, IsTrue, All, List, [], ◌∷◌, ◌++◌, take, drop}
use Rattle.std.proofs.Common.{length, get_or, length-append, Some}
use Rattle.std.proofs.lemmas.Bool.{cases_lt}
use Rattle.std.proofs.lemmas.List.{take_more, append_assoc}
use Rattle.std.proofs.lemmas.List.Elements.{All-nil, All-cons, All-head, All-tail, All-append}
use Rattle.std.proofs.Math.ListN.{get_or-append}
use Rattle.std.proofs.Math.Seq.{get_or-append_seam}
use Rattle.faults.specs.Counts.{Rose}
use Rattle.outside_io.specs.State.{InputsState}
use Rattle.report_text.specs.Refusal.{Refusal, out_of_memory, input_fault}
use Rattle.command_words.proofs.ArgumentLemmas.{in_parts}
use Rattle.command_files.specs.Inputs.{InputsCall, inputs_call, name_at, IsFile, IsThere, AreEach, NoneFailed}
use Rattle.image_more.specs.Place.{file_at}
use Rattle.command_files.specs.Steps.{IsTakeFault}

-- Each of two lists.

pub all_front : {A : Type 0} (P : A → Type 0) (xs ys : List A) → All P (xs ++ ys) → All P xs
all_front P [] ys all = All-nil P
all_front P (x ∷ xs) ys all = All-cons P x xs (All-head P x (xs ++ ys) all) (all_front P xs ys (All-tail P x (xs ++ ys) all))

pub all_back : {A : Type 0} (P : A → Type 0) (xs ys : List A) → All P (xs ++ ys) → All P ys
all_back P [] ys all = all
all_back P (x ∷ xs) ys all = all_back P xs ys (All-tail P x (xs ++ ys) all)

-- The files of some names.

pub each_of_none : (inputs : InputsCall) → AreEach inputs [] []
each_of_none inputs = record { count = refl; each = λ k less told. absurd (omega (arith, less)) }

-- one more file was taken
pub each_push : {inputs : InputsCall} {names files : List (List ℕ)} → AreEach inputs names files → (name file : List ℕ) → IsFile inputs name file
    → AreEach inputs (names ++ name ∷ []) (files ++ file ∷ [])
each_push {inputs} {names} {files} are name file is = record {
  count = omega (arith, length-append files (file ∷ []), length-append names (name ∷ []), are.count);
  each = λ k less told. ⊎_elim
      (λ (below : k < length names).
      ap (λ (n : List ℕ). inputs.before.stands n) (get_or-append names (name ∷ []) [] k below) ∙ are.each k below told
      ∙ ap (λ (f : List ℕ). Some f) (sym (get_or-append files (file ∷ []) [] k (omega (arith, below, are.count)))))
      (λ (last : length names ≤ k).
      let here : k ≡ length names = omega (arith, last, less, length-append names (name ∷ [])) in
      let there : k ≡ length files = omega (arith, here, are.count) in
      let name_is : get_or (names ++ name ∷ []) k [] ≡ name = ap (λ (n : ℕ). get_or (names ++ name ∷ []) n []) here ∙ get_or-append_seam names name [] [] in
      let file_is : get_or (files ++ file ∷ []) k [] ≡ file = ap (λ (n : ℕ). get_or (files ++ file ∷ []) n []) there ∙ get_or-append_seam files file [] [] in
      ap (λ (n : List ℕ). inputs.before.stands n) name_is ∙ is told ∙ ap (λ (f : List ℕ). Some f) (sym file_is))
      (cases_lt k (length names));
}

pub each_of_one : (inputs : InputsCall) (name file : List ℕ) → IsFile inputs name file → AreEach inputs (name ∷ []) (file ∷ [])
each_of_one inputs name file is = each_push (each_of_none inputs) name file is

-- the files with these names were the same before an earlier take
pub each_earlier : {tells : Bool} {a b c d : InputsState} {names files : List (List ℕ)} → AreEach (inputs_call tells b c) names files
    → ((name : List ℕ) → b.stands name ≡ a.stands name) → AreEach (inputs_call tells a d) names files
each_earlier {names = names} are same = record { count = are.count; each = λ k less told. sym (same (name_at names k)) ∙ are.each k less told }

pub is_there : {inputs : InputsCall} {names files : List (List ℕ)} → AreEach inputs names files → All (IsThere inputs) names
is_there {inputs} {names} {files} are = λ k d less.
    subst (λ (name : List ℕ). IsThere inputs name) (same_default names k d less) (file_at files k, are.each k less) where
      same_default : (names : List (List ℕ)) (k : ℕ) (d : List ℕ) → k < length names → get_or names k [] ≡ get_or names k d
      same_default names k d less = get_or-defaults names k [] d less where
        get_or-defaults : (xs : List (List ℕ)) (k : ℕ) (x y : List ℕ) → k < length xs → get_or xs k x ≡ get_or xs k y
        get_or-defaults [] k x y less = absurd (omega (arith, less))
        get_or-defaults (z ∷ zs) zero x y less = refl
        get_or-defaults (z ∷ zs) (suc k) x y less = get_or-defaults zs k x y (omega (arith, less))

-- No take failed.

pub none_failed_here : (tells : Bool) (a : InputsState) → NoneFailed (inputs_call tells a a)
none_failed_here tells a = record { faults = refl; failed = λ told. refl }

pub none_failed_then : {tells : Bool} {a b c : InputsState} → NoneFailed (inputs_call tells a b) → NoneFailed (inputs_call tells b c)
    → NoneFailed (inputs_call tells a c)
none_failed_then one two = record { faults = two.faults ∙ one.faults; failed = λ told. two.failed told ∙ one.failed told }

-- Names that can't be taken.

-- a fault among some names is a fault among more names
pub fault_before : (inputs : InputsCall) (names later : List (List ℕ)) (r : Refusal) → IsTakeFault inputs names r → IsTakeFault inputs (names ++ later) r
fault_before inputs names later out_of_memory is = is
fault_before inputs names later (input_fault name) is = (
  is.0,
  is.1,
  (record {
    earlier = is.2.earlier;
    later = is.2.later ++ later;
    names_are = ap (λ (n : List (List ℕ)). n ++ later) is.2.names_are ∙ append_assoc is.2.earlier (name ∷ is.2.later) later;
    taken = is.2.taken;
    failed = is.2.failed;
  }),
)
fault_before inputs names later r is = absurd is

-- a fault after names that were taken
pub fault_behind : {tells : Bool} {a b x : InputsState} {names files : List (List ℕ)} (c : InputsState) (more : List (List ℕ)) (r : Refusal)
    → AreEach (inputs_call tells a x) names files → ((name : List ℕ) → b.stands name ≡ a.stands name) → NoneFailed (inputs_call tells a b)
    → IsTakeFault (inputs_call tells b c) more r → IsTakeFault (inputs_call tells a c) (names ++ more) r
fault_behind {tells} {a} {b} {x} {names} {files} c more out_of_memory are same none is = none_failed_then none is
fault_behind {tells} {a} {b} {x} {names} {files} c more (input_fault name) are same none is = (
  omega (arith, none.faults, is.0),
  subst (λ (n : ℕ). Rose n c.faults) none.faults is.1,
  (record {
    earlier = names ++ is.2.earlier;
    later = is.2.later;
    names_are = ap (λ (n : List (List ℕ)). names ++ n) is.2.names_are ∙ sym (append_assoc names is.2.earlier (name ∷ is.2.later));
    taken = All-append (IsThere (inputs_call tells a c)) names is.2.earlier (is_there (each_earlier {a = a} {d = c} are (λ n. refl)))
        (λ k d less. let there = is.2.taken k d less in (there.0, λ told. sym (same (get_or is.2.earlier k d)) ∙ there.1 told));
    failed = λ told. is.2.failed told ∙ ap (λ (n : List (List ℕ)). n ++ name ∷ []) (none.failed told);
  }),
)
fault_behind c more r are same none is = absurd is

-- Name after name.

-- the files of the first names were taken, and no take failed
pub record TakenSoFar (tells : Bool) (start now : InputsState) (names files : List (List ℕ)) (done : ℕ) : Type 0 where
  pub each : AreEach (inputs_call tells start now) (take done names) files
  pub stands : (name : List ℕ) → now.stands name ≡ start.stands name
  pub none_failed : NoneFailed (inputs_call tells start now)

pub taken_here : (tells : Bool) (start : InputsState) (names : List (List ℕ)) → TakenSoFar tells start start names [] 0
taken_here tells start names = record { each = each_of_none (inputs_call tells start start); stands = λ name. refl; none_failed = none_failed_here tells start }

pub taken_then : {tells : Bool} {start mid now : InputsState} {names files : List (List ℕ)} {done : ℕ} (file : List ℕ)
    → TakenSoFar tells start mid names files done → done < length names
    → (IsTrue tells → mid.stands (name_at names done) ≡ Some file) → ((name : List ℕ) → now.stands name ≡ mid.stands name)
    → NoneFailed (inputs_call tells mid now)
    → TakenSoFar tells start now names (files ++ file ∷ []) (done + 1)
taken_then {tells} {start} {mid} {now} {names} {files} {done} file so_far less taken stands none = record {
  each = subst (λ (n : List (List ℕ)). AreEach (inputs_call tells start now) n (files ++ file ∷ [])) (sym (take_more names done [] less))
      (each_push (each_earlier {d = now} so_far.each (λ n. refl)) (name_at names done) file (λ told. sym (so_far.stands (name_at names done)) ∙ taken told));
  stands = λ name. stands name ∙ so_far.stands name;
  none_failed = none_failed_then so_far.none_failed none;
}

-- names that were taken, and then one that can't be taken
pub untaken_then : {tells : Bool} {start mid : InputsState} {names files : List (List ℕ)} {done : ℕ} (now : InputsState) (r : Refusal)
    → TakenSoFar tells start mid names files done → done < length names
    → IsTakeFault (inputs_call tells mid now) (name_at names done ∷ []) r → IsTakeFault (inputs_call tells start now) names r
untaken_then {tells} {start} {mid} {names} {files} {done} now r so_far less is =
    subst (λ (n : List (List ℕ)). IsTakeFault (inputs_call tells start now) n r) (sym (in_parts names done less))
    (fault_behind now (name_at names done ∷ drop (done + 1) names) r so_far.each so_far.stands so_far.none_failed
    (fault_before (inputs_call tells mid now) (name_at names done ∷ []) (drop (done + 1) names) r is))
