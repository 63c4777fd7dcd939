-- `copies_of`: that it keeps its contract, and that its loop keeps its invariant.
use Rattle.std.proofs.Common.{◌≡◌, ◌∷◌, [], ◌++◌, ◌∙◌, List, ℕ, length, map, string_bytes, refl, sym, ap, append_assoc, append-nil, arith}
use Rattle.std.proofs.lemmas.List.{map-append}
use Rattle.std.specs.Vec.Iter.{into_iter_items}
use Rattle.std.specs.declared.alloc.Global.{Global}
use Rattle.std.specs.declared.string.String.{String}
use Rattle.host_files.proofs.arguments.copies_of.Goals as goal

nothing_left : {X : Type 0} (xs : List X) → length xs ≡ 0 → xs ≡ []
nothing_left [] none = refl
nothing_left (x ∷ xs) none = absurd (omega (arith, none))

pub loop-argument-preserved : goal.loop-argument-preserved
loop-argument-preserved c =
    let at = c.loop-argument in
    let x = c.in-Some.argument in (
      append_assoc at.yielded (x ∷ []) _ ∙ rw (← c.in-Some.ensures.steps.0) at.invariant.0,
      c.in_ok-push.ensures.items
          ∙ ap (λ (word : List ℕ). at.words.items ++ word ∷ []) (c.in_ok-copy.ensures ∙ c.as_str.ensures.value)
          ∙ ap (λ (l : List (List ℕ)). l ++ string_bytes x ∷ []) at.invariant.1
          ∙ sym (map-append (λ argument. string_bytes argument) at.yielded (x ∷ [])),
    )

pub returns : goal.returns
returns c =
    let at = c.loop-argument in
    let none = c.in-None.ensures.steps in
    let empty : into_iter_items at.argument-iterator ≡ [] = nothing_left _ (sym at.argument-iterator.rest.ok.0 ∙ none.0) in
    let all = sym (append-nil at.yielded) ∙ rw empty at at.invariant.0 ∙ ap (λ s. into_iter_items s) c.into_iter-argument-iterator.ensures.into_iter_gives in
    at.invariant.1 ∙ ap (λ (l : List (String Global)). map (λ argument. string_bytes argument) l) all
