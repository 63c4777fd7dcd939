-- What `clap` answers for the words of a simple command.
use Rattle.std.proofs.Common.{◌≡◌, ◌≢◌, true, List, [], map, subst, Result, ⊎_elim}
use mathlib.Core.List.{map-id}
use Rattle.clap.specs.Walk.{Text}
use Rattle.clap.specs.Simple.{App, is_simple, HasMatchesOf, subcommand_of, subcommand_rows_of}
use Rattle.clap.specs.Kinds.{Kinds, FailsBy, HasKind}
use Rattle.clap.specs.Values.{kind_of}
use Rattle.clap.specs.Faults.{is_simple_and_free, fault_of}
use Rattle.clap.specs.declared.error.Error.{Error}
use Rattle.clap.specs.declared.error.kind.ErrorKind.TheVariants as kind
use Rattle.clap.specs.declared.parser.matches.ArgMatches.{ArgMatches}

module _ (tool a : App) (is : a ≡ tool) (words : List Text) where
  pub fails : (result : Result ArgMatches Error) → is_simple_and_free tool ≡ true
      → (is_simple_and_free a ≡ true → FailsBy (fault_of a (map (λ w. w) words)) result) → FailsBy (fault_of tool words) result
  fails result free kinds =
      subst (λ (ws : List Text). FailsBy (fault_of tool ws) result) (map-id words)
      (subst (λ (b : App). is_simple_and_free b ≡ true → FailsBy (fault_of b (map (λ w. w) words)) result) is kinds free)

  pub matches : (m : ArgMatches) → is_simple tool ≡ true → HasMatchesOf a (map (λ w. w) words) m → subcommand_rows_of m ≡ subcommand_of tool words
  matches m simple has =
      subst (λ (ws : List Text). subcommand_rows_of m ≡ subcommand_of tool ws) (map-id words)
      (subst (λ (b : App). HasMatchesOf b (map (λ w. w) words) m) is has simple).1

-- an error that isn't "out of memory"
pub some_fault : (kinds : Kinds) (e : Error) → HasKind kinds e → kind_of e ≢ kind.OutOfMemory → kinds ≢ []
some_fault kinds e has others none = ⊎_elim others (λ among. absurd (rw none at among)) has
