-- The fixture, from its parts.
use Rattle.std.proofs.Common.{◌≡◌, refl, Option, Some, None}
use Rattle.std.specs.Prelude.{IsSomeAnd, slice_get}
use Rattle.board_file.specs.Text.{IsBoard}
use Rattle.board_file.specs.declared.region.Region.{Region}
use Rattle.flm_descriptor.specs.Flm.{IsFlm}
use Rattle.flm_forge.specs.Listed.{listing_of}
use Rattle.flm_forge.specs.Read.{IsForged}
use Rattle.flm_forge.specs.declared.kind.Kind.TheVariants.{A1}
use Rattle.demo_job.specs.Fixture.{board_text, Fixture, IsFixture}

pub some_and : {A : Type 0} (P Q : A → Type 0) (o : Option A) → ((x : A) → P x → Q x) → IsSomeAnd o P → IsSomeAnd o Q
some_and P Q None f none = none
some_and P Q (Some x) f has = f x has

some_of : {A : Type 0} (P : A → Type 0) (o : Option A) → IsSomeAnd o P → (x : A) × (o ≡ Some x) × P x
some_of P None none = absurd none
some_of P (Some x) has = (x, refl, has)

pub fixture_is : (t : Fixture) → IsBoard board_text t.board
    → IsSomeAnd (slice_get t.board.regions 0) (λ region. IsForged (listing_of A1 t.board.controller_base region 1024) t.file)
    → IsFlm t.file t.algorithm → IsFixture t
fixture_is t board forged algorithm =
    let of = some_of (λ (region : Region). IsForged (listing_of A1 t.board.controller_base region 1024) t.file) (slice_get t.board.regions 0) forged in
    record { is_board = board; region = of.0; region_is = of.1; is_forged = of.2; is_algorithm = algorithm }
