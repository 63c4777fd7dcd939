-- `forge`: its clauses `exact` and `ok`.
use Rattle.std.proofs.Common.{◌<◌, ◌^◌, ℕ, List, subst}
use Rattle.std.proofs.lemmas.Result.{err_from_is_err_and}
use Rattle.armv6m_asm.specs.Assembly.{IsAssembled, IsRefused}
use Rattle.flm_forge.specs.declared.sizes.Sizes.{Sizes}
use Rattle.flm_forge.specs.Places.{end_of}
use Rattle.flm_forge.proofs.ForgeLemmas.{forged, refusal_answered, no_refusal}
use Rattle.flm_forge.proofs.file.forge.Goals as goal

pub returns-in_err-code-clause-exact : goal.returns-in_err-code-clause-exact
returns-in_err-code-clause-exact c =
    let fault = c.in_err-code.field-0.0 in
    let refused = subst (λ (text : List ℕ). IsRefused text fault) c.bytes.ensures c.in_err-code.ensures.err in
    let p = err_from_is_err_and c.from_residual.result c.from_residual.ensures.1 in
    rw (p.1, p.2) (refusal_answered c.args.listing.now fault refused)

pub returns-clause-exact : goal.returns-clause-exact
returns-clause-exact c =
    let code = c.in_ok-code.code in
    let assembled = subst (λ (text : List ℕ). IsAssembled text code) c.bytes.ensures c.in_ok-code.ensures.ok in
    no_refusal c.args.listing.now code c.in_ok-file.field-0 assembled

pub returns-clause-ok : goal.returns-clause-ok
returns-clause-ok c =
    let code = c.in_ok-code.code in
    let assembled = subst (λ (text : List ℕ). IsAssembled text code) c.bytes.ensures c.in_ok-code.ensures.ok in
    let ends = subst (λ (sizes : Sizes). end_of sizes < 2 ^ 32) c.in_ok-sizes.ensures.sizes c.in_ok-sizes.ensures.fits in
    forged c.args.listing.now code c.in_ok-file.field-0 assembled c.in_ok-file.ensures.bytes ends c.in_ok-file.ensures.listing_fits
    c.in_ok-sizes.ensures.zero_len_fits
