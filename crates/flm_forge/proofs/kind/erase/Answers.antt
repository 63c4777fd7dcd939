-- `erase`: that it keeps its contract.
use Rattle.std.proofs.Common.{◌≡◌, refl, sym, ap}
use Rattle.flm_forge.specs.declared.kind.Kind.{Kind}
use Rattle.flm_forge.specs.declared.kind.Kind.TheVariants as kinds
use Rattle.flm_forge.specs.Texts.{erase_lines, text_of}
use Rattle.flm_forge.proofs.kind.erase.Goals as goal

-- all kinds but one have the same lines
others : (kind : Kind) → (kind ≡ kinds.F1 → ⊥) → erase_lines kind ≡ erase_lines kinds.A1
others kinds.F1 not = absurd (not refl)
others kind not = refl

pub returns-in-F1 : goal.returns-in-F1
returns-in-F1 c = ap (λ (kind : Kind). text_of (erase_lines kind)) (sym c.in-F1.is)

pub returns-in_default : goal.returns-in_default
returns-in_default c = ap text_of (sym (others c.args.kind c.in_default.not-F1))
