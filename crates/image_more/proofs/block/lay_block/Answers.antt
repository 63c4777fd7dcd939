-- `lay_block`: its clause `union`.
use Rattle.std.proofs.Common.{◌≡◌, ◌∙◌, ◌++◌, sym, subst, Bool, false, cond, [], ◌∷◌, arith}
use Rattle.std.proofs.lemmas.Grind.{common_steps}
use Rattle.byte_map.specs.Laying.{Lays}
use Rattle.record_lines.specs.Gathered.{IsUnionOf}
use Rattle.record_lines.proofs.Unions.{laid_one}
use Rattle.image_more.specs.Uf2.{is_skipped, payload}
use Rattle.image_more.proofs.block.lay_block.Goals as goal

pub returns-clause-union : goal.returns-clause-union
returns-clause-union c runs union =
    let piece = payload c.args.block.now in
    let flash : is_skipped c.args.block.now ≡ false = sym c.is_skipped.ensures ∙ c.if-is_skipped.false in
    let lays : Lays piece c.args.map.now c.lay.new.self = rw (c.le32.ensures, c.le32-size.ensures) at c.in_ok-lay.ensures.ok in
    subst (λ (b : Bool). IsUnionOf (runs ++ cond b [] (piece ∷ [])) c.lay.new.self) (sym flash) (laid_one piece c.args.map.now c.lay.new.self lays runs union)

pub returns-then-is_skipped-clause-union : goal.returns-then-is_skipped-clause-union
returns-then-is_skipped-clause-union c = grind (arith, common_steps)
