-- `ByteMap::add`: its clause `ok`.
use Rattle.std.proofs.Common.{◌^◌, rules, subst, arith}
use Rattle.std.proofs.lemmas.Grind.{common_steps}
use Rattle.byte_map.specs.Image.{AreMaximal}
use Rattle.byte_map.proofs.Clashes.{lays_empty}
use Rattle.byte_map.proofs.map.ByteMap.add.Goals as goal

pub returns-then-is_empty-clause-ok : goal.returns-then-is_empty-clause-ok
returns-then-is_empty-clause-ok c =
    lays_empty (record { at = c.args.at; bytes = c.args.bytes.now }) c.args.self.now c.requires.fits (search rules)
    (subst (AreMaximal 0 (2 ^ 32)) c.self.view_is c.self.invariant)

pub join-requires : goal.join-requires
join-requires c = grind (arith, common_steps)

pub returns-clause-ok : goal.returns-clause-ok
returns-clause-ok c = grind (arith, common_steps)

pub invariant_of-self : goal.invariant_of-self
invariant_of-self c = grind (arith, common_steps)
