-- `put_text`: that it keeps its contract.
use Rattle.std.proofs.Common.{◌++◌, ℕ, List, [], ◌∷◌, sym, ap, ◌∙◌}
use Rattle.std.proofs.lemmas.Result.{on_ok_weaker}
use Rattle.flm_forge.specs.Texts.{constant_lines, erase_chip_lines, erase_lines, erase_sector_lines, init_lines, lie_lines, program_page_first}
use Rattle.flm_forge.specs.Texts.{program_page_lines, text_of, un_init_first, un_init_lines, verify_lines}
use Rattle.flm_forge.proofs.TextLemmas.{text_split}
use Rattle.flm_forge.proofs.WriteLemmas.{eleven_parts}
use Rattle.flm_forge.proofs.kind.put_text.Goals as goal

pub returns : goal.returns
returns c =
    let kind = c.args.kind in
    let base = c.args.base in
    let start = c.args.out.now.items in
    let e1 = c.in_ok-put.ensures ∙ ap (λ (t : List ℕ). start ++ t) c.init.ensures in
    let e2 = c.in_ok-put-2.ensures ∙ ap (λ (t : List ℕ). c.put.new.out.items ++ t) c.un_init_first.ensures in
    let e3 = c.in_ok-put-3.ensures ∙ ap (λ (t : List ℕ). c.put-2.new.out.items ++ t) c.un_init.ensures in
    let e4 = c.in_ok-put-4.ensures ∙ ap (λ (t : List ℕ). c.put-3.new.out.items ++ t) c.erase_chip.ensures in
    let e5 = c.in_ok-put-5.ensures ∙ ap (λ (t : List ℕ). c.put-4.new.out.items ++ t) c.erase_sector.ensures in
    let e6 = c.in_ok-put-6.ensures ∙ ap (λ (t : List ℕ). c.put-5.new.out.items ++ t) c.erase.ensures in
    let e7 = c.in_ok-put-7.ensures ∙ ap (λ (t : List ℕ). c.put-6.new.out.items ++ t) c.program_page_first.ensures in
    let e8 = c.in_ok-put-8.ensures ∙ ap (λ (t : List ℕ). c.put-7.new.out.items ++ t) c.program_page.ensures in
    let e10 = c.in_ok-put-10.ensures ∙ ap (λ (t : List ℕ). c.put-9.new.out.items ++ t) c.lie.ensures in
    on_ok_weaker c.put_constants.result
    (λ last. eleven_parts start (text_of (init_lines kind)) (text_of (un_init_first kind ∷ [])) (text_of (un_init_lines kind)) (text_of (erase_chip_lines kind))
    (text_of (erase_sector_lines kind)) (text_of (erase_lines kind)) (text_of (program_page_first kind)) (text_of (program_page_lines kind))
    (text_of verify_lines)
    (text_of (lie_lines kind)) (text_of (constant_lines base))
    c.put.new.out.items c.put-2.new.out.items c.put-3.new.out.items c.put-4.new.out.items c.put-5.new.out.items c.put-6.new.out.items c.put-7.new.out.items
    c.put-8.new.out.items c.put-9.new.out.items c.put-10.new.out.items c.put_constants.new.out.items
    e1 e2 e3 e4 e5 e6 e7 e8 c.in_ok-put-9.ensures e10 last
    ∙ ap (λ (t : List ℕ). start ++ t) (sym (text_split kind base)))
    c.put_constants.ensures
