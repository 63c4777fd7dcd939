-- The text of some lines, part by part, and the items of runs of sectors.
use Rattle.std.proofs.Common.{◌≡◌, ℕ, ◌+◌, ◌*◌, ◌<◌, ◌≤◌, List, [], ◌∷◌, ◌++◌, length, drop, get_or, refl, sym, ap, ◌∙◌, append_assoc}
use Rattle.std.proofs.lemmas.Grind.{flat_map-append}
use Rattle.std.proofs.lemmas.List.{append-nil, drop_all, drop_more}
use Rattle.std.proofs.lemmas.List.Sums.{sum_by-cons}
use Rattle.board_file.specs.declared.sectors.SectorRun.{SectorRun}
use Rattle.board_file.specs.Limits.{cells_of}
use Rattle.flm_descriptor.specs.declared.items.SectorItem.{SectorItem}
use Rattle.flm_forge.specs.declared.kind.Kind.{Kind}
use Rattle.flm_forge.specs.Listed.{items_from}
use Rattle.flm_forge.specs.Texts.{constant_lines, erase_chip_lines, erase_lines, erase_sector_lines, init_lines, lie_lines, lines, program_page_first}
use Rattle.flm_forge.specs.Texts.{program_page_lines, text_of, un_init_first, un_init_lines, verify_lines}

-- the text of two lists of lines is the text of the first, then the text of the second
text_then : (a b : List (List ℕ)) (t : List ℕ) → text_of b ≡ t → text_of (a ++ b) ≡ text_of a ++ t
text_then a b t behind = flat_map-append (λ line. line ++ 10 ∷ []) a b ∙ ap (λ (r : List ℕ). text_of a ++ r) behind

-- the text of a kind, part by part
pub text_split : (kind : Kind) (base : ℕ)
    → text_of (lines kind base)
    ≡ text_of (init_lines kind) ++ (text_of (un_init_first kind ∷ []) ++ (text_of (un_init_lines kind) ++ (text_of (erase_chip_lines kind)
    ++ (text_of (erase_sector_lines kind) ++ (text_of (erase_lines kind) ++ (text_of (program_page_first kind) ++ (text_of (program_page_lines kind)
    ++ (text_of verify_lines ++ (text_of (lie_lines kind) ++ text_of (constant_lines base))))))))))
text_split kind base =
    let l10 = constant_lines base in
    let l9 = lie_lines kind ++ l10 in
    let l8 = verify_lines ++ l9 in
    let l7 = program_page_lines kind ++ l8 in
    let l6 = program_page_first kind ++ l7 in
    let l5 = erase_lines kind ++ l6 in
    let l4 = erase_sector_lines kind ++ l5 in
    let l3 = erase_chip_lines kind ++ l4 in
    let l2 = un_init_lines kind ++ l3 in
    let l1 = (un_init_first kind ∷ []) ++ l2 in
    let t9 = text_of (lie_lines kind) ++ text_of l10 in
    let t8 = text_of verify_lines ++ t9 in
    let t7 = text_of (program_page_lines kind) ++ t8 in
    let t6 = text_of (program_page_first kind) ++ t7 in
    let t5 = text_of (erase_lines kind) ++ t6 in
    let t4 = text_of (erase_sector_lines kind) ++ t5 in
    let t3 = text_of (erase_chip_lines kind) ++ t4 in
    let t2 = text_of (un_init_lines kind) ++ t3 in
    let t1 = text_of (un_init_first kind ∷ []) ++ t2 in
    text_then (init_lines kind) l1 t1 (text_then (un_init_first kind ∷ []) l2 t2 (text_then (un_init_lines kind) l3 t3 (text_then (erase_chip_lines kind) l4 t4
    (text_then (erase_sector_lines kind) l5 t5 (text_then (erase_lines kind) l6 t6 (text_then (program_page_first kind) l7 t7
    (text_then (program_page_lines kind) l8 t8 (text_then verify_lines l9 t9 (text_then (lie_lines kind) l10 (text_of l10) refl)))))))))

-- ---- items

-- the items of the runs from one on are the item of that run and those after it
pub items_more : (runs : List SectorRun) (i offset : ℕ) (d : SectorRun) (made : List SectorItem) → i < length runs
    → (made ++ record { size = (get_or runs i d).size; offset = offset } ∷ []) ++ items_from (offset + (get_or runs i d).count * (get_or runs i d).size)
    (drop (i + 1) runs)
    ≡ made ++ items_from offset (drop i runs)
unfolding items_from
items_more runs i offset d made less =
    append_assoc made _ _ ∙ ap (λ (rs : List SectorRun). made ++ items_from offset rs) (sym (drop_more runs i d less))

-- the cells of the runs from one on are the cells of that run and of those after it
pub cells_more : (runs : List SectorRun) (i : ℕ) (d : SectorRun) → i < length runs
    → cells_of (drop i runs) ≡ (get_or runs i d).count * (get_or runs i d).size + cells_of (drop (i + 1) runs)
cells_more runs i d less =
    ap cells_of (drop_more runs i d less) ∙ sum_by-cons (λ (r : SectorRun). r.count * r.size) (get_or runs i d) (drop (i + 1) runs)

-- no items are left when no run is left
pub items_end : (runs : List SectorRun) (i offset : ℕ) (made : List SectorItem) → length runs ≤ i → made ++ items_from offset (drop i runs) ≡ made
unfolding items_from
items_end runs i offset made past = ap (λ (rs : List SectorRun). made ++ items_from offset rs) (drop_all i runs past) ∙ append-nil made
