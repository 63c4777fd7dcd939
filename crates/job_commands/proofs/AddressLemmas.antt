-- A search for the address of a place, region by region, as `find_address` does it.
use Rattle.std.proofs.Common.{◌≡◌, ◌≤◌, ◌<◌, ◌+◌, ◌-◌, ◌∙◌, sym, ap, ℕ, List, ◌∷◌, length, get_or, drop, Some, None}
use Rattle.std.proofs.lemmas.List.{drop_more, drop_all}
use Rattle.board_file.specs.declared.region.Region.{Region}
use Rattle.command_files.proofs.PlaceLemmas.{address_first, address_later}
use Rattle.job_text.specs.Laid.{address_at}

drop_front : (rs : List Region) (k : ℕ) (r : Region) → k < length rs → r ≡ get_or rs k r → drop k rs ≡ r ∷ drop (k + 1) rs
drop_front rs k r less is = drop_more rs k r less ∙ ap (λ (x : Region). x ∷ drop (k + 1) rs) (sym is)

abbrev pub Searches : List Region → ℕ → ℕ → ℕ → Type 0
Searches rs place k rest = address_at rs place ≡ address_at (drop k rs) rest

pub search_on : (rs : List Region) (place k rest : ℕ) (r : Region) → k < length rs → r ≡ get_or rs k r → Searches rs place k rest → r.size ≤ rest
    → Searches rs place (k + 1) (rest - r.size)
search_on rs place k rest r less is so_far most =
    so_far ∙ ap (λ (l : List Region). address_at l rest) (drop_front rs k r less is) ∙ address_later r (drop (k + 1) rs) rest most

pub search_ends : (rs : List Region) (place k rest : ℕ) (r : Region) → k < length rs → r ≡ get_or rs k r → Searches rs place k rest → rest < r.size
    → Some (r.base + rest) ≡ address_at rs place
search_ends rs place k rest r less is so_far inside =
    sym (so_far ∙ ap (λ (l : List Region). address_at l rest) (drop_front rs k r less is) ∙ address_first r (drop (k + 1) rs) rest inside)

pub search_fails : (rs : List Region) (place k rest : ℕ) → length rs ≤ k → Searches rs place k rest → None ≡ address_at rs place
search_fails rs place k rest most so_far = sym (so_far ∙ ap (λ (l : List Region). address_at l rest) (drop_all k rs most))
