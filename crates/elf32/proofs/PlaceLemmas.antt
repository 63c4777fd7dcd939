-- What a map with borrowed names finds: a look-up answers as a scan of the table does.
use Rattle.std.proofs.Common.{◌≡◌, ℕ, ◌==◌, ◌&&◌, Bool, true, false, is_some, List, [], ◌∷◌, ◌++◌, Some, refl, ap, cond}
use Rattle.std.specs.Str.{bytes_eq}
use Rattle.std.specs.Borrow.{Bor}
use Rattle.std.specs.Map.{lookup}
use Rattle.indexmap.specs.IndexMap.{insert_entry}
use Rattle.elf32.specs.Places.{first_place, placed_of}

abbrev pub Key : Type 0
Key = Bor (List ℕ) × ℕ

-- the test by which the map compares keys
abbrev pub same : Key → Key → Bool
same k l = bytes_eq k.0.now l.0.now && (k.1 == l.1)

-- a look-up finds the first place
pub lookup-first_place : (k : Key) (es : List (Key × ℕ)) → lookup (same k) es ≡ first_place k.0.now k.1 (placed_of es)
lookup-first_place k [] = refl
lookup-first_place k (e ∷ es) = ap (cond (same k e.0) (Some e.1)) (lookup-first_place k es)

added : (b : Bool) (k : Key) (v : ℕ) (e : Key × ℕ) (es : List (Key × ℕ)) → is_some (cond b (Some e.1) (lookup (same k) es)) ≡ false
    → (is_some (lookup (same k) es) ≡ false → insert_entry same es k v ≡ es ++ (k, v) ∷ [])
    → cond b ((e.0, v) ∷ es) (e ∷ insert_entry same es k v) ≡ e ∷ es ++ (k, v) ∷ []
added true k v e es h ih = cc
added false k v e es h ih = ap (λ (r : List (Key × ℕ)). e ∷ r) (ih h)

-- a new key goes last
pub insert_entry-last : (k : Key) (v : ℕ) (es : List (Key × ℕ)) → is_some (lookup (same k) es) ≡ false → insert_entry same es k v ≡ es ++ (k, v) ∷ []
insert_entry-last k v [] h = refl
insert_entry-last k v (e ∷ es) h = added (same k e.0) k v e es h (insert_entry-last k v es)

pub placed_of-last : (k : Key) (v : ℕ) (es : List (Key × ℕ)) → placed_of (es ++ (k, v) ∷ []) ≡ placed_of es ++ (k.0.now, k.1, v) ∷ []
placed_of-last k v [] = refl
placed_of-last k v (e ∷ es) = ap (λ (r : List (List ℕ × ℕ × ℕ)). (e.0.0.now, e.0.1, e.1) ∷ r) (placed_of-last k v es)
