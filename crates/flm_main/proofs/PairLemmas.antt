-- The pairs of file names among the words.
use Rattle.std.proofs.Common.{◌≡◌, ◌≤◌, ◌<◌, ◌+◌, ◌*◌, ◌++◌, ◌∙◌, ◌⊎◌, inl, inr, ℕ, zero, suc, List, [], ◌∷◌, length, take, map, get_or, sym, ap, arith, refl}
use Rattle.std.proofs.Common.{take_all, length-take-le}
use Rattle.std.proofs.lemmas.List.{map-append, take_more}
use Rattle.flm_main.specs.Line.{job_names, cells_names}

pub names_within : (words : List (List ℕ)) → 2 * length (job_names words) ≤ length words
names_within [] = omega (arith)
names_within (job ∷ []) = omega (arith)
names_within (job ∷ cells ∷ rest) = omega (arith, names_within rest)

pub names_all : (words : List (List ℕ)) → length words < 2 * length (job_names words) + 2
names_all [] = omega (arith)
names_all (job ∷ []) = omega (arith)
names_all (job ∷ cells ∷ rest) = omega (arith, names_all rest)

pub in_words : (words : List (List ℕ)) (index : ℕ) → index < length (job_names words) → 2 * index + 1 < length words
in_words words index less = omega (arith, names_within words, less)

-- the count of pairs is the length of the first 16 job names at most
pub count_of : (words : List (List ℕ)) (n : ℕ) → n ≤ 16 → 2 * n ≤ length words → (n ≡ 16) ⊎ (length words < 2 * n + 2) → n ≡ length (take 16 (job_names words))
count_of words n few whole all = elim all [
  | inl is ↦ is ∙ sym (length-take-le 16 (job_names words) (omega (arith, whole, is, names_all words)))
  | inr less ↦ let same : n ≡ length (job_names words) = omega (arith, whole, less, names_all words, names_within words) in
      same ∙ sym (ap (λ (l : List (List ℕ)). length l) (take_all 16 (job_names words) (omega (arith, few, same))))
]

pub job_at : (words : List (List ℕ)) (index : ℕ) → index < length (job_names words) → get_or words (2 * index) [] ≡ get_or (job_names words) index []
job_at [] index less = elim less [ ]
job_at (job ∷ []) index less = elim less [ ]
job_at (job ∷ cells ∷ rest) zero less = refl
job_at (job ∷ cells ∷ rest) (suc index) less =
    let further : 2 * suc index ≡ suc (suc (2 * index)) = omega (arith) in
    ap (λ i. get_or (job ∷ cells ∷ rest) i []) further ∙ job_at rest index (omega (arith, less))

pub take_within : {A : Type 0} (n : ℕ) (xs : List A) → take (length (take n xs)) xs ≡ take n xs
take_within zero xs = refl
take_within (suc n) [] = refl
take_within (suc n) (x ∷ xs) = ap (λ l. x ∷ l) (take_within n xs)

pub in_whole : {A : Type 0} (n i : ℕ) (xs : List A) → i < length (take n xs) → i < length xs
in_whole {A = A} zero i xs less = elim less [ ]
in_whole {A = A} (suc n) zero [] less = elim less [ ]
in_whole {A = A} (suc n) (suc i) [] less = elim less [ ]
in_whole (suc n) zero (x ∷ xs) less = omega (arith)
in_whole (suc n) (suc i) (x ∷ xs) less = omega (arith, in_whole n i xs (omega (arith, less)))

-- one more name of a list of names
pub names_on : {A : Type 0} (f : A → List ℕ) (items : List A) (b : A) (names : List (List ℕ)) (i : ℕ) → map f items ≡ take i names → i < length names
    → f b ≡ get_or names i []
    → map f (items ++ (b ∷ [])) ≡ take (i + 1) names
names_on f items b names i e less q = map-append f items (b ∷ []) ∙ ap (λ l. l ++ (f b ∷ [])) e ∙ ap (λ x. take i names ++ (x ∷ [])) q
    ∙ sym (take_more names i [] less)

-- there are as many names of cells files as names of job files
pub as_many : (words : List (List ℕ)) → length (cells_names words) ≡ length (job_names words)
as_many [] = refl
as_many (job ∷ []) = refl
as_many (job ∷ cells ∷ rest) = ap suc (as_many rest)

pub cells_at : (words : List (List ℕ)) (index : ℕ) → index < length (job_names words) → get_or words (2 * index + 1) [] ≡ get_or (cells_names words) index []
cells_at [] index less = elim less [ ]
cells_at (job ∷ []) index less = elim less [ ]
cells_at (job ∷ cells ∷ rest) zero less = refl
cells_at (job ∷ cells ∷ rest) (suc index) less =
    let further : 2 * suc index + 1 ≡ suc (suc (2 * index + 1)) = omega (arith) in
    ap (λ i. get_or (job ∷ cells ∷ rest) i []) further ∙ cells_at rest index (omega (arith, less))

-- the first elements of two lists of one length, as many of each
pub take_as_many : {A B : Type 0} (n : ℕ) (xs : List A) (ys : List B) → length ys ≡ length xs → take (length (take n xs)) ys ≡ take n ys
take_as_many zero xs ys same = refl
take_as_many (suc n) [] [] same = refl
take_as_many (suc n) [] (y ∷ ys) same = absurd (omega (arith, same))
take_as_many (suc n) (x ∷ xs) [] same = absurd (omega (arith, same))
take_as_many (suc n) (x ∷ xs) (y ∷ ys) same = ap (λ l. y ∷ l) (take_as_many n xs ys (omega (arith, same)))
