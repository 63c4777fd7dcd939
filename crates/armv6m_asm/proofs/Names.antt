-- Names as labels and destinations.
use Rattle.std.proofs.Common.{◌≡◌, ◌≢◌, ◌<◌, ◌+◌, inl, inr, ℕ, List, [], ◌∷◌, ◌++◌, length, get_or, take, subst, ◌∙◌, arith, drop, sym, ap}
use Rattle.std.specs.Prelude.{Contains, Option, Some, None, is_some, true, MatchOption}
use Rattle.std.proofs.lemmas.List.{get_or_default, get_or-map, length-map, map_more}
use Rattle.std.proofs.lemmas.List.Quantifiers.{all_pairs_push}
use Rattle.std.proofs.lemmas.List.Elements.{Contains-push_cases}
use Rattle.armv6m_asm.specs.declared.labels.Label.{Label}
use Rattle.armv6m_asm.specs.Label.{names_of, IsFirstNamed}
use Rattle.armv6m_asm.specs.Assembly.{AreOnce}
use Rattle.armv6m_asm.proofs.Places.{split_at}

pub no_name_twice : AreOnce []
no_name_twice i j d lt inside = absurd (omega arith)

pub name_missing : (name : List ℕ) → Contains [] name → ⊥
name_missing name here = omega (arith, here.1)

-- names stay without repetition when a new one is added
pub once_more : (names : List (List ℕ)) (name : List ℕ) → AreOnce names → (Contains names name → ⊥) → AreOnce (names ++ name ∷ [])
once_more names name once new =
    all_pairs_push (λ (first second : List ℕ). first ≢ second) names name once
    (λ k d lt same. new (k, lt, (let at : get_or names k name ≡ get_or names k d = get_or_default names k name d lt in at) ∙ same))

-- a name isn't among one label more, if that label has another name
pub not_yet : (labels : List Label) (k : ℕ) (d : Label) (name : List ℕ) → k < length labels → (Contains (names_of (take k labels)) name → ⊥) →
    (get_or labels k d).name ≢ name → Contains (names_of (take (k + 1) labels)) name → ⊥
not_yet labels k d name lt before other here =
    let more : names_of (take (k + 1) labels) ≡ names_of (take k labels) ++ (get_or labels k d).name ∷ [] = map_more (λ (l : Label). l.name) labels k d lt in
    elim (Contains-push_cases (names_of (take k labels)) (get_or labels k d).name name (subst (λ (ns : List (List ℕ)). Contains ns name) more here))
    [ inl b ↦ before b | inr e ↦ other e ]

-- the first label with a name is found if no label before it has that name
pub first_named : (labels : List Label) (k : ℕ) (d : Label) (name : List ℕ) → k < length labels → (Contains (names_of (take k labels)) name → ⊥) →
    d ≡ get_or labels k d → d.name ≡ name → IsFirstNamed labels name d.place
first_named labels k d name lt none here same =
    record {
      before = take k labels;
      after = drop (k + 1) labels;
      labels_are = split_at labels k d lt ∙ ap (λ (l : Label). take k labels ++ l ∷ drop (k + 1) labels)
          (sym here ∙ ap (λ (n : List ℕ). record { name = n; place = d.place }) same);
      first = none;
    }

-- a label's name is among the names
named_among : (labels : List Label) (name : List ℕ) (place : ℕ) → Contains labels (record { name = name; place = place }) → Contains (names_of labels) name
named_among labels name place here = (
  here.0,
  omega (arith, here.1, length-map labels (λ (l : Label). l.name)),
  get_or-map (λ (l : Label). l.name) labels here.0 (record { name = name; place = place }) name here.1 ∙ ap (λ (l : Label). l.name) here.2,
)

-- a name with a place that is found is among the names
pub name_found : (labels : List Label) (name : List ℕ) (P : Type 0) (found : Option ℕ) → is_some found ≡ true
    → MatchOption found P (λ place. Contains labels (record { name = name; place = place })) → Contains (names_of labels) name
name_found labels name P None some cases = absurd (cc)
name_found labels name P (Some place) some cases = named_among labels name place cases
