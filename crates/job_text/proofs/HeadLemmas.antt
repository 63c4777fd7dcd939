-- The head that is read is the head that was put, and a head that was put is read again.
use Rattle.std.proofs.Common.{◌≡◌, ℕ, ◌^◌, ◌<◌, List, ◌++◌, length, drop, Result, Ok, refl, sym, ap, subst, ◌∙◌, arith}
use Rattle.std.proofs.lemmas.List.{drop_at, length-append}
use Rattle.faults.specs.Results.{◌>>=◌}
use Rattle.job_text.specs.declared.head.Head.{Head}
use Rattle.job_text.specs.Body.{first_mark, field}
use Rattle.job_text.specs.Reading.{number_at, text_at, mark_at, first_head, second_head}
use Rattle.job_text.proofs.Steps.{bind_ok, bind_to, ok_is}
use Rattle.job_text.proofs.TakeLemmas.{IsBytes, number_takes, number_again, text_takes, text_again, mark_takes, mark_again}

pub record HeadFits (h : Head) : Type 0 where
  pub board : h.board < 2 ^ 32
  pub files : h.files < 2 ^ 32
  pub first : h.first < 2 ^ 32
  pub second : h.second < 2 ^ 32
  pub runs : h.runs < 2 ^ 32
  pub cells : h.cells < 2 ^ 32

-- the four lengths of the first format, or the six of the second, followed by the rest
abbrev pub four : Head → List ℕ → List ℕ
four h rest = field h.board ++ (field h.first ++ (field h.runs ++ (field h.cells ++ rest)))

abbrev pub six : Head → List ℕ → List ℕ
six h rest = field h.board ++ (field h.files ++ (field h.first ++ (field h.second ++ (field h.runs ++ (field h.cells ++ rest)))))

abbrev made_first : ℕ → ℕ → ℕ → ℕ → Head
made_first b f r n = record { board = b; files = 1; first = f; second = 0; runs = r; cells = n }

abbrev made_second : ℕ → ℕ → ℕ → ℕ → ℕ → ℕ → Head
made_second b q f s r n = record { board = b; files = q; first = f; second = s; runs = r; cells = n }

pub record IsFirst (bytes : List ℕ) (x : Head × List ℕ) : Type 0 where
  pub parts : bytes ≡ first_mark ++ four x.0 x.1
  pub rest_fits : IsBytes x.1
  pub fits : HeadFits x.0
  pub one : x.0.files ≡ 1
  pub none : x.0.second ≡ 0

pub first_takes : (d : ℕ) (bytes : List ℕ) (x : Head × List ℕ) → IsBytes bytes → first_head d bytes ≡ Ok x → IsFirst bytes x
unfolding first_head
first_takes d bytes x fits e =
    let m = bind_ok (mark_at bytes) _ x e in
    let b = bind_ok (number_at d m.0) _ x m.2 in
    let f = bind_ok (number_at d b.0.1) _ x b.2 in
    let r = bind_ok (number_at d f.0.1) _ x f.2 in
    let n = bind_ok (number_at d r.0.1) _ x r.2 in
    let t0 = mark_takes bytes m.0 fits m.1 in
    let t1 = number_takes d m.0 b.0.0 b.0.1 t0.rest_fits b.1 in
    let t2 = number_takes d b.0.1 f.0.0 f.0.1 t1.0.rest_fits f.1 in
    let t3 = number_takes d f.0.1 r.0.0 r.0.1 t2.0.rest_fits r.1 in
    let t4 = number_takes d r.0.1 n.0.0 n.0.1 t3.0.rest_fits n.1 in
    let e3 : f.0.1 ≡ field r.0.0 ++ (field n.0.0 ++ n.0.1) = t3.0.parts ∙ ap (λ (l : List ℕ). field r.0.0 ++ l) t4.0.parts in
    let e2 : b.0.1 ≡ field f.0.0 ++ (field r.0.0 ++ (field n.0.0 ++ n.0.1)) = t2.0.parts ∙ ap (λ (l : List ℕ). field f.0.0 ++ l) e3 in
    let e1 : m.0 ≡ four (made_first b.0.0 f.0.0 r.0.0 n.0.0) n.0.1 = t1.0.parts ∙ ap (λ (l : List ℕ). field b.0.0 ++ l) e2 in
    let e0 : bytes ≡ first_mark ++ four (made_first b.0.0 f.0.0 r.0.0 n.0.0) n.0.1 = t0.parts ∙ ap (λ (l : List ℕ). first_mark ++ l) e1 in
    let made : Head × List ℕ = (made_first b.0.0 f.0.0 r.0.0 n.0.0, n.0.1) in
    subst (λ (y : Head × List ℕ). IsFirst bytes y) (ok_is {E = ℕ} made x n.2) (record {
      parts = e0;
      rest_fits = t4.0.rest_fits;
      fits = record { board = t1.1; files = omega arith; first = t2.1; second = omega arith; runs = t3.1; cells = t4.1 };
      one = refl;
      none = refl;
    })

pub record IsSecond (bytes : List ℕ) (x : Head × List ℕ) : Type 0 where
  pub parts : drop 39 bytes ≡ six x.0 x.1
  pub long : 39 < length bytes
  pub rest_fits : IsBytes x.1
  pub fits : HeadFits x.0

pub second_takes : (d : ℕ) (bytes : List ℕ) (x : Head × List ℕ) → IsBytes bytes → second_head d bytes ≡ Ok x → IsSecond bytes x
unfolding second_head
second_takes d bytes x fits e =
    let m = bind_ok (text_at d 39 bytes) _ x e in
    let b = bind_ok (number_at d m.0.1) _ x m.2 in
    let q = bind_ok (number_at d b.0.1) _ x b.2 in
    let f = bind_ok (number_at d q.0.1) _ x q.2 in
    let s = bind_ok (number_at d f.0.1) _ x f.2 in
    let r = bind_ok (number_at d s.0.1) _ x s.2 in
    let n = bind_ok (number_at d r.0.1) _ x r.2 in
    let t0 = text_takes d 39 bytes m.0.0 m.0.1 fits m.1 in
    let t1 = number_takes d m.0.1 b.0.0 b.0.1 t0.0.rest_fits b.1 in
    let t2 = number_takes d b.0.1 q.0.0 q.0.1 t1.0.rest_fits q.1 in
    let t3 = number_takes d q.0.1 f.0.0 f.0.1 t2.0.rest_fits f.1 in
    let t4 = number_takes d f.0.1 s.0.0 s.0.1 t3.0.rest_fits s.1 in
    let t5 = number_takes d s.0.1 r.0.0 r.0.1 t4.0.rest_fits r.1 in
    let t6 = number_takes d r.0.1 n.0.0 n.0.1 t5.0.rest_fits n.1 in
    let h = made_second b.0.0 q.0.0 f.0.0 s.0.0 r.0.0 n.0.0 in
    let e5 : s.0.1 ≡ field r.0.0 ++ (field n.0.0 ++ n.0.1) = t5.0.parts ∙ ap (λ (l : List ℕ). field r.0.0 ++ l) t6.0.parts in
    let e4 : f.0.1 ≡ field s.0.0 ++ (field r.0.0 ++ (field n.0.0 ++ n.0.1)) = t4.0.parts ∙ ap (λ (l : List ℕ). field s.0.0 ++ l) e5 in
    let e3 : q.0.1 ≡ field f.0.0 ++ (field s.0.0 ++ (field r.0.0 ++ (field n.0.0 ++ n.0.1))) = t3.0.parts ∙ ap (λ (l : List ℕ). field f.0.0 ++ l) e4 in
    let e2 : b.0.1 ≡ field q.0.0 ++ (field f.0.0 ++ (field s.0.0 ++ (field r.0.0 ++ (field n.0.0 ++ n.0.1)))) = t2.0.parts ∙
    ap (λ (l : List ℕ). field q.0.0 ++ l) e3 in
    let e1 : m.0.1 ≡ six h n.0.1 = t1.0.parts ∙ ap (λ (l : List ℕ). field b.0.0 ++ l) e2 in
    let cut : drop 39 bytes ≡ m.0.1 = behind m.0.0 m.0.1 bytes t0.0.parts t0.1 in
    let made : Head × List ℕ = (h, n.0.1) in
    subst (λ (y : Head × List ℕ). IsSecond bytes y) (ok_is {E = ℕ} made x n.2) (record {
      parts = cut ∙ e1;
      long = longer m.0.0 m.0.1 bytes b.0.0 b.0.1 t0.0.parts t0.1 t1.0.parts;
      rest_fits = t6.0.rest_fits;
      fits = record { board = t1.1; files = t2.1; first = t3.1; second = t4.1; runs = t5.1; cells = t6.1 };
    })
  where
    behind : (front rest bytes : List ℕ) → bytes ≡ front ++ rest → length front ≡ 39 → drop 39 bytes ≡ rest
    behind front rest bytes is len = ap (drop 39) is ∙ drop_at front rest 39 len

    longer : (front rest bytes : List ℕ) (one : ℕ) (more : List ℕ) → bytes ≡ front ++ rest → length front ≡ 39 → rest ≡ field one ++ more → 39 < length bytes
    longer front rest bytes one more is len has =
        omega (arith, ap (λ (l : List ℕ). length l) is, length-append front rest, len, ap (λ (l : List ℕ). length l) has, length-append (field one) more)

-- heads, read again from the text that they are written as

pub first_again : (d : ℕ) (h : Head) (rest : List ℕ) → HeadFits h → h.files ≡ 1 → h.second ≡ 0 → first_head d (first_mark ++ four h rest) ≡ Ok (h, rest)
unfolding first_head
first_again d h rest fits one none =
    let s4 = field h.cells ++ rest in
    let s3 = field h.runs ++ s4 in
    let s2 = field h.first ++ s3 in
    let s1 = field h.board ++ s2 in
    bind_to _ (λ marked. number_at d marked >>= λ b. number_at d b.1 >>= λ f. number_at d f.1 >>= λ r. number_at d r.1 >>= λ n. Ok
    (record { board = b.0; files = 1; first = f.0; second = 0; runs = r.0; cells = n.0 }, n.1)) s1 _ (mark_again s1)
    (bind_to _ (λ b. number_at d b.1 >>= λ f. number_at d f.1 >>= λ r. number_at d r.1 >>= λ n. Ok
    (record { board = b.0; files = 1; first = f.0; second = 0; runs = r.0; cells = n.0 }, n.1)) (h.board, s2) _ (number_again d h.board s2 fits.board)
    (bind_to _ (λ f. number_at d f.1 >>= λ r. number_at d r.1 >>= λ n. Ok
    (record { board = h.board; files = 1; first = f.0; second = 0; runs = r.0; cells = n.0 }, n.1)) (h.first, s3) _ (number_again d h.first s3 fits.first)
    (bind_to _ (λ r. number_at d r.1 >>= λ n. Ok (record { board = h.board; files = 1; first = h.first; second = 0; runs = r.0; cells = n.0 }, n.1))
    (h.runs, s4) _ (number_again d h.runs s4 fits.runs)
    (bind_to _ (λ n. Ok (record { board = h.board; files = 1; first = h.first; second = 0; runs = h.runs; cells = n.0 }, n.1)) (h.cells, rest) _
    (number_again d h.cells rest fits.cells)
    (ap (λ (y : Head). let x : Result (Head × List ℕ) ℕ = Ok (y, rest) in x) (same h one none))))))
  where
    same : (h : Head) → h.files ≡ 1 → h.second ≡ 0 → made_first h.board h.first h.runs h.cells ≡ h
    same h one none = λ i. record { board = h.board; files = sym one i; first = h.first; second = sym none i; runs = h.runs; cells = h.cells }

pub second_again : (d : ℕ) (h : Head) (marked rest : List ℕ) → length marked ≡ 39 → HeadFits h → second_head d (marked ++ six h rest) ≡ Ok (h, rest)
unfolding second_head
second_again d h marked rest long fits =
    let s6 = field h.cells ++ rest in
    let s5 = field h.runs ++ s6 in
    let s4 = field h.second ++ s5 in
    let s3 = field h.first ++ s4 in
    let s2 = field h.files ++ s3 in
    let s1 = field h.board ++ s2 in
    let start : text_at d 39 (marked ++ s1) ≡ Ok (marked, s1) = subst (λ (n : ℕ). text_at d n (marked ++ s1) ≡ Ok (marked, s1)) long (text_again d marked s1) in
    bind_to _ (λ m. number_at d m.1 >>= λ b. number_at d b.1 >>= λ q. number_at d q.1 >>= λ f. number_at d f.1 >>= λ s. number_at d s.1 >>= λ r. number_at d r.1
    >>= λ n. Ok (record { board = b.0; files = q.0; first = f.0; second = s.0; runs = r.0; cells = n.0 }, n.1)) (marked, s1) _ start
    (bind_to _ (λ b. number_at d b.1 >>= λ q. number_at d q.1 >>= λ f. number_at d f.1 >>= λ s. number_at d s.1 >>= λ r. number_at d r.1 >>= λ n. Ok
    (record { board = b.0; files = q.0; first = f.0; second = s.0; runs = r.0; cells = n.0 }, n.1)) (h.board, s2) _ (number_again d h.board s2 fits.board)
    (bind_to _ (λ q. number_at d q.1 >>= λ f. number_at d f.1 >>= λ s. number_at d s.1 >>= λ r. number_at d r.1 >>= λ n. Ok
    (record { board = h.board; files = q.0; first = f.0; second = s.0; runs = r.0; cells = n.0 }, n.1)) (h.files, s3) _
    (number_again d h.files s3 fits.files)
    (bind_to _ (λ f. number_at d f.1 >>= λ s. number_at d s.1 >>= λ r. number_at d r.1 >>= λ n. Ok
    (record { board = h.board; files = h.files; first = f.0; second = s.0; runs = r.0; cells = n.0 }, n.1)) (h.first, s4) _
    (number_again d h.first s4 fits.first)
    (bind_to _ (λ s. number_at d s.1 >>= λ r. number_at d r.1 >>= λ n. Ok
    (record { board = h.board; files = h.files; first = h.first; second = s.0; runs = r.0; cells = n.0 }, n.1)) (h.second, s5) _
    (number_again d h.second s5 fits.second)
    (bind_to _ (λ r. number_at d r.1 >>= λ n. Ok (
      record { board = h.board; files = h.files; first = h.first; second = h.second; runs = r.0; cells = n.0 },
      n.1,
    )) (h.runs, s6) _ (number_again d h.runs s6 fits.runs)
    (bind_to _ (λ n. Ok (record { board = h.board; files = h.files; first = h.first; second = h.second; runs = h.runs; cells = n.0 }, n.1)) (h.cells, rest) _
    (number_again d h.cells rest fits.cells)
    refl))))))
