-- Rows and their literals when one more is laid down. Assumes nothing.
use Rattle.std.proofs.Common.{◌≡◌, ℕ, suc, ◌+◌, ◌≤◌, List, [], ◌∷◌, ◌++◌, length, take, drop, Some, None, sym, refl, ap, ◌∙◌, subst, arith}
use Rattle.std.proofs.lemmas.List.{take-append-le, drop-append-le, length-drop, length-append, take_all}
use Rattle.std.proofs.Math.Seq.{drop-append_seam}
use Rattle.literals.specs.declared.literal.Literal.{Literal}
use Rattle.laws.specs.Code.{body_of, row_of, rows_of}
use Rattle.laws.specs.Rows.{Row}
use Rattle.laws.specs.declared.law.Body.{Body}
use Rattle.laws.specs.declared.law.Law.{Law}
use Rattle.laws.specs.declared.law.Law.TheVariants as law
use Rattle.law_table.specs.Limits.{Fits, AllFit, Laid, body_laid, row_with}

-- a body within the literals is the same with more behind them
body_same : (ls more : List Literal) (b : Body) → b.from + b.count ≤ length ls → body_of (ls ++ more) b ≡ body_of ls b
body_same ls more b h =
    let start : b.from ≤ length ls = omega (arith, h) in
    let room : b.count ≤ length (drop b.from ls) = subst (λ k. b.count ≤ k) (sym (length-drop b.from ls)) (omega (arith, h)) in
    ap (take b.count) (drop-append-le b.from ls more start) ∙ take-append-le b.count (drop b.from ls) more room

-- a body at the end is what comes there
body_last : (ls more : List Literal) (b : Body) → b.from ≡ length ls → b.count ≡ length more → body_of (ls ++ more) b ≡ more
body_last ls more b f c =
    ap (λ k. take b.count (drop k (ls ++ more))) f ∙ ap (take b.count) (drop-append_seam ls more) ∙ take_all b.count more (let h : length more ≤ b.count = omega (arith, c) in h)

row_by : (ls : List Literal) (w : Law) → row_of ls w ≡ row_with w (body_of ls (body_laid w))
row_by ls (law.Impossible a b) = refl
row_by ls (law.Effect a h b) = refl
row_by ls (law.State h b) = refl

row_same : (ls more : List Literal) (w : Law) → (body_laid w).from + (body_laid w).count ≤ length ls → row_of (ls ++ more) w ≡ row_of ls w
row_same ls more w h = row_by (ls ++ more) w ∙ ap (row_with w) (body_same ls more (body_laid w) h) ∙ sym (row_by ls w)

row_last : (ls more : List Literal) (w : Law) → (body_laid w).from ≡ length ls → (body_laid w).count ≡ length more → row_of (ls ++ more) w ≡ row_with w more
row_last ls more w f c = row_by (ls ++ more) w ∙ ap (row_with w) (body_last ls more (body_laid w) f c)

-- the rows with one more
rows_laid : (ls more : List Literal) (laws : List Law) (w : Law) → Laid (length ls) laws → (body_laid w).from ≡ length ls → (body_laid w).count ≡ length more
    → rows_of (ls ++ more) (laws ++ w ∷ []) ≡ rows_of ls laws ++ row_with w more ∷ []
rows_laid ls more [] w laid f c = ap (λ r. r ∷ []) (row_last ls more w f c)
rows_laid ls more (v ∷ laws) w laid f c =
    ap (λ r. r ∷ rows_of (ls ++ more) (laws ++ w ∷ [])) (row_same ls more v laid.0) ∙ ap (λ rows. row_of ls v ∷ rows) (rows_laid ls more laws w laid.1 f c)

all_fit_more : (n actions : ℕ) (rows : List Row) (r : Row) → AllFit n actions rows → Fits n actions r → AllFit n actions (rows ++ r ∷ [])
all_fit_more n actions [] r all fits = (fits, tt)
all_fit_more n actions (q ∷ rows) r all fits = (all.0, all_fit_more n actions rows r all.1 fits)

laid_more : (k j : ℕ) (laws : List Law) (w : Law) → Laid k laws → k ≤ j → (body_laid w).from + (body_laid w).count ≤ j → Laid j (laws ++ w ∷ [])
laid_more k j [] w laid h e = (e, tt)
laid_more k j (v ∷ laws) w laid h e = let l = laid.0 in (omega (arith, l, h), laid_more k j laws w laid.1 h e)

module _ (ls more ms : List Literal) (laws ws : List Law) (w : Law) (literals : ms ≡ ls ++ more) (pushed : ws ≡ laws ++ w ∷ []) (from : (body_laid w).from ≡ length ls) (count : (body_laid w).count ≡ length more) where
  pub laid_pushed : Laid (length ls) laws → Laid (length ms) ws
  laid_pushed laid =
      let k : length ms ≡ length ls + length more = ap length literals ∙ length-append ls more in
      let within : (body_laid w).from + (body_laid w).count ≤ length ms = omega (arith, k, from, count) in
      subst (Laid (length ms)) (sym pushed) (laid_more (length ls) (length ms) laws w laid (omega (arith, k)) within)

  pub rows_pushed : Laid (length ls) laws → rows_of ms ws ≡ rows_of ls laws ++ row_with w more ∷ []
  rows_pushed laid = ap (λ xs. rows_of xs ws) literals ∙ ap (rows_of (ls ++ more)) pushed ∙ rows_laid ls more laws w laid from count

  pub fit_pushed : (n actions : ℕ) → Laid (length ls) laws → AllFit n actions (rows_of ls laws) → Fits n actions (row_with w more) → AllFit n actions (rows_of ms ws)
  fit_pushed n actions laid all fits = subst (AllFit n actions) (sym (rows_pushed laid)) (all_fit_more n actions (rows_of ls laws) (row_with w more) all fits)

pub rows_count : (ls : List Literal) (laws : List Law) → length (rows_of ls laws) ≡ length laws
rows_count ls [] = refl
rows_count ls (w ∷ laws) = ap suc (rows_count ls laws)

-- a row's body has at most 8 literals
pub body_few : (n actions : ℕ) (w : Law) (body : List Literal) → Fits n actions (row_with w body) → length body ≤ 8
body_few n actions (law.Impossible a b) body fits = fits.1.0
body_few n actions (law.Effect a h b) body fits = fits.2.0
body_few n actions (law.State None b) body fits = fits.0
body_few n actions (law.State (Some h) b) body fits = fits.1.0
