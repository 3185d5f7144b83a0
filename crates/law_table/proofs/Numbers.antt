-- Numbers read one by one as literals. Assumes nothing.
use Rattle.std.proofs.Common.{◌≡◌, ℕ, zero, suc, ◌+◌, ◌<◌, ℤ, pos, List, [], ◌∷◌, ◌++◌, length, map, take, drop, slice_index_or, Ok, Err, Result, sym, refl, ap, ◌∙◌, subst, arith}
use Rattle.std.proofs.lemmas.List.{map_push}
use Rattle.std.proofs.Math.Seq.{take-suc}
use Rattle.literals.specs.Literal.{number_of}
use Rattle.literals.specs.declared.literal.Literal.{Literal}
use Rattle.arrayvec.specs.ArrayVec.{ArrayVec}
use Rattle.law_table.specs.Entry.{LiteralRead, BodyRead}
use Rattle.law_table.specs.Limits.{AllOf}
use Rattle.law_table.specs.declared.fault.EntryFault.{EntryFault}
use Rattle.law_table.specs.declared.fault.EntryFault.TheVariants.{OutOfRange, Full}

-- one literal more is read
pub read_more : (body : List ℤ) (i : ℕ) (ls : List Literal) (l : Literal) → i < length body → map number_of ls ≡ take i body → number_of l ≡ slice_index_or body i (pos 0) → map number_of (ls ++ l ∷ []) ≡ take (i + 1) body
read_more body i ls l h e f =
    let step : take (i + 1) body ≡ take i body ++ slice_index_or body i (pos 0) ∷ [] = ap (λ k. take k body) (let n : i + 1 ≡ suc i = omega arith in n) ∙ take-suc body i (pos 0) h in
    map_push number_of ls l ∙ ap (λ xs. xs ++ number_of l ∷ []) e ∙ ap (λ x. take i body ++ x ∷ []) f ∙ sym step

pub all_more : (n : ℕ) (ls : List Literal) (l : Literal) → AllOf n ls → l.place < n → AllOf n (ls ++ l ∷ [])
all_more n [] l a h = (h, tt)
all_more n (k ∷ ls) l a h = (a.0, all_more n ls l a.1 h)

-- a number that is no literal's leaves the body unread
pub unread : (n : ℕ) (body : List ℤ) (i : ℕ) → i < length body → ((l : Literal) → number_of l ≡ slice_index_or body i (pos 0) → l.place < n → ⊥) → (ls : List Literal) → map number_of ls ≡ body → AllOf n ls → ⊥
unread n [] i h other ls e a = omega (arith, h)
unread n (x ∷ body) i h other [] e a = let z : 0 ≡ suc (length body) = ap length e in omega (arith, z)
unread n (x ∷ body) zero h other (l ∷ ls) e a = other l (ap (λ xs. slice_index_or xs 0 (pos 0)) e) a.0
unread n (x ∷ body) (suc i) h other (l ∷ ls) e a = let k : i < length body = omega (arith, h) in unread n body i k other ls (ap (drop 1) e) a.1

ok_not_err : {A E : Type 0} {x : A} {f : E} → Ok x ≡ Err f → ⊥
ok_not_err e = let z : ◌≡◌ {A = ℕ} 0 1 = cc in omega arith

same_err : {A E : Type 0} {r : Result A E} {x y : E} → r ≡ Err x → r ≡ Err y → x ≡ y
same_err p q = cc

-- so is the body, and for the same reason
pub unread_body : (n : ℕ) (body : List ℤ) (i : ℕ) (r : Result Literal EntryFault) (e : EntryFault) (q : Result (ArrayVec Literal) EntryFault) → i < length body → LiteralRead n (slice_index_or body i (pos 0)) r → r ≡ Err e → q ≡ Err e → BodyRead n body q
unread_body n body i (Ok l) e q h read is same = absurd (ok_not_err is)
unread_body n body i (Err Full) e q h read is same = absurd read
unread_body n body i (Err OutOfRange) e q h read is same =
    let why : OutOfRange ≡ e = same_err {A = Literal} refl is in
    let all : BodyRead n body (Err OutOfRange) = λ ls written fits. unread n body i h read ls written fits.1 in
    subst (BodyRead n body) (ap Err why ∙ sym same) all
