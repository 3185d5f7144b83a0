-- Rows, goal literals and start literals that are entered. Assumes nothing.
use Rattle.std.proofs.Common.{◌≡◌, ℕ, ℤ, ◌<◌, List, map, Some, None, Option, Ok, Err, Result, sym, ap, ◌∙◌}
use Rattle.literals.specs.Literal.{number_of}
use Rattle.literals.specs.declared.literal.Literal.{Literal}
use Rattle.laws.specs.Rows.{Row, impossible, effect, state}
use Rattle.law_table.specs.Entry.{Asked, impossible_if, causes, always, asked_of, RowLaid, RowEntered, HeadRead}
use Rattle.law_table.specs.Limits.{BodyFits, IsAction, Fits}
use Rattle.law_table.specs.declared.draft.Draft.{Draft}
use Rattle.law_table.specs.declared.fault.EntryFault.{EntryFault}
use Rattle.law_table.specs.declared.fault.EntryFault.TheVariants.{OutOfRange, Full}

-- what is asked for is laid down
laid_entered : (old : Draft) (r : Row) (asked : Asked) (q : Result (Unit {0}) EntryFault) (new : Draft) → asked_of r ≡ asked → Fits old.fluents old.actions r → RowLaid old r q new → RowEntered old asked q new
laid_entered old r asked (Ok u) new e fits laid = (r, e, fits, laid.0, laid.1)
laid_entered old r asked (Err Full) new e fits laid = ((r, e, fits), laid.0, laid.1)
laid_entered old r asked (Err OutOfRange) new e fits laid = absurd laid

module _ (old : Draft) (numbers : List ℤ) (ls : List Literal) (q : Result (Unit {0}) EntryFault) (new : Draft) (read : map number_of ls ≡ numbers) (fits : BodyFits old.fluents ls) where
  pub impossible_entered : (a : ℕ) → IsAction old.actions a → RowLaid old (impossible a ls) q new → RowEntered old (impossible_if a numbers) q new
  impossible_entered a action laid = laid_entered old (impossible a ls) (impossible_if a numbers) q new (ap (impossible_if a) read) (action, fits) laid

  pub effect_entered : (a : ℕ) (number : ℤ) (h : Literal) → IsAction old.actions a → number_of h ≡ number → h.place < old.fluents → RowLaid old (effect a h ls) q new → RowEntered old (causes a number numbers) q new
  effect_entered a number h action e within laid =
      laid_entered old (effect a h ls) (causes a number numbers) q new (ap (λ n. causes a n (map number_of ls)) e ∙ ap (causes a number) read) (action, within, fits) laid

  pub state_entered : (number : ℤ) (h : Option Literal) → HeadRead old.fluents number (Ok h) → RowLaid old (state h ls) q new → RowEntered old (always number numbers) q new
  state_entered number None head laid =
      laid_entered old (state None ls) (always number numbers) q new (ap (λ n. always n (map number_of ls)) (sym head) ∙ ap (always number) read) fits laid
  state_entered number (Some h) head laid =
      laid_entered old (state (Some h) ls) (always number numbers) q new (ap (λ n. always n (map number_of ls)) head.0 ∙ ap (always number) read) (head.1, fits) laid
